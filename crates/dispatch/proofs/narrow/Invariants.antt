-- `dispatch::narrow` meets its contract. The loop's invariant: the bytes passed are the words passed, and the bytes keep their length. Assumes nothing.
use Rattle.std.proofs.Common.{length, map, take, ◌≡◌, ◌≤◌}
use Rattle.dispatch.specs.Words.{low_byte}
use Rattle.dispatch.proofs.narrow.Given as goal

abbrev pub invariant-loop-i : goal.invariant-loop-i
invariant-loop-i l = (l.i ≤ length l.words) × (take l.i l.bytes ≡ take l.i (map low_byte l.words)) × (length l.bytes ≡ length l.initial.bytes)
