-- `moves::write_over` meets its contract. The loop's invariant: the elements passed stand over the slice, which keeps its length. Assumes nothing.
use Rattle.std.proofs.Common.{length, take, ◌≡◌, ◌≤◌}
use Rattle.moves.specs.Over.{over}
use Rattle.moves.proofs.write_over.Given as goal

abbrev pub invariant-loop-i : goal.invariant-loop-i
invariant-loop-i g l = (l.i ≤ length l.from) × (l.s ≡ over l.at (take l.i l.from) l.initial.s) × (length l.s ≡ length l.initial.s)
