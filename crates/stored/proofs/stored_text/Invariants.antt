-- `stored::stored_text` is `stored_text` of eight bytes: one byte to a turn. Assumes nothing.
use Rattle.std.proofs.Common.{◌≡◌}
use Rattle.stored.specs.Word.{stored_text}
use Rattle.stored.proofs.stored_text.Given as goal

abbrev pub invariant-loop-n : goal.invariant-loop-n
invariant-loop-n l = stored_text l.low l.up 8 l.w ≡ stored_text l.low l.up l.n l.rest
