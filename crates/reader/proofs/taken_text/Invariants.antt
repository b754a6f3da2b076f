-- `reader::taken_text` is `taken_text`. Assumes nothing.
use Rattle.std.proofs.Common.{◌-◌}
use Rattle.reader.proofs.Laws.{TakenTo}
use Rattle.reader.proofs.taken_text.Given as goal

abbrev pub invariant-loop-n : goal.invariant-loop-n
invariant-loop-n l = TakenTo l.text l.count l.n l.begun

abbrev pub decreases-loop-n : goal.decreases-loop-n
decreases-loop-n l = l.count - l.n
