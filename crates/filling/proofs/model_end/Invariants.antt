-- `filling::model_end` finds the first E line. Assumes nothing.
use Rattle.std.proofs.Common.{◌-◌}
use Rattle.lines.specs.Numbered.{line_count_in}
use Rattle.filling.proofs.Lines.{Ended}
use Rattle.filling.proofs.model_end.Given as goal

abbrev pub invariant-loop-n : goal.invariant-loop-n
invariant-loop-n l = Ended l.text l.from l.n

abbrev pub decreases-loop-n : goal.decreases-loop-n
decreases-loop-n l = line_count_in l.text - l.n
