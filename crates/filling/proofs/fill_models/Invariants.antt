-- `filling::fill_models` adds each model in turn. Assumes nothing.
use Rattle.std.proofs.Common.{◌-◌}
use Rattle.lines.specs.Numbered.{line_count_in}
use Rattle.filling.proofs.Models.{Filled}
use Rattle.filling.proofs.fill_models.Given as goal

abbrev pub invariant-loop-n : goal.invariant-loop-n
invariant-loop-n l = Filled l.text l.initial.store l.n l.model l.store

abbrev pub decreases-loop-n : goal.decreases-loop-n
decreases-loop-n l = line_count_in l.text - l.n
