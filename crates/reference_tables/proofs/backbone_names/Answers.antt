-- `reference_tables::backbone_names` meets its contract: the constant array is the definition's list, by computation. Assumes nothing.
use Rattle.std.proofs.Common.{refl}
use Rattle.machine.specs.Query.{tables}
use Rattle.machine.specs.Text.{packed}
use Rattle.reference_tables.proofs.backbone_names.Goals as goal

pub returns : goal.returns
unfolding tables packed
returns c = refl
