-- `rounding::nearest_whole` meets its contract: each return by its law. Assumes nothing.
use Rattle.rounding.proofs.Laws.{stays, goes-up, shifted}
use Rattle.rounding.proofs.nearest_whole.Goals as goal

pub returns-then-unit-twice : goal.returns-then-unit-twice
returns-then-unit-twice c = goes-up _ _ _ (shifted c.args.k c.requires.0) c.if-unit-twice.true

pub returns-else-unit-twice : goal.returns-else-unit-twice
returns-else-unit-twice c = stays _ _ _ (shifted c.args.k c.requires.0) c.if-unit-twice.false
