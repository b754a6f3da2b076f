-- `terms::outside` meets its contract: by the name's test. Assumes nothing.
use Rattle.std.proofs.Common.{sym, ◌∙◌}
use Rattle.terms.proofs.outside.Goals as goal

pub returns-then-contains : goal.returns-then-contains
returns-then-contains c = simp (sym c.contains.ensures ∙ c.if-contains.true)

pub returns : goal.returns
returns c = simp (sym c.contains.ensures ∙ c.if-contains.false)
