-- `terms::element_is` meets its contract: 0 is no element. Assumes nothing.
use Rattle.std.proofs.Common.{eq-eqb, ne_eqb}
use Rattle.terms.proofs.element_is.Goals as goal

pub returns-then-element-eq0 : goal.returns-then-element-eq0
returns-then-element-eq0 c = simp (eq-eqb _ 0 c.if-element-eq0.true)

pub returns-else-element-eq0 : goal.returns-else-element-eq0
returns-else-element-eq0 c = simp (c.decided.ensures, ne_eqb _ 0 c.if-element-eq0.false)
