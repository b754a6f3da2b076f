-- `elements::Element::from_number` meets its contract. Assumes nothing.
use Rattle.elements.specs.Element.{element_of}
use Rattle.elements.proofs.Element.from_number.Goals as goal

pub returns-then-n : goal.returns-then-n
unfolding element_of
returns-then-n c = rw c.if-n.true

pub returns-else-n : goal.returns-else-n
unfolding element_of
returns-else-n c = rw c.if-n.false
