-- `structs::atom::set_element` meets its contract. Assumes nothing.
use Rattle.std.proofs.Common.{rules}
use Rattle.store.proofs.Steps.{good}
use Rattle.structs.proofs.Laws.{element-set, refused-call}
use Rattle.structs.proofs.atom.set_element.Goals as goal

pub set_element-requires : goal.set_element-requires
set_element-requires c = search (rules, good)

pub returns-in_err-check : goal.returns-in_err-check
returns-in_err-check c = refused-call _ c.check.ensures c.in_err-check.was _ c.from_residual.ensures.1 _

pub returns : goal.returns
returns c = search (rules, element-set)
