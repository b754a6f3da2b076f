-- `structs::model::remove_empty` meets its contract. Assumes nothing.
use Rattle.std.proofs.Common.{rules}
use Rattle.store.proofs.Steps.{good}
use Rattle.structs.proofs.Laws.{empty-removed, refused-call}
use Rattle.structs.proofs.model.remove_empty.Goals as goal

pub remove_empty-requires : goal.remove_empty-requires
remove_empty-requires c = search (rules, good)

pub returns-in_err-check : goal.returns-in_err-check
returns-in_err-check c = refused-call _ c.check.ensures c.in_err-check.was _ c.from_residual.ensures.1 _

pub returns : goal.returns
returns c = search (rules, empty-removed)
