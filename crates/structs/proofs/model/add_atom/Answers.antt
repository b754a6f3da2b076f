-- `structs::model::add_atom` meets its contract. Assumes nothing.
use Rattle.std.proofs.Common.{rules}
use Rattle.store.proofs.Steps.{good}
use Rattle.structs.proofs.Laws.{atom-added, refused-call}
use Rattle.structs.proofs.model.add_atom.Goals as goal

pub add_atom-requires : goal.add_atom-requires
add_atom-requires c = search (rules, good)

pub returns-in_err-check : goal.returns-in_err-check
returns-in_err-check c = refused-call _ c.check.ensures c.in_err-check.was _ c.from_residual.ensures.1 _

pub returns : goal.returns
returns c = search (rules, atom-added)
