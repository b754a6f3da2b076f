-- `structs::model::remove_atoms_by` meets its contract. Assumes nothing.
use Rattle.std.proofs.Common.{rules}
use Rattle.store.proofs.Steps.{good}
use Rattle.structs.proofs.Laws.{atoms-removed, refused-call}
use Rattle.structs.proofs.model.remove_atoms_by.Goals as goal

pub remove_atoms_by-requires : goal.remove_atoms_by-requires
remove_atoms_by-requires c = search (rules, good)

pub returns-in_err-check : goal.returns-in_err-check
returns-in_err-check c = refused-call _ c.check.ensures c.in_err-check.was _ c.from_residual.ensures.1 _

pub returns : goal.returns
returns c = search (rules, atoms-removed)
