-- `structs::pdb::binary_find_atom` meets its contract. Assumes nothing.
use Rattle.std.proofs.Common.{rules}
use Rattle.store.proofs.Steps.{good}
use Rattle.structs.proofs.Laws.{looked-up, refused-looked-up}
use Rattle.structs.proofs.pdb.binary_find_atom.Goals as goal

pub binary_find_atom-requires : goal.binary_find_atom-requires
binary_find_atom-requires c = search (rules, good)

pub returns-in_err-check : goal.returns-in_err-check
returns-in_err-check c = refused-looked-up _ c.check.ensures c.in_err-check.was _ c.from_residual.ensures.1 _ _

pub returns : goal.returns
returns c = search (rules, good, looked-up)
