-- `structs::conformer::remove_atom_by_serial_number` meets its contract. Assumes nothing.
use Rattle.std.proofs.Common.{rules}
use Rattle.store.proofs.Steps.{good}
use Rattle.structs.proofs.Laws.{atom-by-serial, refused-call}
use Rattle.structs.proofs.conformer.remove_atom_by_serial_number.Goals as goal

pub remove_atom_by_serial_number-requires : goal.remove_atom_by_serial_number-requires
remove_atom_by_serial_number-requires c = search (rules, good)

pub returns-in_err-check : goal.returns-in_err-check
returns-in_err-check c = refused-call _ c.check.ensures c.in_err-check.was _ c.from_residual.ensures.1 _

pub returns : goal.returns
returns c = search (rules, atom-by-serial)
