-- `dispatch::remove_atom_by_serial_number` meets its contract. Assumes nothing.
use Rattle.std.proofs.Common.{rules}
use Rattle.calls.specs.Format.{rows}
use Rattle.dispatch.proofs.Calls.{there, serial-call}
use Rattle.dispatch.proofs.remove_atom_by_serial_number.Goals as goal

pub bounds-words-0 : goal.bounds-words-0
unfolding rows
bounds-words-0 c = search (rules, there)

pub bounds-words-1 : goal.bounds-words-1
unfolding rows
bounds-words-1 c = search (rules, there)

pub bounds-words-2 : goal.bounds-words-2
unfolding rows
bounds-words-2 c = search (rules, there)

pub bounds-words-3 : goal.bounds-words-3
unfolding rows
bounds-words-3 c = search (rules, there)

pub bounds-words-4 : goal.bounds-words-4
unfolding rows
bounds-words-4 c = search (rules, there)

pub returns : goal.returns
returns c = search (rules, serial-call)
