-- `scanner::taken_atom` is `taken_atom`. Assumes nothing.
use Rattle.std.proofs.Common.{rules}
use Rattle.scanner.proofs.Laws.{bare-good, taken-written, taken-bad}
use Rattle.scanner.proofs.taken_atom.Goals as goal

pub is_written-requires : goal.is_written-requires
is_written-requires c = search (rules, bare-good)

pub returns-then-good_above-stored_atom_name : goal.returns-then-good_above-stored_atom_name
returns-then-good_above-stored_atom_name c = search (rules, taken-written)

pub returns : goal.returns
returns c = search (rules, taken-bad)
