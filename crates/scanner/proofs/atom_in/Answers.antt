-- `scanner::atom_in` is `prepared_of` of `atom_in`. Assumes nothing.
use Rattle.std.proofs.Common.{rules}
use Rattle.scanner.proofs.Laws.{atom-is}
use Rattle.scanner.proofs.atom_in.Goals as goal

pub returns : goal.returns
returns c = search (rules, atom-is)
