-- `structs::residue::join` meets its contract. Assumes nothing.
use Rattle.std.proofs.Common.{rules}
use Rattle.structs.proofs.Laws.{residues-joined}
use Rattle.structs.proofs.residue.join.Goals as goal

pub returns : goal.returns
returns c = search (rules, residues-joined)
