-- `structs::residue::remove_conformer` meets its contract. Assumes nothing.
use Rattle.std.proofs.Common.{rules}
use Rattle.structs.proofs.Laws.{conformer-removed}
use Rattle.structs.proofs.residue.remove_conformer.Goals as goal

pub returns : goal.returns
returns c = search (rules, conformer-removed)
