-- `structs::conformer::join` meets its contract. Assumes nothing.
use Rattle.std.proofs.Common.{rules}
use Rattle.structs.proofs.Laws.{conformers-joined}
use Rattle.structs.proofs.conformer.join.Goals as goal

pub returns : goal.returns
returns c = search (rules, conformers-joined)
