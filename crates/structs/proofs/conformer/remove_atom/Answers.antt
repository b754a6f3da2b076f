-- `structs::conformer::remove_atom` meets its contract. Assumes nothing.
use Rattle.std.proofs.Common.{rules}
use Rattle.structs.proofs.Laws.{atom-removed}
use Rattle.structs.proofs.conformer.remove_atom.Goals as goal

pub returns : goal.returns
returns c = search (rules, atom-removed)
