-- `structs::chain::remove_residue` meets its contract. Assumes nothing.
use Rattle.std.proofs.Common.{rules}
use Rattle.structs.proofs.Laws.{residue-removed}
use Rattle.structs.proofs.chain.remove_residue.Goals as goal

pub returns : goal.returns
returns c = search (rules, residue-removed)
