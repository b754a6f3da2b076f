-- `structs::chain::remove_residue_by_id` meets its contract. Assumes nothing.
use Rattle.std.proofs.Common.{rules}
use Rattle.store.proofs.Steps.{good}
use Rattle.structs.proofs.Laws.{residue-by-id, refused-call}
use Rattle.structs.proofs.chain.remove_residue_by_id.Goals as goal

pub remove_residue_by_id-requires : goal.remove_residue_by_id-requires
remove_residue_by_id-requires c = search (rules, good)

pub returns-in_err-check : goal.returns-in_err-check
returns-in_err-check c = refused-call _ c.check.ensures c.in_err-check.was _ c.from_residual.ensures.1 _

pub returns : goal.returns
returns c = search (rules, residue-by-id)
