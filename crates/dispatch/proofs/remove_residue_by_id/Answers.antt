-- `dispatch::remove_residue_by_id` meets its contract. Assumes nothing.
use Rattle.std.proofs.Common.{rules}
use Rattle.dispatch.proofs.Parted.{code_fits, residue-call}
use Rattle.dispatch.proofs.remove_residue_by_id.Goals as goal

pub part_end-code-requires : goal.part_end-code-requires
part_end-code-requires c = search (rules, code_fits)

pub returns : goal.returns
returns c = search (rules, residue-call)
