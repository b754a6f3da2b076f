-- `dispatch::remove_chain_by_id` meets its contract. Assumes nothing.
use Rattle.std.proofs.Common.{rules}
use Rattle.dispatch.proofs.Parted.{id-fits, chain-call}
use Rattle.dispatch.proofs.remove_chain_by_id.Goals as goal

pub part_end-id-requires : goal.part_end-id-requires
part_end-id-requires c = search (rules, id-fits)

pub returns : goal.returns
returns c = search (rules, chain-call)
