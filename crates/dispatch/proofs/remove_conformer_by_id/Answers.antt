-- `dispatch::remove_conformer_by_id` meets its contract. Assumes nothing.
use Rattle.std.proofs.Common.{rules}
use Rattle.dispatch.proofs.Parted.{name-fits, location-fits, conformer-call}
use Rattle.dispatch.proofs.remove_conformer_by_id.Goals as goal

pub part_end-name-requires : goal.part_end-name-requires
part_end-name-requires c = search (rules, name-fits)

pub part_end-location-requires : goal.part_end-location-requires
part_end-location-requires c = search (rules, location-fits)

pub returns : goal.returns
returns c = search (rules, conformer-call)
