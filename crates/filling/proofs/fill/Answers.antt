-- `filling::fill` leaves what the text builds. Assumes nothing.
use Rattle.std.proofs.Common.{rules}
use Rattle.filling.proofs.Models.{opened-good, opened-none, opened-room, filled_is}
use Rattle.filling.proofs.fill.Goals as goal

pub fill_models-requires : goal.fill_models-requires
fill_models-requires c = search (rules, opened-good, opened-none, opened-room)

pub returns : goal.returns
returns c = search (rules, filled_is)
