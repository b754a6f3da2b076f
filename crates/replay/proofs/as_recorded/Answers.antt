-- `replay::as_recorded` meets its contract. Assumes nothing.
use Rattle.std.proofs.Common.{rules}
use Rattle.std.proofs.lemmas.List.{take-replicate}
use Rattle.replay.proofs.as_recorded.Goals as goal

pub ends_as-requires : goal.ends_as-requires
ends_as-requires c = search (rules, take-replicate)
