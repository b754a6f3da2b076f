-- `stored::stored_location` is `absent_or alternative_location`. Assumes nothing.
use Rattle.std.proofs.Common.{rules}
use Rattle.stored.proofs.Words.{location-stored}
use Rattle.stored.proofs.stored_location.Goals as goal

pub returns : goal.returns
returns c = search (rules, location-stored)
