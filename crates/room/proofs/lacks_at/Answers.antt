-- `room::lacks_at` is `lacks` of two lines. Assumes nothing.
use Rattle.std.proofs.Common.{rules}
use Rattle.room.proofs.Laws.{lacks-there}
use Rattle.room.proofs.lacks_at.Goals as goal

pub returns : goal.returns
returns c = search (rules, lacks-there)
