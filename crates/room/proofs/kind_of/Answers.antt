-- `room::kind_of` reads the first byte of a line. Assumes nothing.
use Rattle.std.proofs.Common.{rules}
use Rattle.room.proofs.Laws.{first_byte}
use Rattle.room.proofs.kind_of.Goals as goal

pub returns : goal.returns
returns c = search (rules, first_byte)
