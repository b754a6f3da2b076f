-- `room::fits` compares `records_from` with the capacity. Assumes nothing.
use Rattle.std.proofs.Common.{rules}
use Rattle.room.proofs.Laws.{fits-near, fits-never, fits-exactly}
use Rattle.room.proofs.fits.Goals as goal

pub returns-then-records_in-capacity : goal.returns-then-records_in-capacity
returns-then-records_in-capacity c = search (rules, fits-near)

pub returns-then-capacity-adding_lines : goal.returns-then-capacity-adding_lines
returns-then-capacity-adding_lines c = search (rules, fits-never)

pub returns : goal.returns
returns c = search (rules, fits-exactly)
