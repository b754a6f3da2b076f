-- `reader::read` is `read_run`. Assumes nothing.
use Rattle.std.proofs.Common.{rules}
use Rattle.reader.proofs.Laws.{too_short, too_long, bad-text, was-taken, length-good, no_room, has_room, read_done}
use Rattle.reader.proofs.read.Goals as goal

pub returns-then-length-lt1 : goal.returns-then-length-lt1
returns-then-length-lt1 c = search (rules, too_short)

pub returns-then-length-gt1200001 : goal.returns-then-length-gt1200001
returns-then-length-gt1200001 c = search (rules, too_long)

pub fits-requires : goal.fits-requires
fits-requires c = search (rules, was-taken)

pub fill-requires : goal.fill-requires
fill-requires c = search (rules, was-taken, length-good, has_room)

pub returns-then-fits : goal.returns-then-fits
returns-then-fits c = search (rules, read_done)

pub returns-then-taken_text : goal.returns-then-taken_text
returns-then-taken_text c = search (rules, no_room)

pub returns : goal.returns
returns c = search (rules, bad-text)
