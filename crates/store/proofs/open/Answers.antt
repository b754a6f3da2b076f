-- `store::open` meets its contract: zeros over the whole store are what `open_run` leaves. Assumes nothing.
use Rattle.std.proofs.Common.{rules}
use Rattle.store.proofs.Turns.{open-short, open-long, open_done}
use Rattle.store.proofs.open.Goals as goal

pub returns-then-n-lt1 : goal.returns-then-n-lt1
returns-then-n-lt1 c = search (rules, open-short)

pub returns-then-n-gt1200001 : goal.returns-then-n-gt1200001
returns-then-n-gt1200001 c = search (rules, open-long)

pub returns : goal.returns
returns c = search (rules, open_done)
