use Rattle.std.proofs.Common.{rules}
use Rattle.room.proofs.Laws.{none-counted, model-counted, end-counted, atom-counted, all-counted}
use Rattle.room.proofs.records_in.Goals as goal

pub loop-n-init : goal.loop-n-init
loop-n-init c = search (rules, none-counted)

pub loop-n-preserved-then-kind-eq77 : goal.loop-n-preserved-then-kind-eq77
loop-n-preserved-then-kind-eq77 c = search (rules, model-counted)

pub loop-n-preserved-then-kind-eq69 : goal.loop-n-preserved-then-kind-eq69
loop-n-preserved-then-kind-eq69 c = search (rules, end-counted)

pub loop-n-preserved : goal.loop-n-preserved
loop-n-preserved c = search (rules, atom-counted)

pub returns : goal.returns
returns c = search (rules, all-counted)
