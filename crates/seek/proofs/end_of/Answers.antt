use Rattle.std.proofs.Common.{rules}
use Rattle.seek.proofs.Turns.{ran-begin, ran_on, ran-stop, ran-end}
use Rattle.seek.proofs.end_of.Goals as goal

pub loop-at-init : goal.loop-at-init
loop-at-init c = search (rules, ran-begin)

pub returns-then-store-at : goal.returns-then-store-at
returns-then-store-at c = search (rules, ran-stop)

pub loop-at-preserved : goal.loop-at-preserved
loop-at-preserved c = search (rules, ran_on)

pub returns : goal.returns
returns c = search (rules, ran-end)
