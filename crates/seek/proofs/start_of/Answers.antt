use Rattle.std.proofs.Common.{rules}
use Rattle.seek.proofs.Turns.{sought-begin, sought-pass, sought-next, sought-low, sought-here, sought-out}
use Rattle.seek.proofs.start_of.Goals as goal
use Rattle.seek.proofs.start_of.Goals.{then-k-kind-2+else-left-eq0, else-k-kind-2}

pub loop-at-init : goal.loop-at-init
loop-at-init c = search (rules, sought-begin)

pub returns-then-k-kind : goal.returns-then-k-kind
returns-then-k-kind c = search (rules, sought-low)

pub returns-then-left-eq0 : goal.returns-then-left-eq0
returns-then-left-eq0 c = search (rules, sought-here)

pub loop-at-preserved : goal.loop-at-preserved
loop-at-preserved c =
    elim c.if-k-kind-2.branch [
      | then-k-kind-2+else-left-eq0 w ↦ rw w.left-is (search (rules, sought-next))
      | else-k-kind-2 w ↦ rw w.left-is (search (rules, sought-pass))
    ]

pub returns : goal.returns
returns c = search (rules, sought-out)
