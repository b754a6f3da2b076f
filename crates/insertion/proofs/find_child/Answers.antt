use Rattle.std.proofs.Common.{rules}
use Rattle.insertion.proofs.Laws.{search-begin, search-pass, search-on, search-hit, search-end}
use Rattle.insertion.proofs.find_child.Goals as goal
use Rattle.insertion.proofs.find_child.Goals.{then-is_marked+else-not-key, else-is_marked}

pub loop-at-init : goal.loop-at-init
loop-at-init c = search (rules, search-begin)

pub returns-then-not-key : goal.returns-then-not-key
returns-then-not-key c = search (rules, search-hit)

pub loop-at-preserved : goal.loop-at-preserved
loop-at-preserved c =
    elim c.if-is_marked.branch [
      | then-is_marked+else-not-key w ↦ rw w.best-is (search (rules, search-on))
      | else-is_marked w ↦ rw w.best-is (search (rules, search-pass))
    ]

pub returns : goal.returns
returns c = search (rules, search-end)
