use Rattle.std.proofs.Common.{rules}
use Rattle.removals.proofs.Scan.{passed-begin, passed-kind, passed-other, passed_here, passed-end}
use Rattle.removals.proofs.first_named.Goals as goal
use Rattle.removals.proofs.first_named.Goals.{else-store-word-via-then-store-word+else-is_named, else-store-word-via-else-store-word}

pub loop-at-init : goal.loop-at-init
loop-at-init c = search (rules, passed-begin)

pub returns-then-is_named : goal.returns-then-is_named
returns-then-is_named c = search (rules, passed_here)

pub loop-at-preserved : goal.loop-at-preserved
loop-at-preserved c =
    elim c.else-store-word.branch [
      | else-store-word-via-then-store-word+else-is_named w ↦ search (rules, passed-other)
      | else-store-word-via-else-store-word w ↦ search (rules, passed-kind)
    ]

pub returns : goal.returns
returns c = search (rules, passed-end)
