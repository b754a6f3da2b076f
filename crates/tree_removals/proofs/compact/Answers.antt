use Rattle.std.proofs.Common.{rules}
use Rattle.tree_removals.proofs.Laws.{pass-start, pass-keep, pass-skip, pass-end}
use Rattle.tree_removals.proofs.compact.Goals as goal
use Rattle.tree_removals.proofs.compact.Goals.{then-stays, else-stays}

pub loop-at-init : goal.loop-at-init
loop-at-init c = search (rules, pass-start)

pub loop-at-preserved : goal.loop-at-preserved
loop-at-preserved c =
    elim c.if-stays.branch [
      | then-stays w ↦ rw (w.to-is, w.store-is) (pass-keep _ _ _ _ c.requires.0 _ _ _ c.loop-at.invariant _ _ c.loop-at-test.true c.stays.ensures w.if-stays.true w.move_record.ensures)
      | else-stays w ↦ rw (w.to-is, w.store-is) (search (rules, pass-skip))
    ]

pub returns : goal.returns
returns c = search (rules, pass-end)
