use Rattle.std.proofs.Common.{rules}
use Rattle.empty_removals.proofs.Laws.{gather-start, gather-within, gather-keep, gather-skip, gather-end}
use Rattle.empty_removals.proofs.gather.Goals as goal

pub loop-at-init : goal.loop-at-init
loop-at-init c = search (rules, gather-start)

pub stays-requires : goal.stays-requires
stays-requires c = search (rules, gather-within)

pub loop-at-preserved-then-stays : goal.loop-at-preserved-then-stays
loop-at-preserved-then-stays c =
    gather-keep _ _ _ _ _ _ c.requires c.loop-at.invariant c.loop-at-test.true _ _ c.stays.ensures c.if-stays.true c.move_record.ensures

pub loop-at-preserved : goal.loop-at-preserved
loop-at-preserved c = search (rules, gather-skip)

pub returns : goal.returns
returns c = search (rules, gather-end)
