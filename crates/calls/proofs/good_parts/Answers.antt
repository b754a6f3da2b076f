use Rattle.std.proofs.Common.{rules}
use Rattle.calls.proofs.Laws.{parts-end, parts_out, parts-cut, parts-bad, parts_next}
use Rattle.calls.proofs.good_parts.Goals as goal

pub returns-in_default : goal.returns-in_default
returns-in_default c = search (rules, parts_out)

pub returns-in_default-split_at_checked : goal.returns-in_default-split_at_checked
returns-in_default-split_at_checked c = search (rules, parts-cut)

pub returns-then-not-good_part : goal.returns-then-not-good_part
returns-then-not-good_part c = search (rules, parts-bad)

pub loop-later-preserved : goal.loop-later-preserved
loop-later-preserved c =
    parts_next _ _ _ _ c.loop-later.invariant c.loop-later-test.true c.in-len1-up.len_at_least _ _ c.in-Some.ensures.cases _ c.good_part.ensures c.if-not-good_part.false

pub returns : goal.returns
returns c = search (rules, parts-end)
