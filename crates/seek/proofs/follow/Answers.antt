use Rattle.std.proofs.Common.{arith, rules}
use Rattle.seek.proofs.Turns.{follow-begin, follow-whole, following-within, following-below, following-on, following-missing, following-end}
use Rattle.seek.proofs.follow.Goals as goal

pub returns-then-position-eq0 : goal.returns-then-position-eq0
returns-then-position-eq0 c = search (rules, follow-whole)

pub loop-level-init : goal.loop-level-init
loop-level-init c = search (rules, follow-begin)

pub start_of-requires : goal.start_of-requires
start_of-requires c = search (rules, following-within)

pub returns-in_err-number : goal.returns-in_err-number
returns-in_err-number c = search (rules, following-missing)

pub overflow_add-at : goal.overflow_add-at
overflow_add-at c =
    let m = following-below _ _ _ _ _ _ c.loop-level.invariant _ _ c.start_of.ensures c.in_ok-number.was in
    omega (arith, m.below)

pub loop-level-preserved : goal.loop-level-preserved
loop-level-preserved c =
    following-on _ _ _ _ _ _ c.loop-level.invariant _ _ c.loop-level-test.true c.start_of.ensures c.in_ok-number.was

pub end_of-end-requires : goal.end_of-end-requires
end_of-end-requires c = search (rules, following-within)

pub returns : goal.returns
returns c = search (rules, following-end)
