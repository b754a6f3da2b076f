-- `seek::child` meets its contract, by what `start_of` and `end_of` ensure. Assumes nothing.
use Rattle.std.proofs.Common.{arith, rules}
use Rattle.seek.proofs.Turns.{after-child, child-missing, child-is}
use Rattle.seek.proofs.child.Goals as goal

pub returns-in_err-at : goal.returns-in_err-at
returns-in_err-at c = search (rules, child-missing)

pub overflow_add-at : goal.overflow_add-at
overflow_add-at c =
    let m = after-child _ _ _ _ _ _ _ c.requires c.start_of.ensures c.in_ok-at.was in
    omega (arith, m.order)

pub end_of-requires : goal.end_of-requires
end_of-requires c = search (rules, after-child)

pub returns : goal.returns
returns c = search (rules, child-is)
