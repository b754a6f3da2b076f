-- `insertion::pick_child` meets its contract, by what `find_child` and `end_of` ensure. Assumes nothing.
use Rattle.std.proofs.Common.{arith, rules}
use Rattle.insertion.proofs.Laws.{pick-missing, pick-after, pick_is}
use Rattle.insertion.proofs.pick_child.Goals as goal

pub returns-in_err-at : goal.returns-in_err-at
returns-in_err-at c = search (rules, pick-missing)

pub overflow_add-at : goal.overflow_add-at
overflow_add-at c =
    let m = pick-after _ c.args.key _ _ _ c.find_child.ensures _ c.requires c.in_ok-at.was in
    omega (arith, m.order)

pub end_of-requires : goal.end_of-requires
end_of-requires c = search (rules, pick-after)

pub returns : goal.returns
returns c = search (rules, pick_is)
