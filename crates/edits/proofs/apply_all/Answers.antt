use Rattle.std.proofs.Common.{arith, rules}
use Rattle.insertion.proofs.PointsInto.{nowhere-known}
use Rattle.edits.proofs.Lists.{going_start, next_of, next-reads, next-short, answer-room, going-turn, going_end}
use Rattle.edits.proofs.apply_all.Goals as goal

pub loop-at-init : goal.loop-at-init
loop-at-init c = search (rules, going_start, nowhere-known)

pub bounds-list-at : goal.bounds-list-at
bounds-list-at c = omega (arith, (next_of c.loop-at.invariant.0 c.loop-at-test.true).room)

pub overflow_add-end-in-loop-at : goal.overflow_add-end-in-loop-at
overflow_add-end-in-loop-at c = omega (arith, (next_of c.loop-at.invariant.0 c.loop-at-test.true).room)

pub slice_bounds-apply_call-end : goal.slice_bounds-apply_call-end
slice_bounds-apply_call-end c = omega (arith, (next_of c.loop-at.invariant.0 c.loop-at-test.true).room)

pub apply_call-added-requires : goal.apply_call-added-requires
apply_call-added-requires c =
    let loop = c.loop-at in
    let inv = loop.invariant in
    let t = c.loop-at-test.true in
    record { good = inv.0.good; valid = inv.3; reads_call = next-reads inv.0 t; bytes_room = next-short inv.0 t loop.bytes inv.2 }

pub put_answer-requires : goal.put_answer-requires
put_answer-requires c = search (rules, answer-room)

pub overflow_add-written : goal.overflow_add-written
overflow_add-written c =
    let room = answer-room c.loop-at.invariant.0 c.loop-at-test.true in
    omega (arith, c.well_formed)

pub loop-at-preserved : goal.loop-at-preserved
loop-at-preserved c =
    let inv = c.loop-at.invariant in
    let t = c.loop-at-test.true in
    (going-turn inv.0 t _ _ c.apply_call-added.result.edited c.apply_call-added.ensures.store_after c.put_answer.ensures, search rules, search rules, c.apply_call-added.ensures.cursor_valid)

pub returns : goal.returns
returns c = search (rules, going_end)
