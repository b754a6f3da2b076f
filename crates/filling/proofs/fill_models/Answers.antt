use Rattle.std.proofs.Common.{arith, rules}
use Rattle.filling.proofs.Models.{none_filled, end_low, lines-some, lines-good, lines-room, one-filled, all-filled}
use Rattle.filling.proofs.fill_models.Goals as goal

pub loop-n-init : goal.loop-n-init
loop-n-init c = search (rules, none_filled)

pub overflow_mul-end : goal.overflow_mul-end
overflow_mul-end c =
    let low = end_low _ _ _ _ _ c.loop-n.invariant c.loop-n-test.true _ c.model_end-end.ensures in
    omega (arith, c.well_formed)

pub slice_bounds-add_entry-end : goal.slice_bounds-add_entry-end
slice_bounds-add_entry-end c =
    let low = end_low _ _ _ _ _ c.loop-n.invariant c.loop-n-test.true _ c.model_end-end.ensures in
    omega arith

pub add_entry-requires : goal.add_entry-requires
add_entry-requires c =
    let f = c.loop-n.invariant in
    let t = c.loop-n-test.true in
    let e = c.model_end-end.ensures in
    record {
      some_line = lines-some _ _ _ _ _ f t _ e;
      lines_good = lines-good _ _ _ _ _ f t _ e;
      good = f.good;
      next_model = f.number;
      room = lines-room _ _ _ _ _ f t _ e;
    }

pub overflow_add-n-in-loop-n : goal.overflow_add-n-in-loop-n
overflow_add-n-in-loop-n c =
    let low = end_low _ _ _ _ _ c.loop-n.invariant c.loop-n-test.true _ c.model_end-end.ensures in
    omega (arith, c.well_formed)

pub loop-n-preserved : goal.loop-n-preserved
loop-n-preserved c = search (rules, one-filled)

pub returns : goal.returns
returns c = search (rules, all-filled)
