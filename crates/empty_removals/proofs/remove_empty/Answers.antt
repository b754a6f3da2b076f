-- `empty_removals::remove_empty` meets its contract: a model that isn't there is refused; else what stays is gathered, and the gap closed.
-- Assumes nothing.
use Rattle.std.proofs.Common.{refl, arith}
use Rattle.laws.specs.Exits.{placed, exit-nowhere}
use Rattle.empty_removals.proofs.Laws.{empty-missing, model-within, gap-moved, empty-done}
use Rattle.empty_removals.proofs.remove_empty.Goals as goal

pub returns-in_err-start : goal.returns-in_err-start
returns-in_err-start c =
    let e = exit-nowhere _ _ _ _ c.locate.ensures c.in_err-start.was c.from_residual.ensures.1 in
    rw e.1 (empty-missing _ _ c.requires _ refl e.0)

pub overflow_add-below : goal.overflow_add-below
overflow_add-below c =
    let m = model-within _ _ c.requires _ refl _ _ (placed _ _ _ c.locate.ensures c.in_ok-start.was) in
    omega (arith, m.order, m.room)

pub gather-first-requires : goal.gather-first-requires
gather-first-requires c =
    model-within _ _ c.requires _ refl _ _ (placed _ _ _ c.locate.ensures c.in_ok-start.was)

pub close_gap-requires : goal.close_gap-requires
close_gap-requires c =
    let o = c.gather-first.ensures.low in
    let m = gap-moved _ _ c.requires _ refl _ _ (placed _ _ _ c.locate.ensures c.in_ok-start.was) _ _ c.gather-first.ensures in
    record { laid = m.laid; to_le_end = (omega arith, m.high) }

pub returns : goal.returns
returns c =
    empty-done _ _ c.requires _ refl _ _ (placed _ _ _ c.locate.ensures c.in_ok-start.was) _ _ c.gather-first.ensures _ c.close_gap.ensures
