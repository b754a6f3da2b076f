-- `removals::remove_first` meets its contract. Assumes nothing.
use Rattle.std.proofs.Common.{refl, arith}
use Rattle.laws.specs.Exits.{placed, exit-nowhere}
use Rattle.removals.proofs.Laws.{first-missing, parent, first-flag, first-within, first-unfound, first-removable, first-removed}
use Rattle.removals.proofs.remove_first.Goals as goal

pub returns-in_err-p : goal.returns-in_err-p
returns-in_err-p c =
    let e = exit-nowhere _ _ _ _ c.locate.ensures c.in_err-p.was c.from_residual.ensures.1 in
    rw e.1 (first-missing _ _ _ _ _ _ c.requires.good c.requires.in_bounds.0 c.requires.in_bounds.1 _ refl e.0)

pub returns-then-flag-gt1 : goal.returns-then-flag-gt1
returns-then-flag-gt1 c =
    let a = c.args in
    let s = parent a.store.now a.position.now c.requires.good c.requires.in_bounds.0 c.requires.in_bounds.1 _ refl _ _ (placed _ _ _ c.locate.ensures c.in_ok-p.was) in
    first-flag s a.serial a.name.now a.flag a.other.now _ c.if-flag-gt1.true c.bad_flag.ensures

pub overflow_add-p : goal.overflow_add-p
overflow_add-p c =
    let a = c.args in
    let s = parent a.store.now a.position.now c.requires.good c.requires.in_bounds.0 c.requires.in_bounds.1 _ refl _ _ (placed _ _ _ c.locate.ensures c.in_ok-p.was) in
    omega (arith, first-within s a.serial a.name.now a.flag a.other.now, c.well_formed)

pub first_named-at-requires : goal.first_named-at-requires
first_named-at-requires c =
    let a = c.args in
    let s = parent a.store.now a.position.now c.requires.good c.requires.in_bounds.0 c.requires.in_bounds.1 _ refl _ _ (placed _ _ _ c.locate.ensures c.in_ok-p.was) in
    first-within s a.serial a.name.now a.flag a.other.now

pub returns-then-q-at : goal.returns-then-q-at
returns-then-q-at c =
    let a = c.args in
    let s = parent a.store.now a.position.now c.requires.good c.requires.in_bounds.0 c.requires.in_bounds.1 _ refl _ _ (placed _ _ _ c.locate.ensures c.in_ok-p.was) in
    first-unfound s a.serial a.name.now a.flag a.other.now c.if-flag-gt1.false _ c.first_named-at.ensures c.if-q-at.true

pub end_of-stop-requires : goal.end_of-stop-requires
end_of-stop-requires c =
    let a = c.args in
    let s = parent a.store.now a.position.now c.requires.good c.requires.in_bounds.0 c.requires.in_bounds.1 _ refl _ _ (placed _ _ _ c.locate.ensures c.in_ok-p.was) in
    let w = first-within s a.serial a.name.now a.flag a.other.now in
    record { order = omega arith; room = w.room }

pub remove_span-requires : goal.remove_span-requires
remove_span-requires c =
    let a = c.args in
    let s = parent a.store.now a.position.now c.requires.good c.requires.in_bounds.0 c.requires.in_bounds.1 _ refl _ _ (placed _ _ _ c.locate.ensures c.in_ok-p.was) in
    first-removable s a.serial a.name.now a.flag a.other.now c.if-flag-gt1.false _ c.first_named-at.ensures c.if-q-at.false _ c.end_of-stop.ensures

pub returns : goal.returns
returns c =
    let a = c.args in
    let s = parent a.store.now a.position.now c.requires.good c.requires.in_bounds.0 c.requires.in_bounds.1 _ refl _ _ (placed _ _ _ c.locate.ensures c.in_ok-p.was) in
    first-removed s a.serial a.name.now a.flag a.other.now c.if-flag-gt1.false _ c.first_named-at.ensures c.if-q-at.false _ c.end_of-stop.ensures _ _ c.remove_span.ensures.removed c.remove_span.ensures.store_after
