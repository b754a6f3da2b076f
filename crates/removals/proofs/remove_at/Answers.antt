-- `removals::remove_at` meets its contract. Assumes nothing.
use Rattle.std.proofs.Common.{refl}
use Rattle.laws.specs.Exits.{placed, exit-nowhere}
use Rattle.removals.proofs.Laws.{at-missing, at-removable, at-removed}
use Rattle.removals.proofs.remove_at.Goals as goal

pub returns-in_err-p : goal.returns-in_err-p
returns-in_err-p c =
    let e = exit-nowhere _ _ _ _ c.locate.ensures c.in_err-p.was c.from_residual.ensures.1 in
    rw e.1 (at-missing _ _ c.requires.good c.requires.in_bounds.0 c.requires.in_bounds.1 _ refl e.0)

pub remove_span-requires : goal.remove_span-requires
remove_span-requires c =
    let s = placed _ _ _ c.locate.ensures c.in_ok-p.was in
    at-removable _ _ c.requires.good c.requires.in_bounds.0 c.requires.in_bounds.1 _ refl _ _ s

pub returns : goal.returns
returns c =
    let s = placed _ _ _ c.locate.ensures c.in_ok-p.was in
    at-removed _ _ c.requires.good c.requires.in_bounds.0 c.requires.in_bounds.1 _ refl _ _ s
    _ _ c.remove_span.ensures.removed c.remove_span.ensures.store_after
