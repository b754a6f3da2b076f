-- `tree_removals::remove_atoms_by` meets its contract: a model that isn't there is refused, then the tree; else what stays is moved
-- together, and the gap closed. Assumes nothing.
use Rattle.std.proofs.Common.{refl, arith, sym, ◌∙◌}
use Rattle.laws.specs.Exits.{exit-err, placed, exit-nowhere}
use Rattle.tree_removals.proofs.Laws.{by-missing, model-within, by-refused, by-gap, by-done}
use Rattle.tree_removals.proofs.remove_atoms_by.Goals as goal

pub returns-in_err-start : goal.returns-in_err-start
returns-in_err-start c =
    let e = exit-nowhere _ _ _ _ c.locate.ensures c.in_err-start.was c.from_residual.ensures.1 in
    rw e.1 (by-missing _ _ c.requires _ refl _ e.0)

pub overflow_add-start : goal.overflow_add-start
overflow_add-start c =
    let m = model-within _ _ c.requires _ refl _ _ (placed _ _ _ c.locate.ensures c.in_ok-start.was) in
    omega (arith, m.order, m.room)

pub compact-to-requires : goal.compact-to-requires
compact-to-requires c =
    (model-within _ _ c.requires _ refl _ _ (placed _ _ _ c.locate.ensures c.in_ok-start.was), sym c.check_tree.ensures ∙ c.in_ok-check_tree.was)

pub overflow_sub-removed : goal.overflow_sub-removed
overflow_sub-removed c =
    omega (arith, (by-gap _ _ c.requires _ refl _ _ (placed _ _ _ c.locate.ensures c.in_ok-start.was) _ _ _ c.amino_acids-residues.ensures c.backbone_names-atoms.ensures _ _ c.compact-to.ensures).1)

pub close_gap-requires : goal.close_gap-requires
close_gap-requires c =
    let g = by-gap _ _ c.requires _ refl _ _ (placed _ _ _ c.locate.ensures c.in_ok-start.was) _ _ _ c.amino_acids-residues.ensures c.backbone_names-atoms.ensures _ _ c.compact-to.ensures in
    record { laid = g.0; to_le_end = (g.1, g.2) }

pub returns-in_err-check_tree : goal.returns-in_err-check_tree
returns-in_err-check_tree c =
    rw (exit-err _ _ c.from_residual-in_err-check_tree.ensures.1)
    (by-refused _ _ c.requires _ refl _ _ (placed _ _ _ c.locate.ensures c.in_ok-start.was) _ _ c.check_tree.ensures _ c.in_err-check_tree.was)

pub returns : goal.returns
returns c =
    by-done _ _ c.requires _ refl _ _ (placed _ _ _ c.locate.ensures c.in_ok-start.was) _ _ _ c.amino_acids-residues.ensures c.backbone_names-atoms.ensures _ _ c.compact-to.ensures _ c.check_tree.ensures c.in_ok-check_tree.was _ c.close_gap.ensures
