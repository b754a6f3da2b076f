-- `tree_removals::compact` meets its contract. The loop keeps `Passed`. Assumes nothing.
use Rattle.tree_removals.specs.Keep.{staying}
use Rattle.tree_removals.proofs.Laws.{Passed}
use Rattle.tree_removals.proofs.compact.Given as goal

abbrev pub invariant-loop-at : goal.invariant-loop-at
invariant-loop-at l = Passed (staying l.residues l.atoms l.tree) l.from l.end l.initial.store l.at l.to l.store
