-- `store::atoms_start` meets its contract. The loop: those that are passed are good atoms (`Led`). Assumes nothing.
use Rattle.store.proofs.Turns.{Led}
use Rattle.store.proofs.atoms_start.Given as goal

abbrev pub invariant-loop-at : goal.invariant-loop-at
invariant-loop-at l = Led l.store l.to l.at

abbrev pub decreases-loop-at : goal.decreases-loop-at
decreases-loop-at l = l.at
