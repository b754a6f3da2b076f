-- `store::check_records` meets its contract. The loop's invariant: the records that are passed are in order (`Behind`). Assumes nothing.
use Rattle.store.proofs.Turns.{Behind}
use Rattle.store.proofs.check_records.Given as goal

abbrev pub invariant-loop-at : goal.invariant-loop-at
invariant-loop-at l = Behind l.store l.end l.at l.next l.atoms

abbrev pub decreases-loop-at : goal.decreases-loop-at
decreases-loop-at l = l.at
