-- `insertion::find_child` meets its contract. The loop keeps `Searched`. Assumes nothing.
use Rattle.insertion.proofs.Laws.{Searched}
use Rattle.insertion.proofs.find_child.Given as goal

abbrev pub invariant-loop-at : goal.invariant-loop-at
invariant-loop-at l = Searched l.store l.from l.end l.key l.at l.best
