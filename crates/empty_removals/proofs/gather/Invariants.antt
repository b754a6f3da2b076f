-- `empty_removals::gather` meets its contract. The loop keeps `Passed`. Assumes nothing.
use Rattle.empty_removals.proofs.Laws.{Passed}
use Rattle.empty_removals.proofs.gather.Given as goal

abbrev pub invariant-loop-at : goal.invariant-loop-at
invariant-loop-at l = Passed l.from l.end l.initial.store l.at l.to l.store
