-- `seek::end_of` meets its contract. The loop keeps `Ran`. Assumes nothing.
use Rattle.seek.proofs.Turns.{Ran}
use Rattle.seek.proofs.end_of.Given as goal

abbrev pub invariant-loop-at : goal.invariant-loop-at
invariant-loop-at l = Ran l.store l.from l.end l.kind l.at
