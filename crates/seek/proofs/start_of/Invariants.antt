-- `seek::start_of` meets its contract. The loop keeps `Sought`. Assumes nothing.
use Rattle.seek.proofs.Turns.{Sought}
use Rattle.seek.proofs.start_of.Given as goal

abbrev pub invariant-loop-at : goal.invariant-loop-at
invariant-loop-at l = Sought l.store l.from l.end l.kind l.index l.at l.left
