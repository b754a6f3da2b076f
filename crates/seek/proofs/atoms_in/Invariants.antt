-- `seek::atoms_in` meets its contract. The loop keeps `Counted`. Assumes nothing.
use Rattle.seek.proofs.Turns.{Counted}
use Rattle.seek.proofs.atoms_in.Given as goal

abbrev pub invariant-loop-at : goal.invariant-loop-at
invariant-loop-at l = Counted l.store l.from l.end l.atoms l.at
