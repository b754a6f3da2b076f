-- `lookup::last_serial` meets its contract. The loop keeps `Left` on its way back. Assumes nothing.
use Rattle.lookup.proofs.Serials.{Left}
use Rattle.lookup.proofs.last_serial.Given as goal

abbrev pub invariant-loop-at : goal.invariant-loop-at
invariant-loop-at l = Left l.store l.from l.end l.first l.at
