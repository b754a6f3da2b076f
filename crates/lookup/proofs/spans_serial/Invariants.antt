-- `lookup::spans_serial` meets its contract. The loop keeps `Passed`. Assumes nothing.
use Rattle.machine.specs.Lookup.{spans}
use Rattle.lookup.proofs.Serials.{Passed}
use Rattle.lookup.proofs.spans_serial.Given as goal

abbrev pub invariant-loop-at : goal.invariant-loop-at
invariant-loop-at l = Passed (spans l.serial) l.store l.from l.end l.at
