-- `lookup::has_serial` meets its contract. The loop keeps `Passed`. Assumes nothing.
use Rattle.std.proofs.Common.{eqb}
use Rattle.machine.specs.Lists.{any}
use Rattle.lookup.proofs.Serials.{Passed}
use Rattle.lookup.proofs.has_serial.Given as goal

abbrev pub invariant-loop-at : goal.invariant-loop-at
invariant-loop-at l = Passed (any (eqb l.serial)) l.store l.from l.end l.at
