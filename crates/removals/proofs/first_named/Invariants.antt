-- `removals::first_named` meets its contract. The loop keeps `Passed`. Assumes nothing.
use Rattle.removals.specs.Named.{id_of}
use Rattle.removals.proofs.Scan.{Passed}
use Rattle.removals.proofs.first_named.Given as goal

abbrev pub invariant-loop-at : goal.invariant-loop-at
invariant-loop-at l = Passed l.store l.from l.end l.kind (id_of l.serial l.name l.flag l.other) l.at
