-- `lookup::first_in` meets its contract. The loop keeps `Looked`, and the records left fall. Assumes nothing.
use Rattle.std.proofs.Common.{◌+◌, ◌-◌}
use Rattle.machine.specs.Text.{optional_of}
use Rattle.lookup.proofs.Scan.{Looked}
use Rattle.lookup.proofs.first_in.Given as goal

abbrev pub invariant-loop-at : goal.invariant-loop-at
invariant-loop-at l = Looked l.level l.serial (optional_of l.flag l.location) l.store (l.parent + 1) l.end l.at

abbrev pub decreases-loop-at : goal.decreases-loop-at
decreases-loop-at l = l.end - l.at
