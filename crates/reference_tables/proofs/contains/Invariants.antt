-- `reference_tables::contains` meets its contract: four names to a turn, and the last few after them. Assumes nothing.
use Rattle.std.proofs.Common.{length, ◌≡◌}
use Rattle.machine.specs.Query.{member}
use Rattle.reference_tables.proofs.contains.Given as goal

abbrev pub invariant-loop-rest : goal.invariant-loop-rest
invariant-loop-rest l = member l.rest l.name ≡ member l.names l.name

abbrev pub decreases-loop-rest : goal.decreases-loop-rest
decreases-loop-rest l = length l.rest
