-- `calls::good_parts` meets its contract. The parts that come later are good where all are. Assumes nothing.
use Rattle.std.proofs.Common.{◌≡◌}
use Rattle.machine.specs.Lists.{is_some}
use Rattle.calls.specs.Format.{read_parts}
use Rattle.calls.proofs.good_parts.Given as goal

abbrev pub invariant-loop-later : goal.invariant-loop-later
invariant-loop-later l = is_some (read_parts l.trees l.later l.rest) ≡ is_some (read_parts l.trees l.parts l.words)
