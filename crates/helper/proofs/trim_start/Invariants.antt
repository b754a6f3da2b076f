-- `helper::trim_start` passes the blanks at the front. Assumes nothing.
use Rattle.std.proofs.Common.{length, ◌≡◌}
use Rattle.machine.specs.Text.{trim_start}
use Rattle.helper.proofs.trim_start.Given as goal

abbrev pub invariant-loop-rest : goal.invariant-loop-rest
invariant-loop-rest l = trim_start l.rest ≡ trim_start l.text

abbrev pub decreases-loop-rest : goal.decreases-loop-rest
decreases-loop-rest l = length l.rest
