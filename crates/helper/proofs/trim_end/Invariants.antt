-- `helper::trim_end` passes the blanks at the end. Assumes nothing.
use Rattle.std.proofs.Common.{length, ◌≡◌}
use Rattle.helper.specs.Text.{trim_end}
use Rattle.helper.proofs.trim_end.Given as goal

abbrev pub invariant-loop-rest : goal.invariant-loop-rest
invariant-loop-rest l = trim_end l.rest ≡ trim_end l.text

abbrev pub decreases-loop-rest : goal.decreases-loop-rest
decreases-loop-rest l = length l.rest
