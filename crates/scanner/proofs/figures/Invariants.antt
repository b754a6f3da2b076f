-- `scanner::figures` is `figures`. Assumes nothing.
use Rattle.std.proofs.Common.{length, ◌-◌}
use Rattle.scanner.proofs.Laws.{Figured}
use Rattle.scanner.proofs.figures.Given as goal

abbrev pub invariant-loop-i : goal.invariant-loop-i
invariant-loop-i l = Figured l.text l.i l.n

abbrev pub decreases-loop-i : goal.decreases-loop-i
decreases-loop-i l = length l.text - l.i
