-- `scanner::number_in` finds digits and minus. Assumes nothing.
use Rattle.std.proofs.Common.{length, ◌-◌}
use Rattle.scanner.proofs.Laws.{Scanned}
use Rattle.scanner.proofs.number_in.Given as goal

abbrev pub invariant-loop-i : goal.invariant-loop-i
invariant-loop-i l = Scanned l.text l.i l.n l.minus

abbrev pub decreases-loop-i : goal.decreases-loop-i
decreases-loop-i l = length l.text - l.i
