-- `scanner::same_bytes` is `same`. Assumes nothing.
use Rattle.std.proofs.Common.{length, ◌-◌}
use Rattle.scanner.proofs.Laws.{Alike}
use Rattle.scanner.proofs.same_bytes.Given as goal

abbrev pub invariant-loop-i : goal.invariant-loop-i
invariant-loop-i l = Alike l.first l.second l.i l.equal

abbrev pub decreases-loop-i : goal.decreases-loop-i
decreases-loop-i l = length l.first - l.i
