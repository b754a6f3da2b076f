-- `replay::replay` is safe and ends: no count is above the number of words passed. Assumes nothing.
use Rattle.std.proofs.Common.{length, ◌-◌, ◌≤◌}
use Rattle.replay.proofs.replay.Given as goal

abbrev pub invariant-loop-case : goal.invariant-loop-case
invariant-loop-case l =
    let most = length l.words - length l.rest in
    (length l.rest ≤ length l.words) × (l.summary.cases ≤ most) × (l.summary.calls ≤ most) × (l.summary.accepted ≤ most) × (l.summary.as_recorded ≤ most)

abbrev pub decreases-loop-case : goal.decreases-loop-case
decreases-loop-case l = length l.rest
