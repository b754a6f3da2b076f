-- `room::adding_lines` is `adding_lines`. Assumes nothing.
use Rattle.std.proofs.Common.{length, ◌-◌, ◌/◌}
use Rattle.room.proofs.Laws.{Added}
use Rattle.room.proofs.adding_lines.Given as goal

abbrev pub invariant-loop-n : goal.invariant-loop-n
invariant-loop-n l = Added l.text l.count l.n

abbrev pub decreases-loop-n : goal.decreases-loop-n
decreases-loop-n l = length l.text / 81 - l.n
