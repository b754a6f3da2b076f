-- `room::records_in` is `records_from`. Assumes nothing.
use Rattle.std.proofs.Common.{length, ◌-◌, ◌/◌}
use Rattle.room.proofs.Laws.{Counted}
use Rattle.room.proofs.records_in.Given as goal

abbrev pub invariant-loop-n : goal.invariant-loop-n
invariant-loop-n l = Counted l.text l.near l.count l.from l.n

abbrev pub decreases-loop-n : goal.decreases-loop-n
decreases-loop-n l = length l.text / 81 - l.n
