-- `room::needed` is `looked`. Assumes nothing.
use Rattle.room.proofs.Laws.{Seen}
use Rattle.room.proofs.needed.Given as goal

abbrev pub invariant-loop-i : goal.invariant-loop-i
invariant-loop-i l = Seen l.text l.from l.n l.near l.least l.i

abbrev pub decreases-loop-i : goal.decreases-loop-i
decreases-loop-i l = l.i
