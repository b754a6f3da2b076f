-- `writer::write_all` meets its contract: the lines still to come, put where they go, make the text whole. Assumes nothing.
use Rattle.std.proofs.Common.{◌-◌}
use Rattle.writer.proofs.Turns.{Writing}
use Rattle.writer.proofs.write_all.Given as goal

abbrev pub invariant-loop-n : goal.invariant-loop-n
invariant-loop-n l = Writing l.store l.initial.out l.count l.n l.above l.at l.out

abbrev pub decreases-loop-n : goal.decreases-loop-n
decreases-loop-n l = l.count - l.n
