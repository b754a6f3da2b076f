-- `writer::measure` meets its contract: the lines counted and those still to come are all, and all fits where these fit. Assumes nothing.
use Rattle.std.proofs.Common.{◌-◌}
use Rattle.writer.proofs.Turns.{Measuring}
use Rattle.writer.proofs.measure.Given as goal

abbrev pub invariant-loop-n : goal.invariant-loop-n
invariant-loop-n l = Measuring l.store l.count l.n l.above l.lines

abbrev pub decreases-loop-n : goal.decreases-loop-n
decreases-loop-n l = l.count - l.n
