-- `columns::put_last` meets its contract. Assumes nothing.
use Rattle.columns.proofs.Numbers.{Lasting}
use Rattle.columns.proofs.put_last.Given as goal

abbrev pub invariant-loop-left : goal.invariant-loop-left
invariant-loop-left l = Lasting l.at l.count l.n l.initial.line l.line l.left l.rest

abbrev pub decreases-loop-left : goal.decreases-loop-left
decreases-loop-left l = l.left
