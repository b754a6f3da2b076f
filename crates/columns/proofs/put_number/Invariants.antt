-- `columns::put_number` meets its contract. Assumes nothing.
use Rattle.columns.proofs.Numbers.{Writing}
use Rattle.columns.proofs.put_number.Given as goal

abbrev pub invariant-loop-left : goal.invariant-loop-left
invariant-loop-left l = Writing l.at l.width l.n l.minus l.initial.line l.line l.left l.shown l.sign l.rest

abbrev pub decreases-loop-left : goal.decreases-loop-left
decreases-loop-left l = l.left
