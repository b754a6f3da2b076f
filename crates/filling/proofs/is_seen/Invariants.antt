-- `filling::is_seen` looks back for the chain. Assumes nothing.
use Rattle.filling.proofs.Lines.{Looked}
use Rattle.filling.proofs.is_seen.Given as goal

abbrev pub invariant-loop-before : goal.invariant-loop-before
invariant-loop-before l = Looked l.lines l.n l.before

abbrev pub decreases-loop-before : goal.decreases-loop-before
decreases-loop-before l = l.before
