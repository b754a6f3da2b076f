-- `seek::follow` meets its contract. The loop keeps `Following`. Assumes nothing.
use Rattle.seek.proofs.Turns.{Following}
use Rattle.seek.proofs.follow.Given as goal

abbrev pub invariant-loop-level : goal.invariant-loop-level
invariant-loop-level l = Following l.store l.position l.count l.level l.at l.path
