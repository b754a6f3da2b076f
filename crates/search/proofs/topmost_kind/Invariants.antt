-- `search::topmost_kind` meets its contract. The loop's invariant: what is left of the tree gives what the whole gives. Assumes nothing.
use Rattle.std.proofs.Common.{drop, length, ◌-◌, ◌≡◌}
use Rattle.search.specs.Nodes.{topmost_from}
use Rattle.search.proofs.topmost_kind.Given as goal

abbrev pub invariant-loop-i : goal.invariant-loop-i
invariant-loop-i l = topmost_from 5 l.tree ≡ topmost_from l.topmost (drop l.i l.tree)

abbrev pub decreases-loop-i : goal.decreases-loop-i
decreases-loop-i l = length l.tree - l.i
