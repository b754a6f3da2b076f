-- `search::depth_of` meets its contract: the loop's invariant: what is left of the tree, from the depth reached, gives what the whole gives. Assumes nothing.
use Rattle.std.proofs.Common.{drop, length, ◌%◌, ◌+◌, ◌-◌, ◌≡◌, ◌≤◌}
use Rattle.search.specs.Nodes.{depth_of}
use Rattle.search.proofs.depth_of.Given as goal

abbrev pub invariant-loop-i : goal.invariant-loop-i
invariant-loop-i l = (l.i ≤ length l.tree) × (l.i % 3 ≡ 0) × (l.d ≤ l.i + 1) × (depth_of 1 l.tree ≡ depth_of l.d (drop l.i l.tree))

abbrev pub decreases-loop-i : goal.decreases-loop-i
decreases-loop-i l = length l.tree - l.i
