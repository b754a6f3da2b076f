-- `search::evaluate` falls in the number of the tree's words.
use Rattle.std.proofs.Common.{length}
use Rattle.search.proofs.+evaluate.Given as goal

abbrev pub decreases-evaluate : goal.decreases-evaluate
decreases-evaluate l = length l.tree.now
