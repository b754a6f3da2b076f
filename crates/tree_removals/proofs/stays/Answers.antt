-- `tree_removals::stays` meets its contract: a record of another kind stays, and an atom by the tree's value there. Assumes nothing.
use Rattle.std.proofs.Common.{rules}
use Rattle.tree_removals.proofs.Laws.{stays-other, stays-atom}
use Rattle.tree_removals.proofs.stays.Goals as goal

pub returns-then-kind-ne-ATOM : goal.returns-then-kind-ne-ATOM
returns-then-kind-ne-ATOM c = search (rules, stays-other)

pub returns : goal.returns
returns c = search (rules, stays-atom)
