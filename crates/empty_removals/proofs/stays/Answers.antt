-- `empty_removals::stays` meets its contract: each answer is what the definition says of the two records. Assumes nothing.
use Rattle.std.proofs.Common.{rules}
use Rattle.empty_removals.proofs.Laws.{stays-atom, stays-none, stays-below}
use Rattle.empty_removals.proofs.stays.Goals as goal

pub returns-then-kind-eq-ATOM : goal.returns-then-kind-eq-ATOM
returns-then-kind-eq-ATOM c = search (rules, stays-atom)

pub returns-then-to-end : goal.returns-then-to-end
returns-then-to-end c = search (rules, stays-none)

pub returns : goal.returns
returns c = search (rules, stays-below)
