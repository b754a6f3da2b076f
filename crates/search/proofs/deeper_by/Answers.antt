-- `search::deeper_by` meets its contract: the sort of a code says how many operands its node takes. Assumes nothing.
use Rattle.std.proofs.Common.{ap, rules, ◌∙◌}
use Rattle.search.proofs.Nodes.{has-node}
use Rattle.search.proofs.Depth.{least_of, least-one, arm, arm-none}
use Rattle.search.proofs.deeper_by.Goals as goal

pub deeper-requires : goal.deeper-requires
deeper-requires c = search (rules, has-node _ _ _ (c.in_ok-sort_of.ensures 0 0))

pub deeper-requires-in-Binary : goal.deeper-requires-in-Binary
deeper-requires-in-Binary c = search (rules, has-node _ _ _ (c.in_ok-sort_of.ensures 0 0))

pub deeper-requires-in-Not : goal.deeper-requires-in-Not
deeper-requires-in-Not c = search (rules, has-node _ _ _ (c.in_ok-sort_of.ensures 0 0))

pub returns-in-Single : goal.returns-in-Single
returns-in-Single c = arm _ _ _ _ (c.in_ok-sort_of.ensures _ _) (least-one c.in-Single.is) c.deeper.ensures

pub returns-in-Binary : goal.returns-in-Binary
returns-in-Binary c = arm _ _ _ _ (c.in_ok-sort_of.ensures _ _) (ap least_of c.in-Binary.is) c.deeper-in-Binary.ensures

pub returns-in-Not : goal.returns-in-Not
returns-in-Not c = arm _ _ _ _ (c.in_ok-sort_of.ensures _ _) (ap least_of c.in-Not.is) c.deeper-in-Not.ensures

pub returns-in_err-sort_of : goal.returns-in_err-sort_of
returns-in_err-sort_of c = c.from_residual.ensures ∙ arm-none _ _ _ _ (c.in_err-sort_of.ensures _ _)
