-- `dispatch::join` meets its contract. Assumes nothing.
use Rattle.std.proofs.Common.{rules}
use Rattle.dispatch.proofs.Calls.{first_some, first-few, second-same, join-call}
use Rattle.dispatch.proofs.join.Goals as goal

pub join_at-requires : goal.join_at-requires
join_at-requires c = search (rules, first_some, first-few, second-same)

pub returns : goal.returns
returns c = search (rules, join-call)
