-- `dispatch::remove_at` meets its contract. Assumes nothing.
use Rattle.std.proofs.Common.{rules}
use Rattle.dispatch.proofs.Calls.{position_some, position-few, position-call}
use Rattle.dispatch.proofs.remove_at.Goals as goal

pub remove_at-requires : goal.remove_at-requires
remove_at-requires c = search (rules, position_some, position-few)

pub returns : goal.returns
returns c = search (rules, position-call)
