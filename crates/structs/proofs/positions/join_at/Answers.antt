-- `structs::positions::join_at` meets its contract. Assumes nothing.
use Rattle.std.proofs.Common.{rules}
use Rattle.store.proofs.Steps.{good}
use Rattle.structs.proofs.Laws.{refused-by}
use Rattle.structs.proofs.positions.join_at.Goals as goal

pub join_at-requires : goal.join_at-requires
join_at-requires c = search (rules, good)

pub returns-in_err-check : goal.returns-in_err-check
returns-in_err-check c = refused-by _ c.check.ensures c.in_err-check.was _ c.from_residual.ensures.1 _
