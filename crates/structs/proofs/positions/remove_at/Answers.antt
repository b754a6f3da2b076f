-- `structs::positions::remove_at` meets its contract. Assumes nothing.
use Rattle.std.proofs.Common.{rules}
use Rattle.store.proofs.Steps.{good}
use Rattle.structs.proofs.Laws.{refused-by}
use Rattle.structs.proofs.positions.remove_at.Goals as goal

pub remove_at-requires : goal.remove_at-requires
remove_at-requires c = search (rules, good)

pub returns-in_err-check : goal.returns-in_err-check
returns-in_err-check c = refused-by _ c.check.ensures c.in_err-check.was _ c.from_residual.ensures.1 _
