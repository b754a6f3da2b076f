-- `copies::copy` meets its contract: what the check refuses is passed on. Assumes nothing.
use Rattle.copies.proofs.Laws.{copy-refused}
use Rattle.copies.proofs.copy.Goals as goal

pub returns-in_err-check : goal.returns-in_err-check
returns-in_err-check c = copy-refused c.args.from.now c.args.to.now c.check.ensures c.in_err-check.was _ c.from_residual.ensures.1
