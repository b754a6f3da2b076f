-- `edits::apply` meets its contract. Assumes nothing.
use Rattle.std.proofs.Common.{rules}
use Rattle.store.proofs.Steps.{good}
use Rattle.edits.proofs.Lists.{applied-good, applied-refused}
use Rattle.edits.proofs.apply.Goals as goal

pub apply_good-requires : goal.apply_good-requires
apply_good-requires c = search (rules, good)

pub returns-in_err-check : goal.returns-in_err-check
returns-in_err-check c =
    applied-refused c.args.store.now c.args.list.now c.args.out.now c.check.ensures c.in_err-check.was _ c.from_residual.ensures.1

pub returns : goal.returns
returns c = search (rules, good, applied-good)
