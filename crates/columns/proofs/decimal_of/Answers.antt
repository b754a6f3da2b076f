-- `columns::decimal_of` is `decimal_of`. Assumes nothing.
use Rattle.std.proofs.Common.{rules}
use Rattle.columns.proofs.Numbers.{decimal-made}
use Rattle.columns.proofs.decimal_of.Goals as goal

pub returns : goal.returns
returns c = search (rules, decimal-made)
