-- `columns::put_decimal` meets its contract. Assumes nothing.
use Rattle.std.proofs.Common.{arith}
use Rattle.columns.proofs.Numbers.{whole-fits, decimal-put}
use Rattle.columns.proofs.put_decimal.Goals as goal

pub put_number-requires : goal.put_number-requires
put_number-requires c = (c.requires.2, c.requires.3, whole-fits _ c.args.d _ _ c.requires.0 c.requires.4, omega arith, c.requires.6)

pub returns : goal.returns
returns c = decimal-put _ _ _ c.args.unit _ c.args.minus _ _ _ c.requires.0 c.requires.2 c.requires.3 c.requires.4 c.requires.5 c.requires.6 c.put_number.ensures c.put_last.ensures
