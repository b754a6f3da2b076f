-- `columns::put_decimals` meets its contract. Assumes nothing.
use Rattle.std.proofs.Common.{rules}
use Rattle.columns.proofs.Parts.{decimals-fit, decimal-adds}
use Rattle.columns.proofs.put_decimals.Goals as goal

pub put_decimal-requires : goal.put_decimal-requires
put_decimal-requires c = let r = (decimals-fit _ c.requires.0).x in search (rules, r.front, r.digits)

pub put_decimal-requires-2 : goal.put_decimal-requires-2
put_decimal-requires-2 c = let r = (decimals-fit _ c.requires.0).y in search (rules, r.front, r.digits)

pub put_decimal-requires-3 : goal.put_decimal-requires-3
put_decimal-requires-3 c = let r = (decimals-fit _ c.requires.0).z in search (rules, r.front, r.digits)

pub put_decimal-requires-4 : goal.put_decimal-requires-4
put_decimal-requires-4 c = let r = (decimals-fit _ c.requires.0).occupancy in search (rules, r.front, r.digits)

pub put_decimal-requires-5 : goal.put_decimal-requires-5
put_decimal-requires-5 c = let r = (decimals-fit _ c.requires.0).factor in search (rules, r.front, r.digits)

pub returns : goal.returns
returns c = search (rules, decimal-adds)
