-- `columns::decimals_of` is `decimals_of`. Assumes nothing.
use Rattle.std.proofs.Common.{rules}
use Rattle.columns.proofs.Parts.{good-values, decimals-made}
use Rattle.columns.proofs.decimals_of.Goals as goal

pub decimal_of-requires : goal.decimal_of-requires
decimal_of-requires c = let v = (good-values _ c.requires).x in search (rules, v)

pub decimal_of-requires-2 : goal.decimal_of-requires-2
decimal_of-requires-2 c = let v = (good-values _ c.requires).y in search (rules, v)

pub decimal_of-requires-3 : goal.decimal_of-requires-3
decimal_of-requires-3 c = let v = (good-values _ c.requires).z in search (rules, v)

pub decimal_of-requires-4 : goal.decimal_of-requires-4
decimal_of-requires-4 c = let v = (good-values _ c.requires).occupancy in search (rules, v)

pub decimal_of-requires-5 : goal.decimal_of-requires-5
decimal_of-requires-5 c = let v = (good-values _ c.requires).factor in search (rules, v)

pub returns : goal.returns
returns c = search (rules, decimals-made)
