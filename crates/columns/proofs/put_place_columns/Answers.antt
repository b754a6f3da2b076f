-- `columns::put_place_columns` meets its contract. Assumes nothing.
use Rattle.std.proofs.Common.{rules}
use Rattle.columns.proofs.Parts.{place-number, place-adds}
use Rattle.columns.proofs.put_place_columns.Goals as goal

pub put_number-requires : goal.put_number-requires
put_number-requires c = let n = place-number _ c.requires.0 _ c.size_of.ensures in search (rules, n.front, n.digits)

pub returns : goal.returns
returns c = search (rules, place-adds)
