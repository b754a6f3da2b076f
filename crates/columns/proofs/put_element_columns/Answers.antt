-- `columns::put_element_columns` meets its contract. Assumes nothing.
use Rattle.std.proofs.Common.{rules}
use Rattle.columns.proofs.Parts.{good-values, charge-fits, element-adds}
use Rattle.columns.proofs.put_element_columns.Goals as goal

pub put_symbol-requires : goal.put_symbol-requires
put_symbol-requires c = let v = good-values _ c.requires.0 in search (rules, v.element)

pub put_charge-requires : goal.put_charge-requires
put_charge-requires c = search (rules, charge-fits)

pub returns : goal.returns
returns c = search (rules, element-adds)
