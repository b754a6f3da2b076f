-- `columns::put_name_columns` meets its contract. Assumes nothing.
use Rattle.std.proofs.Common.{rules}
use Rattle.columns.proofs.Parts.{name-serial, good-values, name-adds}
use Rattle.columns.proofs.put_name_columns.Goals as goal

pub put_number-requires : goal.put_number-requires
put_number-requires c = search (rules, name-serial)

pub indent_of-requires : goal.indent_of-requires
indent_of-requires c = (good-values _ c.requires.0).element

pub returns : goal.returns
returns c = search (rules, name-adds)
