-- `columns::atom_line` meets its contract. Assumes nothing.
use Rattle.std.proofs.Common.{rules}
use Rattle.columns.proofs.Parts.{atom-each, atom-decimals, atom-whole}
use Rattle.columns.proofs.atom_line.Goals as goal

pub put_name_columns-requires : goal.put_name_columns-requires
put_name_columns-requires c = let f = atom-each _ _ c.requires.1 in search (rules, f.name)

pub put_place_columns-requires : goal.put_place_columns-requires
put_place_columns-requires c = let f = atom-each _ _ c.requires.1 in search (rules, f.place)

pub put_decimals-requires : goal.put_decimals-requires
put_decimals-requires c = search (rules, atom-decimals)

pub put_element_columns-requires : goal.put_element_columns-requires
put_element_columns-requires c = let f = atom-each _ _ c.requires.1 in search (rules, f.element)

pub returns : goal.returns
returns c = search (rules, atom-whole)
