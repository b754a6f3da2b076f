-- `columns::symbol_byte` meets its contract. Assumes nothing.
use Rattle.std.proofs.Common.{refl}
use Rattle.columns.specs.Cells.{symbol_columns}
use Rattle.columns.proofs.symbol_byte.Goals as goal

pub returns : goal.returns
unfolding symbol_columns
returns c = refl
