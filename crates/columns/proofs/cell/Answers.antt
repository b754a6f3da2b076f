-- `columns::cell` meets its contract. Assumes nothing.
use Rattle.std.proofs.Common.{rules}
use Rattle.columns.proofs.Numbers.{cell-shown, cell-some, cell-minus, cell-blank}
use Rattle.columns.proofs.cell.Goals as goal

pub returns-then-shown : goal.returns-then-shown
returns-then-shown c = search (rules, cell-shown)

pub returns-then-n-gt0 : goal.returns-then-n-gt0
returns-then-n-gt0 c = search (rules, cell-some)

pub returns-then-minus : goal.returns-then-minus
returns-then-minus c = search (rules, cell-minus)

pub returns : goal.returns
returns c = search (rules, cell-blank)
