-- `columns::two_letters` meets its contract. Assumes nothing.
use Rattle.std.proofs.Common.{rules}
use Rattle.columns.proofs.Symbols.{symbol-letters}
use Rattle.columns.proofs.two_letters.Goals as goal

pub returns : goal.returns
returns c = search (rules, symbol-letters)
