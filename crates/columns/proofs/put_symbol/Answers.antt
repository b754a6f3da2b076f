-- `columns::put_symbol` meets its contract. Assumes nothing.
use Rattle.std.proofs.Common.{rules}
use Rattle.columns.proofs.Words.{two_is}
use Rattle.columns.proofs.Symbols.{symbol-bytes}
use Rattle.columns.proofs.put_symbol.Goals as goal

pub returns : goal.returns
returns c = search (rules, two_is, symbol-bytes)
