-- `scanner::decimal_in` finds digits and minus. Assumes nothing.
use Rattle.std.proofs.Common.{rules}
use Rattle.scanner.proofs.Laws.{decimal-in-is}
use Rattle.scanner.proofs.decimal_in.Goals as goal

pub returns : goal.returns
returns c = search (rules, decimal-in-is)
