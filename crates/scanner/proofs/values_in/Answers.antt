-- `scanner::values_in` reads the numbers of a line. Assumes nothing.
use Rattle.std.proofs.Common.{rules}
use Rattle.scanner.proofs.Laws.{values-is}
use Rattle.scanner.proofs.values_in.Goals as goal

pub returns : goal.returns
returns c = search (rules, values-is)
