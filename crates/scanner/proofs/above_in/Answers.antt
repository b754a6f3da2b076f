-- `scanner::above_in` reads columns 17 to 27. Assumes nothing.
use Rattle.std.proofs.Common.{rules}
use Rattle.scanner.proofs.Laws.{above-is}
use Rattle.scanner.proofs.above_in.Goals as goal

pub returns : goal.returns
returns c = search (rules, above-is)
