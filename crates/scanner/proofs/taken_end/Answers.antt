-- `scanner::taken_end` is `taken_end`. Assumes nothing.
use Rattle.std.proofs.Common.{rules}
use Rattle.scanner.proofs.Laws.{end-written}
use Rattle.scanner.proofs.taken_end.Goals as goal

pub returns : goal.returns
returns c = search (rules, end-written)
