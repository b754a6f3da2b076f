-- `hierarchy::word` meets its contract. Assumes nothing.
use Rattle.std.proofs.Common.{rules}
use Rattle.hierarchy.proofs.Laws.{word-there}
use Rattle.hierarchy.proofs.word.Goals as goal

pub returns-then-n-count : goal.returns-then-n-count
returns-then-n-count c = search (rules, word-there)
