-- `helper::trimmed_word` is `word`. Assumes nothing.
use Rattle.std.proofs.Common.{rules}
use Rattle.helper.proofs.Laws.{word-is}
use Rattle.helper.proofs.trimmed_word.Goals as goal

pub returns : goal.returns
returns c = search (rules, word-is)
