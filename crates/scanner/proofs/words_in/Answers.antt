-- `scanner::words_in` is `words` of an atom without its f64 values. Assumes nothing.
use Rattle.std.proofs.Common.{rules}
use Rattle.scanner.proofs.Laws.{words-is}
use Rattle.scanner.proofs.words_in.Goals as goal

pub returns : goal.returns
returns c = search (rules, words-is)
