-- `scanner::letter_word` is `word` of one byte. Assumes nothing.
use Rattle.std.proofs.Common.{rules}
use Rattle.scanner.proofs.Laws.{blank-word, letter-word}
use Rattle.scanner.proofs.letter_word.Goals as goal

pub returns-then-is_blank : goal.returns-then-is_blank
returns-then-is_blank c = search (rules, blank-word)

pub returns : goal.returns
returns c = search (rules, letter-word)
