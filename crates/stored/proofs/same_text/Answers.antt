-- `stored::same_text` is `matches`. Assumes nothing.
use Rattle.std.proofs.Common.{rules}
use Rattle.stored.proofs.Given.{match_none, match-long, match-zero, match-word}
use Rattle.stored.proofs.same_text.Goals as goal

pub returns-in-empty : goal.returns-in-empty
returns-in-empty c = search (rules, match_none)

pub returns-in-empty-2 : goal.returns-in-empty-2
returns-in-empty-2 c = search (rules, match-zero)

pub returns-then-text-le8 : goal.returns-then-text-le8
returns-then-text-le8 c = search (rules, match-word)

pub returns-else-text-le8 : goal.returns-else-text-le8
returns-else-text-le8 c = search (rules, match-long)
