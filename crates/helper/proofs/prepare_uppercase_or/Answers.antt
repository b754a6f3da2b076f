-- `helper::prepare_uppercase_or` is `uppercase_or`. Assumes nothing.
use Rattle.std.proofs.Common.{rules}
use Rattle.helper.proofs.Laws.{uppercase_or-good, uppercase_or-other}
use Rattle.helper.proofs.prepare_uppercase_or.Goals as goal

pub returns-then-valid_text-is_empty : goal.returns-then-valid_text-is_empty
returns-then-valid_text-is_empty c = search (rules, uppercase_or-good)

pub returns-else-valid_text-is_empty : goal.returns-else-valid_text-is_empty
returns-else-valid_text-is_empty c = search (rules, uppercase_or-other)
