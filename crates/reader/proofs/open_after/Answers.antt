-- `reader::open_after` is `opens`. Assumes nothing.
use Rattle.std.proofs.Common.{rules}
use Rattle.reader.proofs.Laws.{model-opens, end-closes, atom-keeps}
use Rattle.reader.proofs.open_after.Goals as goal

pub returns-then-line-eq77 : goal.returns-then-line-eq77
returns-then-line-eq77 c = search (rules, model-opens)

pub returns-then-line-eq69 : goal.returns-then-line-eq69
returns-then-line-eq69 c = search (rules, end-closes)

pub returns : goal.returns
returns c = search (rules, atom-keeps)
