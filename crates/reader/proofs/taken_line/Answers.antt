-- `reader::taken_line` is `taken_line`. Assumes nothing.
use Rattle.std.proofs.Common.{rules}
use Rattle.reader.proofs.Laws.{second-model, model-line, end_line, atom-line, outside-line}
use Rattle.reader.proofs.taken_line.Goals as goal

pub returns-then-begun : goal.returns-then-begun
returns-then-begun c = search (rules, second-model)

pub returns-then-line-eq77 : goal.returns-then-line-eq77
returns-then-line-eq77 c = search (rules, model-line)

pub returns-then-line-eq69 : goal.returns-then-line-eq69
returns-then-line-eq69 c = search (rules, end_line)

pub returns-then-begun-2 : goal.returns-then-begun-2
returns-then-begun-2 c = search (rules, atom-line)

pub returns : goal.returns
returns c = search (rules, outside-line)
