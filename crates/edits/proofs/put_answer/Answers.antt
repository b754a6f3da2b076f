-- `edits::put_answer` meets its contract. Assumes nothing.
use Rattle.std.proofs.Common.{rules}
use Rattle.edits.proofs.Lists.{answer-put}
use Rattle.edits.proofs.put_answer.Goals as goal

pub returns : goal.returns
returns c = search (rules, answer-put)
