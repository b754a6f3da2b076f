-- `program::answer` meets its contract: the words of a good input, and what is printed of them. Assumes nothing.
use Rattle.std.proofs.Common.{arith}
use Rattle.program.proofs.Laws.{bad-input, read-input, text-end}
use Rattle.program.proofs.answer.Goals as goal

pub returns-then-readable : goal.returns-then-readable
returns-then-readable c =
    let run = read-input _ _ c.readable.ensures c.if-readable.true _ _ c.read_words.ensures _ _ _ c.answer_words.ensures in
    record { run = run; within = text-end _ _ c.args.text.now _ (omega arith) run }

pub returns-else-readable : goal.returns-else-readable
returns-else-readable c =
    let run = bad-input _ _ c.readable.ensures c.if-readable.false _ _ _ c.put_refused.ensures in
    record { run = run; within = text-end _ _ c.args.text.now _ (omega arith) run }
