-- `writer::line_count` meets its contract. Assumes nothing.
use Rattle.std.proofs.Common.{rules}
use Rattle.writer.proofs.Laws.{count-atom, count-model, count_none}
use Rattle.writer.proofs.line_count.Goals as goal

pub returns-then-kind-eq-ATOM : goal.returns-then-kind-eq-ATOM
returns-then-kind-eq-ATOM c = search (rules, count-atom)

pub returns-then-kind-eq-MODEL : goal.returns-then-kind-eq-MODEL
returns-then-kind-eq-MODEL c = search (rules, count-model)

pub returns : goal.returns
returns c = search (rules, count_none)
