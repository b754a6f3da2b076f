use Rattle.std.proofs.Common.{rules}
use Rattle.filling.proofs.Lines.{none-ended, end_line, atom-line, all-ended}
use Rattle.filling.proofs.model_end.Goals as goal

pub loop-n-init : goal.loop-n-init
loop-n-init c = search (rules, none-ended)

pub returns-then-text-n-eq-END : goal.returns-then-text-n-eq-END
returns-then-text-n-eq-END c = search (rules, end_line)

pub loop-n-preserved : goal.loop-n-preserved
loop-n-preserved c = search (rules, atom-line)

pub returns : goal.returns
returns c = search (rules, all-ended)
