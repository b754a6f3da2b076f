use Rattle.std.proofs.Common.{rules}
use Rattle.columns.proofs.Numbers.{last-start, last_turn, last_end}
use Rattle.columns.proofs.put_last.Goals as goal

pub loop-left-init : goal.loop-left-init
loop-left-init c = search last-start

pub loop-left-preserved : goal.loop-left-preserved
loop-left-preserved c = search (rules, last_turn)

pub returns : goal.returns
returns c = search (rules, last_end)
