use Rattle.std.proofs.Common.{rules}
use Rattle.columns.proofs.Numbers.{number-start, number-turn, number-end}
use Rattle.columns.proofs.put_number.Goals as goal

pub loop-left-init : goal.loop-left-init
loop-left-init c = search number-start

pub loop-left-preserved : goal.loop-left-preserved
loop-left-preserved c = search (rules, number-turn)

pub returns : goal.returns
returns c = search (rules, number-end)
