use Rattle.std.proofs.Common.{rules}
use Rattle.moves.proofs.Returns.{write-start, write-turn, write-end}
use Rattle.moves.proofs.write_over.Goals as goal

pub loop-i-init : goal.loop-i-init
loop-i-init g c = search (rules, write-start)

pub loop-i-preserved : goal.loop-i-preserved
loop-i-preserved g c = search (rules, write-turn)

pub returns : goal.returns
returns g c = search (rules, write-end)
