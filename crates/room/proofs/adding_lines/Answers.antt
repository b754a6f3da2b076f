use Rattle.std.proofs.Common.{rules}
use Rattle.room.proofs.Laws.{none-added, end-added, line-added, all-added}
use Rattle.room.proofs.adding_lines.Goals as goal

pub loop-n-init : goal.loop-n-init
loop-n-init c = search (rules, none-added)

pub loop-n-preserved-then-kind_of-eq69 : goal.loop-n-preserved-then-kind_of-eq69
loop-n-preserved-then-kind_of-eq69 c = search (rules, end-added)

pub loop-n-preserved : goal.loop-n-preserved
loop-n-preserved c = search (rules, line-added)

pub returns : goal.returns
returns c = search (rules, all-added)
