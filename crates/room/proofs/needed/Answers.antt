use Rattle.std.proofs.Common.{rules}
use Rattle.room.proofs.Laws.{none_seen, seen-ended, seen-small, more-seen, all_seen}
use Rattle.room.proofs.needed.Goals as goal

pub loop-i-init : goal.loop-i-init
loop-i-init c = search (rules, none_seen)

pub returns-then-ends : goal.returns-then-ends
returns-then-ends c = search (rules, seen-ended, seen-small)

pub loop-i-preserved : goal.loop-i-preserved
loop-i-preserved c = search (rules, more-seen)

pub returns : goal.returns
returns c = search (rules, all_seen)
