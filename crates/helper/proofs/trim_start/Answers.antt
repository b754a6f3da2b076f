use Rattle.std.proofs.Common.{rules}
use Rattle.helper.proofs.Laws.{start-again, start-found, start_none}
use Rattle.helper.proofs.trim_start.Goals as goal

pub loop-rest-preserved : goal.loop-rest-preserved
loop-rest-preserved c = search (rules, start-again)

pub returns-then-rest-lt1 : goal.returns-then-rest-lt1
returns-then-rest-lt1 c = search (rules, start_none)

pub returns-else-is_blank : goal.returns-else-is_blank
returns-else-is_blank c = search (rules, start-found)
