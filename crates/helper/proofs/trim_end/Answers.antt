use Rattle.std.proofs.Common.{rules}
use Rattle.helper.proofs.Laws.{end-again, end-found, end_none}
use Rattle.helper.proofs.trim_end.Goals as goal

pub loop-rest-preserved : goal.loop-rest-preserved
loop-rest-preserved c = search (rules, end-again)

pub returns-then-rest-lt1 : goal.returns-then-rest-lt1
returns-then-rest-lt1 c = search (rules, end_none)

pub returns-else-is_blank : goal.returns-else-is_blank
returns-else-is_blank c = search (rules, end-found)
