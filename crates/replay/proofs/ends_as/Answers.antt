-- `replay::ends_as` meets its contract. Assumes nothing.
use Rattle.std.proofs.Common.{rules}
use Rattle.replay.proofs.Laws.{ends-other, ends-same}
use Rattle.replay.proofs.ends_as.Goals as goal

pub returns-then-answered : goal.returns-then-answered
returns-then-answered c = search (rules, ends-same)

pub returns-else-answered : goal.returns-else-answered
returns-else-answered c = search (rules, ends-other)
