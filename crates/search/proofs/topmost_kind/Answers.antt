use Rattle.std.proofs.Common.{rules}
use Rattle.search.proofs.Topmost.{topmost-next, topmost-end}
use Rattle.search.proofs.topmost_kind.Goals as goal

pub loop-i-preserved : goal.loop-i-preserved
loop-i-preserved c = search (rules, topmost-next)

pub returns : goal.returns
returns c = search (rules, topmost-end)
