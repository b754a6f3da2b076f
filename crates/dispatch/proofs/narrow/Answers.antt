use Rattle.std.proofs.Common.{rules}
use Rattle.dispatch.proofs.Texts.{narrow-turn, narrow-end}
use Rattle.dispatch.proofs.narrow.Goals as goal

pub loop-i-preserved : goal.loop-i-preserved
loop-i-preserved c = search (rules, narrow-turn)

pub returns : goal.returns
returns c = search (rules, narrow-end)
