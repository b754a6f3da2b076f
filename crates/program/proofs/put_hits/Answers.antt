use Rattle.std.proofs.Common.{arith, rules}
use Rattle.std.proofs.lemmas.Grind.{common_steps}
use Rattle.decimals.proofs.Laws.{put-none}
use Rattle.program.proofs.Bounds.{lines-few}
use Rattle.program.proofs.Laws.{hits-turn}
use Rattle.program.proofs.put_hits.Goals as goal

pub loop-hit-init : goal.loop-hit-init
loop-hit-init c = put-none 0 _

pub put_hit-at-requires : goal.put_hit-at-requires
put_hit-at-requires c = grind (arith, common_steps, lines-few)

pub loop-hit-preserved : goal.loop-hit-preserved
loop-hit-preserved c = search (rules, hits-turn)
