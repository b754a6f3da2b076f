-- `walk::put` meets its contract: five stores write five words. Assumes nothing.
use Rattle.seek.specs.Seek.{five_numbers}
use Rattle.walk.proofs.Laws.{put-law}
use Rattle.walk.proofs.put.Goals as goal

pub returns : goal.returns
returns c = put-law c.args.out.now c.args.hit (five_numbers c.args.at.now) c.if-out-hit.false
