-- `records::unnamed_zero` meets its contract: the nine tests are `same` over the nine words. Assumes nothing.
use Rattle.records.proofs.Laws.{unnamed-zero}
use Rattle.records.proofs.unnamed_zero.Goals as goal

pub returns : goal.returns
returns c =
    cc (unnamed-zero c.args.r.now c.requires)
