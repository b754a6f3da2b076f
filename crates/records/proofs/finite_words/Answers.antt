-- `records::finite_words` meets its contract: the five tests are `all` over the five words. Assumes nothing.
use Rattle.records.proofs.Laws.{finite-words}
use Rattle.records.proofs.finite_words.Goals as goal

pub returns : goal.returns
returns c =
    cc (finite-words c.args.r.now c.requires)
