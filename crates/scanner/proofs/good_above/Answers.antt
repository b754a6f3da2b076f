-- `scanner::good_above` is `good_above`. Assumes nothing.
use Rattle.std.proofs.Common.{rules}
use Rattle.scanner.proofs.Laws.{all-stored}
use Rattle.scanner.proofs.good_above.Goals as goal

pub returns : goal.returns
returns c = search (rules, all-stored)
