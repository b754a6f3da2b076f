-- `additions::good_values` is the conjunction of its seven tests. Assumes nothing.
use Rattle.std.proofs.Common.{rules}
use Rattle.additions.proofs.Laws.{values-good}
use Rattle.additions.proofs.good_values.Goals as goal

pub returns : goal.returns
returns c = search (rules, values-good)
