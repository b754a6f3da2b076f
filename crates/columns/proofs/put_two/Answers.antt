-- `columns::put_two` meets its contract. Assumes nothing.
use Rattle.std.proofs.Common.{rules}
use Rattle.columns.proofs.Words.{two-put}
use Rattle.columns.proofs.put_two.Goals as goal

pub returns : goal.returns
returns c = search (rules, two-put)
