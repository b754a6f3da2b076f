-- `claims::find_all` meets its contract. Assumes nothing.
use Rattle.std.proofs.Common.{rules}
use Rattle.claims.proofs.Laws.{all_runs}
use Rattle.claims.proofs.find_all.Goals as goal

pub returns : goal.returns
returns c = search (rules, all_runs)
