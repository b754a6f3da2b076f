-- `search::sort_of` meets its contract: a code past the table is none. The others compute. Assumes nothing.
use Rattle.std.proofs.Common.{rules}
use Rattle.search.proofs.Nodes.{no-sort}
use Rattle.search.proofs.sort_of.Goals as goal

pub returns-in_default-2 : goal.returns-in_default-2
returns-in_default-2 c = search (rules, no-sort)
