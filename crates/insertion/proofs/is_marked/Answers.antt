-- `insertion::is_marked` goes by the first three words of a record. Assumes nothing.
use Rattle.std.proofs.Common.{rules}
use Rattle.insertion.proofs.Laws.{unmarked-kind, unmarked-first, marked}
use Rattle.insertion.proofs.is_marked.Goals as goal

pub returns-then-store-at : goal.returns-then-store-at
returns-then-store-at c = search (rules, unmarked-kind)

pub returns-then-store-at-2 : goal.returns-then-store-at-2
returns-then-store-at-2 c = search (rules, unmarked-first)

pub returns : goal.returns
returns c = search (rules, marked)
