-- `scanner::hetero_in` asks for H. Assumes nothing.
use Rattle.std.proofs.Common.{rules}
use Rattle.scanner.proofs.Laws.{hetero-yes, hetero-no}
use Rattle.scanner.proofs.hetero_in.Goals as goal

pub returns-then-b-eq72 : goal.returns-then-b-eq72
returns-then-b-eq72 c = search (rules, hetero-yes)

pub returns-else-b-eq72 : goal.returns-else-b-eq72
returns-else-b-eq72 c = search (rules, hetero-no)
