-- `scanner::lacks` is `lacks`. Assumes nothing.
use Rattle.std.proofs.Common.{rules}
use Rattle.scanner.proofs.Laws.{lacks-itself, lacks-all, lacks-by-words}
use Rattle.scanner.proofs.lacks.Goals as goal

pub returns-then-same_bytes : goal.returns-then-same_bytes
returns-then-same_bytes c = search (rules, lacks-itself)

pub returns-then-chain_in : goal.returns-then-chain_in
returns-then-chain_in c = search (rules, lacks-all)

pub returns : goal.returns
returns c = search (rules, lacks-by-words)
