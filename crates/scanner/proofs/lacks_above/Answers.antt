-- `scanner::lacks_above` is `lacks_above`. Assumes nothing.
use Rattle.std.proofs.Common.{rules}
use Rattle.scanner.proofs.Laws.{lacks-one, lacks-two, lacks-three, lacks-four}
use Rattle.scanner.proofs.lacks_above.Goals as goal

pub returns-then-conformer : goal.returns-then-conformer
returns-then-conformer c = search (rules, lacks-one)

pub returns-then-residue : goal.returns-then-residue
returns-then-residue c = search (rules, lacks-two)

pub returns-then-chain : goal.returns-then-chain
returns-then-chain c = search (rules, lacks-three)

pub returns : goal.returns
returns c = search (rules, lacks-four)
