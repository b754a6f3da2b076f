-- `writer::enter` meets its contract. Assumes nothing.
use Rattle.std.proofs.Common.{rules}
use Rattle.writer.proofs.Laws.{enter-chain, enter-residue, enter-conformer, enter-none}
use Rattle.writer.proofs.enter.Goals as goal

pub returns-then-kind-eq-CHAIN : goal.returns-then-kind-eq-CHAIN
returns-then-kind-eq-CHAIN c = search (rules, enter-chain)

pub returns-then-kind-eq-RESIDUE : goal.returns-then-kind-eq-RESIDUE
returns-then-kind-eq-RESIDUE c = search (rules, enter-residue)

pub returns-then-kind-eq-CONFORMER : goal.returns-then-kind-eq-CONFORMER
returns-then-kind-eq-CONFORMER c = search (rules, enter-conformer)

pub returns : goal.returns
returns c = search (rules, enter-none)
