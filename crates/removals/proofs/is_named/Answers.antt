-- `removals::is_named` goes by the kind. Assumes nothing.
use Rattle.std.proofs.Common.{rules}
use Rattle.removals.proofs.Scan.{named-chain, named-conformer, other-conformer, named-residue, named-atom, other-serial}
use Rattle.removals.proofs.is_named.Goals as goal

pub returns-then-kind-eq-CHAIN : goal.returns-then-kind-eq-CHAIN
returns-then-kind-eq-CHAIN c = search (rules, named-chain)

pub returns-then-same_text : goal.returns-then-same_text
returns-then-same_text c = search (rules, named-conformer)

pub returns-then-kind-eq-CONFORMER : goal.returns-then-kind-eq-CONFORMER
returns-then-kind-eq-CONFORMER c = search (rules, other-conformer)

pub returns-then-kind-eq-RESIDUE : goal.returns-then-kind-eq-RESIDUE
returns-then-kind-eq-RESIDUE c = search (rules, named-residue)

pub returns-then-one-serial : goal.returns-then-one-serial
returns-then-one-serial c = search (rules, named-atom)

pub returns : goal.returns
returns c = search (rules, other-serial)
