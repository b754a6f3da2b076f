-- `removals::bad_flag` goes by whether the kind is a residue's. Assumes nothing.
use Rattle.std.proofs.Common.{rules}
use Rattle.removals.proofs.Laws.{code-flag, location-flag}
use Rattle.removals.proofs.bad_flag.Goals as goal

pub returns-then-kind-eq-RESIDUE : goal.returns-then-kind-eq-RESIDUE
returns-then-kind-eq-RESIDUE c = search (rules, code-flag)

pub returns : goal.returns
returns c = search (rules, location-flag)
