use Rattle.std.proofs.Common.{rules}
use Rattle.seek.proofs.Turns.{count-begin, count-one, count_none, count-end}
use Rattle.seek.proofs.atoms_in.Goals as goal
use Rattle.seek.proofs.atoms_in.Goals.{then-store-at-eq-ATOM, else-store-at-eq-ATOM}

pub loop-at-init : goal.loop-at-init
loop-at-init c = search (rules, count-begin)

pub loop-at-preserved : goal.loop-at-preserved
loop-at-preserved c =
    elim c.if-store-at-eq-ATOM.branch [
      | then-store-at-eq-ATOM w ↦ rw w.atoms-is (search (rules, count-one))
      | else-store-at-eq-ATOM w ↦ rw w.atoms-is (search (rules, count_none))
    ]

pub returns : goal.returns
returns c = search (rules, count-end)
