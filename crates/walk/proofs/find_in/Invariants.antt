-- `walk::find_in` meets its contract: the hits still to come, written where they go, make the output whole. Assumes nothing.
use Rattle.std.proofs.Common.{length, ◌≡◌}
use Rattle.seek.specs.Seek.{five_numbers}
use Rattle.walk.specs.Walk.{found_in}
use Rattle.walk.proofs.Laws.{Writing}
use Rattle.walk.proofs.find_in.Given as goal

abbrev pub invariant-loop-n : goal.invariant-loop-n
invariant-loop-n l =
    Writing l.store l.tree l.residues l.atoms l.low l.fn.part.end (found_in l.store l.fn.part.from l.fn.part.end l.tree l.low l.initial.live (five_numbers l.initial.at) l.residues l.atoms) l.initial.out l.n l.live l.settled (five_numbers l.at) l.found l.out × (length l.at ≡ 5)
