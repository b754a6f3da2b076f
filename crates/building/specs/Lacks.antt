-- How many records the additions of a text need, by its lines alone. Assumes nothing.
use Rattle.std.specs.Prelude.{ℕ, suc, ◌+◌, min, Bool, ◌&&◌, ◌||◌, cond, List, [], ◌∷◌, get_or, eqb}
use Rattle.machine.specs.Lines.{AtomLine}
use Rattle.machine.specs.LinesIn.{atom_in}
use Rattle.machine.specs.Read.{same_id}

-- what an atom still needs where another's chain, residue and conformer stand: itself, and those of the three that aren't the same
unfoldable pub lacks : AtomLine → AtomLine → ℕ
lacks b a = cond (same_id 2 b.chain a.chain) (cond (same_id 1 b.residue a.residue) (cond (same_id 0 b.conformer a.conformer) 1 2) 3) 4

-- what an atom needs after the atoms of its model before it, the last one first
unfoldable pub needed : AtomLine → List AtomLine → ℕ
needed a [] = 4
needed a (b ∷ bs) = min (lacks b a) (needed a bs)

-- Looking back, 1 is the least there is. A look that is `near` goes back over one residue of the atom's chain: it gives a bound, which is exact
-- unless a residue is left and comes again.
abbrev pub ends : Bool → ℕ → Bool
ends near k = eqb k 1 || (near && eqb k 3)

unfoldable pub looked : Bool → AtomLine → List AtomLine → ℕ
looked near a [] = 4
looked near a (b ∷ bs) = cond (ends near (lacks b a)) (lacks b a) (min (lacks b a) (looked near a bs))

-- the records of some lines, where the atoms of the open model stand before them, the last one first
unfoldable pub records_from : Bool → List AtomLine → List (List ℕ) → ℕ
records_from near before [] = 0
records_from near before (l ∷ ls) =
    cond (eqb (get_or l 0 0) 77) (suc (records_from near [] ls))
    (cond (eqb (get_or l 0 0) 69) (records_from near before ls) (looked near (atom_in l) before + records_from near (atom_in l ∷ before) ls))
