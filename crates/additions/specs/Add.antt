-- What the contracts of `src/` cite: an addition's arguments, and the records put in. Assumes nothing.
use Rattle.std.specs.Prelude.{ℕ, ◌+◌, ◌-◌, ◌*◌, List, [], ◌∷◌, ◌++◌, length, set, replicate}
use Rattle.machine.specs.declared.PreparedAddition.{PreparedAddition}
use Rattle.moves.specs.Over.{over, gapped}

-- ---- the new records

-- the words of a new chain, residue, conformer and atom, one below the other
abbrev pub column_words : PreparedAddition → List ℕ
column_words a =
    let v = a.values in
    (2 ∷ a.chain ∷ replicate 10 0)
    ++ ((3 ∷ a.residue ∷ a.code ∷ replicate 9 0)
    ++ ((4 ∷ a.conformer ∷ a.location ∷ replicate 9 0)
    ++ (5 ∷ v.serial ∷ a.name ∷ v.x ∷ v.y ∷ v.z ∷ v.occupancy ∷ v.b_factor ∷ v.element ∷ v.charge ∷ v.hetero ∷ 0 ∷ [])))

-- new words put in at record x, among n records, and the trailer set
unfoldable pub put : ℕ → ℕ → List ℕ → List ℕ → List ℕ
put x n new w =
    over (12 * x) new (set (gapped (12 * x) (length new) (12 * n) w) (length w - 1) (12 * n + length new))
