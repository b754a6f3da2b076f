-- What the contracts of `src/` cite: where a pass stands, as a site of the store, and its turn at a record. Assumes nothing.
use Rattle.std.specs.Prelude.{ℕ, ◌-◌, ◌≤◌, ◌<◌, ◌≡◌, cond, List, [], ◌∷◌, take}
use Rattle.machine.specs.Kleene.{is_hit}
use Rattle.machine.specs.Query.{tree_value, window}
use Rattle.machine.specs.Find.{Site}
use Rattle.machine.specs.declared.RecordNumbers.{RecordNumbers}
use Rattle.machine.specs.declared.Tri.{Tri}
use Rattle.machine.specs.declared.Tri.TheVariants.{True}
use Rattle.terms.specs.Levels.{place_at, term_value_at}
use Rattle.descent.specs.declared.State.{State}

-- ---- where a pass stands: five record numbers, of which the first d are the records that the next one may stand under

abbrev pub five : RecordNumbers → List ℕ
five at = at.model ∷ at.chain ∷ at.residue ∷ at.conformer ∷ at.atom ∷ []

unfoldable pub site_at : List ℕ → ℕ → RecordNumbers → Site
site_at w d at = record { numbers = take d (five at); place = window 1 d (place_at w at) }

-- the numbers are at most n
pub record UpTo (n : ℕ) (at : RecordNumbers) : Type 0 where
  pub model : at.model ≤ n
  pub chain : at.chain ≤ n
  pub residue : at.residue ≤ n
  pub conformer : at.conformer ≤ n
  pub atom : at.atom ≤ n

-- ---- a turn

-- how many records the next one may stand under, by a tree's value at a record of kind k: one that is false isn't entered
abbrev pub depth_after : ℕ → Tri → ℕ
depth_after k v = cond (is_hit v) k (k - 1)

-- a tree's value at five records, by the last kind that is known
abbrev pub value_by : List ℕ → List ℕ → ℕ → List ℕ → List ℕ → RecordNumbers → ℕ → Tri
value_by w t low residues atoms at k = tree_value (term_value_at w at low k residues atoms) t

-- with kinds up to s known the value is true, where s is below k
abbrev pub Settled : (ℕ → Tri) → ℕ → ℕ → Type 0
Settled v s k = s < k → v s ≡ True

-- the state after a record of kind k, at which the tree has the value v k
pub record Turned (v : ℕ → Tri) (k : ℕ) (r : State) : Type 0 where
  pub live : r.live ≡ depth_after k (v k)
  pub settled : Settled v r.settled 5
