-- What the contracts of `src/` cite: records laid out, those that have atoms, and where they stand once gathered. Assumes nothing.
use Rattle.std.specs.Prelude.{ℕ, ◌+◌, ◌*◌, ◌≤◌, ◌<◌, ◌≡◌, Bool, false, not, ◌||◌, List, [], ◌∷◌, length, ltb, eqb}
use Rattle.machine.specs.Lists.{keep, filter}
use Rattle.machine.specs.Record.{Words, Atom, kind, fields_of}
use Rattle.machine.specs.Store.{laid, records_of}
use Rattle.laws.specs.Grouped.{concat}
use Rattle.moves.specs.Over.{over, Twelve}
use Rattle.seek.specs.Seek.{records_in}

-- words that are records, zeros and the trailer. Nothing is said of kinds, so it holds in the middle of an edit too
pub record Laid (w : List ℕ) : Type 0 where
  pub twelve : Twelve (records_of w)
  pub room : 12 * length (records_of w) < length w
  pub is : w ≡ laid (length w) (concat (records_of w))

-- ---- "conformers without atoms, then residues without conformers, then chains without residues"

-- whether the first record has a kind above h
abbrev pub leads : ℕ → List Words → Bool
leads h [] = false
leads h (r ∷ rs) = ltb h (kind r)

-- an atom stays, and so does a record with something below it among those that stay after it
abbrev pub stays : Words → List Words → Bool
stays r after = eqb (kind r) 5 || leads (kind r) after

-- the records that stay: from the last to the first, so that what is emptied goes too
unfoldable pub full : List Words → List Words
full [] = []
full (r ∷ rs) = keep (stays r (full rs)) r (full rs)

-- of w's records from `from` up to `end` those that stay stand from `to` on, up to `end`
pub record Gathered (from end : ℕ) (w : List ℕ) (to : ℕ) (s : List ℕ) : Type 0 where
  pub low : from ≤ to
  pub count : to + length (full (records_in from end w)) ≡ end
  pub is : s ≡ over (to * 12) (concat (full (records_in from end w))) w

-- ---- a pass that keeps the records at which p holds, and the atoms at which another does

-- of w's records from `from` up to `at` those at which p holds stand from `from` on, up to `to`
pub record Compacted (p : Words → Bool) (from at : ℕ) (w : List ℕ) (to : ℕ) (s : List ℕ) : Type 0 where
  pub count : from + length (filter p (records_in from at w)) ≡ to
  pub is : s ≡ over (from * 12) (concat (filter p (records_in from at w))) w

-- a record stays where it is no atom, or one at which p holds
abbrev pub kept : (Atom → Bool) → Words → Bool
kept p r = not (eqb (kind r) 5) || p (fields_of 0 r)
