-- Document 01, "Serial lookup". Assumes nothing.
use Rattle.std.specs.Prelude.{ℕ, zero, suc, Bool, false, ◌&&◌, cond, List, [], ◌∷◌, leb, eqb, Err, None, Ok, Option, Some}
use Rattle.machine.specs.Lists.{any, last_of, concat_map, and_then}
use Rattle.machine.specs.Answer.{Result, ◌>>=◌, ◌>>◌, need, bad_name, looked_up_numbers}
use Rattle.machine.specs.Text.{Optional, good_flag, matches_optional}
use Rattle.machine.specs.Store.{Branch, Machine, read_store}
use Rattle.machine.specs.Find.{numbered}
use Rattle.machine.specs.declared.Name.TheVariants.{AlternativeLocation}
use Rattle.machine.specs.declared.RecordNumbers.{RecordNumbers}

abbrev pub first_of : {A : Type 0} → (A → Bool) → List A → Option A
first_of p [] = None
first_of p (x ∷ xs) = cond (p x) (Some x) (first_of p xs)

unfoldable pub serials : (k : ℕ) → Branch k → List ℕ
serials zero a = a.serial ∷ []
serials (suc k) t = concat_map (serials k) t.1

-- "with atoms whose first to last serial spans the number"
abbrev pub spans : ℕ → List ℕ → Bool
spans n [] = false
spans n (s ∷ ss) = leb s n && leb n (last_of s ss)

-- the first child, of the branch of record number n, at which p holds
abbrev pub first_child : (k : ℕ) → (Branch k → Bool) → ℕ × Branch (suc k) → Option (ℕ × Branch k)
first_child k p t = first_of (λ u. p u.1) (numbered k (suc t.0) t.1.1)

abbrev pub has_atom : ℕ → Optional → Branch 1 → Bool
has_atom serial location f = matches_optional location f.0.location && (spans serial (serials 1 f) && any (eqb serial) (serials 1 f))

-- "the first chain with atoms whose first to last serial spans the number; in it the first such residue; in it the first
-- conformer with equal location, such a span and an atom of that serial; its first such atom. Else none."
unfoldable pub lookup_in : ℕ → Optional → ℕ × Branch 4 → Option RecordNumbers
lookup_in serial location model =
    and_then (first_child 3 (λ t. spans serial (serials 3 t)) model) λ chain.
    and_then (first_child 2 (λ t. spans serial (serials 2 t)) chain) λ residue.
    and_then (first_child 1 (has_atom serial location) residue) λ conformer.
    and_then (first_child 0 (λ a. eqb serial a.serial) conformer) λ atom.
    Some (record { model = model.0; chain = chain.0; residue = residue.0; conformer = conformer.0; atom = atom.0 })

-- "in the first model"
abbrev pub in_first : ℕ → Optional → Machine → Option RecordNumbers
in_first serial location [] = None
in_first serial location (t ∷ ts) = lookup_in serial location (0, t)

-- the answer's numbers; change request §2: "By-id removals and lookup answer a bad flag the same way."
unfoldable pub lookup_run : List ℕ → ℕ → Optional → List ℕ
lookup_run w serial location = looked_up_numbers do
  m ← read_store w
  need (good_flag location) (bad_name AlternativeLocation)
  Ok (in_first serial location m)
