-- What callers of `check` learn: the machine that a good store holds, and the answers that a refused one gives. Assumes nothing.
use Rattle.std.specs.Prelude.{Err, Ok}
use Prim.Native.Nat.{ℕ}
use mathlib.Core.Path.{◌≡◌, refl, sym, ap, ◌∙◌}
use mathlib.Core.Bool.{Bool, true, false}
use mathlib.Core.List.{List}
use native.Mathlib.Omega.{arith}
use lib.ListN.{length}
use Rattle.machine.specs.Answer.{Result, ◌>>◌, need, edited_numbers, counted_numbers, looked_up_numbers}
use Rattle.machine.specs.Text.{Optional}
use Rattle.machine.specs.Record.{Words}
use Rattle.machine.specs.Store.{Machine, stored, good_length, records_of, in_order, good_layout, group, read_store}
use Rattle.machine.specs.Find.{hits_from, find_from}
use Rattle.machine.specs.Edit.{Change, step_by}
use Rattle.machine.specs.Lookup.{lookup_run}
use Rattle.machine.specs.declared.Refusal.{Refusal}
use Rattle.machine.specs.declared.Refusal.TheVariants.{BadLength, BrokenLayout}
use Rattle.laws.specs.Ordered.{flats-group}
use Rattle.seek.specs.Seek.{atom_records}
use Rattle.seek.proofs.Laws.{atom_records-stored}
use Rattle.store.specs.Store.{checked_by}

-- records in order have as many atoms as the machine that they group to
pub atoms-grouped : (rs : List Words) → in_order 0 rs ≡ true → atom_records rs ≡ stored (group 4 rs)
atoms-grouped rs o = ap atom_records (sym (flats-group rs o)) ∙ atom_records-stored (group 4 rs)

-- ---- a good store

-- w holds a machine of n atoms
pub record Held (w : List ℕ) (n : ℕ) : Type 0 where
  pub read : read_store w ≡ Ok (group 4 (records_of w))
  pub atoms : n ≡ stored (group 4 (records_of w))

pub good-store : {n : ℕ} (w : List ℕ) → Ok n ≡ checked_by (read_store w) → Held w n
unfolding read_store
good-store {n} w h = record { read = (go (good_length (length w)) (good_layout w) h).0; atoms = (go (good_length (length w)) (good_layout w) h).1 }
  where
    m : Machine
    m = group 4 (records_of w)

    go : (a b : Bool) → Ok n ≡ checked_by (need a BadLength >> (need b BrokenLayout >> Ok m)) → ((need a BadLength >> (need b BrokenLayout >> Ok m)) ≡ Ok m) × (n ≡ stored m)
    go true true q = (refl, cc)
    go true false q = let z : ◌≡◌ {A = ℕ} 0 1 = cc in absurd (omega arith)
    go false b q = let z : ◌≡◌ {A = ℕ} 0 1 = cc in absurd (omega arith)

-- ---- a refused store

refused-read : {c : Refusal} (x : Result Machine) → Err c ≡ checked_by x → x ≡ Err c
refused-read (Ok m) q = let z : ◌≡◌ {A = ℕ} 0 1 = cc in absurd (omega arith)
refused-read (Err d) q = cc

module _ {c : Refusal} (w : List ℕ) (h : Err c ≡ checked_by (read_store w)) where
  pub refused-store : read_store w ≡ Err c
  refused-store = refused-read (read_store w) h

  pub refused-find : (start t out : List ℕ) → find_from w start t out ≡ (counted_numbers (Err c), out)
  unfolding find_from hits_from
  refused-find start t out = rw refused-store

  pub refused-step : (step : Machine → Result Change) → step_by w step ≡ (edited_numbers (Err c), w)
  unfolding step_by
  refused-step step = rw refused-store

  pub refused-lookup : (serial : ℕ) (location : Optional) → lookup_run w serial location ≡ looked_up_numbers (Err c)
  unfolding lookup_run
  refused-lookup serial location = rw refused-store
