-- An accepted copy is a store that holds exactly the same structure. Assumes nothing.
use Rattle.std.specs.Prelude.{Err, Ok}
use Prim.Native.Nat.{ℕ}
use mathlib.Core.Path.{◌≡◌, refl, ap}
use mathlib.Core.Bool.{Bool, true, false}
use mathlib.Core.List.{List, [], ◌∷◌}
use native.Mathlib.Omega.{arith}
use lib.ListN.{length, get_or}
use lib.Dec.{leb}
use borrow.Author.Tests.{leb-true, eqb-false}
use Rattle.machine.specs.Answer.{Result, ◌>>=◌, ◌>>◌, need, refusal_number}
use Rattle.machine.specs.Store.{Machine, records, capacity, good_length, read_store}
use Rattle.machine.specs.declared.Refusal.TheVariants.{BadLength, NoCapacity}
use Rattle.laws.specs.Layout.{read-lay_out, read-fit}
use Rattle.laws.specs.Steps.{refusal-number}
use Rattle.copies.specs.Copy.{room, copied_into, copy_run}

module _ (from to : List ℕ) where
  abbrev Same : Result Machine → Result Machine → Type 0
  Same r x = (copied_into to x).0 ≡ 0 ∷ [] → read_store (copied_into to x).1 ≡ r

  by-room : (m : Machine) → read_store from ≡ Ok m → (a b : Bool) → good_length (length to) ≡ a → leb (length (records m)) (capacity (length to)) ≡ b
      → Same (Ok m) (need a BadLength >> (need b NoCapacity >> Ok m))
  by-room m h true true p q e = read-lay_out (length to) m p record { good = (read-fit from m h).good; room = leb-true _ _ q }
  by-room m h true false p q e = let z : ◌≡◌ {A = ℕ} 8 0 = ap (λ (l : List ℕ). get_or l 0 0) e in absurd (omega arith)
  by-room m h false b p q e = let z : ◌≡◌ {A = ℕ} 1 0 = ap (λ (l : List ℕ). get_or l 0 0) e in absurd (omega arith)

  by_read : (r : Result Machine) → read_store from ≡ r → Same r (r >>= room (length to))
  by_read (Ok m) h e = by-room m h (good_length (length to)) (leb (length (records m)) (capacity (length to))) refl refl e
  by_read (Err c) h e = absurd (eqb-false (refusal_number c) 0 (refusal-number c) (ap (λ (l : List ℕ). get_or l 0 0) e))

  pub same-structure : (copy_run from to).0 ≡ 0 ∷ [] → read_store (copy_run from to).1 ≡ read_store from
  unfolding copy_run
  same-structure e = by_read (read_store from) refl e
