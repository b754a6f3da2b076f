-- The first or the last element that is marked. Assumes nothing.
use Rattle.std.specs.Prelude.{None, Option, Some, option_map}
use Prim.Native.Nat.{ℕ, suc, ◌+◌, ◌<◌}
use mathlib.Core.Path.{◌≡◌, refl, ap, ◌∙◌}
use mathlib.Core.Bool.{Bool, true, false, cond}
use mathlib.Core.List.{List, [], ◌∷◌, ◌++◌}
use native.Mathlib.Nat.{zero-add, suc-add}
use native.Mathlib.Omega.{arith}
use lib.ListN.{length}
use borrow.Author.Tests.{ne_eqb}
use Rattle.machine.specs.Lists.{or_else}
use Rattle.machine.specs.Record.{Words, kind}
use Rattle.machine.specs.Edit.{Which, first, last, pick}
use Rattle.laws.specs.Lists.{All}
use Rattle.insertion.specs.Pick.{marks}
use Rattle.insertion.specs.declared.Key.{Key}

-- what is picked where the first element is marked or not, by what is picked of the others
abbrev pub chosen : Which → Bool → Option ℕ → Option ℕ
chosen first b o = cond b (Some 0) (option_map suc o)
chosen last b o = or_else (option_map suc o) (cond b (Some 0) None)

pub or-none : (o : Option ℕ) → or_else o None ≡ o
or-none None = refl
or-none (Some x) = refl

one_more : (w : Which) (b : Bool) (q : Option ℕ) (n : ℕ) → ((i : ℕ) → q ≡ Some i → i < n) → (o : ℕ) → chosen w b q ≡ Some o → o < suc n
one_more first true q n f o e = let z : 0 ≡ o = cc in omega arith
one_more first false None n f o e = let z : ◌≡◌ {A = ℕ} 0 1 = cc in absurd (omega arith)
one_more first false (Some i) n f o e = let z : suc i ≡ o = cc in omega (arith, f i refl)
one_more last b (Some i) n f o e = let z : suc i ≡ o = cc in omega (arith, f i refl)
one_more last true None n f o e = let z : 0 ≡ o = cc in omega arith
one_more last false None n f o e = let z : ◌≡◌ {A = ℕ} 0 1 = cc in absurd (omega arith)

module _ {A : Type 0} (p : A → Bool) where
  -- an element that is not marked
  pub pick-pass : (w : Which) (x : A) (xs : List A) → p x ≡ false → pick w p (x ∷ xs) ≡ option_map suc (pick w p xs)
  pick-pass first x xs e = rw e
  pick-pass last x xs e = rw e (or-none (option_map suc (last_in xs)))
    where
      last_in : List A → Option ℕ
      last_in ys = pick last p ys

  map-zero : (o : Option ℕ) → o ≡ option_map (λ i. 0 + i) o
  map-zero None = refl
  map-zero (Some x) = rw zero-add

  map-suc : (n : ℕ) (o : Option ℕ) → option_map suc (option_map (λ i. n + i) o) ≡ option_map (λ i. suc n + i) o
  map-suc n None = refl
  map-suc n (Some x) = rw suc-add

  pub pick-over : (w : Which) (b rest : List A) → All (λ x. p x ≡ false) b → pick w p (b ++ rest) ≡ option_map (λ i. length b + i) (pick w p rest)
  pick-over w [] rest h = map-zero (pick w p rest)
  pick-over w (x ∷ b) rest h =
      pick-pass w x (b ++ rest) h.0 ∙ ap (option_map suc) (pick-over w b rest h.1) ∙ map-suc (length b) (pick w p rest)

  pub pick-within : (w : Which) (xs : List A) (o : ℕ) → pick w p xs ≡ Some o → o < length xs
  pick-within first [] o e = let z : ◌≡◌ {A = ℕ} 0 1 = cc in absurd (omega arith)
  pick-within last [] o e = let z : ◌≡◌ {A = ℕ} 0 1 = cc in absurd (omega arith)
  pick-within first (x ∷ xs) o e = one_more first (p x) (pick first p xs) (length xs) (pick-within first xs) o e
  pick-within last (x ∷ xs) o e = one_more last (p x) (pick last p xs) (length xs) (pick-within last xs) o e

-- a record of a higher kind is not marked
pub unmarked : (key : Key) (r : Words) → key.kind < kind r → marks key r ≡ false
unmarked key r l = rw (ne_eqb (kind r) key.kind (λ e. omega arith))
