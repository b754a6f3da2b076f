-- Twelve words as a record: what `good_record` asks of them at each kind, and an atom read out. Assumes nothing.
use Prim.Native.Nat.{ℕ, zero, suc, ◌+◌, ◌-◌, ◌≤◌}
use mathlib.Core.Path.{◌≡◌, refl, sym, ◌∙◌}
use mathlib.Core.Bool.{Bool, true, false, ◌&&◌, false≢true, and-false, and-true, and_assoc}
use mathlib.Core.List.{List, [], ◌∷◌}
use native.Mathlib.Omega.{arith}
use lib.ListN.{length, get_or, take, drop, replicate}
use lib.Dec.{leb, eqb}
use lib.IntN.{ℤ}
use lib.Ieee.{Float, binary64, of_bits}
use mir.Syntax.{w64}
use mir.Val.{SFits, to_z, of_z}
use mir.Facts.{to_z-of_z}
use borrow.Author.Tests.{eq-eqb, eqb-true, leb-true, leb-false}
use Rattle.machine.specs.Lists.{all, same}
use Rattle.laws.specs.Lists.{and_both}
use Rattle.machine.specs.Text.{chain_id, insertion_code, conformer_name, alternative_location, atom_name, stored_by, absent_or}
use Rattle.machine.specs.Record.{Words, words, kind, finite, fields_of, good_values, good_fields, good_record, read_out}
use Rattle.machine.specs.declared.AtomRec.{AtomRec}

-- ---- twelve words

peel : (P : Words → Type 0) (n : ℕ) → ((a : ℕ) (r : Words) → length r ≡ n → P (a ∷ r)) → (r : Words) → length r ≡ suc n → P r
peel P n f [] h = absurd (omega arith)
peel P n f (a ∷ r) h = f a r (omega arith)

none : (P : Words → Type 0) → P [] → (r : Words) → length r ≡ 0 → P r
none P p [] h = p
none P p (a ∷ r) h = absurd (omega arith)

-- what holds of every twelve words written out holds of a list of length 12
twelve : (P : Words → Type 0) → ((a b c d e f g h i j k l : ℕ) → P (a ∷ b ∷ c ∷ d ∷ e ∷ f ∷ g ∷ h ∷ i ∷ j ∷ k ∷ l ∷ [])) → (r : Words) → length r ≡ 12 → P r
twelve P p =
    peel P 11 λ a. peel _ 10 λ b. peel _ 9 λ c. peel _ 8 λ d. peel _ 7 λ e. peel _ 6 λ f. peel _ 5 λ g. peel _ 4 λ h. peel _ 3 λ i. peel _ 2 λ j. peel _ 1 λ k. peel _ 0 λ l. none _ (p a b c d e f g h i j k l)

abbrev zeros : List ℕ
zeros = replicate 9 0

pub unnamed-zero : (r : Words) → length r ≡ 12 → eqb (get_or r 3 0) 0 && eqb (get_or r 4 0) 0 && eqb (get_or r 5 0) 0 && eqb (get_or r 6 0) 0 && eqb (get_or r 7 0) 0 && eqb (get_or r 8 0) 0 && eqb (get_or r 9 0) 0 && eqb (get_or r 10 0) 0 && eqb (get_or r 11 0) 0 ≡ same (drop 3 r) zeros
unnamed-zero = twelve _ (λ a b c d e f g h i j k l. simp (and_assoc, and-true))

pub finite-words : (r : Words) → length r ≡ 12 → finite (get_or r 3 0) && finite (get_or r 4 0) && finite (get_or r 5 0) && finite (get_or r 6 0) && finite (get_or r 7 0) ≡ all finite (take 5 (drop 3 r))
finite-words = twelve _ (λ a b c d e f g h i j k l. simp (and_assoc, and-true))

-- ---- a record of each kind

eqb_same : (x : ℕ) → eqb x x ≡ true
eqb_same x = eq-eqb x x refl

pub atom-record : (r : Words) → length r ≡ 12 →
    eqb (get_or r 0 0) 5 && eqb (get_or r 11 0) 0 && stored_by atom_name (get_or r 2 0) && all finite (take 5 (drop 3 r)) && leb (get_or r 8 0) 118 && leb (get_or r 10 0) 1 ≡ good_record 0 r
unfolding good_record words fields_of good_fields good_values
atom-record = twelve _ (λ a b c d e f g h i j k l. simp (eqb_same, and-true, and_assoc))

pub conformer-record : (r : Words) → length r ≡ 12 → kind r ≡ 4 →
    same (drop 3 r) zeros && stored_by conformer_name (get_or r 1 0) && absent_or alternative_location (get_or r 2 0) ≡ good_record (5 - kind r) r
unfolding good_record words fields_of good_fields
conformer-record = twelve _ (λ a b c d e f g h i j k l q. rw q (simp (eqb_same, and_assoc)))

pub residue-record : (r : Words) → length r ≡ 12 → kind r ≡ 3 → same (drop 3 r) zeros && absent_or insertion_code (get_or r 2 0) ≡ good_record (5 - kind r) r
unfolding good_record words fields_of good_fields
residue-record = twelve _ (λ a b c d e f g h i j k l q. rw q (simp eqb_same))

pub chain-record : (r : Words) → length r ≡ 12 → kind r ≡ 2 → eqb (get_or r 2 0) 0 && same (drop 3 r) zeros && stored_by chain_id (get_or r 1 0) ≡ good_record (5 - kind r) r
unfolding good_record words fields_of good_fields
chain-record = twelve _ (λ a b c d e f g h i j k l q. rw q (simp eqb_same))

pub model-record : (r : Words) → length r ≡ 12 → kind r ≡ 1 → eqb (get_or r 2 0) 0 && same (drop 3 r) zeros ≡ good_record (5 - kind r) r
unfolding good_record words fields_of good_fields
model-record = twelve _ (λ a b c d e f g h i j k l q. rw q (simp (eqb_same, and-true)))

pub atom-kind : (r : Words) → good_record 0 r ≡ true → kind r ≡ 5
unfolding good_record words fields_of
atom-kind [] h = absurd (false≢true h)
atom-kind (a ∷ r) h = eqb-true a 5 (and_both (eqb a 5) _ (and_both _ _ h).0).0

-- 5 - 0 is no level
pub no_record : (r : Words) → kind r ≤ 4 → (kind r ≡ 4 → ⊥) → (kind r ≡ 3 → ⊥) → (kind r ≡ 2 → ⊥) → (kind r ≡ 1 → ⊥) → false ≡ good_record (5 - kind r) r
unfolding good_record good_fields
no_record r most b c d e =
    let z : 5 - kind r ≡ 5 = omega arith in
    rw z (sym (and-false (same r (words 5 (fields_of 5 r)))))

pub good-low : (r : Words) → kind r ≤ 4 → good_record (5 - kind r) r ≡ true → 1 ≤ kind r
good-low r most g = go (leb 1 (kind r)) refl
  where
    go : (b : Bool) → leb 1 (kind r) ≡ b → 1 ≤ kind r
    go true q = leb-true 1 (kind r) q
    go false q =
        let l = leb-false 1 (kind r) q in
        let no : (k : ℕ) → 1 ≤ k → kind r ≡ k → ⊥ = λ k h e. omega arith in
        absurd (false≢true (no_record r most (no 4 (omega arith)) (no 3 (omega arith)) (no 2 (omega arith)) (no 1 (omega arith)) ∙ g))

-- ---- an atom read out

module _ (w : List ℕ) (at : ℕ) where
  -- of the twelve as the code takes them
  abbrev word : ℕ → ℕ
  word j = get_or (take (at + 12 - at) (drop at w)) j 0

  pub atom-read : {x y z o b : Float} {c : ℤ} → x ≡ of_bits binary64 (word 3) → y ≡ of_bits binary64 (word 4) → z ≡ of_bits binary64 (word 5) → o ≡ of_bits binary64 (word 6) → b ≡ of_bits binary64 (word 7) → c ≡ to_z w64 (word 9) → SFits w64 c →
      ◌≡◌ {A = AtomRec} (record { serial = word 1; name = word 2; x = x; y = y; z = z; occupancy = o; b_factor = b; element = word 8; charge = to_z w64 (of_z w64 c); hetero = eqb (word 10) 1 }) (read_out (fields_of zero (take 12 (drop at w))))
  unfolding read_out fields_of
  atom-read e₁ e₂ e₃ e₄ e₅ e₆ k =
      let t : at + 12 - at ≡ 12 = omega arith in
      rw (to_z-of_z k, e₁, e₂, e₃, e₄, e₅, e₆, t)
