-- Words compare as the crate's texts do, and its arms give the terms' values. Assumes nothing.
use Rattle.std.specs.Prelude.{None, Some}
use Rattle.std.proofs.Common.{◌≡◌, ℕ, zero, suc, ◌/◌, ◌%◌, ◌^◌, ◌<◌, Bool, true, false, cond, ◌&&◌, ◌||◌, eqb, ltb, leb, List, [], ◌∷◌, map, sym, refl, ap, ◌∙◌, ap₂, mod-lt, div-add-mod', arith, le-ltb, lt-ltb, eq-eqb, ne_eqb, eqb-true, le-leb}
use Prim.Native.String.{String}
use mathlib.Core.Bool.{and-false, false≢true}
use native.Mathlib.Nat.{one-le-pow}
use borrow.Author.Tests.{eqb-false}
use Rattle.machine.specs.Lists.{all, same, is_empty, bytes}
use Rattle.machine.specs.Text.{packed, unpacked, before_zeros, without_zeros, text_of, before}
use Rattle.machine.specs.Query.{member, packed_name, tables}
use Rattle.laws.specs.Lists.{and_both, same_true, same_refl}
use Rattle.laws.specs.Packing.{both_ways, text_of-injective, order-digit}
use Rattle.pdbtbx.specs.Std.{same_option}
use Rattle.pdbtbx.specs.Words.{string, option_string}
use Rattle.pdbtbx.specs.Matches.{AMINO-ACIDS, BACKBONE-NAMES, contains}

-- ---- equal

pub same-string : (v w : ℕ) → same (string v) (string w) ≡ eqb v w
same-string v w =
    both_ways (same (text_of v) (text_of w)) (eqb v w)
    (λ h. eq-eqb v w (text_of-injective v w (same_true (text_of v) (text_of w) h)))
    (λ h. rw (eqb-true v w h) (same_refl (text_of w)))

pub eqb_swap : (a b : ℕ) → eqb a b ≡ eqb b a
eqb_swap a b =
    both_ways (eqb a b) (eqb b a) (λ h. eq-eqb b a (sym (eqb-true a b h))) (λ h. eq-eqb a b (sym (eqb-true b a h)))

pub same-option : (v w : ℕ) → same_option (option_string v) (option_string w) ≡ eqb v w
same-option v w = go (eqb v 0) (eqb w 0) refl refl
  where
    go : (a b : Bool) → eqb v 0 ≡ a → eqb w 0 ≡ b → same_option (cond a None (Some (text_of v))) (cond b None (Some (text_of w))) ≡ eqb v w
    go true true e f = sym (eq-eqb v w (eqb-true v 0 e ∙ sym (eqb-true w 0 f)))
    go true false e f = let z = eqb-true v 0 e in let n = eqb-false w 0 f in sym (ne_eqb v w (λ i. omega arith))
    go false true e f = let z = eqb-true w 0 f in let n = eqb-false v 0 e in sym (ne_eqb v w (λ i. omega arith))
    go false false e f = same-string v w

-- ---- in order

empty-nil : (t : List ℕ) → is_empty t ≡ true → t ≡ []
empty-nil [] h = refl
empty-nil (x ∷ xs) h = absurd (false≢true h)

zero-first : (y : ℕ) (t : List ℕ) → true ≡ (ltb 0 y || (eqb 0 y && before [] t))
unfolding before
zero-first zero t = refl
zero-first (suc y) t = rw (lt-ltb 0 (suc y) (omega arith))

zero-last : (x : ℕ) (s : List ℕ) → eqb x 0 && is_empty s ≡ false → false ≡ (ltb x 0 || (eqb x 0 && before s []))
unfolding before
zero-last x [] h = rw (le-ltb x 0 (omega arith)) (go (eqb x 0) h)
  where
    go : (b : Bool) → b && true ≡ false → false ≡ b && true
    go true h = sym h
    go false h = refl
zero-last x (z ∷ zs) h = rw (le-ltb x 0 (omega arith), and-false)

-- the first digit decides, then the rest; zeros at the end don't matter
before-digits : (x y : ℕ) (s t : List ℕ) → before (before_zeros x s) (before_zeros y t) ≡ (ltb x y || (eqb x y && before s t))
unfolding before
before-digits x y s t = go (eqb x 0 && is_empty s) (eqb y 0 && is_empty t) refl refl
  where
    go : (a b : Bool) → eqb x 0 && is_empty s ≡ a → eqb y 0 && is_empty t ≡ b → before (cond a [] (x ∷ s)) (cond b [] (y ∷ t)) ≡ (ltb x y || (eqb x y && before s t))
    go true b e f =
        let h = and_both (eqb x 0) (is_empty s) e in
        rw (eqb-true x 0 h.0, empty-nil s h.1) (zero-first y t)
    go false true e f =
        let h = and_both (eqb y 0) (is_empty t) f in
        rw (eqb-true y 0 h.0, empty-nil t h.1) (zero-last x s e)
    go false false e f = refl

module _ (n v w : ℕ) where
  small : (u : ℕ) → u % 256 ^ n < 256 ^ n
  small u = mod-lt u (one-le-pow n 256 (omega arith))

  step : before (without_zeros (unpacked n (v % 256 ^ n))) (without_zeros (unpacked n (w % 256 ^ n))) ≡ leb (v % 256 ^ n) (w % 256 ^ n)
      → before (without_zeros (unpacked (suc n) v)) (without_zeros (unpacked (suc n) w)) ≡ leb v w
  unfolding without_zeros unpacked
  step h =
      before-digits (v / 256 ^ n) (w / 256 ^ n) (without_zeros (unpacked n (v % 256 ^ n))) (without_zeros (unpacked n (w % 256 ^ n)))
      ∙ ap (λ (b : Bool). ltb (v / 256 ^ n) (w / 256 ^ n) || (eqb (v / 256 ^ n) (w / 256 ^ n) && b)) h
      ∙ sym (order-digit (v / 256 ^ n) (w / 256 ^ n) (256 ^ n) (v % 256 ^ n) (w % 256 ^ n) (small v) (small w))
      ∙ ap₂ leb (div-add-mod' v (256 ^ n)) (div-add-mod' w (256 ^ n))

digits-order : (n v w : ℕ) → v < 256 ^ n → w < 256 ^ n → before (without_zeros (unpacked n v)) (without_zeros (unpacked n w)) ≡ leb v w
unfolding without_zeros unpacked before
digits-order zero v w l m = sym (le-leb v w (omega arith))
digits-order (suc n) v w l m = step n v w (digits-order n (v % 256 ^ n) (w % 256 ^ n) (small n v w v) (small n v w w))

-- words are ordered as their texts are, whatever the words
pub before-string : (v w : ℕ) → before (string v) (string w) ≡ leb v w
unfolding text_of
before-string v w = step 7 v w (digits-order 7 (v % 256 ^ 7) (w % 256 ^ 7) (small 7 v w v) (small 7 v w w))

-- ---- names

abbrev pub packs : String → Bool
packs s = same (bytes s) (text_of (packed_name s))

pub contains-member : (names : List String) (w : ℕ) → all packs names ≡ true → contains names (string w) ≡ member (map packed_name names) w
contains-member [] w h = refl
contains-member (s ∷ ss) w h =
    let b = and_both (packs s) (all packs ss) h in
    let e : same (string w) (bytes s) ≡ eqb w (packed_name s) = ap (same (string w)) (same_true (bytes s) (text_of (packed_name s)) b.0) ∙ same-string w (packed_name s) in
    ap₂ ◌||◌ e (contains-member ss w b.1)

pub among-amino-acids : (w : ℕ) → contains AMINO-ACIDS (string w) ≡ member tables.residues w
unfolding AMINO-ACIDS tables text_of without_zeros unpacked packed
among-amino-acids w = contains-member AMINO-ACIDS w refl

pub among-backbone : (w : ℕ) → contains BACKBONE-NAMES (string w) ≡ member tables.atoms w
unfolding BACKBONE-NAMES tables text_of without_zeros unpacked packed
among-backbone w = contains-member BACKBONE-NAMES w refl
