-- Change request §7: a pattern has the class of the value that it stands for, and finite are exactly the patterns of the first three classes.
-- Assumes nothing.
use Rattle.std.proofs.Common.{ne_eqb, ltb-true, ltb-false, lt-ltb, le-ltb, sym, ap, ◌∙◌, zero-mul, mul-one, mul_assoc, mul-pos, mul-le-mul_left, mul-le-mul_right, mul-lt-mul_of_pos_right, arith, pow_pos}
use Rattle.std.specs.Prelude.{◌≡◌, refl, Bool, true, false, cond, ℕ, zero, suc, ◌+◌, ◌*◌, ◌/◌, ◌%◌, ◌^◌, ◌≤◌, ◌<◌, eqb, leb, ltb, Float}
use Rattle.std.proofs.lemmas.Bool.{false≢true}
use Rattle.std.proofs.Math.Dec.{eqb-suc-zero}
use Rattle.std.specs.Float.{nan, inf, fin, binary64}
use Rattle.std.specs.Float.Ieee.{up, down, lt, odd, of_fields, of_bits}
use Rattle.std.specs.Float.Ieee.Digits.{Equals, odd_val}
use Rattle.std.specs.Float.Ieee.Fits.{up_pos, down_pos}
use Rattle.machine.specs.Classes.{class_of_fields, class_of, least_normal, class_of_value, finite_class}
use Rattle.machine.specs.Record.{is_finite, finite}
use Rattle.machine.specs.declared.FloatClass.TheVariants.{Zero, Subnormal, Normal, Infinite, NotANumber}

-- ---- values: n units of 2 ^ -1074, the least number above zero; the least normal one is 2 ^ 52 of them

positive : (p : ℕ) → 0 < p → p ≡ 0 → ⊥
positive p h e = omega arith

-- a number is X / d of the least normal one, and p / d units
below : (X d p : ℕ) → X * 2 ^ 52 ≡ p → p < 2 ^ 52 * d → X < 1 * d
below X d p v h = omega arith

not-below : (X d p : ℕ) → X * 2 ^ 52 ≡ p → 2 ^ 52 * d ≤ p → 1 * d ≤ X
not-below X d p v h = omega arith

same-side : (X d n : ℕ) → 0 < d → X * 2 ^ 52 ≡ n * d → ltb X (1 * d) ≡ ltb n (2 ^ 52)
same-side X d n h v = go (ltb n (2 ^ 52)) refl
  where
    go : (l : Bool) → ltb n (2 ^ 52) ≡ l → ltb X (1 * d) ≡ l
    go true p = lt-ltb X (1 * d) (below X d (n * d) v (mul-lt-mul_of_pos_right (ltb-true n (2 ^ 52) p) h))
    go false p = le-ltb X (1 * d) (not-below X d (n * d) v (mul-le-mul_right d (ltb-false n (2 ^ 52) p)))

units-class : (x : Float) (n : ℕ) → Equals x n (2 ^ 1074) → class_of_value x ≡ cond (eqb n 0) Zero (cond (ltb n (2 ^ 52)) Subnormal Normal)
unfolding class_of_value lt
units-class nan n v = absurd v
units-class (inf s) n v = absurd v
units-class (fin s zero e) zero v = refl
units-class (fin s zero e) (suc n) v = absurd (positive (suc n * down e) (mul-pos (omega arith) (down_pos e)) (sym v ∙ nothing))
  where
    nothing : 0 * up e * 2 ^ 1074 ≡ 0
    nothing = ap (λ (y : ℕ). y * 2 ^ 1074) (zero-mul (up e)) ∙ zero-mul (2 ^ 1074)
units-class (fin s (suc m) e) zero v =
    absurd (positive (suc m * up e * 2 ^ 1074) (mul-pos (mul-pos (omega arith) (up_pos e)) (pow_pos 1074)) (v ∙ zero-mul (down e)))
units-class (fin s (suc m) e) (suc n) v =
    rw (eqb-suc-zero m, eqb-suc-zero n, same-side (suc m * up e * 2 ^ 1022) (down e) (suc n) (down_pos e) (mul_assoc (suc m * up e) (2 ^ 1022) (2 ^ 52) ∙ v))

-- ---- fields

small-class : (s : Bool) (t : ℕ) → t < 2 ^ 52 → cond (eqb t 0) Zero Subnormal ≡ class_of_value (odd 53 s t 0 1074)
small-class s t h = sym (units-class (odd 53 s t 0 1074) (t * 1) (odd_val 53 s t 0 1074) ∙ rw (mul-one t, lt-ltb t (2 ^ 52) h))

normal-class : (s : Bool) (x t : ℕ) → Normal ≡ class_of_value (odd 53 s (2 ^ 52 + t) x 1074)
normal-class s x t =
    let n = (2 ^ 52 + t) * 2 ^ x in
    let large : 2 ^ 52 ≤ n = let p = mul-le-mul_left (2 ^ 52 + t) (pow_pos x) in omega (arith, mul-one (2 ^ 52 + t)) in
    sym (units-class (odd 53 s (2 ^ 52 + t) x 1074) n (odd_val 53 s (2 ^ 52 + t) x 1074) ∙ rw (ne_eqb n 0 (λ (e : n ≡ 0). omega arith), le-ltb n (2 ^ 52) large))

fields-class : (s : Bool) (x t : ℕ) → t < 2 ^ 52 → class_of_fields x t ≡ class_of_value (of_fields binary64 s x t)
unfolding class_of_fields class_of_value of_fields
fields-class s zero t h = small-class s t h
fields-class s (suc x) t h = rw (eqb-suc-zero x) (go (eqb (suc x) 2047) (eqb t 0))
  where
    go : (e z : Bool) → cond e (cond z Infinite NotANumber) Normal ≡ class_of_value (cond e (cond z (inf s) nan) (odd 53 s (2 ^ 52 + t) x 1074))
    go true true = refl
    go true false = refl
    go false z = normal-class s x t

-- ---- patterns

-- "Each of the 2^64 patterns gets the class that IEEE 754 gives it": by its fields, and by the value that it stands for
pub class-value : (b : ℕ) → class_of b ≡ class_of_value (of_bits binary64 b)
unfolding class_of of_bits
class-value b =
    let e : b / 2 ^ 52 % 2 ^ 11 ≡ b % 2 ^ 63 / 2 ^ 52 = omega arith in
    rw e (fields-class (leb (2 ^ 63) b) (b % 2 ^ 63 / 2 ^ 52) (b % 2 ^ 52) (omega arith))

value-finite : (x : Float) → is_finite x ≡ finite_class (class_of_value x)
unfolding class_of_value
value-finite nan = refl
value-finite (inf s) = refl
value-finite (fin s m e) = go (eqb m 0) (lt (fin false m e) least_normal)
  where
    go : (z l : Bool) → true ≡ finite_class (cond z Zero (cond l Subnormal Normal))
    go true l = refl
    go false true = refl
    go false false = refl

-- "finite are exactly the first three"
pub finite-classes : (b : ℕ) → finite b ≡ finite_class (class_of b)
finite-classes b = value-finite (of_bits binary64 b) ∙ ap finite_class (sym (class-value b))

-- the exponent's field of a finite pattern isn't all ones
pub finite-field : (b : ℕ) → finite b ≡ true → b / 2 ^ 52 % 2 ^ 11 ≡ 2047 → ⊥
unfolding class_of class_of_fields
finite-field b f e = go (eqb (b % 2 ^ 52) 0) (sym (ap (λ (x : ℕ). finite_class (class_of_fields x (b % 2 ^ 52))) e) ∙ sym (finite-classes b) ∙ f)
  where
    go : (z : Bool) → finite_class (cond z Infinite NotANumber) ≡ true → ⊥
    go true p = false≢true p
    go false p = false≢true p
