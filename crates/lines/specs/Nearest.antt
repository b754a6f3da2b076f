-- Change request §9, "Decimals become the nearest f64, halves to even": the nearest f64 of a decimal rounds to that decimal again, has its sign, and
-- is the quotient of two f64 values. Assumes nothing.
use Prim.Native.Nat.{ℕ, zero, suc, ◌+◌, ◌-◌, ◌*◌, ◌/◌, ◌%◌, ◌^◌, ◌≤◌, ◌<◌, compare, Ordering}
use Rattle.std.specs.Prelude.{◌≡◌, refl, Bool, true, false, not, cond, T, ltb, leb, eqb, pos, Float}
use Rattle.std.proofs.Common.{sym, ap, ◌∙◌, subst, mul_comm, mul_assoc, mul-one, one-mul, zero-mul, mul_left_comm, add-mul, suc-mul, mul-le-mul_left, le_of_lt, lt_irrefl, zero-lt-suc, add-zero, mul-lt-mul_of_pos_right, mul-pos, div-add-mod', mod-lt, le-div_iff_mul-le, lt_of_lt_of_le, arith, add-one, lit≤, pow-add, pow_pos, ne_eqb, leb-true, leb-false, eqb-true, ltb-true, ltb-false, lt-ltb, le-ltb}
use Rattle.std.proofs.Math.Nat.{one-le-pow, div-eq_of_lt-le}
use Rattle.std.proofs.Math.Dec.{is_le, compare_is_eq}
use Rattle.std.specs.Float.Ieee.{unlike, is_nan, up, down, round, of_bits, to_bits, odd, of_fields, neg, div, of_int, units, size, nearest, low}
use Rattle.std.specs.Float.{nan, inf, fin, binary64}
use Rattle.std.specs.Float.Ieee.Fits.{down_pos, round-fits, round_is}
use Rattle.std.specs.Float.Ieee.Bits.{of_bits-to_bits}
use Rattle.std.specs.Float.Ieee.Exact.{HasValue, units_val}
use Rattle.std.specs.Float.Ieee.Back.{round_whole}
use Rattle.std.specs.Float.Ieee.Nearest.{closest}
use Rattle.std.specs.Float.Ieee.Scale.{round_same, grid}
use Rattle.std.specs.Float.Ieee.Order.{drop, kept}
use Rattle.std.specs.Float.Ieee.Digits.{size_reaches}
use Rattle.machine.specs.Rounding.{at_half, nearest_whole, in_units, rounded, nearest_bits}
use Rattle.laws.specs.Rounding.{units-of-value}

-- a fraction less than a half above n, and one less than a half below n + 1
above : (a b n : ℕ) → n * b ≤ a → a * 2 < n * b * 2 + b → nearest_whole a b ≡ n
unfolding nearest_whole
above a b n l k =
    let e : a / b ≡ n = div-eq_of_lt-le b l (omega (arith, add-mul n 1 b, one-mul b)) in
    let f : n * b + a % b ≡ a = ap (λ (z : ℕ). z * b + a % b) (sym e) ∙ div-add-mod' a b in
    ap (λ (t : Bool). cond t (a / b) (cond (ltb b (a % b * 2)) (suc (a / b)) (at_half (a / b)))) (lt-ltb (a % b * 2) b (omega arith)) ∙ e

below : (a b n : ℕ) → a < n * b + b → n * b * 2 + b < a * 2 → nearest_whole a b ≡ suc n
unfolding nearest_whole
below a b n l k =
    let e : a / b ≡ n = div-eq_of_lt-le b (omega arith) (omega (arith, add-mul n 1 b, one-mul b)) in
    let f : n * b + a % b ≡ a = ap (λ (z : ℕ). z * b + a % b) (sym e) ∙ div-add-mod' a b in
    ap (λ (t : Bool). cond t (a / b) (cond (ltb b (a % b * 2)) (suc (a / b)) (at_half (a / b)))) (le-ltb (a % b * 2) b (omega arith))
    ∙ ap (λ (t : Bool). cond t (suc (a / b)) (at_half (a / b))) (lt-ltb b (a % b * 2) (omega arith))
    ∙ ap suc e

-- a fraction less than a half away from n
nearest-is : (a b n : ℕ) → n * b * 2 < a * 2 + b → a * 2 < n * b * 2 + b → nearest_whole a b ≡ n
nearest-is a b n h k = go (ltb a (n * b)) refl n h k refl
  where
    go : (t : Bool) → ltb a (n * b) ≡ t → (p : ℕ) → p * b * 2 < a * 2 + b → a * 2 < p * b * 2 + b → n ≡ p → nearest_whole a b ≡ p
    go false e p h k f = above a b p (subst (λ (z : ℕ). z * b ≤ a) f (ltb-false a (n * b) e)) k
    go true e zero h k f = absurd (omega (arith, subst (λ (z : ℕ). a < z * b) f (ltb-true a (n * b) e), zero-mul b))
    go true e (suc p) h k f =
        let l : a < suc p * b = subst (λ (z : ℕ). a < z * b) f (ltb-true a (n * b) e) in
        let m : suc p * b ≡ p * b + b = suc-mul p b in
        below a b p (omega arith) (omega arith)

-- ---- the nearest f64, and back

-- `closest`, IEEE 754's rounding to a whole number, is at most a half away
abbrev Near : ℕ → ℕ → ℕ → Type 0
Near n u c = (c * u * 2 ≤ n * 2 + u) × (n * 2 ≤ c * u * 2 + u)

near_down : (n u q r : ℕ) → q * u + r ≡ n → r * 2 ≤ u → Near n u q
near_down n u q r e h = omega arith

near_up : (n u q r : ℕ) → q * u + r ≡ n → u ≤ r * 2 → r ≤ u → Near n u (suc q)
near_up n u q r e h l = let m : suc q * u ≡ q * u + u = suc-mul q u in omega arith

near-tie : (n u q r p : ℕ) → q * u + r ≡ n → r * 2 ≡ u → p < 2 → Near n u (q + p)
near-tie n u q r zero e h l = subst (Near n u) (sym (add-zero q)) (near_down n u q r e (omega arith))
near-tie n u q r (suc zero) e h l = subst (Near n u) (sym (add-one q)) (near_up n u q r e (omega arith) (omega arith))
near-tie n u q r (suc (suc p)) e h l = absurd (omega arith)

closest-near : (n u : ℕ) → 0 < u → Near n u (closest n u)
closest-near n u U = go (compare (n % u * 2) u) refl
  where
    go : (o : Ordering) → compare (n % u * 2) u ≡ o → Near n u (nearest (n / u) o)
    go Ordering.lt e = near_down n u (n / u) (n % u) (div-add-mod' n u) (leb-true (n % u * 2) u (ap is_le e))
    go Ordering.eq e = near-tie n u (n / u) (n % u) (n / u % 2) (div-add-mod' n u) (eqb-true (n % u * 2) u (ap compare_is_eq e)) (mod-lt (n / u) (zero-lt-suc 1))
    go Ordering.gt e =
        let g : u < n % u * 2 = leb-false (n % u * 2) u (ap is_le e) in
        near_up n u (n / u) (n % u) (div-add-mod' n u) (le_of_lt g) (le_of_lt (mod-lt n U))

-- k digits are dropped of n / u, n = a * P: then a unit in the last place kept is below P, a being below 2 ^ 52
unit-small : (a u P k : ℕ) → a < 2 ^ 52 → u < P → k ≡ size (a * P / u) - 53 → 0 < u → u * 2 ^ k < P
unit-small a u P zero A h e U = subst (λ (z : ℕ). z < P) (sym (mul-one u)) h
unit-small a u P (suc k) A h e U =
    let j = suc k in
    let reach : 2 ^ (52 + j) ≤ a * P / u = size_reaches (a * P / u) (52 + j) (omega arith) in
    let most : 2 ^ (52 + j) * u ≤ a * P = (le-div_iff_mul-le U).0 reach in
    let form : 2 ^ (52 + j) * u ≡ 2 ^ 52 * (u * 2 ^ j) = ap (λ (z : ℕ). z * u) (pow-add 2 52 j) ∙ mul_assoc (2 ^ 52) (2 ^ j) u ∙ ap (λ (z : ℕ). 2 ^ 52 * z) (mul_comm (2 ^ j) u) in
    let few : a * P < 2 ^ 52 * P = mul-lt-mul_of_pos_right A (omega arith) in
    omega arith

back : (a u P G K k : ℕ) → G ≡ K * 2 ^ k → Near (a * P) (u * 2 ^ k) K → u * 2 ^ k < P → nearest_whole (G * u) P ≡ a
back a u P G K k g near h =
    let form : G * u ≡ K * (u * 2 ^ k) = ap (λ (z : ℕ). z * u) g ∙ mul_assoc K (2 ^ k) u ∙ ap (λ (z : ℕ). K * z) (mul_comm (2 ^ k) u) in
    nearest-is (G * u) P a (omega arith) (omega arith)

room : (a u P G K k : ℕ) → G ≡ K * 2 ^ k → Near (a * P) (u * 2 ^ k) K → u * 2 ^ k < P → 0 < u → a < 2 ^ 52 → G < 2 ^ 53 * P
room a u P G K k g near h U A =
    let form : G * u ≡ K * (u * 2 ^ k) = ap (λ (z : ℕ). z * u) g ∙ mul_assoc K (2 ^ k) u ∙ ap (λ (z : ℕ). K * z) (mul_comm (2 ^ k) u) in
    let few : a * P < 2 ^ 52 * P = mul-lt-mul_of_pos_right A (omega arith) in
    let one : G * 1 ≤ G * u = mul-le-mul_left G U in
    let id : G * 1 ≡ G = mul-one G in
    omega arith

-- what is kept of a / u, and how many digits are dropped
abbrev kept_of : ℕ → ℕ → ℕ
kept_of a u = kept 53 (a * 2 ^ 1074) u

abbrev drop_of : ℕ → ℕ → ℕ
drop_of a u = drop 53 (a * 2 ^ 1074) u

small : (a u : ℕ) → a < 2 ^ 52 → 0 < u → u < 2 ^ 64 → u * 2 ^ drop_of a u < 2 ^ 1074
small a u A U h = unit-small a u (2 ^ 1074) (drop_of a u) A (lt_of_lt_of_le h (lit≤ tt)) refl U

near : (a u : ℕ) → 0 < u → Near (a * 2 ^ 1074) (u * 2 ^ drop_of a u) (kept_of a u)
near a u U = closest-near (a * 2 ^ 1074) (u * 2 ^ drop_of a u) (mul-pos U (pow_pos (drop_of a u)))

-- the nearest f64 of a / u is finite, has the sign, and its size
round-value : (s : Bool) (a u : ℕ) → a < 2 ^ 52 → 0 < u → u < 2 ^ 64 → HasValue (round binary64 s a u) s (grid binary64 a u) (2 ^ 1074)
round-value s a u A U h =
    subst (λ (z : Float). HasValue z s (grid binary64 a u) (2 ^ 1074)) (sym (round_is binary64 s a u))
    (units_val binary64 s (kept_of a u) (drop_of a u)
    (lt_of_lt_of_le (room a u (2 ^ 1074) (grid binary64 a u) (kept_of a u) (drop_of a u) refl (near a u U) (small a u A U h) U A) (lit≤ tt)))

-- the nearest f64 of a / u, rounded to units of 1 / u again, is a
there_and_back : (s : Bool) (a u : ℕ) → a < 2 ^ 52 → 0 < u → u < 2 ^ 64 → in_units u (round binary64 s a u) ≡ a
there_and_back s a u A U h =
    units-of-value u (round binary64 s a u) s (grid binary64 a u) (2 ^ 1074) (pow_pos 1074) (round-value s a u A U h)
    ∙ back a u (2 ^ 1074) (grid binary64 a u) (kept_of a u) (drop_of a u) refl (near a u U) (small a u A U h)

pub decimals-back : (d : ℕ) (s : Bool) (n : ℕ) → n < 2 ^ 52 → 10 ^ d < 2 ^ 64 → rounded d (nearest_bits d s n) ≡ n
decimals-back d s n A h =
    ap (in_units (10 ^ d)) (of_bits-to_bits binary64 (round binary64 s n (10 ^ d)) (round-fits binary64 s n (10 ^ d)))
    ∙ there_and_back s n (10 ^ d) A (one-le-pow d 10 (zero-lt-suc 9)) h

-- ---- how the code makes it: by one division of f64

neg-odd : (d q k l : ℕ) → neg (odd d false q k l) ≡ odd d true q k l
unfolding neg odd
neg-odd d zero k l = refl
neg-odd d (suc q) k l = refl

neg-units : (q k : ℕ) → neg (units binary64 false q k) ≡ units binary64 true q k
unfolding neg units
neg-units q k = go (ltb (q * 2 ^ k) (2 ^ (low binary64 + 1024)))
  where
    go : (t : Bool) → neg (cond t (odd 54 false q k (low binary64)) (inf false)) ≡ cond t (odd 54 true q k (low binary64)) (inf true)
    go true = neg-odd 54 q k (low binary64)
    go false = refl

pub neg-round : (a u : ℕ) → neg (round binary64 false a u) ≡ round binary64 true a u
neg-round a u = ap neg (round_is binary64 false a u) ∙ neg-units (kept_of a u) (drop_of a u) ∙ sym (round_is binary64 true a u)

-- the quotient of two values that are not negative
div-values : (x y : Float) (a b : ℕ) → 0 < b → HasValue x false a 1 → HasValue y false b 1 → div binary64 x y ≡ round binary64 false a b
unfolding div
div-values nan y a b B p q = absurd p
div-values (inf s) y a b B p q = absurd p
div-values (fin s m e) nan a b B p q = absurd q
div-values (fin s m e) (inf t) a b B p q = absurd q
div-values (fin s m e) (fin t n d) a b B p q =
    let x : m * up e ≡ a * down e = sym (mul-one (m * up e)) ∙ p.1 in
    let y : n * up d ≡ b * down d = sym (mul-one (n * up d)) ∙ q.1 in
    let some : 0 < n * up d = subst (λ (z : ℕ). 0 < z) (sym y) (mul-pos B (down_pos d)) in
    let nz : eqb n 0 ≡ false = ne_eqb n 0 (λ (z : n ≡ 0). lt_irrefl 0 (subst (λ (k : ℕ). 0 < k) (ap (λ (k : ℕ). k * up d) z ∙ zero-mul (up d)) some)) in
    ap (λ (h : Bool). cond h (cond (eqb m 0) nan (inf (unlike s t))) (round binary64 (unlike s t) (m * up e * down d) (n * up d * down e))) nz
    ∙ (λ i. round binary64 (unlike (p.0 i) (q.0 i)) (m * up e * down d) (n * up d * down e))
    ∙ round_same binary64 false (m * up e * down d) (n * up d * down e) a b (mul-pos some (down_pos e)) B (cross (m * up e) (n * up d) a b (down e) (down d) x y)
  where
    cross : (x y a b c d : ℕ) → x ≡ a * c → y ≡ b * d → x * d * b ≡ a * (y * c)
    cross x y a b c d p q = ap (λ (z : ℕ). z * d * b) p ∙ (simp (mul_assoc, mul_comm, mul_left_comm)) ∙ ap (λ (z : ℕ). a * (z * c)) (sym q)

pub quotient : (a u : ℕ) → a < 2 ^ 52 → 0 < u → u < 2 ^ 52 → div binary64 (of_int binary64 (pos a)) (of_int binary64 (pos u)) ≡ round binary64 false a u
unfolding of_int
quotient a u A U h =
    div-values (round binary64 false a 1) (round binary64 false u 1) a u U (round_whole binary64 false a (omega arith)) (round_whole binary64 false u (omega arith))

-- it is no NaN
has-no-nan : (x : Float) (s : Bool) (a c : ℕ) → HasValue x s a c → T (not (is_nan x))
unfolding is_nan
has-no-nan nan s a c h = h
has-no-nan (inf t) s a c h = tt
has-no-nan (fin t m e) s a c h = tt

pub no_nan : (s : Bool) (a u : ℕ) → a < 2 ^ 52 → 0 < u → u < 2 ^ 64 → T (not (is_nan (round binary64 s a u)))
no_nan s a u A U h = has-no-nan (round binary64 s a u) s (grid binary64 a u) (2 ^ 1074) (round-value s a u A U h)

-- ---- the sign

odd_is : (d : ℕ) (s s' : Bool) (q k l a c : ℕ) → HasValue (odd d s q k l) s' a c → s ≡ s'
unfolding odd
odd_is d s s' zero k l a c h = h.0
odd_is d s s' (suc q) k l a c h = h.0

fields-sign : (s s' : Bool) (x t a c : ℕ) → HasValue (of_fields binary64 s x t) s' a c → s ≡ s'
unfolding of_fields
fields-sign s s' zero t a c h = odd_is 53 s s' t 0 1074 a c h
fields-sign s s' (suc x) t a c h = go (eqb (suc x) 2047) (eqb t 0) h
  where
    go : (e z : Bool) → HasValue (cond e (cond z (inf s) nan) (odd 53 s (2 ^ 52 + t) x 1074)) s' a c → s ≡ s'
    go true true h = absurd h
    go true false h = absurd h
    go false z h = odd_is 53 s s' (2 ^ 52 + t) x 1074 a c h

pub sign-back : (d : ℕ) (s : Bool) (n : ℕ) → n < 2 ^ 52 → 10 ^ d < 2 ^ 64 → leb (2 ^ 63) (nearest_bits d s n) ≡ s
unfolding of_bits
sign-back d s n A h =
    let v = round binary64 s n (10 ^ d) in
    let b = to_bits binary64 v in
    fields-sign (leb (2 ^ 63) b) s (b % 2 ^ 63 / 2 ^ 52) (b % 2 ^ 52) (grid binary64 n (10 ^ d)) (2 ^ 1074)
    (subst (λ (z : Float). HasValue z s (grid binary64 n (10 ^ d)) (2 ^ 1074)) (sym (of_bits-to_bits binary64 v (round-fits binary64 s n (10 ^ d))))
    (round-value s n (10 ^ d) A (one-le-pow d 10 (zero-lt-suc 9)) h))

-- it is finite
pub value-back : (d : ℕ) (s : Bool) (n : ℕ) → n < 2 ^ 52 → 10 ^ d < 2 ^ 64 → HasValue (of_bits binary64 (nearest_bits d s n)) s (grid binary64 n (10 ^ d)) (2 ^ 1074)
value-back d s n A h =
    subst (λ (z : Float). HasValue z s (grid binary64 n (10 ^ d)) (2 ^ 1074)) (sym (of_bits-to_bits binary64 (round binary64 s n (10 ^ d)) (round-fits binary64 s n (10 ^ d))))
    (round-value s n (10 ^ d) A (one-le-pow d 10 (zero-lt-suc 9)) h)
