-- What each return of `src/` needs. Assumes nothing.
use Prim.Native.Nat.{ℕ, zero, suc, ◌+◌, ◌-◌, ◌*◌, ◌/◌, ◌%◌, ◌^◌, ◌≤◌, ◌<◌, min}
use mathlib.Core.Path.{◌≡◌, refl, sym, ap, ◌∙◌, subst}
use mathlib.Core.Bool.{Bool, true, false, not, cond}
use native.Mathlib.Nat.{le_trans, le_of_eq, lt_of_le_of_lt, le_of_lt, mul_left_comm, mul_comm, mul_assoc, mul-one, one-mul, mul_right_comm, mul-le-mul, le-div_iff_mul-le}
use native.Mathlib.Omega.{arith}
use native.Mathlib.Numerals.{add-one}
use lib.Dec.{T, lit≤, lit<, ltb, leb, eqb}
use lib.Pow.{pow-add, pow_pos, pow_mono, shl_exact}
use lib.IntN.{pos}
use lib.Ieee.{Float, nan, inf, binary64, of_bits, to_bits, odd, of_fields, round, div, neg, of_int, is_nan}
use lib.Ieee.Exact.{HasValue, odd_sign}
use borrow.Author.Tests.{lt-ltb, le-ltb, ne_eqb}
use Rattle.machine.specs.Record.{finite}
use Rattle.machine.specs.Rounding.{nearest_whole, in_units}
use Rattle.laws.specs.Floats.{finite-field}
use Rattle.laws.specs.Rounding.{nearest-once, nearest-same, nearest-none, quotient-below, units-of-value}
use Rattle.lines.specs.Nearest.{quotient, neg-round, no_nan}

-- ---- nearest_whole

pub shifted : (k : ℕ) → k ≤ 63 → 1 * 2 ^ k % 18446744073709551616 ≡ 2 ^ k
shifted k h = shl_exact 1 k 64 (lit< tt) (omega arith) ∙ one-mul (2 ^ k)

next : (a k u : ℕ) → u ≡ 2 ^ k → cond (ltb u (a % u * 2 + a / u % 2)) (suc (a / u)) (a / u) ≡ nearest_whole a (2 ^ k)
next a k u e = sym (nearest-once a u) ∙ ap (nearest_whole a) e

pub stays : (a k u : ℕ) → u ≡ 2 ^ k → a % u * 2 + a / u % 2 ≤ u → a / u ≡ nearest_whole a (2 ^ k)
stays a k u e h = ap (λ (t : Bool). cond t (suc (a / u)) (a / u)) (sym (le-ltb u (a % u * 2 + a / u % 2) h)) ∙ next a k u e

pub goes-up : (a k u : ℕ) → u ≡ 2 ^ k → u < a % u * 2 + a / u % 2 → a / u + 1 ≡ nearest_whole a (2 ^ k)
goes-up a k u e h = add-one (a / u) ∙ ap (λ (t : Bool). cond t (suc (a / u)) (a / u)) (sym (lt-ltb u (a % u * 2 + a / u % 2) h)) ∙ next a k u e

-- ---- in_units: the value that bits stand for

abbrev field : ℕ → ℕ
field b = b % 2 ^ 63 / 2 ^ 52

normal : (b x : ℕ) → field b ≡ suc x → suc x < 2047 → HasValue (of_bits binary64 b) (leb (2 ^ 63) b) ((2 ^ 52 + b % 2 ^ 52) * 2 ^ x) (2 ^ 1074)
unfolding of_bits of_fields
normal b x e h =
    subst (λ (y : ℕ). HasValue (of_fields binary64 (leb (2 ^ 63) b) y (b % 2 ^ 52)) (leb (2 ^ 63) b) ((2 ^ 52 + b % 2 ^ 52) * 2 ^ x) (2 ^ 1074)) (sym e)
    (subst (λ (t : Bool). HasValue (cond t (cond (eqb (b % 2 ^ 52) 0) (inf (leb (2 ^ 63) b)) nan) (odd 53 (leb (2 ^ 63) b) (2 ^ 52 + b % 2 ^ 52) x 1074)) (leb (2 ^ 63) b) ((2 ^ 52 + b % 2 ^ 52) * 2 ^ x) (2 ^ 1074))
    (sym (ne_eqb (suc x) 2047 (λ (q : suc x ≡ 2047). omega arith)))
    (odd_sign 53 (leb (2 ^ 63) b) (2 ^ 52 + b % 2 ^ 52) x 1074))

subnormal : (b : ℕ) → field b ≡ 0 → HasValue (of_bits binary64 b) (leb (2 ^ 63) b) (b % 2 ^ 52 * 2 ^ 0) (2 ^ 1074)
unfolding of_bits of_fields
subnormal b e =
    subst (λ (y : ℕ). HasValue (of_fields binary64 (leb (2 ^ 63) b) y (b % 2 ^ 52)) (leb (2 ^ 63) b) (b % 2 ^ 52 * 2 ^ 0) (2 ^ 1074)) (sym e)
    (odd_sign 53 (leb (2 ^ 63) b) (b % 2 ^ 52) 0 1074)

-- q units of 2 ^ (x - 1074), few enough that they are below a half
tiny : (q x unit : ℕ) → q < 2 ^ 53 → unit ≤ 1000 → x ≤ 1010 → nearest_whole (q * 2 ^ x * unit) (2 ^ 1074) ≡ 0
tiny q x unit Q U X =
    let m : q * unit ≤ 9007199254740992 * 1000 = mul-le-mul (le_of_lt Q) U in
    let form : q * 2 ^ x * unit * 2 ≡ q * unit * 2 * 2 ^ x = simp (mul_assoc, mul_comm, mul_left_comm) in
    let top : 2 ^ x ≤ 2 ^ 1010 = pow_mono X in
    let m2 : q * unit * 2 ≤ 9007199254740992 * 1000 * 2 = omega arith in
    let small : q * unit * 2 * 2 ^ x ≤ 9007199254740992 * 1000 * 2 * 2 ^ 1010 = mul-le-mul m2 top in
    nearest-none (q * 2 ^ x * unit) (2 ^ 1074) (lt_of_le_of_lt (le_trans (le_of_eq form) small) (lit< tt))

none_below : (b unit : ℕ) (x : ℕ) → field b ≡ x → x < 1012 → unit ≤ 1000 → in_units unit (of_bits binary64 b) ≡ 0
none_below b unit zero e h U =
    units-of-value unit (of_bits binary64 b) _ (b % 2 ^ 52 * 2 ^ 0) (2 ^ 1074) (pow_pos 1074) (subnormal b e) ∙ tiny (b % 2 ^ 52) 0 unit (omega arith) U (omega arith)
none_below b unit (suc x) e h U =
    units-of-value unit (of_bits binary64 b) _ ((2 ^ 52 + b % 2 ^ 52) * 2 ^ x) (2 ^ 1074) (pow_pos 1074) (normal b x e (omega arith))
    ∙ tiny (2 ^ 52 + b % 2 ^ 52) x unit (omega arith) U (omega arith)

pub too_small : (b unit : ℕ) → b % 9223372036854775808 / 4503599627370496 < 1012 → unit ≤ 1000 → 0 ≡ min (in_units unit (of_bits binary64 b)) 10000000
too_small b unit h U = ap (λ (z : ℕ). min z 10000000) (sym (none_below b unit (field b) refl h U))

big : (q x unit : ℕ) → 2 ^ 52 ≤ q → 1 ≤ unit → 1074 ≤ x → 10000000 ≤ nearest_whole (q * 2 ^ x * unit) (2 ^ 1074)
big q x unit Q U X =
    let top : 2 ^ 1074 ≤ 2 ^ x = pow_mono X in
    let l : 2 ^ 52 * 2 ^ 1074 * 1 ≤ q * 2 ^ x * unit = mul-le-mul (mul-le-mul Q top) U in
    let d : 2 ^ 52 ≤ q * 2 ^ x * unit / 2 ^ 1074 = (le-div_iff_mul-le (pow_pos 1074)).1 (le_trans (le_of_eq (sym (mul-one (2 ^ 52 * 2 ^ 1074)))) l) in
    le_trans (le_trans {m = 2 ^ 52} (lit≤ tt) d) (quotient-below (q * 2 ^ x * unit) (2 ^ 1074))

wide-above : (b unit x : ℕ) → field b ≡ suc x → 1074 ≤ x → suc x < 2047 → 1 ≤ unit → 10000000 ≤ in_units unit (of_bits binary64 b)
wide-above b unit x e h l U =
    subst (λ (z : ℕ). 10000000 ≤ z) (sym (units-of-value unit (of_bits binary64 b) _ ((2 ^ 52 + b % 2 ^ 52) * 2 ^ x) (2 ^ 1074) (pow_pos 1074) (normal b x e l)))
    (big (2 ^ 52 + b % 2 ^ 52) x unit (omega arith) U h)

pub too_wide_lem : (b unit : ℕ) → 1074 < b % 9223372036854775808 / 4503599627370496 → finite b ≡ true → 1 ≤ unit
    → 10000000 ≡ min (in_units unit (of_bits binary64 b)) 10000000
too_wide_lem b unit h f U =
    let l = finite-field b f in
    let w : 10000000 ≤ in_units unit (of_bits binary64 b) = wide-above b unit (field b - 1) (omega arith) (omega arith) (omega arith) U in
    omega arith

moved : (q x j unit : ℕ) → x + j ≡ 1074 → nearest_whole (q * 2 ^ x * unit) (2 ^ 1074) ≡ nearest_whole (q * unit) (2 ^ j)
moved q x j unit e =
    nearest-same (q * 2 ^ x * unit) (2 ^ 1074) (q * unit) (2 ^ j) (pow_pos 1074) (pow_pos j)
    (ap (λ (z : ℕ). z * 2 ^ j) (mul_right_comm q (2 ^ x) unit) ∙ mul_assoc (q * unit) (2 ^ x) (2 ^ j) ∙ ap (λ (z : ℕ). q * unit * z) (sym (pow-add 2 x j) ∙ ap (λ (z : ℕ). 2 ^ z) e))

between : (b unit f n : ℕ) → f ≡ field b → 1012 ≤ f → f ≤ 1074 → n ≡ nearest_whole ((2 ^ 52 + b % 2 ^ 63 % 2 ^ 52) * unit) (2 ^ (1075 - f)) → n ≡ in_units unit (of_bits binary64 b)
between b unit f n e h l v =
    let x = f - 1 in
    let t : b % 2 ^ 63 % 2 ^ 52 ≡ b % 2 ^ 52 = omega arith in
    v
    ∙ ap (λ (z : ℕ). nearest_whole ((2 ^ 52 + z) * unit) (2 ^ (1075 - f))) t
    ∙ sym (moved (2 ^ 52 + b % 2 ^ 52) x (1075 - f) unit (omega arith))
    ∙ sym (units-of-value unit (of_bits binary64 b) _ ((2 ^ 52 + b % 2 ^ 52) * 2 ^ x) (2 ^ 1074) (pow_pos 1074) (normal b x (omega arith) (omega arith)))

pub inside : (b unit f n : ℕ) → f ≡ b % 9223372036854775808 / 4503599627370496 → 1012 ≤ f → f ≤ 1074
    → n ≡ nearest_whole ((4503599627370496 + b % 9223372036854775808 % 4503599627370496) * unit) (2 ^ (1075 - f)) → min n 10000000 ≡ min (in_units unit (of_bits binary64 b)) 10000000
inside b unit f n e h l v = ap (λ (z : ℕ). min z 10000000) (between b unit f n e h l v)

-- ---- nearest_bits

abbrev divided : ℕ → ℕ → Float
divided n u = div binary64 (of_int binary64 (pos n)) (of_int binary64 (pos u))

module _ (n u : ℕ) (h : n < 4503599627370496) (l : 1 ≤ u) (k : u ≤ 1000) where
  is : divided n u ≡ round binary64 false n u
  is = quotient n u h l (omega arith)

  is-neg : neg (divided n u) ≡ round binary64 true n u
  is-neg = ap neg is ∙ neg-round n u

  pub bits_of : (s : Bool) → s ≡ false → to_bits binary64 (divided n u) ≡ to_bits binary64 (round binary64 s n u)
  bits_of s e = ap (to_bits binary64) (is ∙ ap (λ (t : Bool). round binary64 t n u) (sym e))

  pub bits-of-neg : (s : Bool) → s ≡ true → to_bits binary64 (neg (divided n u)) ≡ to_bits binary64 (round binary64 s n u)
  bits-of-neg s e = ap (to_bits binary64) (is-neg ∙ ap (λ (t : Bool). round binary64 t n u) (sym e))

  pub some_bits : T (not (is_nan (divided n u)))
  some_bits = subst (λ (x : Float). T (not (is_nan x))) (sym is) (no_nan false n u h l (omega arith))

  pub some-bits-neg : T (not (is_nan (neg (divided n u))))
  some-bits-neg = subst (λ (x : Float). T (not (is_nan x))) (sym is-neg) (no_nan true n u h l (omega arith))
