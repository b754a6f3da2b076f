-- Rounding to units is IEEE 754's rounding to nearest: equal fractions round alike, so a float's value may be given by any fraction. Assumes nothing.
use Prim.Native.Nat.{ℕ, zero, suc, ◌+◌, ◌*◌, ◌/◌, ◌%◌, ◌<◌, ◌≤◌, compare, Ordering}
use Rattle.std.specs.Prelude.{◌≡◌, refl, Bool, true, cond, ltb, Float}
use Rattle.std.proofs.Common.{sym, ap, ◌∙◌, subst, le_of_eq, le_of_lt, add-zero, mul_right_comm, mod-eq_of_lt, arith, add-one, leb-true, leb-false, eqb-true, lt-ltb, le-ltb}
use Rattle.std.proofs.Math.Nat.{div-eq_of_lt}
use Rattle.std.proofs.Math.Arith.{lt_of_le-ne}
use Rattle.std.proofs.Math.Dec.{is_le, compare_is_eq}
use Rattle.std.specs.Float.{nan, inf, fin}
use Rattle.std.specs.Float.Ieee.{nearest, up, down}
use Rattle.std.specs.Float.Ieee.Fits.{down_pos}
use Rattle.std.specs.Float.Ieee.Exact.{HasValue}
use Rattle.std.specs.Float.Ieee.Nearest.{closest, closest_same, nearest-ge}
use Rattle.std.proofs.lemmas.Bool.{eqb-false}
use Rattle.machine.specs.Rounding.{at_half, nearest_whole, in_units}

-- by cases on how two numbers compare
by_order : (P : Ordering → Type 0) (r b : ℕ) → (r < b → P Ordering.lt) → (r ≡ b → P Ordering.eq) → (b < r → P Ordering.gt) → P (compare r b)
by_order P r b below same above = go (compare r b) refl
  where
    go : (o : Ordering) → compare r b ≡ o → P o
    go Ordering.lt e = below (lt_of_le-ne (leb-true r b (ap is_le e)) (eqb-false r b (ap compare_is_eq e)))
    go Ordering.eq e = same (eqb-true r b (ap compare_is_eq e))
    go Ordering.gt e = above (leb-false r b (ap is_le e))

-- "for any count of decimals": at every fraction it is the rounding by which IEEE 754 rounds each operation, to nearest with ties to even
pub nearest-ieee : (a b : ℕ) → nearest_whole a b ≡ closest a b
unfolding nearest_whole
nearest-ieee a b =
    let q = a / b in
    let r = a % b * 2 in
    let first : Bool → ℕ = λ t. cond t q (cond (ltb b r) (suc q) (at_half q)) in
    let second : Bool → ℕ = λ t. cond t (suc q) (at_half q) in
    by_order (λ o. nearest_whole a b ≡ nearest q o) r b
    (λ h. ap first (lt-ltb r b h))
    (λ e. ap first (le-ltb r b (le_of_eq (sym e))) ∙ ap second (le-ltb b r (le_of_eq e)))
    (λ h. ap first (le-ltb r b (le_of_lt h)) ∙ ap second (lt-ltb b r h))

-- at a half the quotient's own last digit tells, so one comparison decides
pub nearest-once : (a b : ℕ) → nearest_whole a b ≡ cond (ltb b (a % b * 2 + a / b % 2)) (suc (a / b)) (a / b)
nearest-once a b =
    let q = a / b in
    let r = a % b * 2 in
    let next : Bool → ℕ = λ t. cond t (suc q) q in
    nearest-ieee a b
    ∙ by_order (λ o. nearest q o ≡ cond (ltb b (r + q % 2)) (suc q) q) r b
    (λ h. ap next (sym (le-ltb b (r + q % 2) (omega arith))))
    (λ e. half q r b e (q % 2) (omega arith))
    (λ h. ap next (sym (lt-ltb b (r + q % 2) (omega arith))))
  where
    half : (q r b : ℕ) → r ≡ b → (p : ℕ) → p ≤ 1 → q + p ≡ cond (ltb b (r + p)) (suc q) q
    half q r b e zero h = add-zero q ∙ ap (λ (t : Bool). cond t (suc q) q) (sym (le-ltb b (r + 0) (omega arith)))
    half q r b e (suc zero) h = add-one q ∙ ap (λ (t : Bool). cond t (suc q) q) (sym (lt-ltb b (r + 1) (omega arith)))
    half q r b e (suc (suc p)) h = absurd (omega arith)

pub nearest-same : (a b c d : ℕ) → 0 < b → 0 < d → a * d ≡ c * b → nearest_whole a b ≡ nearest_whole c d
nearest-same a b c d B D h = nearest-ieee a b ∙ closest_same a b c d B D h ∙ sym (nearest-ieee c d)

-- below a half
pub nearest-none : (a b : ℕ) → a * 2 < b → nearest_whole a b ≡ 0
unfolding nearest_whole
nearest-none a b h =
    let l : a < b = omega arith in
    let r : a % b ≡ a = mod-eq_of_lt l in
    let t : ltb (a % b * 2) b ≡ true = ap (λ (z : ℕ). ltb (z * 2) b) r ∙ lt-ltb (a * 2) b h in
    ap (λ (t : Bool). cond t (a / b) (cond (ltb b (a % b * 2)) (suc (a / b)) (at_half (a / b)))) t ∙ div-eq_of_lt l

pub quotient-below : (a b : ℕ) → a / b ≤ nearest_whole a b
quotient-below a b = subst (λ (z : ℕ). a / b ≤ z) (sym (nearest-ieee a b)) (nearest-ge (a / b) (compare (a % b * 2) b))

-- a float whose value is the fraction a / c
pub units-of-value : (unit : ℕ) (v : Float) (s : Bool) (a c : ℕ) → 0 < c → HasValue v s a c → in_units unit v ≡ nearest_whole (a * unit) c
unfolding in_units
units-of-value unit nan s a c C h = absurd h
units-of-value unit (inf t) s a c C h = absurd h
units-of-value unit (fin t m e) s a c C h =
    nearest-same (m * up e * unit) (down e) (a * unit) c (down_pos e) C
    (mul_right_comm (m * up e) unit c ∙ ap (λ (z : ℕ). z * unit) h.1 ∙ mul_right_comm a (down e) unit)
