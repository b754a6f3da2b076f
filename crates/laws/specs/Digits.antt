-- How wide a written number is, as a test of the number. Assumes nothing.
use Rattle.std.specs.Prelude.{ℕ, zero, suc, ◌+◌, ◌-◌, ◌*◌, ◌/◌, ◌%◌, ◌^◌, ◌≤◌, ◌<◌, ◌≡◌, refl, Bool, true, false, cond, List, [], ◌∷◌, ◌++◌, ℤ, pos, negsuc, nat_abs, length, leb, ltb}
use Rattle.std.proofs.Common.{sym, ap, ◌∙◌, subst, zero-lt-suc, div-lt_iff_lt-mul, le-div_iff_mul-le, pow-suc, arith, add-one, length-append, lit<, lt-ltb, le-ltb, le-leb, ltb-true, ltb-false}
use Rattle.std.proofs.Math.Nat.{one-le-pow}
use Rattle.std.proofs.Math.Dec.{leb-suc-suc}
use Rattle.std.specs.Int.{w64}
use mir.Val.{to_z, sel}
use Rattle.std.proofs.lemmas.Bool.{lt-leb}
use Rattle.machine.specs.Program.{digit, digits, decimal}
use Rattle.machine.specs.Rounding.{rounded}
use Rattle.machine.specs.Lines.{dash, signed, last_digits, pointed, negative, fixed, charge_text}

-- ---- digits

length-snoc : (s : List ℕ) (b : ℕ) → length (s ++ (b ∷ [])) ≡ suc (length s)
length-snoc s b = length-append s (b ∷ []) ∙ add-one (length s)

-- below 10 ^ j a number has at most j digits, where j is not 0
pub digits-within : (k j n : ℕ) → n < 10 ^ suc j → length (digits k n) ≤ suc j
unfolding digits
digits-within zero j n h = omega arith
digits-within (suc k) zero n h = subst (λ (t : Bool). length (cond t (digit n ∷ []) (digits k (n / 10) ++ (digit (n % 10) ∷ []))) ≤ 1) (sym (lt-ltb n 10 h)) (omega arith)
digits-within (suc k) (suc j) n h = go (ltb n 10) (digits-within k j (n / 10) less)
  where
    less : n / 10 < 10 ^ suc j
    less = let e : 10 ^ suc (suc j) ≡ 10 ^ suc j * 10 = pow-suc 10 (suc j) in omega arith

    go : (t : Bool) → length (digits k (n / 10)) ≤ suc j → length (cond t (digit n ∷ []) (digits k (n / 10) ++ (digit (n % 10) ∷ []))) ≤ suc (suc j)
    go true l = omega arith
    go false l = omega (arith, length-snoc (digits k (n / 10)) (digit (n % 10)))

-- from 10 ^ j on it has more than j, if so many are allowed
digits-beyond : (k j n : ℕ) → 10 ^ j ≤ n → j < k → j < length (digits k n)
unfolding digits
digits-beyond zero j n h l = absurd (omega arith)
digits-beyond (suc k) zero n h l = go (ltb n 10)
  where
    go : (t : Bool) → 0 < length (cond t (digit n ∷ []) (digits k (n / 10) ++ (digit (n % 10) ∷ [])))
    go true = omega arith
    go false = omega (arith, length-snoc (digits k (n / 10)) (digit (n % 10)))
digits-beyond (suc k) (suc j) n h l =
    let e : 10 ^ suc j ≡ 10 ^ j * 10 = pow-suc 10 j in
    let p : 1 ≤ 10 ^ j = one-le-pow j 10 (zero-lt-suc 9) in
    let ih = digits-beyond k j (n / 10) (omega arith) (omega arith) in
    subst (λ (t : Bool). suc j < length (cond t (digit n ∷ []) (digits k (n / 10) ++ (digit (n % 10) ∷ [])))) (sym (le-ltb n 10 (omega arith)))
    (omega (arith, length-snoc (digits k (n / 10)) (digit (n % 10))))

pub decimal-width : (j n : ℕ) → j < 19 → leb (length (decimal n)) (suc j) ≡ ltb n (10 ^ suc j)
decimal-width j n l = go (ltb n (10 ^ suc j)) refl
  where
    go : (t : Bool) → ltb n (10 ^ suc j) ≡ t → leb (length (decimal n)) (suc j) ≡ t
    go true e = le-leb (length (decimal n)) (suc j) (digits-within 20 j n (ltb-true n (10 ^ suc j) e))
    go false e = lt-leb (length (decimal n)) (suc j) (digits-beyond 20 (suc j) n (ltb-false n (10 ^ suc j) e) (omega arith))

-- ---- decimals

pub length_last : (d n : ℕ) → length (last_digits d n) ≡ d
unfolding last_digits
length_last zero n = refl
length_last (suc d) n = length-snoc (last_digits d (n / 10)) (digit (n % 10)) ∙ ap suc (length_last d (n / 10))

length-pointed : (d n : ℕ) → length (pointed d n) ≡ length (decimal (n / 10 ^ d)) + suc d
unfolding pointed
length-pointed d n = length-append (decimal (n / 10 ^ d)) (46 ∷ last_digits d n) ∙ ap (λ (z : ℕ). length (decimal (n / 10 ^ d)) + suc z) (length_last d n)

-- d decimals and j + 1 digits before the point
pointed-width : (d j n : ℕ) → j < 19 → leb (length (pointed d n)) (suc j + suc d) ≡ ltb n (10 ^ suc j * 10 ^ d)
pointed-width d j n l = go (ltb n (10 ^ suc j * 10 ^ d)) refl
  where
    p : 0 < 10 ^ d
    p = one-le-pow d 10 (zero-lt-suc 9)

    go : (t : Bool) → ltb n (10 ^ suc j * 10 ^ d) ≡ t → leb (length (pointed d n)) (suc j + suc d) ≡ t
    go true e =
        let f : n / 10 ^ d < 10 ^ suc j = (div-lt_iff_lt-mul p).1 (ltb-true n (10 ^ suc j * 10 ^ d) e) in
        le-leb (length (pointed d n)) (suc j + suc d) (omega (arith, length-pointed d n, digits-within 20 j (n / 10 ^ d) f))
    go false e =
        let f : 10 ^ suc j ≤ n / 10 ^ d = (le-div_iff_mul-le p).1 (ltb-false n (10 ^ suc j * 10 ^ d) e) in
        lt-leb (length (pointed d n)) (suc j + suc d) (omega (arith, length-pointed d n, digits-beyond 20 (suc j) (n / 10 ^ d) f (omega arith)))

-- ---- signs

-- a minus takes a column
dash-width : (s : Bool) (t : List ℕ) (k : ℕ) → leb (length (dash s ++ t)) (suc k) ≡ cond s (leb (length t) k) (leb (length t) (suc k))
dash-width true t k = leb-suc-suc (length t) k
dash-width false t k = refl

-- a number in j + 2 columns
pub dashed-width : (s : Bool) (j n : ℕ) → j < 18 → leb (length (dash s ++ decimal n)) (suc (suc j)) ≡ cond s (ltb n (10 ^ suc j)) (ltb n (10 ^ suc (suc j)))
dashed-width s j n l = dash-width s (decimal n) (suc j) ∙ (λ i. cond s (decimal-width j n (omega arith) i) (decimal-width (suc j) n (omega arith) i))

-- an f64 with d decimals and j + 2 columns before the point
pub fixed-width : (d j b : ℕ) → j < 18
    → leb (length (fixed d b)) (suc (suc j) + suc d) ≡ cond (negative d b) (ltb (rounded d b) (10 ^ suc j * 10 ^ d)) (ltb (rounded d b) (10 ^ suc (suc j) * 10 ^ d))
unfolding fixed
fixed-width d j b l =
    let n = rounded d b in
    let z : suc (suc j) + suc d ≡ suc (suc j + suc d) = omega arith in
    ap (leb (length (dash (negative d b) ++ pointed d n))) z
    ∙ dash-width (negative d b) (pointed d n) (suc j + suc d)
    ∙ (λ i. cond (negative d b) (pointed-width d j n (omega arith) i) (leb (length (pointed d n)) (sym z i)))
    ∙ ap (cond (negative d b) (ltb n (10 ^ suc j * 10 ^ d))) (pointed-width d (suc j) n (omega arith))

-- a whole number is its sign and its size
pub signed_parts : (b : ℕ) → signed (to_z w64 b) ≡ dash (leb (2 ^ 63) b) ++ decimal (nat_abs (to_z w64 b))
signed_parts b = go (ltb b (2 ^ 63)) refl
  where
    m : ℕ
    m = 2 ^ 64 - suc b

    go : (t : Bool) → ltb b (2 ^ 63) ≡ t → signed (sel t (pos b) (negsuc m)) ≡ dash (leb (2 ^ 63) b) ++ decimal (nat_abs (sel t (pos b) (negsuc m)))
    go true e = ap (λ (s : Bool). dash s ++ decimal b) (sym (lt-leb (2 ^ 63) b (ltb-true b (2 ^ 63) e)))
    go false e = ap (λ (s : Bool). dash s ++ decimal (suc m)) (sym (le-leb (2 ^ 63) b (ltb-false b (2 ^ 63) e)))

-- a charge's width
pub charge-width : (z : ℤ) → leb (length (charge_text z)) 2 ≡ ltb (nat_abs z) 10
unfolding charge_text
charge-width (pos zero) = refl
charge-width (pos (suc n)) = ap (λ (k : ℕ). leb k 2) (length-snoc (decimal (suc n)) 43) ∙ leb-suc-suc (length (decimal (suc n))) 1 ∙ decimal-width 0 (suc n) (lit< tt)
charge-width (negsuc n) = ap (λ (k : ℕ). leb k 2) (length-snoc (decimal (suc n)) 45) ∙ leb-suc-suc (length (decimal (suc n))) 1 ∙ decimal-width 0 (suc n) (lit< tt)
