-- Change request §9: the digits and the minus of a written number are read back, and the nearest f64 of a written f64 is written alike. Assumes nothing.
use Rattle.std.specs.Prelude.{ℕ, zero, suc, ◌+◌, ◌-◌, ◌*◌, ◌/◌, ◌%◌, ◌^◌, ◌<◌, ◌≡◌, refl, Bool, true, false, ◌&&◌, ◌||◌, cond, List, [], ◌∷◌, ◌++◌, length, leb, ltb, eqb}
use Rattle.std.proofs.Common.{sym, ap, ◌∙◌, div-one, div-le_self, lt_of_le_of_lt, pow-suc, arith, le-leb, ltb-true, ne_eqb}
use Rattle.std.proofs.Math.Nat.{div-div-eq-div-mul, pow-succ'}
use Rattle.machine.specs.Program.{digit, digits, decimal}
use Rattle.machine.specs.Rounding.{rounded, nearest_bits}
use Rattle.machine.specs.Lines.{at_left, at_right, column_text, blanks, dash, last_digits, pointed, negative, fixed}
use Rattle.machine.specs.LinesIn.{with_figure, figures_from, figures, has_minus, decimal_bits}
use Rattle.lines.specs.Nearest.{decimals-back, sign-back}

-- ---- digits

pub figures-append : (a : ℕ) (s t : List ℕ) → figures_from a (s ++ t) ≡ figures_from (figures_from a s) t
unfolding figures_from
figures-append a [] t = refl
figures-append a (b ∷ s) t = figures-append (with_figure a b) s t

figures-blanks : (a k : ℕ) → figures_from a (blanks k) ≡ a
unfolding figures_from
figures-blanks a zero = refl
figures-blanks a (suc k) = figures-blanks a k

one-digit : (a n : ℕ) → n < 10 → with_figure a (digit n) ≡ a * 10 + n
one-digit a n h =
    let z : 48 + n - 48 ≡ n = omega arith in
    ap (λ (t : Bool). cond (t && leb (48 + n) 57) (a * 10 + (48 + n - 48)) a) (le-leb 48 (48 + n) (omega arith))
    ∙ ap (λ (t : Bool). cond t (a * 10 + (48 + n - 48)) a) (le-leb (48 + n) 57 (omega arith))
    ∙ ap (λ (k : ℕ). a * 10 + k) z

-- a number whose last digit is given apart
last-digit : (a n : ℕ) → a ≡ n / 10 → with_figure a (digit (n % 10)) ≡ n
last-digit a n e = one-digit a (n % 10) (omega arith) ∙ omega arith

pub figures-digits : (k n : ℕ) → n < 10 ^ k → figures (digits k n) ≡ n
unfolding digits figures_from
figures-digits zero n h = let e : 10 ^ 0 ≡ 1 = refl in omega arith
figures-digits (suc k) n h = go (ltb n 10) refl (figures-digits k (n / 10) less)
  where
    less : n / 10 < 10 ^ k
    less = let e : 10 ^ suc k ≡ 10 ^ k * 10 = pow-suc 10 k in omega arith

    go : (t : Bool) → ltb n 10 ≡ t → figures (digits k (n / 10)) ≡ n / 10 → figures (cond t (digit n ∷ []) (digits k (n / 10) ++ (digit (n % 10) ∷ []))) ≡ n
    go true e ih = let z : 0 * 10 + n ≡ n = omega arith in one-digit 0 n (ltb-true n 10 e) ∙ z
    go false e ih = figures-append 0 (digits k (n / 10)) (digit (n % 10) ∷ []) ∙ last-digit (figures (digits k (n / 10))) n ih

figures-last : (d n : ℕ) → figures_from (n / 10 ^ d) (last_digits d n) ≡ n
unfolding last_digits figures_from
figures-last zero n = div-one n
figures-last (suc d) n =
    let e : n / 10 ^ suc d ≡ n / 10 / 10 ^ d = ap (λ (z : ℕ). n / z) (pow-succ' 10 d) ∙ sym (div-div-eq-div-mul n 10 (10 ^ d)) in
    figures-append (n / 10 ^ suc d) (last_digits d (n / 10)) (digit (n % 10) ∷ [])
    ∙ last-digit (figures_from (n / 10 ^ suc d) (last_digits d (n / 10))) n (ap (λ (z : ℕ). figures_from z (last_digits d (n / 10))) e ∙ figures-last d (n / 10))

figures-pointed : (d n : ℕ) → n < 10 ^ 20 → figures (pointed d n) ≡ n
unfolding pointed figures_from
figures-pointed d n h =
    figures-append 0 (decimal (n / 10 ^ d)) (46 ∷ last_digits d n)
    ∙ ap (λ (z : ℕ). figures_from z (last_digits d n)) (figures-digits 20 (n / 10 ^ d) (lt_of_le_of_lt (div-le_self n (10 ^ d)) h))
    ∙ figures-last d n

-- ---- minus signs

or-false : (x : Bool) → x || false ≡ x
or-false true = refl
or-false false = refl

pub minus-append : (s t : List ℕ) → has_minus (s ++ t) ≡ has_minus s || has_minus t
minus-append [] t = refl
minus-append (b ∷ s) t = ap (λ (z : Bool). eqb 45 b || z) (minus-append s t) ∙ or_assoc (eqb 45 b) (has_minus s) (has_minus t)
  where
    or_assoc : (x y z : Bool) → x || (y || z) ≡ (x || y) || z
    or_assoc true y z = refl
    or_assoc false y z = refl

-- no byte of a text is a minus
abbrev Unsigned : List ℕ → Type 0
Unsigned t = has_minus t ≡ false

both : (s t : List ℕ) → Unsigned s → Unsigned t → Unsigned (s ++ t)
both s t e f = minus-append s t ∙ ap (λ (z : Bool). z || has_minus t) e ∙ f

unsigned-blanks : (k : ℕ) → Unsigned (blanks k)
unsigned-blanks zero = refl
unsigned-blanks (suc k) = unsigned-blanks k

unsigned-digit : (n : ℕ) → Unsigned (digit n ∷ [])
unsigned-digit n = ap (λ (z : Bool). z || false) (ne_eqb 45 (48 + n) (λ (e : 45 ≡ 48 + n). omega arith))

pub unsigned-digits : (k n : ℕ) → has_minus (digits k n) ≡ false
unfolding digits
unsigned-digits zero n = refl
unsigned-digits (suc k) n = go (ltb n 10) (unsigned-digits k (n / 10))
  where
    go : (t : Bool) → Unsigned (digits k (n / 10)) → Unsigned (cond t (digit n ∷ []) (digits k (n / 10) ++ (digit (n % 10) ∷ [])))
    go true ih = unsigned-digit n
    go false ih = both (digits k (n / 10)) (digit (n % 10) ∷ []) ih (unsigned-digit (n % 10))

unsigned-last : (d n : ℕ) → Unsigned (last_digits d n)
unfolding last_digits
unsigned-last zero n = refl
unsigned-last (suc d) n = both (last_digits d (n / 10)) (digit (n % 10) ∷ []) (unsigned-last d (n / 10)) (unsigned-digit (n % 10))

unsigned-pointed : (d n : ℕ) → Unsigned (pointed d n)
unfolding pointed
unsigned-pointed d n = both (decimal (n / 10 ^ d)) (46 ∷ last_digits d n) (unsigned-digits 20 (n / 10 ^ d)) (unsigned-last d n)

-- ---- in columns: the blanks beside a text add nothing

pub right-figures : (w : ℕ) (t : List ℕ) → figures (column_text (at_right w t)) ≡ figures t
right-figures w t = figures-append 0 (blanks (w - length t)) t ∙ ap (λ (z : ℕ). figures_from z t) (figures-blanks 0 (w - length t))

pub right-minus : (w : ℕ) (t : List ℕ) → has_minus (column_text (at_right w t)) ≡ has_minus t
right-minus w t = minus-append (blanks (w - length t)) t ∙ ap (λ (z : Bool). z || has_minus t) (unsigned-blanks (w - length t))

pub left-figures : (w : ℕ) (t : List ℕ) → figures (column_text (at_left w t)) ≡ figures t
left-figures w t = figures-append 0 t (blanks (w - length t)) ∙ figures-blanks (figures t) (w - length t)

pub left-minus : (w : ℕ) (t : List ℕ) → has_minus (column_text (at_left w t)) ≡ has_minus t
left-minus w t = minus-append t (blanks (w - length t)) ∙ ap (λ (z : Bool). has_minus t || z) (unsigned-blanks (w - length t)) ∙ or-false (has_minus t)

-- ---- decimals

dash-minus : (s : Bool) → has_minus (dash s) ≡ s
dash-minus true = refl
dash-minus false = refl

dash-figures : (s : Bool) → figures (dash s) ≡ 0
unfolding figures_from
dash-figures true = refl
dash-figures false = refl

fixed-figures : (d b : ℕ) → rounded d b < 10 ^ 20 → figures (fixed d b) ≡ rounded d b
unfolding fixed
fixed-figures d b h =
    figures-append 0 (dash (negative d b)) (pointed d (rounded d b))
    ∙ ap (λ (z : ℕ). figures_from z (pointed d (rounded d b))) (dash-figures (negative d b))
    ∙ figures-pointed d (rounded d b) h

fixed-minus : (d b : ℕ) → has_minus (fixed d b) ≡ negative d b
unfolding fixed
fixed-minus d b =
    minus-append (dash (negative d b)) (pointed d (rounded d b))
    ∙ ap (λ (z : Bool). has_minus (dash (negative d b)) || z) (unsigned-pointed d (rounded d b))
    ∙ or-false (has_minus (dash (negative d b)))
    ∙ dash-minus (negative d b)

-- the nearest f64 of what is written of an f64 to d decimals
abbrev pub settle : ℕ → ℕ → ℕ
settle d b = nearest_bits d (negative d b) (rounded d b)

-- it is what is read of the f64's columns
pub read-fixed : (d w b : ℕ) → rounded d b < 10 ^ 20 → decimal_bits d (column_text (at_right w (fixed d b))) ≡ settle d b
unfolding decimal_bits
read-fixed d w b h =
    ap (λ (s : Bool). nearest_bits d s (figures (column_text (at_right w (fixed d b))))) (right-minus w (fixed d b) ∙ fixed-minus d b)
    ∙ ap (λ (n : ℕ). nearest_bits d (negative d b) n) (right-figures w (fixed d b) ∙ fixed-figures d b h)

and_again : (x y : Bool) → (x && y) && y ≡ x && y
and_again true true = refl
and_again true false = refl
and_again false y = refl

-- a decimal's nearest f64 is written as that decimal
pub fixed-nearest : (d : ℕ) (s : Bool) (n : ℕ) → n < 2 ^ 52 → 10 ^ d < 2 ^ 64 → fixed d (nearest_bits d s n) ≡ dash (s && ltb 0 n) ++ pointed d n
unfolding fixed
fixed-nearest d s n h k =
    let b = nearest_bits d s n in
    ap (λ (z : Bool). dash (z && ltb 0 (rounded d b)) ++ pointed d (rounded d b)) (sign-back d s n h k)
    ∙ ap (λ (z : ℕ). dash (s && ltb 0 z) ++ pointed d z) (decimals-back d s n h k)

-- and it is written as the f64 was
pub fixed_back : (d b : ℕ) → rounded d b < 2 ^ 52 → 10 ^ d < 2 ^ 64 → fixed d (settle d b) ≡ fixed d b
unfolding fixed
fixed_back d b h k =
    fixed-nearest d (negative d b) (rounded d b) h k ∙ ap (λ (z : Bool). dash z ++ pointed d (rounded d b)) (and_again (leb (2 ^ 63) b) (ltb 0 (rounded d b)))
