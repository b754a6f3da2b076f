-- A number at the right of its columns by its bytes, the last first. Assumes nothing.
use Prim.Native.Nat.{ℕ, zero, suc, ◌+◌, ◌-◌, ◌*◌, ◌/◌, ◌%◌, ◌^◌, ◌≤◌, ◌<◌}
use mathlib.Core.Path.{◌≡◌, refl, sym, ap, ◌∙◌}
use mathlib.Core.Bool.{Bool, true, false, ◌&&◌, cond}
use mathlib.Core.List.{List, [], ◌∷◌, ◌++◌, append_assoc, append-nil}
use native.Mathlib.Nat.{pow-suc}
use native.Mathlib.Omega.{arith}
use native.Mathlib.Numerals.{add-one}
use lib.ListN.{length, length-append}
use lib.Dec.{ltb}
use borrow.Author.Tests.{lt-ltb, ltb-true, ltb-false}
use Rattle.machine.specs.Program.{digit, digits, decimal}
use Rattle.machine.specs.Lines.{at_right, column_text, blanks, dash, pointed, last_digits}
use Rattle.laws.specs.Digits.{length_last}
use Rattle.columns.specs.Cells.{cell, to_come}

blanks-snoc : (w : ℕ) → blanks (suc w) ≡ blanks w ++ (32 ∷ [])
blanks-snoc zero = refl
blanks-snoc (suc w) = ap (λ (z : List ℕ). 32 ∷ z) (blanks-snoc w)

-- a digit more at the end of a column that is one wider
right-snoc : (w b : ℕ) (t : List ℕ) → column_text (at_right (suc w) (t ++ (b ∷ []))) ≡ column_text (at_right w t) ++ (b ∷ [])
right-snoc w b t =
    let e : suc w - length (t ++ (b ∷ [])) ≡ w - length t = omega (arith, length-append t (b ∷ [])) in
    ap (λ (z : ℕ). blanks z ++ (t ++ (b ∷ []))) e ∙ sym (append_assoc (blanks (w - length t)) t (b ∷ []))

unfoldable pub cells : ℕ → Bool → Bool → ℕ → List ℕ
cells zero shown minus n = []
cells (suc w) shown minus n = cells w false (to_come shown minus n) (n / 10) ++ (cell shown minus n ∷ [])

pub cells-length : (w : ℕ) (shown minus : Bool) (n : ℕ) → length (cells w shown minus n) ≡ w
unfolding cells
cells-length zero shown minus n = refl
cells-length (suc w) shown minus n =
    length-append (cells w false (to_come shown minus n) (n / 10)) (cell shown minus n ∷ []) ∙ ap (λ (z : ℕ). z + 1) (cells-length w false (to_come shown minus n) (n / 10)) ∙ add-one w

cells-blank : (w : ℕ) → cells w false false 0 ≡ blanks w
unfolding cells
cells-blank zero = refl
cells-blank (suc w) = ap (λ (z : List ℕ). z ++ (32 ∷ [])) (cells-blank w) ∙ sym (blanks-snoc w)

-- what stands before the digits
cells-front : (w : ℕ) (minus : Bool) → length (dash minus) ≤ w → cells w false minus 0 ≡ column_text (at_right w (dash minus))
unfolding cells
cells-front w false h = cells-blank w ∙ ap blanks (sym z) ∙ sym (append-nil (blanks (w - 0)))
  where
    z : w - 0 ≡ w
    z = omega arith
cells-front zero true h = absurd (omega arith)
cells-front (suc w) true h = ap (λ (z : List ℕ). z ++ (45 ∷ [])) (cells-blank w) ∙ ap (λ (z : ℕ). blanks z ++ (45 ∷ [])) z
  where
    z : w ≡ suc w - 1
    z = omega arith

cells-some : (w n : ℕ) (minus : Bool) → 0 < n → cells w true minus n ≡ cells w false minus n
unfolding cells
cells-some zero n minus h = refl
cells-some (suc w) n minus h = ap (λ (t : Bool). cells w false (minus && t) (n / 10) ++ (cond t (digit (n % 10)) (cond minus 45 32) ∷ [])) (sym (lt-ltb 0 n h))

and_yes : (b : Bool) → b && true ≡ b
and_yes true = refl
and_yes false = refl

-- one digit and what stands before it
cells-last : (w n : ℕ) (minus : Bool) (t : List ℕ) → column_text (at_right w t) ≡ cells w false minus (n / 10) → column_text (at_right (suc w) (t ++ (digit (n % 10) ∷ []))) ≡ cells (suc w) true minus n
unfolding cells
cells-last w n minus t e = right-snoc w (digit (n % 10)) t ∙ ap (λ (z : List ℕ). z ++ (digit (n % 10) ∷ [])) (e ∙ ap (λ (b : Bool). cells w false b (n / 10)) (sym (and_yes minus)))

cells-one : (w n : ℕ) (minus : Bool) → length (dash minus) ≤ w → n < 10 → column_text (at_right (suc w) (dash minus ++ (digit n ∷ []))) ≡ cells (suc w) true minus n
cells-one w n minus m h =
    let a : n / 10 ≡ 0 = omega arith in
    let b : n % 10 ≡ n = omega arith in
    ap (λ (z : ℕ). column_text (at_right (suc w) (dash minus ++ (digit z ∷ [])))) (sym b)
    ∙ cells-last w n minus (dash minus) (sym (cells-front w minus m) ∙ ap (cells w false minus) (sym a))

cells-digits : (j k n : ℕ) (minus : Bool) → j ≤ k → n < 10 ^ suc j → column_text (at_right (suc (j + length (dash minus))) (dash minus ++ digits (suc k) n)) ≡ cells (suc (j + length (dash minus))) true minus n
unfolding digits
cells-digits zero k n minus l h =
    ap (λ (t : Bool). column_text (at_right (suc (0 + length (dash minus))) (dash minus ++ cond t (digit n ∷ []) (digits k (n / 10) ++ (digit (n % 10) ∷ []))))) (lt-ltb n 10 h)
    ∙ cells-one (0 + length (dash minus)) n minus (omega arith) h
cells-digits (suc j) zero n minus l h = absurd (omega arith)
cells-digits (suc j) (suc k) n minus l h = go (ltb n 10) refl (cells-digits j k (n / 10) minus (omega arith) less)
  where
    less : n / 10 < 10 ^ suc j
    less = let e : 10 ^ suc (suc j) ≡ 10 ^ suc j * 10 = pow-suc 10 (suc j) in omega arith

    go : (t : Bool) → ltb n 10 ≡ t → column_text (at_right (suc (j + length (dash minus))) (dash minus ++ digits (suc k) (n / 10))) ≡ cells (suc (j + length (dash minus))) true minus (n / 10)
        → column_text (at_right (suc (suc j + length (dash minus))) (dash minus ++ cond t (digit n ∷ []) (digits (suc k) (n / 10) ++ (digit (n % 10) ∷ [])))) ≡ cells (suc (suc j + length (dash minus))) true minus n
    go true e ih = cells-one (suc j + length (dash minus)) n minus (omega arith) (ltb-true n 10 e)
    go false e ih =
        let b = ltb-false n 10 e in
        let some : 0 < n / 10 = omega arith in
        let z : suc j + length (dash minus) ≡ suc (j + length (dash minus)) = omega arith in
        ap (λ (t : List ℕ). column_text (at_right (suc (suc j + length (dash minus))) t)) (sym (append_assoc (dash minus) (digits (suc k) (n / 10)) (digit (n % 10) ∷ [])))
        ∙ cells-last (suc j + length (dash minus)) n minus (dash minus ++ digits (suc k) (n / 10))
        (ap (λ (w : ℕ). column_text (at_right w (dash minus ++ digits (suc k) (n / 10)))) z
        ∙ ih
        ∙ cells-some (suc (j + length (dash minus))) (n / 10) minus some
        ∙ ap (λ (w : ℕ). cells w false minus (n / 10)) (sym z))

-- a number with a minus or without, in j + 1 columns for its digits and one for the minus
pub number-cells : (j n : ℕ) (minus : Bool) → j ≤ 19 → n < 10 ^ suc j → column_text (at_right (suc (j + length (dash minus))) (dash minus ++ decimal n)) ≡ cells (suc (j + length (dash minus))) true minus n
number-cells j n minus l h = cells-digits j 19 n minus l h

-- a decimal: its whole part with the minus, the point, and the last digits
pub point-column : (w d n : ℕ) (minus : Bool) → length (dash minus ++ decimal (n / 10 ^ d)) ≤ w
    → column_text (at_right (w + suc d) (dash minus ++ pointed d n)) ≡ column_text (at_right w (dash minus ++ decimal (n / 10 ^ d))) ++ (46 ∷ last_digits d n)
unfolding pointed
point-column w d n minus h =
    let t = dash minus ++ decimal (n / 10 ^ d) in
    let u : List ℕ = 46 ∷ last_digits d n in
    let e : w + suc d - length (t ++ u) ≡ w - length t = omega (arith, length-append t u, length_last d n) in
    ap (λ (z : List ℕ). column_text (at_right (w + suc d) z)) (sym (append_assoc (dash minus) (decimal (n / 10 ^ d)) u))
    ∙ ap (λ (k : ℕ). blanks k ++ (t ++ u)) e
    ∙ sym (append_assoc (blanks (w - length t)) t u)
