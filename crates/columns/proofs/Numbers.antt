-- What each loop's start, turn and end and each return of the functions that put numbers needs. Assumes nothing.
use Prim.Native.Nat.{ℕ, zero, suc, ◌+◌, ◌-◌, ◌*◌, ◌/◌, ◌%◌, ◌^◌, ◌≤◌, ◌<◌, min}
use mathlib.Core.Path.{◌≡◌, refl, sym, ap, ◌∙◌, subst}
use mathlib.Core.Bool.{Bool, true, false, ◌&&◌, ◌||◌, cond}
use mathlib.Core.List.{List, [], ◌∷◌, ◌++◌, append_assoc}
use native.Mathlib.Nat.{one-le-pow, zero-lt-suc, div-lt_iff_lt-mul, le-div_iff_mul-le, lt_of_lt_of_le}
use native.Mathlib.Omega.{arith}
use lib.ListN.{length, set, length-set, length-append}
use lib.Dec.{leb, ltb}
use lib.Ieee.{binary64, of_bits}
use borrow.Author.Tests.{leb-true, leb-false, ltb-true, ltb-false, lt-ltb, le-ltb, le-leb, lt-leb}
use Rattle.machine.specs.Program.{decimal}
use Rattle.machine.specs.Rounding.{in_units, rounded}
use Rattle.machine.specs.Lines.{at_right, column_text, dash, last_digits, pointed, negative, fixed}
use Rattle.laws.specs.Digits.{length_last, digits-within, dashed-width, fixed-width}
use Rattle.laws.specs.Columns.{column-length}
use Rattle.moves.specs.Over.{over}
use Rattle.moves.proofs.Laws.{over_none, over-cons, over-under, over-over}
use Rattle.columns.specs.Put.{Put, decimal_text, decimal_of}
use Rattle.columns.specs.declared.Decimal.{Decimal}
use Rattle.columns.specs.Cells.{cell, to_come}
use Rattle.columns.proofs.Cells.{cells, cells-length, number-cells, point-column}

pub set-over : (s : List ℕ) (k b : ℕ) → k < length s → set s k b ≡ over k (b ∷ []) s
set-over s k b h = ap (λ (l : List ℕ). set l k b) (sym (over_none (k + 1) s)) ∙ over-cons k [] s b h

-- ---- put_number

pub cell-shown : (shown minus : Bool) (n : ℕ) → shown ≡ true → 48 + n % 10 ≡ cell shown minus n
cell-shown shown minus n e = ap (λ (t : Bool). cond (t || ltb 0 n) (48 + n % 10) (cond minus 45 32)) (sym e)

pub cell-some : (shown minus : Bool) (n : ℕ) → shown ≡ false → 0 < n → 48 + n % 10 ≡ cell shown minus n
cell-some shown minus n e h = ap (λ (t : Bool). cond t (48 + n % 10) (cond minus 45 32)) (sym (lt-ltb 0 n h)) ∙ ap (λ (t : Bool). cond (t || ltb 0 n) (48 + n % 10) (cond minus 45 32)) (sym e)

pub cell-none : (shown minus : Bool) (n r : ℕ) → shown ≡ false → n ≤ 0 → r ≡ cond minus 45 32 → r ≡ cell shown minus n
cell-none shown minus n r e h f = f ∙ ap (λ (t : Bool). cond t (48 + n % 10) (cond minus 45 32)) (sym (le-ltb 0 n h)) ∙ ap (λ (t : Bool). cond (t || ltb 0 n) (48 + n % 10) (cond minus 45 32)) (sym e)

pub cell-minus : (shown minus : Bool) (n : ℕ) → shown ≡ false → n ≤ 0 → minus ≡ true → 45 ≡ cell shown minus n
cell-minus shown minus n e h f = cell-none shown minus n 45 e h (ap (λ (t : Bool). cond t 45 32) (sym f))

pub cell-blank : (shown minus : Bool) (n : ℕ) → shown ≡ false → n ≤ 0 → minus ≡ false → 32 ≡ cell shown minus n
cell-blank shown minus n e h f = cell-none shown minus n 32 e h (ap (λ (t : Bool). cond t 45 32) (sym f))

pub record Writing (at width n : ℕ) (minus : Bool) (s₀ s : List ℕ) (left : ℕ) (shown sign : Bool) (rest : ℕ) : Type 0 where
  pub low : left ≤ width
  pub size : length s ≡ length s₀
  pub same : over at (cells left shown sign rest) s ≡ over at (cells width true minus n) s₀

pub number-start : (at width n : ℕ) (minus : Bool) (s : List ℕ) → Writing at width n minus s s width true minus n
number-start at width n minus s = record { low = omega arith; size = refl; same = refl }

number_step : (at left rest r : ℕ) (shown sign next : Bool) (s : List ℕ) → at + suc left ≤ length s → r ≡ cell shown sign rest → next ≡ to_come shown sign rest
    → over at (cells left false next (rest / 10)) (set s (at + left) r) ≡ over at (cells (suc left) shown sign rest) s
unfolding cells
number_step at left rest r shown sign next s h e f =
    let cs = cells left false next (rest / 10) in
    ap (over at cs) (set-over s (at + left) r (omega arith))
    ∙ ap (λ (k : ℕ). over at cs (over (at + k) (r ∷ []) s)) (sym (cells-length left false next (rest / 10)))
    ∙ over-under at cs (r ∷ []) s (omega (arith, cells-length left false next (rest / 10)))
    ∙ ap (λ (z : ℕ). over at (cs ++ (z ∷ [])) s) e
    ∙ ap (λ (b : Bool). over at (cells left false b (rest / 10) ++ (cell shown sign rest ∷ [])) s) f

pub number-turn : (at width n left rest r : ℕ) (minus shown sign next : Bool) (s₀ s : List ℕ) → at + width ≤ 81 → length s₀ ≡ 81 → 0 < left → Writing at width n minus s₀ s left shown sign rest → r ≡ cell shown sign rest
    → next ≡ to_come shown sign rest → Writing at width n minus s₀ (set s (at + (left - 1)) r) (left - 1) false next (rest / 10)
number-turn at width n left rest r minus shown sign next s₀ s h k p o e f =
    let l = left - 1 in
    let z : suc l ≡ left = omega arith in
    let low = o.low in
    let size = o.size in
    record {
      low = omega arith;
      size = length-set s (at + l) r ∙ o.size;
      same = number_step at l rest r shown sign next s (omega arith) e f ∙ ap (λ (k : ℕ). over at (cells k shown sign rest) s) z ∙ o.same;
    }

numbered : (at width n left rest : ℕ) (minus shown sign : Bool) (s₀ s : List ℕ) → 1 + length (dash minus) ≤ width → width ≤ 19 → n < 10 ^ (width - length (dash minus)) → left ≤ 0 → Writing at width n minus s₀ s left shown sign rest
    → s ≡ over at (column_text (at_right width (dash minus ++ decimal n))) s₀
unfolding cells
numbered at width n zero rest minus shown sign s₀ s w v h l o =
    let j = width - length (dash minus) - 1 in
    let a : suc (j + length (dash minus)) ≡ width = omega arith in
    let b : width - length (dash minus) ≡ suc j = omega arith in
    sym (over_none at s) ∙ o.same
    ∙ ap (λ (k : ℕ). over at (cells k true minus n) s₀) (sym a)
    ∙ ap (λ (t : List ℕ). over at t s₀) (sym (number-cells j n minus (omega arith) (subst (λ (k : ℕ). n < 10 ^ k) b h)))
    ∙ ap (λ (k : ℕ). over at (column_text (at_right k (dash minus ++ decimal n))) s₀) a
numbered at width n (suc left) rest minus shown sign s₀ s w v h l o = absurd (omega arith)

pub number-end : (at width n left rest : ℕ) (minus shown sign : Bool) (s₀ s : List ℕ) → 1 + length (dash minus) ≤ width → width ≤ 19 → n < 10 ^ (width - length (dash minus)) → length s₀ ≡ 81 → left ≤ 0
    → Writing at width n minus s₀ s left shown sign rest → Put at (column_text (at_right width (dash minus ++ decimal n))) s₀ s
number-end at width n left rest minus shown sign s₀ s w v h k l o = record { is = numbered at width n left rest minus shown sign s₀ s w v h l o; size = o.size ∙ k }

-- ---- put_last

pub record Lasting (at count n : ℕ) (s₀ s : List ℕ) (left rest : ℕ) : Type 0 where
  pub low : left ≤ count
  pub size : length s ≡ length s₀
  pub same : over at (last_digits left rest) s ≡ over at (last_digits count n) s₀

pub last-start : (at count n : ℕ) (s : List ℕ) → Lasting at count n s s count n
last-start at count n s = record { low = omega arith; size = refl; same = refl }

last_step : (at left rest : ℕ) (s : List ℕ) → at + suc left ≤ length s → over at (last_digits left (rest / 10)) (set s (at + left) (48 + rest % 10)) ≡ over at (last_digits (suc left) rest) s
unfolding last_digits
last_step at left rest s h =
    let cs = last_digits left (rest / 10) in
    ap (over at cs) (set-over s (at + left) (48 + rest % 10) (omega arith))
    ∙ ap (λ (k : ℕ). over at cs (over (at + k) ((48 + rest % 10) ∷ []) s)) (sym (length_last left (rest / 10)))
    ∙ over-under at cs ((48 + rest % 10) ∷ []) s (omega (arith, length_last left (rest / 10)))

pub last_turn : (at count n left rest : ℕ) (s₀ s : List ℕ) → at + count ≤ 81 → length s₀ ≡ 81 → 0 < left → Lasting at count n s₀ s left rest
    → Lasting at count n s₀ (set s (at + (left - 1)) (48 + rest % 10)) (left - 1) (rest / 10)
last_turn at count n left rest s₀ s h k p o =
    let l = left - 1 in
    let z : suc l ≡ left = omega arith in
    let low = o.low in
    let size = o.size in
    record {
      low = omega arith;
      size = length-set s (at + l) (48 + rest % 10) ∙ o.size;
      same = last_step at l rest s (omega arith) ∙ ap (λ (k : ℕ). over at (last_digits k rest) s) z ∙ o.same;
    }

lasted : (at count n left rest : ℕ) (s₀ s : List ℕ) → left ≤ 0 → Lasting at count n s₀ s left rest → s ≡ over at (last_digits count n) s₀
unfolding last_digits
lasted at count n zero rest s₀ s l o = sym (over_none at s) ∙ o.same
lasted at count n (suc left) rest s₀ s l o = absurd (omega arith)

pub last_end : (at count n left rest : ℕ) (s₀ s : List ℕ) → length s₀ ≡ 81 → left ≤ 0 → Lasting at count n s₀ s left rest → Put at (last_digits count n) s₀ s
last_end at count n left rest s₀ s k l o = record { is = lasted at count n left rest s₀ s l o; size = o.size ∙ k }

-- ---- put_decimal

-- b and then b'
after : (at : ℕ) (b b' s s₁ s₂ : List ℕ) (k : ℕ) → k ≡ at + length b → at ≤ length s → s₁ ≡ over at b s → s₂ ≡ over k b' s₁ → s₂ ≡ over at (b ++ b') s
after at b b' s s₁ s₂ k e h p q = q ∙ (λ i. over (e i) b' (p i)) ∙ over-over at b b' s h

pub decimal-put : (at whole d unit n : ℕ) (minus : Bool) (s s₁ s₃ : List ℕ) → unit ≡ 10 ^ d → 1 + length (dash minus) ≤ whole → whole ≤ 19 → n / 10 ^ d < 10 ^ (whole - length (dash minus)) → at + whole + 1 + d ≤ 81 → length s ≡ 81
    → Put at (column_text (at_right whole (dash minus ++ decimal (n / unit)))) s s₁ → Put (at + whole + 1) (last_digits d n) (set s₁ (at + whole) 46) s₃
    → Put at (column_text (at_right (whole + (1 + d)) (dash minus ++ pointed d n))) s s₃
decimal-put at whole d unit n minus s s₁ s₃ u w v h r k p q =
    let m = n / 10 ^ d in
    let t = dash minus ++ decimal m in
    let C = column_text (at_right whole t) in
    let j = whole - length (dash minus) - 1 in
    let b : whole - length (dash minus) ≡ suc j = omega arith in
    let few : length (decimal m) ≤ suc j = digits-within 20 j m (subst (λ (z : ℕ). m < 10 ^ z) b h) in
    let tl = length-append (dash minus) (decimal m) in
    let short : length t ≤ whole = omega arith in
    let wide : length C ≡ whole = column-length (at_right whole t) (le-leb (length t) whole short) in
    let p₁ : s₁ ≡ over at C s = p.is ∙ ap (λ (z : ℕ). over at (column_text (at_right whole (dash minus ++ decimal (n / z)))) s) u in
    let sz = p.size in
    let p₂ : set s₁ (at + whole) 46 ≡ over (at + whole) (46 ∷ []) s₁ = set-over s₁ (at + whole) 46 (omega arith) in
    let p₃ : set s₁ (at + whole) 46 ≡ over at (C ++ (46 ∷ [])) s = after at C (46 ∷ []) s s₁ (set s₁ (at + whole) 46) (at + whole) (omega arith) (omega arith) p₁ p₂ in
    let cl = length-append C (46 ∷ []) in
    let p₄ : s₃ ≡ over at ((C ++ (46 ∷ [])) ++ last_digits d n) s = after at (C ++ (46 ∷ [])) (last_digits d n) s (set s₁ (at + whole) 46) s₃ (at + whole + 1) (omega arith) (omega arith) p₃ q.is in
    let e : whole + (1 + d) ≡ whole + suc d = omega arith in
    record {
      is = p₄
          ∙ ap (λ (z : List ℕ). over at z s) (append_assoc C (46 ∷ []) (last_digits d n) ∙ sym (point-column whole d n minus short))
          ∙ ap (λ (z : ℕ). over at (column_text (at_right z (dash minus ++ pointed d n))) s) (sym e);
      size = q.size;
    }

-- what the call asks of the number, by its quotient in code
pub whole-fits : (n d unit k : ℕ) → unit ≡ 10 ^ d → n / 10 ^ d < 10 ^ k → n / unit < 10 ^ k
whole-fits n d unit k e h = subst (λ (z : ℕ). n / z < 10 ^ k) (sym e) h

-- ---- decimals that fit

-- the digits after the point and the point
pointed-length : (s : Bool) (d n : ℕ) → length (dash s ++ pointed d n) ≡ length (dash s ++ decimal (n / 10 ^ d)) + suc d
unfolding pointed
pointed-length s d n =
    let t = dash s ++ decimal (n / 10 ^ d) in
    ap length (sym (append_assoc (dash s) (decimal (n / 10 ^ d)) (46 ∷ last_digits d n)))
    ∙ length-append t (46 ∷ last_digits d n)
    ∙ ap (λ (z : ℕ). length t + suc z) (length_last d n)

leb-plus : (a b c : ℕ) → leb (a + c) (b + c) ≡ leb a b
leb-plus a b c = go (leb a b) refl
  where
    go : (t : Bool) → leb a b ≡ t → leb (a + c) (b + c) ≡ t
    go true e = let l = leb-true a b e in le-leb (a + c) (b + c) (omega arith)
    go false e = let l = leb-false a b e in lt-leb (a + c) (b + c) (omega arith)

-- j + 2 columns before the point
whole-width : (s : Bool) (d j n : ℕ) → j < 18 → leb (length (dash s ++ pointed d n)) (suc (suc j) + suc d) ≡ cond s (ltb (n / 10 ^ d) (10 ^ suc j)) (ltb (n / 10 ^ d) (10 ^ suc (suc j)))
whole-width s d j n l =
    ap (λ (k : ℕ). leb k (suc (suc j) + suc d)) (pointed-length s d n)
    ∙ leb-plus (length (dash s ++ decimal (n / 10 ^ d))) (suc (suc j)) (suc d)
    ∙ dashed-width s j (n / 10 ^ d) l

quotient-below : (n d k : ℕ) → ltb (n / 10 ^ d) k ≡ ltb n (k * 10 ^ d)
quotient-below n d k = go (ltb n (k * 10 ^ d)) refl
  where
    p : 0 < 10 ^ d
    p = one-le-pow d 10 (zero-lt-suc 9)

    go : (t : Bool) → ltb n (k * 10 ^ d) ≡ t → ltb (n / 10 ^ d) k ≡ t
    go true e = lt-ltb (n / 10 ^ d) k ((div-lt_iff_lt-mul p).1 (ltb-true n (k * 10 ^ d) e))
    go false e = le-ltb (n / 10 ^ d) k ((le-div_iff_mul-le p).1 (ltb-false n (k * 10 ^ d) e))

pub decimal-width : (s : Bool) (d j n : ℕ) → j < 18
    → leb (length (dash s ++ pointed d n)) (suc (suc j) + suc d) ≡ cond s (ltb n (10 ^ suc j * 10 ^ d)) (ltb n (10 ^ suc (suc j) * 10 ^ d))
decimal-width s d j n l = whole-width s d j n l ∙ (λ i. cond s (quotient-below n d (10 ^ suc j) i) (quotient-below n d (10 ^ suc (suc j)) i))

-- what fits has few enough digits before the point
pub record Room (whole d n : ℕ) (s : Bool) : Type 0 where
  pub front : 1 + length (dash s) ≤ whole
  pub digits : n / 10 ^ d < 10 ^ (whole - length (dash s))

pub room : (s : Bool) (d j n : ℕ) → j < 18 → leb (length (dash s ++ pointed d n)) (suc (suc j) + suc d) ≡ true → Room (suc (suc j)) d n s
room s d j n l h = go s (sym (whole-width s d j n l) ∙ h)
  where
    go : (s : Bool) → cond s (ltb (n / 10 ^ d) (10 ^ suc j)) (ltb (n / 10 ^ d) (10 ^ suc (suc j))) ≡ true → Room (suc (suc j)) d n s
    go true e =
        let z : suc j ≡ suc (suc j) - 1 = omega arith in
        record { front = omega arith; digits = subst (λ (k : ℕ). n / 10 ^ d < 10 ^ k) z (ltb-true (n / 10 ^ d) (10 ^ suc j) e) }
    go false e =
        let z : suc (suc j) ≡ suc (suc j) - 0 = omega arith in
        record { front = omega arith; digits = subst (λ (k : ℕ). n / 10 ^ d < 10 ^ k) z (ltb-true (n / 10 ^ d) (10 ^ suc (suc j)) e) }

-- ---- an f64 as a decimal

pub decimal-made : (unit b n : ℕ) → n ≡ min (in_units unit (of_bits binary64 b)) 10000000 → ◌≡◌ {A = Decimal} (record { minus = leb (2 ^ 63) b && ltb 0 n; size = n }) (decimal_of unit b)
decimal-made unit b n e = λ i. record { minus = leb (2 ^ 63) b && ltb 0 (e i); size = e i }

-- a test below the cut doesn't see the cut
cut_below : (m k : ℕ) → k ≤ 10000000 → ltb (min m 10000000) k ≡ ltb m k
cut_below m k h = go (ltb m k) refl
  where
    go : (t : Bool) → ltb m k ≡ t → ltb (min m 10000000) k ≡ t
    go true e = let l = ltb-true m k e in lt-ltb (min m 10000000) k (omega arith)
    go false e = let l = ltb-false m k e in le-ltb (min m 10000000) k (omega arith)

cut-some : (m : ℕ) → ltb 0 (min m 10000000) ≡ ltb 0 m
cut-some m = go (ltb 0 m) refl
  where
    go : (t : Bool) → ltb 0 m ≡ t → ltb 0 (min m 10000000) ≡ t
    go true e = let l = ltb-true 0 m e in lt-ltb 0 (min m 10000000) (omega arith)
    go false e = let l = ltb-false 0 m e in le-ltb 0 (min m 10000000) (omega arith)

module _ (d j b : ℕ) (l : j < 18) (p : 10 ^ suc j * 10 ^ d ≤ 10000000) (q : 10 ^ suc (suc j) * 10 ^ d ≤ 10000000) where
  abbrev r : ℕ
  r = rounded d b

  -- so it is as wide as the f64
  pub made-width : leb (length (decimal_text d (decimal_of (10 ^ d) b))) (suc (suc j) + suc d) ≡ leb (length (fixed d b)) (suc (suc j) + suc d)
  made-width =
      decimal-width (leb (2 ^ 63) b && ltb 0 (min r 10000000)) d j (min r 10000000) l
      ∙ (λ i. cond (leb (2 ^ 63) b && cut-some r i) (cut_below r (10 ^ suc j * 10 ^ d) p i) (cut_below r (10 ^ suc (suc j) * 10 ^ d) q i))
      ∙ sym (fixed-width d j b l)

  -- and, where that fits, written as the f64 is
  pub made-text : leb (length (fixed d b)) (suc (suc j) + suc d) ≡ true → decimal_text d (decimal_of (10 ^ d) b) ≡ fixed d b
  unfolding fixed
  made-text h =
      let few : r < 10000000 = go (negative d b) (sym (fixed-width d j b l) ∙ h) in
      let e : min r 10000000 ≡ r = omega arith in
      ap (λ (n : ℕ). dash (leb (2 ^ 63) b && ltb 0 n) ++ pointed d n) e
    where
      go : (s : Bool) → cond s (ltb r (10 ^ suc j * 10 ^ d)) (ltb r (10 ^ suc (suc j) * 10 ^ d)) ≡ true → r < 10000000
      go true e = lt_of_lt_of_le (ltb-true r (10 ^ suc j * 10 ^ d) e) p
      go false e = lt_of_lt_of_le (ltb-true r (10 ^ suc (suc j) * 10 ^ d) e) q
