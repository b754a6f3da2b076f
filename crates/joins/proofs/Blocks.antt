-- A join as blocks of records that stand one after the other. Assumes nothing.
use Prim.Native.Nat.{ℕ, suc, ◌+◌, ◌-◌, ◌≤◌}
use mathlib.Core.Path.{◌≡◌, refl, sym, ap, ◌∙◌}
use mathlib.Core.List.{List, [], ◌∷◌, ◌++◌, append_assoc}
use native.Mathlib.Omega.{arith}
use lib.ListN.{length, take, drop, length-append, take-append-drop}
use lib.Seq.{take_at, drop_at, take-append-le, drop-append-le}
use Rattle.machine.specs.Record.{Words}
use Rattle.moves.proofs.Laws.{rest_at, rotated-at}
use Rattle.joins.specs.Join.{cut_turned}

module _ {A : Type 0} where
  -- a list in two ways, of which the second is cut later
  record Seam (x y p q : List A) : Type 0 where
    middle : List A
    front : p ≡ x ++ middle
    back : y ≡ middle ++ q

  seam : (x y p q : List A) → x ++ y ≡ p ++ q → length x ≤ length p → Seam x y p q
  seam x y p q e l =
      let n : ℕ = length x in
      let f : x ≡ take n p = sym (take_at x y n refl) ∙ ap (take n) e ∙ take-append-le n p q l in
      let b : y ≡ drop n p ++ q = sym (drop_at x y n refl) ∙ ap (drop n) e ∙ drop-append-le n p q l in
      record { middle = drop n p; front = sym (ap (λ (z : List A). z ++ drop n p) f ∙ take-append-drop n p); back = b }

  -- the same block taken out of the same list
  same-cut : (p x q r y s : List A) → p ++ (x ++ q) ≡ r ++ (y ++ s) → length p ≡ length r → length x ≡ length y → p ++ q ≡ r ++ s
  same-cut p x q r y s e l k =
      let n : ℕ = length r in
      let f : p ≡ r = sym (take_at p (x ++ q) n l) ∙ ap (take n) e ∙ take_at r (y ++ s) n refl in
      let b : q ≡ s = sym (rest_at p x q n (n + length y) l (omega arith)) ∙ ap (drop (n + length y)) e ∙ rest_at r y s n (n + length y) refl refl in
      rw (f, b)

-- what stands around the second branch, once it has moved, is what is left: where the first ends before it, and where it ends before the first
pub record TurnedBlocks (kids R P Q : List Words) (gone qa qb : ℕ) : Type 0 where
  pub later : qa ≤ gone → length P ≡ gone + length kids → P ++ Q ≡ cut_turned gone qa gone (qb - 1) R
  pub earlier : qb ≤ qa → length P ≡ gone → P ++ Q ≡ cut_turned gone gone (qb - 1) (qa - 1) R

-- X ends with the first branch, at qa; the second has the record `gone` and its children, up to qb.
-- R₁ is R with the children behind X too, and P and Q stand around the second branch in it
module _ (own : Words) (kids R R₁ X rest p q P Q : List Words) (gone qa qb : ℕ)
    (first : R ≡ X ++ rest) (second : R ≡ p ++ ((own ∷ kids) ++ q)) (grown : R₁ ≡ X ++ (kids ++ rest)) (moved : R₁ ≡ P ++ ((own ∷ kids) ++ Q))
    (x-length : length X ≡ qa) (p-length : length p ≡ gone) (k-length : gone + suc (length kids) ≡ qb) where
  without : take gone R ++ drop (suc gone) R ≡ p ++ (kids ++ q)
  without =
      let e : gone + length (own ∷ []) ≡ suc gone = omega arith in
      let d : drop (suc gone) (p ++ ((own ∷ []) ++ (kids ++ q))) ≡ kids ++ q = rest_at p (own ∷ []) (kids ++ q) gone (suc gone) p-length e in
      rw (second, take_at p ((own ∷ kids) ++ q) gone p-length) (ap (λ (z : List Words). p ++ z) d)

  later-at : (y : List Words) → p ≡ X ++ y → rest ≡ y ++ ((own ∷ kids) ++ q) → length P ≡ gone + length kids → P ++ Q ≡ cut_turned gone qa gone (qb - 1) R
  unfolding cut_turned
  later-at y front back k =
      let n : length p ≡ length X + length y = ap length front ∙ length-append X y in
      let e : P ++ ((own ∷ kids) ++ Q) ≡ (X ++ (kids ++ y)) ++ ((own ∷ kids) ++ q) = sym moved ∙ grown ∙ rw back (simp append_assoc) in
      let m : length P ≡ length (X ++ (kids ++ y)) = rw (length-append, length-append) (omega arith) in
      let r : P ++ Q ≡ X ++ (kids ++ (y ++ q)) = same-cut P (own ∷ kids) Q (X ++ (kids ++ y)) (own ∷ kids) q e m refl ∙ simp append_assoc in
      let w : take gone R ++ drop (suc gone) R ≡ X ++ (y ++ (kids ++ q)) = without ∙ rw front (append_assoc X y (kids ++ q)) in
      rw (w, r) (sym (rotated-at X y kids q qa gone (qb - 1) x-length (omega arith) (omega arith)))

  turned-later : qa ≤ gone → length P ≡ gone + length kids → P ++ Q ≡ cut_turned gone qa gone (qb - 1) R
  turned-later l k =
      let s = seam X rest p ((own ∷ kids) ++ q) (sym first ∙ second) (omega arith) in
      later-at s.middle s.front s.back k

  earlier-at : (y : List Words) → X ≡ (p ++ (own ∷ kids)) ++ y → q ≡ y ++ rest → length P ≡ gone → P ++ Q ≡ cut_turned gone gone (qb - 1) (qa - 1) R
  unfolding cut_turned
  earlier-at y front back k =
      let n : length X ≡ length (p ++ (own ∷ kids)) + length y = ap length front ∙ length-append (p ++ (own ∷ kids)) y in
      let o = length-append p (own ∷ kids) in
      let e : P ++ ((own ∷ kids) ++ Q) ≡ p ++ ((own ∷ kids) ++ (y ++ (kids ++ rest))) = sym moved ∙ grown ∙ rw front (simp append_assoc) in
      let r : P ++ Q ≡ p ++ (y ++ (kids ++ rest)) = same-cut P (own ∷ kids) Q p (own ∷ kids) (y ++ (kids ++ rest)) e (omega arith) refl in
      let w : take gone R ++ drop (suc gone) R ≡ p ++ (kids ++ (y ++ rest)) = without ∙ ap (λ (z : List Words). p ++ (kids ++ z)) back in
      rw (w, r) (sym (rotated-at p kids y rest gone (qb - 1) (qa - 1) p-length (omega arith) (omega arith)))

  turned-earlier : qb ≤ qa → length P ≡ gone → P ++ Q ≡ cut_turned gone gone (qb - 1) (qa - 1) R
  turned-earlier l k =
      let o = length-append p (own ∷ kids) in
      let s = seam (p ++ (own ∷ kids)) q X rest (append_assoc p (own ∷ kids) q ∙ sym second ∙ first) (omega arith) in
      earlier-at s.middle s.front s.back k

  pub turned : TurnedBlocks kids R P Q gone qa qb
  turned = record { later = turned-later; earlier = turned-earlier }
