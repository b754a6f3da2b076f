-- Columns put one after the other into a line of blanks. Assumes nothing.
use Prim.Native.Nat.{ℕ, zero, suc, ◌+◌, ◌-◌, ◌≤◌}
use mathlib.Core.Path.{◌≡◌, refl, sym, ap, ◌∙◌, subst}
use mathlib.Core.Bool.{Bool, true, false, ◌&&◌}
use mathlib.Core.List.{List, [], ◌∷◌, ◌++◌, append_assoc, append-nil}
use native.Mathlib.Nat.{zero-add, suc-add, add-zero}
use native.Mathlib.Omega.{arith}
use lib.Dec.{leb}
use lib.ListN.{length, length-append, length-replicate}
use borrow.Author.Tests.{le-leb}
use Rattle.machine.specs.Lists.{all, concat_map, sum}
use Rattle.machine.specs.Program.{newline}
use Rattle.machine.specs.Lines.{Column, at_left, at_right, column_text, blanks, fitting, line_of}
use Rattle.laws.specs.Lists.{concat_map-append, sum-append}
use Rattle.laws.specs.Columns.{width, column-length, columns-length}
use Rattle.moves.specs.Over.{over}
use Rattle.moves.proofs.Laws.{over-at, over_none}
use Rattle.columns.specs.Put.{Put, Begun}

blanks-split : (w n : ℕ) → blanks (w + n) ≡ blanks w ++ blanks n
blanks-split zero n = ap blanks (zero-add n)
blanks-split (suc w) n = ap blanks (suc-add w n) ∙ ap (λ (z : List ℕ). 32 ∷ z) (blanks-split w n)

pub all_append : (xs ys : List Column) → all fitting (xs ++ ys) ≡ all fitting xs && all fitting ys
all_append [] ys = refl
all_append (x ∷ xs) ys = ap (λ (z : Bool). fitting x && z) (all_append xs ys) ∙ assoc (fitting x) (all fitting xs) (all fitting ys)
  where
    assoc : (a b c : Bool) → a && (b && c) ≡ (a && b) && c
    assoc true b c = refl
    assoc false b c = refl

-- blanks, a part of which is written over
write-part : (p t q : List ℕ) (k m at : ℕ) → length p ≡ at → over (at + k) t (p ++ (blanks (k + (length t + m)) ++ q)) ≡ p ++ ((blanks k ++ (t ++ blanks m)) ++ q)
write-part p t q k m at e =
    let split : p ++ (blanks (k + (length t + m)) ++ q) ≡ (p ++ blanks k) ++ (blanks (length t) ++ (blanks m ++ q)) =
    ap (λ (z : List ℕ). p ++ (z ++ q)) (blanks-split k (length t + m) ∙ ap (λ (z : List ℕ). blanks k ++ z) (blanks-split (length t) m))
    ∙ regroup p (blanks k) (blanks (length t)) (blanks m) q in
    let l = length-append p (blanks k) in
    let j = length-replicate {A = ℕ} k 32 in
    ap (over (at + k) t) split
    ∙ over-at (p ++ blanks k) (blanks (length t)) (blanks m ++ q) (at + k) (at + k + length (blanks (length t))) (omega arith) refl t (sym (length-replicate {A = ℕ} (length t) 32))
    ∙ sym (regroup p (blanks k) t (blanks m) q)
  where
    regroup : (p a b c q : List ℕ) → p ++ ((a ++ (b ++ c)) ++ q) ≡ (p ++ a) ++ (b ++ (c ++ q))
    regroup p a b c q = simp append_assoc

-- the columns ds, then xs, and now c: t is put where the text of c has it
module _ (at : ℕ) (ds xs : List Column) where
  put-text : (c : Column) (k m : ℕ) (t s s' : List ℕ) → column_text c ≡ blanks k ++ (t ++ blanks m) → fitting c ≡ true → at + width c ≤ 80 → Begun at (ds ++ xs) s → Put (at + k) t s s'
      → Begun (at + width c) (ds ++ (xs ++ (c ∷ []))) s'
  put-text c k m t s s' f g h o p =
      let cs = ds ++ xs in
      let wide : length (column_text c) ≡ width c = column-length c g in
      let parts = ap length f in
      let l = length-append (blanks k) (t ++ blanks m) in
      let l' = length-append t (blanks m) in
      let j = length-replicate {A = ℕ} k 32 in
      let j' = length-replicate {A = ℕ} m 32 in
      let rest = 80 - (at + width c) in
      let u : 80 - at ≡ (k + (length t + m)) + rest = omega arith in
      let room : s ≡ concat_map column_text cs ++ (blanks (k + (length t + m)) ++ (blanks rest ++ newline)) =
      o.is
      ∙ ap (λ (z : List ℕ). concat_map column_text cs ++ (z ++ newline)) (ap blanks u ∙ blanks-split (k + (length t + m)) rest)
      ∙ ap (λ (z : List ℕ). concat_map column_text cs ++ z) (append_assoc (blanks (k + (length t + m))) (blanks rest) newline) in
      let more : ds ++ (xs ++ (c ∷ [])) ≡ cs ++ (c ∷ []) = sym (append_assoc ds xs (c ∷ [])) in
      let text : concat_map column_text (ds ++ (xs ++ (c ∷ []))) ≡ concat_map column_text cs ++ column_text c =
      ap (concat_map column_text) more ∙ concat_map-append column_text cs (c ∷ []) ∙ ap (λ (z : List ℕ). concat_map column_text cs ++ z) (append-nil (column_text c)) in
      let both : all fitting cs && (fitting c && true) ≡ true = rw (o.fits, g) in
      record {
        is = p.is
            ∙ ap (over (at + k) t) room
            ∙ write-part (concat_map column_text cs) t (blanks rest ++ newline) k m at (columns-length cs o.fits ∙ o.wide)
            ∙ ap (λ (z : List ℕ). concat_map column_text cs ++ (z ++ (blanks rest ++ newline))) (sym f)
            ∙ sym (append_assoc (concat_map column_text cs) (column_text c) (blanks rest ++ newline))
            ∙ ap (λ (z : List ℕ). z ++ (blanks rest ++ newline)) (sym text);
        wide = ap (sum width) more ∙ sum-append width cs (c ∷ []) ∙ (λ i. o.wide i + add-zero (width c) i);
        fits = ap (all fitting) more ∙ all_append cs (c ∷ []) ∙ both;
      }

  -- the whole column
  pub put-column : (c : Column) (s s' : List ℕ) → fitting c ≡ true → at + width c ≤ 80 → Begun at (ds ++ xs) s → Put (at + 0) (column_text c) s s' → Begun (at + width c) (ds ++ (xs ++ (c ∷ []))) s'
  put-column c s s' g h o p = put-text c 0 0 (column_text c) s s' (sym (append-nil (column_text c))) g h o p

  -- its text alone, at the left, k columns from the left, or at the right
  pub put-left : (w : ℕ) (t s s' : List ℕ) → leb (length t) w ≡ true → at + w ≤ 80 → Begun at (ds ++ xs) s → Put (at + 0) t s s' → Begun (at + w) (ds ++ (xs ++ (at_left w t ∷ []))) s'
  put-left w t s s' g h o p = put-text (at_left w t) 0 (w - length t) t s s' refl g h o p

  pub put-indented : (w k : ℕ) (t s s' : List ℕ) → leb (length (blanks k ++ t)) w ≡ true → at + w ≤ 80 → Begun at (ds ++ xs) s → Put (at + k) t s s'
      → Begun (at + w) (ds ++ (xs ++ (at_left w (blanks k ++ t) ∷ []))) s'
  put-indented w k t s s' g h o p =
      put-text (at_left w (blanks k ++ t)) k (w - length (blanks k ++ t)) t s s' (append_assoc (blanks k) t (blanks (w - length (blanks k ++ t)))) g h o p

  pub put_right : (w : ℕ) (t s s' : List ℕ) → leb (length t) w ≡ true → at + w ≤ 80 → Begun at (ds ++ xs) s → Put (at + (w - length t)) t s s' → Begun (at + w) (ds ++ (xs ++ (at_right w t ∷ []))) s'
  put_right w t s s' g h o p = put-text (at_right w t) (w - length t) 0 t s s' (ap (λ (z : List ℕ). blanks (w - length t) ++ z) (sym (append-nil t))) g h o p

  -- a blank column stands there already
  pub skip : (w : ℕ) (s : List ℕ) → length s ≡ 81 → at + w ≤ 80 → Begun at (ds ++ xs) s → Begun (at + w) (ds ++ (xs ++ (at_left w [] ∷ []))) s
  skip w s l h o = put-left w [] s s (le-leb 0 w (omega arith)) h o (record { is = sym (over_none (at + 0) s); size = l })

pub start : (at : ℕ) (ds : List Column) (s : List ℕ) → Begun at ds s → Begun at (ds ++ []) s
start at ds s o = subst (λ (xs : List Column). Begun at xs s) (sym (append-nil ds)) o

-- ---- whole lines

pub blank-line : (s : List ℕ) → s ≡ blanks 80 ++ newline → Begun 0 [] s
blank-line s e = record { is = e; wide = refl; fits = refl }

pub line-whole : (cs : List Column) (s : List ℕ) → Begun 80 cs s → s ≡ line_of cs
line-whole cs s o = o.is
