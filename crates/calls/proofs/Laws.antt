-- A call's parts, a call by its row, and a list's calls, each read from the front. Assumes nothing.
use Prim.Native.Nat.{ℕ, suc, ◌+◌, ◌-◌, ◌≤◌, ◌<◌}
use mathlib.Core.Path.{◌≡◌, refl, sym, ap, ◌∙◌}
use mathlib.Core.Bool.{Bool, true, false, ◌&&◌, cond, and-false}
use mathlib.Core.List.{List, [], ◌∷◌}
use Rattle.std.specs.Prelude.{None, Option, Some, option_map}
use native.Mathlib.Omega.{arith}
use lib.ListN.{length, get_or, take, drop, length-drop, length-take}
use lib.Seq.{drop-drop, take_all}
use lib.Dec.{leb, eqb}
use borrow.Author.Tests.{le-leb, lt-leb, ne_eqb}
use Rattle.std.specs.List.{IsSplitAt}
use Rattle.machine.specs.Lists.{is_some, and_then}
use Rattle.machine.specs.Edit.{Call}
use Rattle.calls.specs.Format.{row_of, shape_of, is_code, numbers_in, trees_in, parts_in, good_part, read_parts, read_call, longest, read_calls}
use Rattle.calls.proofs.Reading.{parts-fold, call-fold, calls-none, calls-fold}

-- ---- a slice's first words and those behind them

-- the words behind the first k, as a pattern gives them
abbrev pub behind_first : ℕ → List ℕ → List ℕ
behind_first k ws = take (length ws - k) (drop k ws)

behind_first_is : (k : ℕ) (ws : List ℕ) → behind_first k ws ≡ drop k ws
behind_first_is k ws = take_all (length ws - k) (drop k ws) (omega (arith, length-drop k ws))

-- ---- good_parts

some-map : {A B : Type 0} (b : Bool) (f : A → B) (o : Option A) → is_some (cond b (option_map f o) None) ≡ b && is_some o
some-map true f None = refl
some-map true f (Some x) = refl
some-map false f o = refl

-- k parts, of which the first is its length and as many words
module _ (trees k : ℕ) (ws : List ℕ) (whole : Bool) (e : is_some (read_parts trees k ws) ≡ whole) where
  pub parts-end : k ≤ 0 → eqb (length ws) 0 ≡ whole
  unfolding read_parts
  parts-end h = let z : k ≡ 0 = omega arith in sym (none_left ws) ∙ (rw z at e)
    where
      none_left : (vs : List ℕ) → is_some (read_parts trees 0 vs) ≡ eqb (length vs) 0
      none_left [] = refl
      none_left (v ∷ vs) = sym (ne_eqb (length (v ∷ vs)) 0 (λ z. omega arith))

  module _ (l : 0 < k) where
    part_first : whole ≡ (leb (1 + get_or ws 0 0) (length ws) && good_part trees (k - 1) (take (get_or ws 0 0) (drop 1 ws))) && is_some (read_parts trees (k - 1) (drop (1 + get_or ws 0 0) ws))
    part_first =
        let z : k ≡ suc (k - 1) = omega arith in
        sym e ∙ ap (λ (j : ℕ). is_some (read_parts trees j ws)) z ∙ rw (parts-fold trees (k - 1) ws, some-map)

    pub parts_out : length ws < 1 → false ≡ whole
    parts_out h = sym (part_first ∙ rw (lt-leb (1 + get_or ws 0 0) (length ws) (omega arith)))

    pub parts-cut : length (behind_first 1 ws) < get_or ws 0 0 → false ≡ whole
    parts-cut h = sym (part_first ∙ rw (lt-leb (1 + get_or ws 0 0) (length ws) (omega (arith, length-take (length ws - 1) (drop 1 ws), length-drop 1 ws))))

    module _ (h : 1 ≤ length ws) (part behind : List ℕ) (s : IsSplitAt (behind_first 1 ws) (get_or ws 0 0) part behind) (r : Bool) (g : r ≡ good_part trees (k - 1) part) where
      good_first : whole ≡ r && is_some (read_parts trees (k - 1) behind)
      good_first =
          let t = rw behind_first_is at s in
          part_first ∙ rw (le-leb (1 + get_or ws 0 0) (length ws) (omega (arith, length-drop 1 ws)), ← t.1, ← g, ← drop-drop (get_or ws 0 0) 1 ws, ← t.2)

      pub parts-bad : r ≡ false → false ≡ whole
      parts-bad b = sym (good_first ∙ rw b)

      pub parts_next : r ≡ true → is_some (read_parts trees (k - 1) behind) ≡ whole
      parts_next b = sym (good_first ∙ rw b)

-- ---- good_call

module _ (code : ℕ) (ws : List ℕ) where
  call_at : is_some (read_call code ws) ≡ (is_code code && leb (numbers_in code) (length ws)) && is_some (read_parts (trees_in code) (parts_in code) (drop (numbers_in code) ws))
  call_at = rw (call-fold code ws, some-map)

  pub call-unknown : is_code code ≡ false → false ≡ is_some (read_call code ws)
  call-unknown h = sym (call_at ∙ rw h)

  -- its row, as it is read
  module _ (row : List ℕ) (known : is_code code ≡ true) (q : row ≡ shape_of (row_of code)) where
    pub call-short : length ws < get_or row 0 0 → false ≡ is_some (read_call code ws)
    call-short s = let m = ap (λ (r : List ℕ). get_or r 0 0) q in sym (call_at ∙ rw (← m, lt-leb (get_or row 0 0) (length ws) s, and-false))

    pub call-rest : (numbers : List ℕ) (parts : List ℕ) → IsSplitAt ws (get_or row 0 0) numbers parts → (r : Bool) → r ≡ is_some (read_parts (get_or row 2 0) (get_or row 1 0 + get_or row 2 0) parts) → r ≡ is_some (read_call code ws)
    call-rest numbers parts s r i =
        let m = ap (λ (x : List ℕ). get_or x 0 0) q in
        let u = ap (λ (x : List ℕ). get_or x 1 0) q in
        let v = ap (λ (x : List ℕ). get_or x 2 0) q in
        i ∙ sym (call_at ∙ rw (known, ← m, ← u, ← v, le-leb (get_or row 0 0) (length ws) s.0, s.2))

-- ---- count_calls

-- the calls counted so far and those that are left
abbrev pub counted_from : ℕ → Option (List Call) → Option ℕ
counted_from k None = None
counted_from k (Some cs) = Some (k + length cs)

counted-map : (k : ℕ) (b : Bool) (o : Option Call) (q : Option (List Call))
    → counted_from k (cond b (and_then o (λ (c : Call). option_map (λ (cs : List Call). c ∷ cs) q)) None) ≡ cond (b && is_some o) (counted_from (k + 1) q) None
counted-map k true None q = refl
counted-map k true (Some c) None = refl
counted-map k true (Some c) (Some cs) = ap Some (omega arith)
counted-map k false o q = refl

counted_step : (k : ℕ) (ws : List ℕ) → 0 < length ws
    → counted_from k (read_calls ws)
    ≡ cond (leb (2 + get_or ws 1 0) (length ws) && leb (get_or ws 1 0) longest && is_some (read_call (get_or ws 0 0) (take (get_or ws 1 0) (drop 2 ws))))
    (counted_from (k + 1) (read_calls (drop (2 + get_or ws 1 0) ws)))
    None
counted_step k ws h =
    let n = get_or ws 1 0 in
    ap (counted_from k) (calls-fold ws h) ∙ counted-map k (leb (2 + n) (length ws) && leb n longest) (read_call (get_or ws 0 0) (take n (drop 2 ws))) (read_calls (drop (2 + n) ws))

-- `k` calls counted, and the words that are left
module _ (k : ℕ) (ws : List ℕ) (whole : Option ℕ) (e : counted_from k (read_calls ws) ≡ whole) where
  pub calls-end : length ws ≡ 0 → Some k ≡ whole
  calls-end l = none_left ws l e
    where
      none_left : (vs : List ℕ) → length vs ≡ 0 → counted_from k (read_calls vs) ≡ whole → Some k ≡ whole
      none_left [] l e = let z : k + 0 ≡ k = omega arith in sym (ap Some z) ∙ sym (ap (counted_from k) calls-none) ∙ e
      none_left (v ∷ vs) l e = absurd (omega arith)

  pub calls-cut : (length ws ≡ 0 → ⊥) → length ws < 2 → None ≡ whole
  calls-cut n l = sym (sym e ∙ counted_step k ws (omega arith) ∙ rw (lt-leb (2 + get_or ws 1 0) (length ws) (omega arith)))

  module _ (l : 2 ≤ length ws) where
    pub calls-long : 1024 < get_or ws 1 0 → None ≡ whole
    calls-long h = sym (sym e ∙ counted_step k ws (omega arith) ∙ rw (lt-leb (get_or ws 1 0) longest h, and-false))

    pub calls-past : length (behind_first 2 ws) < get_or ws 1 0 → None ≡ whole
    calls-past h =
        sym (sym e ∙ counted_step k ws (omega arith) ∙ rw (lt-leb (2 + get_or ws 1 0) (length ws) (omega (arith, length-take (length ws - 2) (drop 2 ws), length-drop 2 ws))))

    module _ (s : get_or ws 1 0 ≤ 1024) (words later : List ℕ) (p : IsSplitAt (behind_first 2 ws) (get_or ws 1 0) words later) (r : Bool) (g : r ≡ is_some (read_call (get_or ws 0 0) words)) where
      good-next : whole ≡ cond r (counted_from (k + 1) (read_calls later)) None
      good-next =
          let t = rw behind_first_is at p in
          sym e
          ∙ counted_step k ws (omega arith)
          ∙ rw (le-leb (2 + get_or ws 1 0) (length ws) (omega (arith, length-drop 2 ws)), le-leb (get_or ws 1 0) longest s, ← t.1, ← g, ← drop-drop (get_or ws 1 0) 2 ws, ← t.2)

      pub calls-bad : r ≡ false → None ≡ whole
      calls-bad b = sym (good-next ∙ rw b)

      pub calls-next : r ≡ true → counted_from (k + 1) (read_calls later) ≡ whole
      calls-next b = sym (good-next ∙ rw b)
