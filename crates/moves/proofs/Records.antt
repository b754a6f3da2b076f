-- The moves at words that are whole records of twelve: a move of words is a move of records. Assumes nothing.
use Prim.Native.Nat.{ℕ, zero, suc, ◌+◌, ◌-◌, ◌*◌, ◌≤◌, ◌<◌}
use mathlib.Core.Path.{◌≡◌, refl, sym, ap, ◌∙◌, subst}
use mathlib.Core.List.{List, [], ◌∷◌, ◌++◌, append_assoc}
use native.Mathlib.Omega.{arith}
use lib.ListN.{length, take, drop, get_or, set, replicate, length-append, length-take, length-drop, length-replicate, take-append-drop, replicate-append-replicate}
use lib.Seq.{length-take-le, take_at, drop_at, drop-cons, set_at}
use Rattle.std.specs.List.{between}
use Rattle.std.proofs.lemmas.List.Edits.{length-between, split_between}
use Rattle.machine.specs.Record.{Words}
use Rattle.machine.specs.Store.{laid}
use Rattle.laws.specs.Lists.{All-append, All-left, All-right, concat_map-append}
use Rattle.laws.specs.Grouped.{concat, concat-length}
use Rattle.moves.specs.Over.{over, taken_out, gapped, rotated, Twelve}
use Rattle.moves.proofs.Laws.{rotated-length, split-three, over-length, over-at, taken_out-at, gapped-at, rotated-at}

pub twelve-take : (x : ℕ) (rs : List Words) → Twelve rs → Twelve (take x rs)
twelve-take x rs t = All-left _ (take x rs) (drop x rs) (rw take-append-drop t)

pub twelve-drop : (x : ℕ) (rs : List Words) → Twelve rs → Twelve (drop x rs)
twelve-drop x rs t = All-right _ (take x rs) (drop x rs) (rw take-append-drop t)

pub twelve-between : (x y : ℕ) (rs : List Words) → Twelve rs → Twelve (between x y rs)
twelve-between x y rs t = twelve-take (y - x) (drop x rs) (twelve-drop x rs t)

pub twelve-over : (x : ℕ) (new rs : List Words) → Twelve new → Twelve rs → Twelve (over x new rs)
unfolding over
twelve-over x new rs tn t =
    All-append _ (take x rs) _ (twelve-take x rs t) (All-append _ new _ tn (twelve-drop (x + length new) rs t))

pub twelve-rotated : (a m b : ℕ) (rs : List Words) → Twelve rs → Twelve (rotated a m b rs)
unfolding rotated
twelve-rotated a m b rs t =
    All-append _ (take a rs) _ (twelve-take a rs t)
    (All-append _ (between m b rs) _ (twelve-between m b rs t) (All-append _ (between a m rs) _ (twelve-between a m rs t) (twelve-drop b rs t)))

pub concat-append : (xs ys : List Words) → concat (xs ++ ys) ≡ concat xs ++ concat ys
concat-append xs ys = concat_map-append (λ (r : Words). r) xs ys

-- n records of zeros
abbrev pub blank : ℕ → List Words
blank n = replicate n (replicate 12 0)

pub blank-words : (n : ℕ) → concat (blank n) ≡ replicate (12 * n) 0
blank-words zero = refl
blank-words (suc n) =
    let e : 12 * suc n ≡ 12 + 12 * n = omega arith in
    rw (blank-words n, e) (replicate-append-replicate {A = ℕ} 12 (12 * n) 0)

pub blank-twelve : (n : ℕ) → Twelve (blank n)
blank-twelve zero = tt
blank-twelve (suc n) = (refl, blank-twelve n)

-- ---- parts of the words

module _ (rs : List Words) (rest : List ℕ) (t : Twelve rs) (x : ℕ) (h : x ≤ length rs) where
  halves : concat rs ++ rest ≡ concat (take x rs) ++ (concat (drop x rs) ++ rest)
  halves = ap (λ (v : List Words). concat v ++ rest) (sym (take-append-drop x rs)) ∙ simp (concat-append, append_assoc)

  first-words : length (concat (take x rs)) ≡ 12 * x
  first-words = omega (arith, concat-length (take x rs) (twelve-take x rs t), length-take-le x rs h)

  pub take-records : take (12 * x) (concat rs ++ rest) ≡ concat (take x rs)
  take-records = ap (take (12 * x)) halves ∙ take_at (concat (take x rs)) _ (12 * x) first-words

  pub drop-records : drop (12 * x) (concat rs ++ rest) ≡ concat (drop x rs) ++ rest
  drop-records = ap (drop (12 * x)) halves ∙ drop_at (concat (take x rs)) _ (12 * x) first-words

-- the words of record x
pub record-at : (rs : List Words) (rest : List ℕ) (x : ℕ) → Twelve rs → x < length rs → take 12 (drop (12 * x) (concat rs ++ rest)) ≡ get_or rs x []
record-at rs rest x t h =
    let d = drop-cons rs x [] h in
    let l : length (get_or rs x []) ≡ 12 = (subst Twelve d (twelve-drop x rs t)).0 in
    rw (drop-records rs rest t x (omega arith), d, append_assoc) (take_at (get_or rs x []) _ 12 l)

-- ---- a move of the words of records that stand one after the other

pub insert-blocks : (ps xs : List Words) (room rest : List ℕ) (a m n : ℕ) → Twelve (ps ++ xs) → length ps ≡ a → a + length xs ≡ m → length room ≡ 12 * n
    → gapped (12 * a) (12 * n) (12 * m) (concat (ps ++ xs) ++ (room ++ rest)) ≡ concat (ps ++ (blank n ++ xs)) ++ rest
insert-blocks ps xs room rest a m n t before after e =
    let low : length (concat ps) ≡ 12 * a = omega (arith, concat-length ps (All-left _ ps xs t)) in
    let high : 12 * a + length (concat xs) ≡ 12 * m = omega (arith, concat-length xs (All-right _ ps xs t)) in
    let parts : concat (ps ++ xs) ++ (room ++ rest) ≡ concat ps ++ (concat xs ++ (room ++ rest)) = rw concat-append (simp append_assoc) in
    rw (concat-append ps (blank n ++ xs), concat-append (blank n) xs, blank-words, parts, ← e)
    (gapped-at (concat ps) (concat xs) room rest (12 * a) (12 * m) (12 * m + length room) low high refl ∙ simp append_assoc)

module _ (ps xs ys : List Words) (rest : List ℕ) (t : Twelve (ps ++ (xs ++ ys))) (a m b : ℕ) (before : length ps ≡ a) (middle : a + length xs ≡ m)
    (after : m + length ys ≡ b) where
  parts : concat (ps ++ (xs ++ ys)) ++ rest ≡ concat ps ++ (concat xs ++ (concat ys ++ rest))
  parts = rw (concat-append ps, concat-append xs) (simp append_assoc)

  p-words : length (concat ps) ≡ 12 * a
  p-words = omega (arith, concat-length ps (All-left _ ps (xs ++ ys) t))

  x-words : 12 * a + length (concat xs) ≡ 12 * m
  x-words = omega (arith, concat-length xs (All-left _ xs ys (All-right _ ps (xs ++ ys) t)))

  y-words : 12 * m + length (concat ys) ≡ 12 * b
  y-words = omega (arith, concat-length ys (All-right _ xs ys (All-right _ ps (xs ++ ys) t)))

  pub remove-blocks : taken_out (12 * a) (12 * m) (12 * b) (concat (ps ++ (xs ++ ys)) ++ rest) ≡ concat (ps ++ ys) ++ (replicate (12 * (m - a)) 0 ++ rest)
  remove-blocks =
      let e : 12 * (m - a) ≡ length (concat xs) = omega (arith, x-words) in
      rw (parts, concat-append, e)
      (taken_out-at (concat ps) (concat xs) (concat ys) rest (12 * a) (12 * m) (12 * b) p-words x-words y-words ∙ simp append_assoc)

  pub rotate-blocks : rotated (12 * a) (12 * m) (12 * b) (concat (ps ++ (xs ++ ys)) ++ rest) ≡ concat (ps ++ (ys ++ xs)) ++ rest
  rotate-blocks =
      rw (parts, concat-append ps, concat-append ys)
      (rotated-at (concat ps) (concat xs) (concat ys) rest (12 * a) (12 * m) (12 * b) p-words x-words y-words ∙ simp append_assoc)

  pub write-blocks : (new : List Words) → Twelve new → length new ≡ length xs
      → over (12 * a) (concat new) (concat (ps ++ (xs ++ ys)) ++ rest) ≡ concat (ps ++ (new ++ ys)) ++ rest
  write-blocks new tn e =
      let l : length (concat new) ≡ length (concat xs) = omega (arith, concat-length new tn, x-words) in
      rw (parts, concat-append ps, concat-append new)
      (over-at (concat ps) (concat xs) (concat ys ++ rest) (12 * a) (12 * m) p-words x-words (concat new) l ∙ simp append_assoc)

-- ---- a move of the words of records is a move of the records

module _ (rs : List Words) (rest : List ℕ) (t : Twelve rs) where
  pub remove-records : (x y : ℕ) → x ≤ y → y ≤ length rs
      → taken_out (12 * x) (12 * y) (12 * length rs) (concat rs ++ rest) ≡ concat (take x rs ++ drop y rs) ++ (replicate (12 * (y - x)) 0 ++ rest)
  remove-records x y l h =
      let e = split_between rs x y l in
      ap (λ (v : List Words). taken_out (12 * x) (12 * y) (12 * length rs) (concat v ++ rest)) e
      ∙ remove-blocks (take x rs) (between x y rs) (drop y rs) rest (subst Twelve e t) x y (length rs) (length-take-le x rs (omega arith))
      (omega (arith, length-between rs x y h)) (omega (arith, length-drop y rs))

  pub insert-records : (room : List ℕ) (x n : ℕ) → x ≤ length rs → length room ≡ 12 * n
      → gapped (12 * x) (12 * n) (12 * length rs) (concat rs ++ (room ++ rest)) ≡ concat (take x rs ++ (blank n ++ drop x rs)) ++ rest
  insert-records room x n h r =
      let e = sym (take-append-drop x rs) in
      ap (λ (v : List Words). gapped (12 * x) (12 * n) (12 * length rs) (concat v ++ (room ++ rest))) e
      ∙ insert-blocks (take x rs) (drop x rs) room rest x (length rs) n (subst Twelve e t) (length-take-le x rs h) (omega (arith, length-drop x rs)) r

  pub rotate-records : (a m b : ℕ) → a ≤ m → m ≤ b → b ≤ length rs
      → rotated (12 * a) (12 * m) (12 * b) (concat rs ++ rest) ≡ concat (rotated a m b rs) ++ rest
  unfolding rotated
  rotate-records a m b l k h =
      let p : List Words = take a rs in
      let x : List Words = between a m rs in
      let y : List Words = between m b rs in
      let q : List Words = drop b rs in
      let e : rs ≡ p ++ (x ++ y) ++ q = split-three a m b rs l k ∙ simp append_assoc in
      let f : concat (p ++ (x ++ y) ++ q) ++ rest ≡ concat (p ++ (x ++ y)) ++ (concat q ++ rest) = simp (concat-append, append_assoc) in
      let g : concat (p ++ (y ++ x)) ++ (concat q ++ rest) ≡ concat (p ++ (y ++ (x ++ q))) ++ rest = simp (concat-append, append_assoc) in
      ap (λ (v : List Words). rotated (12 * a) (12 * m) (12 * b) (concat v ++ rest)) e
      ∙ ap (rotated (12 * a) (12 * m) (12 * b)) f
      ∙ rotate-blocks p x y (concat q ++ rest) (All-left _ (p ++ (x ++ y)) q (subst Twelve e t)) a m b (length-take-le a rs (omega arith))
      (omega (arith, length-between rs a m (omega arith))) (omega (arith, length-between rs m b h))
      ∙ g

  pub write-records : (new : List Words) (x : ℕ) → Twelve new → x + length new ≤ length rs
      → over (12 * x) (concat new) (concat rs ++ rest) ≡ concat (over x new rs) ++ rest
  unfolding over
  write-records new x tn h =
      let e = split_between rs x (x + length new) (omega arith) in
      let l : length (between x (x + length new) rs) ≡ x + length new - x = length-between rs x (x + length new) h in
      ap (λ (v : List Words). over (12 * x) (concat new) (concat v ++ rest)) e
      ∙ write-blocks (take x rs) (between x (x + length new) rs) (drop (x + length new) rs) rest (subst Twelve e t) x (x + length new) (length rs)
      (length-take-le x rs (omega arith)) (omega arith) (omega (arith, length-drop (x + length new) rs)) new tn (omega arith)

-- ---- the same in a store's words: records, then zeros, then the word index at which the records end

-- words that follow b are zeros, and the last word is set to b's length
trailer : (n z x : ℕ) (b : List ℕ) → length b + z ≡ n - 1 → set (b ++ (replicate z 0 ++ (x ∷ []))) (n - 1) (length b) ≡ laid n b
unfolding laid
trailer n z x b e =
    let l : length (b ++ replicate z 0) ≡ n - 1 = rw (length-append, length-replicate) e in
    let f : z ≡ n - 1 - length b = omega arith in
    ap (λ (w : List ℕ). set w (n - 1) (length b)) (sym (append_assoc b (replicate z 0) (x ∷ [])))
    ∙ set_at (b ++ replicate z 0) x [] (length b) (n - 1) l
    ∙ append_assoc b (replicate z 0) (length b ∷ [])
    ∙ ap (λ (k : ℕ). b ++ (replicate k 0 ++ (length b ∷ []))) f

-- a move of records that keeps their number, whatever stands behind them
kept-laid : (n : ℕ) (rs rs' : List Words) (f : List ℕ → List ℕ) → Twelve rs → Twelve rs' → length rs' ≡ length rs
    → ((rest : List ℕ) → f (concat rs ++ rest) ≡ concat rs' ++ rest) → f (laid n (concat rs)) ≡ laid n (concat rs')
unfolding laid
kept-laid n rs rs' f t t' e g =
    let l : length (concat rs) ≡ length (concat rs') = omega (arith, concat-length rs t, concat-length rs' t') in
    g (replicate (n - 1 - length (concat rs)) 0 ++ (length (concat rs) ∷ [])) ∙ rw l

zeros-two : (a b c : ℕ) (r : List ℕ) → a + b ≡ c → replicate c 0 ++ r ≡ replicate a 0 ++ (replicate b 0 ++ r)
zeros-two a b c r e = rw (← e, ← replicate-append-replicate {A = ℕ} a b 0) (append_assoc (replicate a 0) (replicate b 0) r)

counted : (rs : List Words) (n : ℕ) → Twelve rs → length rs ≡ n → length (concat rs) ≡ 12 * n
counted rs n t e = concat-length rs t ∙ ap (λ (k : ℕ). 12 * k) e

module _ (n : ℕ) (rs : List Words) (t : Twelve rs) where
  pub remove-laid : (x y : ℕ) → x ≤ y → y ≤ length rs → 12 * length rs < n
      → set (taken_out (12 * x) (12 * y) (12 * length rs) (laid n (concat rs))) (n - 1) (12 * (length rs - (y - x))) ≡ laid n (concat (take x rs ++ drop y rs))
  unfolding laid
  remove-laid x y l h f =
      let new : List Words = take x rs ++ drop y rs in
      let all : ℕ = length (concat rs) in
      let k : all ≡ 12 * length rs = concat-length rs t in
      let c : length (concat new) ≡ 12 * (length rs - (y - x)) =
      counted new _ (All-append _ (take x rs) (drop y rs) (twelve-take x rs t) (twelve-drop y rs t))
      (simp (length-append, length-take, length-drop) (omega arith)) in
      rw (remove-records rs (replicate (n - 1 - all) 0 ++ (all ∷ [])) t x y l h, ← zeros-two (12 * (y - x)) (n - 1 - all) _ (all ∷ []) refl, ← c)
      (trailer n (12 * (y - x) + (n - 1 - all)) all (concat new) (omega arith))

  pub insert-laid : (x m : ℕ) → x ≤ length rs → 12 * (length rs + m) < n
      → set (gapped (12 * x) (12 * m) (12 * length rs) (laid n (concat rs))) (n - 1) (12 * (length rs + m)) ≡ laid n (concat (take x rs ++ (blank m ++ drop x rs)))
  unfolding laid
  insert-laid x m h f =
      let new : List Words = take x rs ++ (blank m ++ drop x rs) in
      let all : ℕ = length (concat rs) in
      let k : all ≡ 12 * length rs = concat-length rs t in
      let c : length (concat new) ≡ 12 * (length rs + m) =
      counted new _ (All-append _ (take x rs) _ (twelve-take x rs t) (All-append _ (blank m) _ (blank-twelve m) (twelve-drop x rs t)))
      (simp (length-append, length-take, length-drop, length-replicate) (omega arith)) in
      let r : List ℕ = replicate (n - 1 - all - 12 * m) 0 ++ (all ∷ []) in
      let z : replicate (n - 1 - all) 0 ++ (all ∷ []) ≡ replicate (12 * m) 0 ++ r =
      zeros-two (12 * m) (n - 1 - all - 12 * m) (n - 1 - all) (all ∷ []) (omega arith) in
      rw (z, insert-records rs r t (replicate (12 * m) 0) x m h (length-replicate (12 * m) 0), ← c)
      (trailer n (n - 1 - all - 12 * m) all (concat new) (omega arith))

  pub rotate-laid : (a m b : ℕ) → a ≤ m → m ≤ b → b ≤ length rs → rotated (12 * a) (12 * m) (12 * b) (laid n (concat rs)) ≡ laid n (concat (rotated a m b rs))
  rotate-laid a m b l k h =
      kept-laid n rs (rotated a m b rs) (rotated (12 * a) (12 * m) (12 * b)) t (twelve-rotated a m b rs t) (rotated-length a m b rs l k h)
      (λ rest. rotate-records rs rest t a m b l k h)

  pub write-laid : (new : List Words) (x : ℕ) → Twelve new → x + length new ≤ length rs
      → over (12 * x) (concat new) (laid n (concat rs)) ≡ laid n (concat (over x new rs))
  write-laid new x tn h =
      kept-laid n rs (over x new rs) (over (12 * x) (concat new)) t (twelve-over x new rs tn t) (over-length x new rs h)
      (λ rest. write-records rs rest t new x tn h)
