-- The laws of `over`, and of the moves at lists that are written as their parts. Assumes nothing.
use Prim.Native.Nat.{ℕ, ◌+◌, ◌-◌, ◌≤◌, ◌<◌}
use mathlib.Core.Path.{◌≡◌, sym, ap, ◌∙◌}
use mathlib.Core.List.{List, [], ◌∷◌, ◌++◌, append_assoc}
use native.Mathlib.Nat.{add-zero, add-suc, suc-add, add_assoc}
use native.Mathlib.Numerals.{add-one}
use native.Mathlib.Omega.{arith}
use lib.ListN.{length, take, drop, get_or, set, replicate, length-append, length-take, length-drop, take-append-drop, get_or-append}
use lib.Seq.{drop-cons, take-suc, set_at, append_snoc, get_or-drop, get_or-append-add, get_or-take, length-take-le, take_at, drop_at, drop-drop, take-append-le, drop-append-le, take-take}
use Rattle.std.specs.List.{between}
use Rattle.std.proofs.lemmas.List.Edits.{length-between, split_between}
use Rattle.moves.specs.Over.{over, taken_out, gapped, rotated}

-- ---- parts of a list

module _ {A : Type 0} where
  -- n words of s from `from` are n words
  pub words : (from n : ℕ) (s : List A) → from + n ≤ length s → length (take n (drop from s)) ≡ n
  words from n s h = simp (length-take, length-drop) (omega arith)

  pub between-append : (p q : List A) (from to : ℕ) → from ≤ to → to ≤ length p → between from to (p ++ q) ≡ between from to p
  between-append p q from to l h =
      rw (drop-append-le from p q (omega arith)) (take-append-le (to - from) (drop from p) q (rw length-drop (omega arith)))

  split_rest : (a b : ℕ) (s : List A) → a ≤ b → drop a s ≡ between a b s ++ drop b s
  split_rest a b s h =
      let e : a + (b - a) ≡ b = omega arith in
      let d : drop (b - a) (drop a s) ≡ drop b s = drop-drop (b - a) a s ∙ ap (λ (n : ℕ). drop n s) e in
      rw (← d, take-append-drop)

  -- a list is its parts, one after the other
  pub split-three : (a m b : ℕ) (s : List A) → a ≤ m → m ≤ b → s ≡ take a s ++ (between a m s ++ (between m b s ++ drop b s))
  split-three a m b s h k = split_between s a m h ∙ ap (λ (r : List A). take a s ++ (between a m s ++ r)) (split_rest m b s k)

-- ---- `over`

module _ {A : Type 0} where
  -- what was written, with what stands before it, is that long
  pub over-head : (at : ℕ) (b s : List A) → at ≤ length s → length (take at s ++ b) ≡ at + length b
  over-head at b s h = simp (length-append, length-take) (omega arith)

  pub over-length : (at : ℕ) (b s : List A) → at + length b ≤ length s → length (over at b s) ≡ length s
  unfolding over
  over-length at b s h = simp (length-append, length-take, length-drop) (omega arith)

  pub over_none : (at : ℕ) (s : List A) → over at [] s ≡ s
  unfolding over
  over_none at s = rw add-zero (take-append-drop at s)

  -- the words below what was written
  pub take-over : (at : ℕ) (b s : List A) (n : ℕ) → at ≤ length s → n ≤ at → take n (over at b s) ≡ take n s
  unfolding over
  take-over at b s n h k =
      take-append-le n (take at s) _ (rw length-take-le (omega arith)) ∙ take-take n at s k

  -- the words after what was written
  pub drop-over : (at : ℕ) (b s : List A) (n : ℕ) → at ≤ length s → at + length b ≤ n → drop n (over at b s) ≡ drop n s
  unfolding over
  drop-over at b s n h k =
      let m : ℕ = n - (at + length b) in
      let e : at + length b + m ≡ n = omega arith in
      let w : drop (at + length b) (take at s ++ (b ++ drop (at + length b) s)) ≡ drop (at + length b) s =
      rw (← append_assoc (take at s) b) (drop_at (take at s ++ b) _ (at + length b) (over-head at b s h)) in
      rw (← e, ← drop-drop m (at + length b) (take at s ++ (b ++ drop (at + length b) s)), w) (drop-drop m (at + length b) s)

  -- a part below what was written
  pub between-below : (at : ℕ) (b s : List A) (from to : ℕ) → at ≤ length s → from ≤ to → to ≤ at → between from to (over at b s) ≡ between from to s
  unfolding over
  between-below at b s from to h l k =
      let f : to ≤ length (take at s) = rw length-take-le (omega arith) in
      between-append (take at s) _ from to l f
      ∙ sym (between-append (take at s) (drop at s) from to l f)
      ∙ ap (between from to) (take-append-drop at s)

  -- one write after another, before another, and over another
  pub over-over : (at : ℕ) (b b' s : List A) → at ≤ length s → over (at + length b) b' (over at b s) ≡ over at (b ++ b') s
  unfolding over
  over-over at b b' s h =
      let q : length (take at s ++ b) ≡ at + length b = over-head at b s h in
      rw (
        ← append_assoc (take at s) b,
        take_at (take at s ++ b) (drop (at + length b) s) (at + length b) q,
        ← drop-drop (length b') (at + length b) (take at s ++ b ++ drop (at + length b) s),
        drop_at (take at s ++ b) (drop (at + length b) s) (at + length b) q,
        drop-drop,
        length-append,
        add_assoc,
        append_assoc (take at s) b (b' ++ drop (at + (length b + length b')) s),
        append_assoc b b' (drop (at + (length b + length b')) s),
      )

  pub over-under : (at : ℕ) (b b' s : List A) → at + length b ≤ length s → over at b (over (at + length b) b' s) ≡ over at (b ++ b') s
  unfolding over
  over-under at b b' s h =
      let q : length (take (at + length b) s) ≡ at + length b = length-take-le (at + length b) s h in
      rw (
        take-append-le at (take (at + length b) s) (b' ++ drop (at + length b + length b') s) (omega arith),
        take-take at (at + length b) s (omega arith),
        drop_at (take (at + length b) s) (b' ++ drop (at + length b + length b') s) (at + length b) q,
        length-append,
        add_assoc,
        append_assoc b,
      )

  -- `over` reads what stands around alone
  same-around : (at : ℕ) (b s s' : List A) → take at s ≡ take at s' → drop (at + length b) s ≡ drop (at + length b) s' → over at b s ≡ over at b s'
  unfolding over
  same-around at b s s' t d = rw (t, d)

  pub over-same : (at : ℕ) (b b' s : List A) → at ≤ length s → length b ≤ length b' → over at b' (over at b s) ≡ over at b' s
  over-same at b b' s h e =
      let t : take at (over at b s) ≡ take at s = take-over at b s at h (omega arith) in
      let d : drop (at + length b') (over at b s) ≡ drop (at + length b') s = drop-over at b s (at + length b') h (omega arith) in
      same-around at b' (over at b s) s t d

-- a word below, inside and above what was written
pub get_or-below : (at : ℕ) (b s : List ℕ) (j : ℕ) → at ≤ length s → j < at → get_or (over at b s) j 0 ≡ get_or s j 0
unfolding over
get_or-below at b s j h k = get_or-append (take at s) _ 0 j (rw length-take-le k) ∙ get_or-take at s j 0 k

get_past : (p q : List ℕ) (n j : ℕ) → length p ≡ n → get_or (p ++ q) (n + j) 0 ≡ get_or q j 0
get_past p q n j e = rw (← e) (get_or-append-add p q j 0)

pub get_or-inside : (at : ℕ) (b s : List ℕ) (j : ℕ) → at ≤ length s → j < length b → get_or (over at b s) (at + j) 0 ≡ get_or b j 0
unfolding over
get_or-inside at b s j h k = get_past (take at s) _ at j (length-take-le at s h) ∙ get_or-append b _ 0 j k

pub get_or-above : (at : ℕ) (b s : List ℕ) (j : ℕ) → at ≤ length s → at + length b ≤ j → get_or (over at b s) j 0 ≡ get_or s j 0
get_or-above at b s j h k =
    let e : j ≡ j + 0 = omega arith in
    rw e (sym (get_or-drop j (over at b s) 0 0) ∙ rw (drop-over at b s j h k) (get_or-drop j s 0 0))

-- a store after what was written, whose length is n
pub over-snoc : {A : Type 0} (at : ℕ) (b s : List A) (v : A) (n : ℕ) → length b ≡ n → at + n < length s → set (over at b s) (at + n) v ≡ over at (b ++ (v ∷ [])) s
unfolding over
over-snoc at b s v n e h =
    let q : length (take at s ++ b) ≡ at + n = over-head at b s (omega arith) ∙ ap (λ (x : ℕ). at + x) e in
    rw (e, drop-cons s (at + n) v, ← append_assoc (take at s) b, length-append, e, add-one, add-suc, append_snoc)
    (set_at (take at s ++ b) _ _ v (at + n) q ∙ append_assoc (take at s) b _)

-- a store before what was written
pub over-cons : (at : ℕ) (b s : List ℕ) (v : ℕ) → at < length s → set (over (at + 1) b s) at v ≡ over at (v ∷ b) s
unfolding over
over-cons at b s v h =
    rw (add-one, take-suc s at 0, append_snoc, suc-add, add-suc)
    (set_at (take at s) _ _ v at (length-take-le at s (omega arith)))

-- ---- the moves

pub rotated-length : {A : Type 0} (a m b : ℕ) (s : List A) → a ≤ m → m ≤ b → b ≤ length s → length (rotated a m b s) ≡ length s
unfolding rotated
rotated-length a m b s l k h =
    rw (length-append, length-append, length-append, length-take-le a s (omega arith), length-between s m b h, length-between s a m (omega arith), length-drop)
    (omega arith)

-- at a list that is written as its parts

module _ {A : Type 0} (p x q : List A) (a b : ℕ) (before : length p ≡ a) (after : a + length x ≡ b) where
  pub part_at : between a b (p ++ (x ++ q)) ≡ x
  part_at = rw (drop_at p (x ++ q) a before) (take_at x q (b - a) (omega arith))

  pub rest_at : drop b (p ++ (x ++ q)) ≡ q
  rest_at = rw (← append_assoc p x q) (drop_at (p ++ x) q b (rw length-append (omega arith)))

  pub over-at : (y : List A) → length y ≡ length x → over a y (p ++ (x ++ q)) ≡ p ++ (y ++ q)
  unfolding over
  over-at y e =
      let f : a + length y ≡ b = omega arith in
      rw (f, take_at p (x ++ q) a before, rest_at)

module _ {A : Type 0} (p x y q : List A) (a m b : ℕ) (before : length p ≡ a) (middle : a + length x ≡ m) (after : m + length y ≡ b) where
  second_at : between m b (p ++ (x ++ (y ++ q))) ≡ y
  second_at = rw (← append_assoc p x (y ++ q)) (part_at (p ++ x) y q m b (rw length-append (omega arith)) after)

  after-at : drop b (p ++ (x ++ (y ++ q))) ≡ q
  after-at = rw (← append_assoc p x (y ++ q)) (rest_at (p ++ x) y q m b (rw length-append (omega arith)) after)

  pub rotated-at : rotated a m b (p ++ (x ++ (y ++ q))) ≡ p ++ (y ++ (x ++ q))
  unfolding rotated
  rotated-at = rw (take_at p (x ++ (y ++ q)) a before, part_at p x (y ++ q) a m before middle, second_at, after-at)

module _ (p x y q : List ℕ) (a m b : ℕ) (before : length p ≡ a) (middle : a + length x ≡ m) (after : m + length y ≡ b) where
  pub taken_out-at : taken_out a m b (p ++ (x ++ (y ++ q))) ≡ p ++ (y ++ (replicate (length x) 0 ++ q))
  unfolding taken_out
  taken_out-at =
      let e : m - a ≡ length x = omega arith in
      rw (take_at p (x ++ (y ++ q)) a before, second_at p x y q a m b before middle after, after-at p x y q a m b before middle after, e)

  -- here y is the room above what moves up
  pub gapped-at : gapped a (length y) m (p ++ (x ++ (y ++ q))) ≡ p ++ (replicate (length y) 0 ++ (x ++ q))
  unfolding gapped
  gapped-at = rw (after, take_at p (x ++ (y ++ q)) a before, part_at p x (y ++ q) a m before middle, after-at p x y q a m b before middle after)
