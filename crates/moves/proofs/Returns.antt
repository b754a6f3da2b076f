-- What each function of `src/` returns. Assumes nothing.
use Prim.Native.Nat.{ℕ, ◌+◌, ◌-◌, ◌≤◌, ◌<◌}
use mathlib.Core.Path.{◌≡◌, refl, sym, ap, ◌∙◌}
use mathlib.Core.List.{List, [], ◌++◌, append_assoc, reverse, reverse-append, reverse-reverse}
use native.Mathlib.Numerals.{add-one}
use native.Mathlib.Omega.{arith}
use lib.ListN.{length, take, drop, get_or, set, replicate, length-append, length-replicate, length-reverse}
use lib.Seq.{drop-drop, take-suc, take_all, length-take-le, paste}
use borrow.Rule.Slice.PartMut.{mid_of, put_mid, put_same}
use Rattle.std.specs.List.{between}
use Rattle.std.proofs.lemmas.List.Edits.{length-between}
use Rattle.moves.specs.Over.{over, taken_out, gapped, rotated}
use Rattle.moves.proofs.Laws.{words, split-three, over_none, over-over, over-under, over-snoc, part_at, over-at}

-- ---- the loop that writes

module _ {A : Type 0} where
  pub write-start : (at : ℕ) (s : List A) → s ≡ over at [] s
  write-start at s = sym (over_none at s)

  pub write-turn : (s₀ s b : List A) (d : A) (at k : ℕ) → at + length b ≤ length s₀ → k < length b → s ≡ over at (take k b) s₀
      → set s (at + k) (get_or b k d) ≡ over at (take (k + 1) b) s₀
  write-turn s₀ s b d at k fits t e =
      rw (e, add-one, take-suc b k d) (over-snoc at (take k b) s₀ (get_or b k d) k (length-take-le k b (omega arith)) (omega arith))

  pub write-end : (s₀ s b : List A) (at k : ℕ) → length b ≤ k → s ≡ over at (take k b) s₀ → s ≡ over at b s₀
  write-end s₀ s b at k h e = e ∙ rw (take_all k b h)

-- ---- the library's methods: a part that holds b afterwards, words copied within the slice, parts turned

module _ {A : Type 0} where
  pub part-written : (at k : ℕ) (b b' s : List A) → b' ≡ b → k ≡ length b → put_mid at k s b' ≡ over at b s
  unfolding over
  part-written at k b b' s e f = rw (e, drop-drop k at s, f)

  pub part-filled : (at k n : ℕ) (x : A) (t s : List A) → t ≡ replicate (length (mid_of at k s)) x → k ≡ n → at + n ≤ length s
      → put_mid at k s t ≡ over at (replicate n x) s
  part-filled at k n x t s e f h =
      let l : at + k ≤ length s = omega arith in
      part-written at k (replicate n x) t s (e ∙ rw (words at k s l, f)) (f ∙ sym (length-replicate n x))

  pub words-copied : (from to n k : ℕ) (s : List A) → from + n ≤ length s → k ≡ n → paste s to (drop from s) k ≡ over to (take n (drop from s)) s
  unfolding over
  words-copied from to n k s h e = rw (e, words from n s h) (append_assoc (take to s) _ _)

  -- a record that stands there already
  pub record-there : (from to : ℕ) (s : List A) → from ≡ to → to + 12 ≤ length s → over to (take 12 (drop from s)) s ≡ s
  record-there from to s e h = rw e (sym (part-written to 12 _ _ s refl (sym (words to 12 s h))) ∙ put_same to 12 s)

  -- x, which stands from a to b, is turned
  turned : (p x q t : List A) (a b : ℕ) → length p ≡ a → a + length x ≡ b → t ≡ reverse (mid_of a (b - a) (p ++ (x ++ q)))
      → put_mid a (b - a) (p ++ (x ++ q)) t ≡ p ++ (reverse x ++ q)
  turned p x q t a b h k e =
      let l : length (reverse x) ≡ length x = length-reverse x in
      let n : b - a ≡ length (reverse x) = omega arith in
      part-written a (b - a) (reverse x) t (p ++ (x ++ q)) (e ∙ ap reverse (part_at p x q a b h k)) n ∙ over-at p x q a b h k (reverse x) l

  turned-thrice : (p x y q t₁ t₂ t₃ : List A) (a m b : ℕ) → length p ≡ a → a + length x ≡ m → m + length y ≡ b
      → t₁ ≡ reverse (mid_of a (m - a) (p ++ (x ++ (y ++ q))))
      → t₂ ≡ reverse (mid_of m (b - m) (put_mid a (m - a) (p ++ (x ++ (y ++ q))) t₁))
      → t₃ ≡ reverse (mid_of a (b - a) (put_mid m (b - m) (put_mid a (m - a) (p ++ (x ++ (y ++ q))) t₁) t₂))
      → put_mid a (b - a) (put_mid m (b - m) (put_mid a (m - a) (p ++ (x ++ (y ++ q))) t₁) t₂) t₃ ≡ p ++ (y ++ (x ++ q))
  turned-thrice p x y q t₁ t₂ t₃ a m b h k n e₁ e₂ e₃ =
      let u = reverse x in
      let v = reverse y in
      let lu : length u ≡ length x = length-reverse x in
      let lv : length v ≡ length y = length-reverse y in
      let lp : length (p ++ u) ≡ m = rw length-append (omega arith) in
      let luv : a + length (u ++ v) ≡ b = rw length-append (omega arith) in
      let s₁ : put_mid a (m - a) (p ++ (x ++ (y ++ q))) t₁ ≡ (p ++ u) ++ (y ++ q) = turned p x (y ++ q) t₁ a m h k e₁ ∙ sym (append_assoc p u (y ++ q)) in
      let f₂ : t₂ ≡ reverse (mid_of m (b - m) ((p ++ u) ++ (y ++ q))) = e₂ ∙ ap (λ (z : List A). reverse (mid_of m (b - m) z)) s₁ in
      let s₂ : put_mid m (b - m) (put_mid a (m - a) (p ++ (x ++ (y ++ q))) t₁) t₂ ≡ p ++ ((u ++ v) ++ q) =
      ap (λ (z : List A). put_mid m (b - m) z t₂) s₁ ∙ turned (p ++ u) y q t₂ m b lp n f₂
      ∙ append_assoc p u (v ++ q) ∙ ap (λ (z : List A). p ++ z) (sym (append_assoc u v q)) in
      let f₃ : t₃ ≡ reverse (mid_of a (b - a) (p ++ ((u ++ v) ++ q))) = e₃ ∙ ap (λ (z : List A). reverse (mid_of a (b - a) z)) s₂ in
      let w : reverse (u ++ v) ≡ y ++ x = rw (reverse-append u v, reverse-reverse x, reverse-reverse y) in
      ap (λ (z : List A). put_mid a (b - a) z t₃) s₂ ∙ turned p (u ++ v) q t₃ a b h luv f₃
      ∙ ap (λ (z : List A). p ++ (z ++ q)) w ∙ ap (λ (z : List A). p ++ z) (append_assoc y x q)

  pub rotate-law : (s t₁ t₂ t₃ : List A) (a m b : ℕ) → a ≤ m → m ≤ b → b ≤ length s
      → t₁ ≡ reverse (mid_of a (m - a) s)
      → t₂ ≡ reverse (mid_of m (b - m) (put_mid a (m - a) s t₁))
      → t₃ ≡ reverse (mid_of a (b - a) (put_mid m (b - m) (put_mid a (m - a) s t₁) t₂))
      → put_mid a (b - a) (put_mid m (b - m) (put_mid a (m - a) s t₁) t₂) t₃ ≡ rotated a m b s
  unfolding rotated
  rotate-law s t₁ t₂ t₃ a m b h k l e₁ e₂ e₃ =
      let d = split-three a m b s h k in
      let x : a + length (between a m s) ≡ m = rw (length-between s a m (omega arith)) (omega arith) in
      let y : m + length (between m b s) ≡ b = rw (length-between s m b l) (omega arith) in
      ap (λ (z : List A). put_mid a (b - a) (put_mid m (b - m) (put_mid a (m - a) z t₁) t₂) t₃) d
      ∙ turned-thrice (take a s) (between a m s) (between m b s) (drop b s) t₁ t₂ t₃ a m b (length-take-le a s (omega arith)) x y
      (e₁ ∙ ap (λ (z : List A). reverse (mid_of a (m - a) z)) d)
      (e₂ ∙ ap (λ (z : List A). reverse (mid_of m (b - m) (put_mid a (m - a) z t₁))) d)
      (e₃ ∙ ap (λ (z : List A). reverse (mid_of a (b - a) (put_mid m (b - m) (put_mid a (m - a) z t₁) t₂))) d)

-- ---- removal and insertion: two writes, one beside the other

-- two blocks written, up to `end`
over-two : (at : ℕ) (b b' s : List ℕ) (end : ℕ) → at + length (b ++ b') ≡ end → over at (b ++ b') s ≡ take at s ++ (b ++ (b' ++ drop end s))
unfolding over
over-two at b b' s end e = rw (e, append_assoc b b')

pub remove-law : (s s₁ s₂ : List ℕ) (from to end : ℕ) → from ≤ to → to ≤ end → end ≤ length s
    → s₁ ≡ over from (take (end - to) (drop to s)) s → s₂ ≡ over (from + (end - to)) (replicate (to - from) 0) s₁
    → s₂ ≡ taken_out from to end s
unfolding taken_out
remove-law s s₁ s₂ from to end h k f e₁ e₂ =
    let b : List ℕ = take (end - to) (drop to s) in
    let z : List ℕ = replicate (to - from) 0 in
    let l : length b ≡ end - to = words to (end - to) s (omega arith) in
    let e : from + length (b ++ z) ≡ end = rw (length-append, l, length-replicate) (omega arith) in
    e₂ ∙ rw e₁ (ap (λ (n : ℕ). over (from + n) z (over from b s)) (sym l) ∙ over-over from b z s (omega arith) ∙ over-two from b z s end e)

pub insert-law : (s s₁ s₂ : List ℕ) (at n end : ℕ) → at ≤ end → end + n ≤ length s
    → s₁ ≡ over (at + n) (take (end - at) (drop at s)) s → s₂ ≡ over at (replicate n 0) s₁
    → s₂ ≡ gapped at n end s
unfolding gapped
insert-law s s₁ s₂ at n end h f e₁ e₂ =
    let b : List ℕ = take (end - at) (drop at s) in
    let z : List ℕ = replicate n 0 in
    let l : length z ≡ n = length-replicate n 0 in
    let e : at + length (z ++ b) ≡ end + n = rw (length-append, l, words at (end - at) s (omega arith)) (omega arith) in
    e₂ ∙ rw e₁ (ap (λ (x : ℕ). over at z (over (at + x) b s)) (sym l) ∙ over-under at z b s (omega arith) ∙ over-two at z b s (end + n) e)

pub ruleset returned = (part-written, part-filled, words-copied, record-there, remove-law, insert-law)
