-- What each loop's start, turn and end and each return of `src/` needs, and what callers go by. Assumes nothing.
use Prim.Native.Nat.{ℕ, zero, suc, ◌+◌, ◌-◌, ◌/◌, ◌%◌, ◌≤◌, ◌<◌}
use mathlib.Core.Path.{◌≡◌, refl, sym, ap, ◌∙◌}
use mathlib.Core.Bool.{Bool, true, false, cond}
use mathlib.Core.List.{List, [], ◌∷◌, ◌++◌}
use native.Mathlib.Omega.{arith}
use lib.ListN.{length, set, length-append}
use lib.Dec.{ltb}
use borrow.Author.Tests.{lt-ltb, le-ltb}
use Rattle.machine.specs.Program.{digit, digits, decimal}
use Rattle.moves.specs.Over.{over}
use Rattle.moves.proofs.Laws.{over_none, over-over, over-cons, over-length}
use Rattle.decimals.specs.Put.{put_at}

-- ---- bytes that are written

pub put-none : (at : ℕ) (s : List ℕ) → (at, s) ≡ put_at [] at s
put-none at s = let p : at ≡ at + 0 = omega arith in let q = sym (over_none at s) in λ i. (p i, q i)

pub put_one : (at b : ℕ) (s : List ℕ) → at + 1 ≤ length s → (at + 1, set s at b) ≡ put_at (b ∷ []) at s
put_one at b s h =
    let q : set s at b ≡ over at (b ∷ []) s = ap (λ (l : List ℕ). set l at b) (sym (over_none (at + 1) s)) ∙ over-cons at [] s b (omega arith) in
    λ i. (at + 1, q i)

-- one text after another
pub put_then : (at a a' : ℕ) (b b' s s₁ s₂ : List ℕ) → at ≤ length s → (a, s₁) ≡ put_at b at s → (a', s₂) ≡ put_at b' a s₁ → (a', s₂) ≡ put_at (b ++ b') at s
put_then at a a' b b' s s₁ s₂ h e e' =
    let p : at + length b + length b' ≡ at + length (b ++ b') = omega (arith, length-append b b') in
    let q = over-over at b b' s h in
    e' ∙ ap (λ (x : ℕ × List ℕ). put_at b' x.0 x.1) e ∙ (λ i. (p i, q i))

-- a text of at most m bytes leaves room for k more
pub put-room : (at a m k : ℕ) (b s s₁ : List ℕ) → length b ≤ m → at + (m + k) ≤ length s → (a, s₁) ≡ put_at b at s → a + k ≤ length s₁
put-room at a m k b s s₁ l h e =
    let p : a ≡ at + length b = ap (λ (x : ℕ × List ℕ). x.0) e in
    let q : length s₁ ≡ length s = ap (λ (x : ℕ × List ℕ). length x.1) e ∙ over-length at b s (omega arith) in
    omega arith

-- ---- digits

pub digits-few : (k n : ℕ) → length (digits k n) ≤ k
unfolding digits
digits-few zero n = omega arith
digits-few (suc k) n = go (ltb n 10) (digits-few k (n / 10))
  where
    go : (b : Bool) → length (digits k (n / 10)) ≤ k → length (cond b (digit n ∷ []) (digits k (n / 10) ++ (digit (n % 10) ∷ []))) ≤ suc k
    go true h = omega arith
    go false h = omega (arith, length-append (digits k (n / 10)) (digit (n % 10) ∷ []))

pub digits-none : (at n places : ℕ) (s : List ℕ) → places ≡ 0 → (at, s) ≡ put_at (digits places n) at s
unfolding digits
digits-none at n places s e = rw e (put-none at s)

pub digits-one : (at n places a : ℕ) (s s₁ : List ℕ) → (places ≡ 0 → ⊥) → n < 10 → (a, s₁) ≡ put_at ((48 + n) ∷ []) at s → (a, s₁) ≡ put_at (digits places n) at s
unfolding digits
digits-one at n zero a s s₁ p h e = absurd (p refl)
digits-one at n (suc k) a s s₁ p h e = rw (lt-ltb n 10 h) e

pub digits_more : (at n places a a' : ℕ) (s s₁ s₂ : List ℕ) → at + places ≤ length s → (places ≡ 0 → ⊥) → 10 ≤ n
    → (a, s₁) ≡ put_at (digits (places - 1) (n / 10)) at s → (a', s₂) ≡ put_at ((48 + n % 10) ∷ []) a s₁ → (a', s₂) ≡ put_at (digits places n) at s
unfolding digits
digits_more at n zero a a' s s₁ s₂ l p h e e' = absurd (p refl)
digits_more at n (suc k) a a' s s₁ s₂ l p h e e' =
    let z : suc k - 1 ≡ k = omega arith in
    rw (le-ltb n 10 h) (put_then at a a' (digits k (n / 10)) ((48 + n % 10) ∷ []) s s₁ s₂ (omega arith) (rw z at e) e')

pub digits-room : (at n places a : ℕ) (s s₁ : List ℕ) → at + places ≤ length s → (places ≡ 0 → ⊥) → (a, s₁) ≡ put_at (digits (places - 1) n) at s → a + 1 ≤ length s₁
digits-room at n places a s s₁ l p e = put-room at a (places - 1) 1 _ s s₁ (digits-few (places - 1) n) (omega (arith, p)) e

-- ---- a number and the byte after it

pub number-room : (at n a : ℕ) (s s₁ : List ℕ) → at + 21 ≤ length s → (a, s₁) ≡ put_at (digits 20 n) at s → a + 1 ≤ length s₁
number-room at n a s s₁ h e = put-room at a 20 1 (digits 20 n) s s₁ (digits-few 20 n) h e

pub number-law : (at n b a a' : ℕ) (s s₁ s₂ : List ℕ) → at + 21 ≤ length s → (a, s₁) ≡ put_at (digits 20 n) at s → (a', s₂) ≡ put_at (b ∷ []) a s₁ → (a', s₂) ≡ put_at (decimal n ++ (b ∷ [])) at s
number-law at n b a a' s s₁ s₂ h e e' = put_then at a a' (digits 20 n) (b ∷ []) s s₁ s₂ (omega arith) e e'

pub number-few : (n b : ℕ) → length (decimal n ++ (b ∷ [])) ≤ 21
number-few n b = omega (arith, length-append (decimal n) (b ∷ []), digits-few 20 n)
