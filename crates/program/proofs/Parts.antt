-- A list cut into parts of one length, as bytes are into words and an output's words into hits. Assumes nothing.
use Prim.Native.Nat.{ℕ, zero, suc, ◌+◌, ◌*◌, ◌<◌}
use mathlib.Core.Path.{◌≡◌, refl, ap, ◌∙◌}
use mathlib.Core.List.{List, [], ◌∷◌, ◌++◌, append-nil}
use native.Mathlib.Nat.{zero-mul}
use native.Mathlib.Omega.{arith}
use lib.ListN.{length, get_or, take, drop}
use lib.Seq.{drop-drop}
use Rattle.std.specs.Simd.{first_chunks}
use Rattle.machine.specs.Lists.{concat_map}
use Rattle.machine.specs.Program.{little_endian, words_in}
use Rattle.machine.specs.Demand.{fives}
use Rattle.laws.specs.Lists.{concat_map-append}
use Rattle.program.specs.Text.{line, lines}

module _ {B : Type 0} (k : ℕ) (f : List ℕ → B) (g : ℕ → List ℕ → List B) (none : (xs : List ℕ) → g zero xs ≡ []) (more : (n : ℕ) (xs : List ℕ) → g (suc n) xs ≡ f (take k xs) ∷ g n (drop k xs)) where
  -- the last of n + 1 parts
  parts-snoc : (n : ℕ) (xs : List ℕ) → g (suc n) xs ≡ g n xs ++ (f (take k (drop (n * k) xs)) ∷ [])
  parts-snoc zero xs = more zero xs ∙ rw (none xs, none (drop k xs), zero-mul)
  parts-snoc (suc n) xs =
      let e : k + n * k ≡ suc n * k = omega arith in
      more (suc n) xs ∙ rw (parts-snoc n (drop k xs), more n xs, drop-drop (n * k) k xs, e)

  parts-length : (n : ℕ) (xs : List ℕ) → length (g n xs) ≡ n
  parts-length zero xs = rw (none xs)
  parts-length (suc n) xs = rw (more n xs) (ap suc (parts-length n (drop k xs)))

-- part i of the first n, as `as_chunks` gives them
pub chunk_at : {A : Type 0} (k m n i : ℕ) (xs : List A) (d : List A) → i < length (take n (first_chunks k m xs)) → get_or (take n (first_chunks k m xs)) i d ≡ take k (drop (i * k) xs)
chunk_at k m zero i xs d h = absurd (omega arith)
chunk_at k zero (suc n) i xs d h = absurd (omega arith)
chunk_at k (suc m) (suc n) zero xs d h = rw zero-mul
chunk_at k (suc m) (suc n) (suc i) xs d h =
    let e : k + i * k ≡ suc i * k = omega arith in
    chunk_at k m n i (drop k xs) d (omega arith) ∙ rw (drop-drop (i * k) k xs, e)

pub chunks-length : {A : Type 0} (k m : ℕ) (xs : List A) → length (first_chunks k m xs) ≡ m
chunks-length k zero xs = refl
chunks-length k (suc m) xs = ap suc (chunks-length k m (drop k xs))

pub words_snoc : (n : ℕ) (bs : List ℕ) → words_in (suc n) bs ≡ words_in n bs ++ (little_endian (take 8 (drop (n * 8) bs)) ∷ [])
words_snoc = parts-snoc 8 little_endian words_in (λ xs. refl) (λ n xs. refl)

pub words_in-length : (n : ℕ) (bs : List ℕ) → length (words_in n bs) ≡ n
words_in-length = parts-length 8 little_endian words_in (λ xs. refl) (λ n xs. refl)

pub lines_snoc : (n : ℕ) (ws : List ℕ) → lines (suc n) ws ≡ lines n ws ++ line (take 5 (drop (n * 5) ws))
lines_snoc n ws =
    ap (concat_map line) (parts-snoc 5 (λ h. h) fives (λ xs. refl) (λ n xs. refl) n ws)
    ∙ concat_map-append line (fives n ws) (take 5 (drop (n * 5) ws) ∷ [])
    ∙ ap (λ (l : List ℕ). lines n ws ++ l) (append-nil (line (take 5 (drop (n * 5) ws))))
