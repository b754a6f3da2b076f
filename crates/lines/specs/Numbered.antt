-- The lines of a text by their numbers, from 0. Assumes nothing.
use Prim.Native.Nat.{ℕ, zero, suc, ◌+◌, ◌-◌, ◌*◌, ◌/◌, ◌≤◌, ◌<◌}
use Rattle.std.specs.Prelude.{◌≡◌, refl, length, take}
use Rattle.std.proofs.Common.{sym, ◌∙◌, add-one, drop-drop, take-take}
use Rattle.std.proofs.Math.Path.{ap}
use mathlib.Core.List.{List, [], ◌∷◌}
use native.Mathlib.Omega.{arith}
use Rattle.std.proofs.Math.ListN.{drop}
use Rattle.std.proofs.Math.Seq.{take-nil}
use Rattle.machine.specs.Lines.{AtomLine}
use Rattle.machine.specs.LinesIn.{lines_in, atom_in}

abbrev pub line_count_in : List ℕ → ℕ
line_count_in t = length t / 81

abbrev pub line_at : ℕ → List ℕ → List ℕ
line_at n t = take 81 (drop (n * 81) t)

-- the lines from number n on
abbrev pub lines_from : ℕ → List ℕ → List (List ℕ)
lines_from n t = lines_in (line_count_in t - n) (drop (n * 81) t)

-- the atoms of the k lines before number n, the last one first
unfoldable pub atoms_back : ℕ → ℕ → List ℕ → List AtomLine
atoms_back zero n t = []
atoms_back (suc k) n t = atom_in (line_at (n - 1) t) ∷ atoms_back k (n - 1) t

-- ---- some of the lines

drop-take : (k j : ℕ) (u : List ℕ) → k ≤ j → drop k (take j u) ≡ take (j - k) (drop k u)
drop-take zero j u h = ap (λ (i : ℕ). take i u) (let e : j ≡ j - 0 = omega arith in e)
drop-take (suc k) zero u h = absurd (omega arith)
drop-take (suc k) (suc j) [] h = sym (take-nil (suc j - suc k))
drop-take (suc k) (suc j) (b ∷ u) h = drop-take k j u (omega arith) ∙ ap (λ (i : ℕ). take i (drop k u)) (let e : j - k ≡ suc j - suc k = omega arith in e)

-- a text's first lines are those of its first bytes
pub lines-part : (k j : ℕ) (u : List ℕ) → k * 81 ≤ j → lines_in k (take j u) ≡ lines_in k u
unfolding lines_in
lines-part zero j u h = refl
lines-part (suc k) j u h =
    ap (λ (l : List ℕ). l ∷ lines_in k (drop 81 (take j u))) (take-take 81 j u (omega arith))
    ∙ ap (λ (v : List ℕ). take 81 u ∷ lines_in k v) (drop-take 81 j u (omega arith))
    ∙ ap (λ (ls : List (List ℕ)). take 81 u ∷ ls) (lines-part k (j - 81) (drop 81 u) (omega arith))

pub lines-count : (n : ℕ) (u : List ℕ) → length (lines_in n u) ≡ n
unfolding lines_in
lines-count zero u = refl
lines-count (suc n) u = ap suc (lines-count n (drop 81 u))

pub lines-front : (k n : ℕ) (u : List ℕ) → k ≤ n → take k (lines_in n u) ≡ lines_in k u
unfolding lines_in
lines-front zero n u h = refl
lines-front (suc k) zero u h = absurd (omega arith)
lines-front (suc k) (suc n) u h = ap (λ (ls : List (List ℕ)). take 81 u ∷ ls) (lines-front k n (drop 81 u) (omega arith))

lines_rest : (k n : ℕ) (u : List ℕ) → drop k (lines_in n u) ≡ lines_in (n - k) (drop (k * 81) u)
unfolding lines_in
lines_rest zero n u = ap (λ (m : ℕ). lines_in m u) (let e : n ≡ n - 0 = omega arith in e)
lines_rest (suc k) zero u = ap (λ (m : ℕ). lines_in m (drop (suc k * 81) u)) (let e : 0 ≡ 0 - suc k = omega arith in e)
lines_rest (suc k) (suc n) u =
    lines_rest k n (drop 81 u)
    ∙ ap (lines_in (n - k)) (drop-drop (k * 81) 81 u)
    ∙ (let e : n - k ≡ suc n - suc k = omega arith in let f : 81 + k * 81 ≡ suc k * 81 = omega arith in λ i. lines_in (e i) (drop (f i) u))

module _ (t : List ℕ) where
  pub lines-all : lines_from 0 t ≡ lines_in (line_count_in t) t
  lines-all = ap (λ (n : ℕ). lines_in n t) (let e : line_count_in t - 0 ≡ line_count_in t = omega arith in e)

  pub lines_next : (n : ℕ) → n < line_count_in t → lines_from n t ≡ line_at n t ∷ lines_from (n + 1) t
  unfolding lines_in
  lines_next n h =
      ap (λ (k : ℕ). lines_in k (drop (n * 81) t)) (let e : line_count_in t - n ≡ suc (line_count_in t - (n + 1)) = omega arith in e)
      ∙ ap (λ (u : List ℕ). line_at n t ∷ lines_in (line_count_in t - (n + 1)) u) (drop-drop 81 (n * 81) t ∙ ap (λ (k : ℕ). drop k t) (let e : n * 81 + 81 ≡ (n + 1) * 81 = omega arith in e))

  pub lines_none : (n : ℕ) → line_count_in t ≤ n → lines_from n t ≡ []
  unfolding lines_in
  lines_none n h = ap (λ (k : ℕ). lines_in k (drop (n * 81) t)) (let e : line_count_in t - n ≡ 0 = omega arith in e)

  pub lines-skip : (n k : ℕ) → drop k (lines_from n t) ≡ lines_from (n + k) t
  lines-skip n k =
      lines_rest k (line_count_in t - n) (drop (n * 81) t)
      ∙ ap (lines_in (line_count_in t - n - k)) (drop-drop (k * 81) (n * 81) t)
      ∙ (let e : line_count_in t - n - k ≡ line_count_in t - (n + k) = omega arith in let f : n * 81 + k * 81 ≡ (n + k) * 81 = omega arith in λ i. lines_in (e i) (drop (f i) t))

  pub back-next : (n : ℕ) → atoms_back (n + 1) (n + 1) t ≡ atom_in (line_at n t) ∷ atoms_back n n t
  unfolding atoms_back
  back-next n =
      ap (λ (k : ℕ). atoms_back k (n + 1) t) (add-one n)
      ∙ ap (λ (k : ℕ). atom_in (line_at k t) ∷ atoms_back n k t) (let e : n + 1 - 1 ≡ n = omega arith in e)
