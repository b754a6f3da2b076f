-- Branches, their records and the records' words: what is written one after the other is taken apart again.
-- Assumes nothing.
use Prim.Native.Nat.{ℕ, zero, suc, ◌+◌, ◌-◌, ◌*◌, ◌≤◌, ◌<◌}
use Rattle.std.specs.Prelude.{◌≡◌, Bool, false, length, take, drop}
use Rattle.std.proofs.Math.Path.{refl}
use Rattle.std.proofs.Common.{ap, arith, length-append, take_at, drop_at, take-add}
use Rattle.std.proofs.Math.Bool.{true}
use mathlib.Core.List.{List, [], ◌∷◌, ◌++◌, map, append_assoc, append-nil}
use Rattle.std.proofs.Math.Dec.{eqb}
use borrow.Author.Tests.{eq-eqb, ne_eqb}
use Rattle.machine.specs.Lists.{concat_map}
use Rattle.machine.specs.Record.{Fields, Words, words, kind, fields_of, good_fields, good_record}
use Rattle.machine.specs.Store.{Branch, Machine, flat, records, chunks, sections, group}
use Rattle.laws.specs.Lists.{same_refl, All, All-map, All-append}

-- ---- one record

each_level : (P : ℕ → Type 0) → P 0 → P 1 → P 2 → P 3 → P 4 → (k : ℕ) → k ≤ 4 → P k
each_level P a b c d e zero l = a
each_level P a b c d e (suc zero) l = b
each_level P a b c d e (suc (suc zero)) l = c
each_level P a b c d e (suc (suc (suc zero))) l = d
each_level P a b c d e (suc (suc (suc (suc zero)))) l = e
each_level P a b c d e (suc (suc (suc (suc (suc k))))) l = absurd (omega arith)

pub fields-words : (k : ℕ) → k ≤ 4 → (f : Fields k) → fields_of k (words k f) ≡ f
unfolding words fields_of
fields-words =
    each_level (λ k. (f : Fields k) → fields_of k (words k f) ≡ f) (λ f. refl) (λ f. refl) (λ f. refl) (λ f. refl) (λ f. refl)

pub words-length : (k : ℕ) → k ≤ 4 → (f : Fields k) → length (words k f) ≡ 12
unfolding words
words-length =
    each_level (λ k. (f : Fields k) → length (words k f) ≡ 12) (λ f. refl) (λ f. refl) (λ f. refl) (λ f. refl) (λ f. refl)

pub words-kind : (k : ℕ) → k ≤ 4 → (f : Fields k) → kind (words k f) ≡ 5 - k
unfolding words
words-kind =
    each_level (λ k. (f : Fields k) → kind (words k f) ≡ 5 - k) (λ f. refl) (λ f. refl) (λ f. refl) (λ f. refl) (λ f. refl)

pub words-good : (k : ℕ) → k ≤ 4 → (f : Fields k) → good_record k (words k f) ≡ good_fields k f
unfolding good_record
words-good k l f = rw (fields-words k l f, same_refl (words k f))

-- ---- every record of a branch

module _ (P : Words → Type 0) where
  every_in : {A : Type 0} (f : A → List Words) → ((x : A) → All P (f x)) → (xs : List A) → All P (concat_map f xs)
  every_in f h [] = tt
  every_in f h (x ∷ xs) = All-append P (f x) (concat_map f xs) (h x) (every_in f h xs)

  -- a fact of the records of levels up to n holds throughout a branch of such a level
  every : (n : ℕ) → ((k : ℕ) → k ≤ n → (f : Fields k) → P (words k f)) → (k : ℕ) → k ≤ n → (t : Branch k) → All P (flat k t)
  unfolding flat
  every n h zero l t = (h zero l t, tt)
  every n h (suc k) l t = (h (suc k) l t.0, every_in (flat k) (every n h k (omega arith)) t.1)

-- every record of a machine has twelve words
pub twelve-words : (m : Machine) → All (λ r. length r ≡ 12) (records m)
twelve-words = every_in (λ r. length r ≡ 12) (flat 4) (every (λ r. length r ≡ 12) 4 words-length 4 (omega arith))

-- the records of branches of level k have kind 5 - k or a higher one
pub flats-kinds : (h k : ℕ) → h + k ≤ 4 → (ts : List (Branch k)) → All (λ r. h < kind r) (concat_map (flat k) ts)
flats-kinds h k l = every_in (λ r. h < kind r) (flat k) (every (λ r. h < kind r) k (λ j i f. omega (arith, words-kind j (omega arith) f)) k (omega arith))

-- ---- grouped again

cut-over : (p : Words → Bool) (b rest : List Words) → All (λ r. p r ≡ false) b → sections p (b ++ rest) ≡ (b ++ (sections p rest).0, (sections p rest).1)
unfolding sections
cut-over p [] rest h = refl
cut-over p (r ∷ b) rest h = rw (h.0, cut-over p b rest h.1)

-- marks the records of level k + 1
abbrev pub heads : ℕ → Words → Bool
heads k r = eqb (kind r) (4 - k)

module _ (k : ℕ) (l : suc k ≤ 4) where
  cut-flats : (ts : List (Branch (suc k))) → sections (heads k) (concat_map (flat (suc k)) ts) ≡ ([], map (λ t. (words (suc k) t.0, concat_map (flat k) t.1)) ts)
  unfolding sections flat
  cut-flats [] = refl
  cut-flats (t ∷ ts) =
      let e : eqb (kind (words (suc k) t.0)) (4 - k) ≡ true = eq-eqb (kind (words (suc k) t.0)) (4 - k) (omega (arith, words-kind (suc k) l t.0)) in
      let o : All (λ r. heads k r ≡ false) (concat_map (flat k) t.1) =
      All-map (λ r h. ne_eqb (kind r) (4 - k) (λ i. omega arith)) (concat_map (flat k) t.1) (flats-kinds (4 - k) k (omega arith) t.1) in
      rw (e, cut-over (heads k) (concat_map (flat k) t.1) (concat_map (flat (suc k)) ts) o, cut-flats ts, append-nil)

map_back : {A B : Type 0} (f : B → A) (g : A → B) → ((x : A) → f (g x) ≡ x) → (xs : List A) → map f (map g xs) ≡ xs
map_back f g h [] = refl
map_back f g h (x ∷ xs) = rw (h x, map_back f g h xs)

atoms-back : (ts : List (Branch 0)) → map (fields_of 0) (concat_map (flat 0) ts) ≡ ts
unfolding flat
atoms-back [] = refl
atoms-back (t ∷ ts) = rw (fields-words 0 (omega arith) t, atoms-back ts)

-- the records of branches group to those branches
pub group-flats : (k : ℕ) → k ≤ 4 → (ts : List (Branch k)) → group k (concat_map (flat k) ts) ≡ ts
unfolding group flat
group-flats zero l ts = atoms-back ts
group-flats (suc k) l ts =
    rw (cut-flats k l ts) (map_back _ _ (λ t i. (fields-words (suc k) l t.0 i, group-flats k (omega arith) t.1 i)) ts)

-- ---- records and words

-- the records' words, one after the other
abbrev pub concat : List Words → List ℕ
concat rs = concat_map (λ (r : Words). r) rs

pub concat-length : (rs : List Words) → All (λ r. length r ≡ 12) rs → length (concat rs) ≡ 12 * length rs
concat-length [] a = refl
concat-length (r ∷ rs) a = omega (arith, length-append r (concat rs), concat-length rs a.1, a.0)

pub chunks-concat : (rs : List Words) (rest : List ℕ) → All (λ r. length r ≡ 12) rs → chunks (length rs) (concat rs ++ rest) ≡ rs
chunks-concat [] rest a = refl
chunks-concat (r ∷ rs) rest a =
    rw (append_assoc r (concat rs) rest, take_at r (concat rs ++ rest) 12 a.0, drop_at r (concat rs ++ rest) 12 a.0, chunks-concat rs rest a.1)

pub concat-chunks : (n : ℕ) (w : List ℕ) → concat (chunks n w) ≡ take (12 * n) w
concat-chunks zero w = refl
concat-chunks (suc n) w =
    let e : 12 * suc n ≡ 12 + 12 * n = omega arith in
    rw (concat-chunks n (drop 12 w), e, take-add 12 (12 * n) w)

pub chunks-length : (n : ℕ) (w : List ℕ) → length (chunks n w) ≡ n
chunks-length zero w = refl
chunks-length (suc n) w = ap suc (chunks-length n (drop 12 w))
