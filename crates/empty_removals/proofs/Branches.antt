-- What goes and what stays, over records and over branches, at every level. Assumes nothing.
use Prim.Native.Nat.{ℕ, zero, suc, ◌+◌, ◌-◌, ◌≤◌}
use mathlib.Core.Path.{◌≡◌, refl, sym, ap, ◌∙◌}
use mathlib.Core.Bool.{Bool, true, false, not}
use mathlib.Core.List.{List, [], ◌∷◌, ◌++◌, append_assoc, append-nil}
use native.Mathlib.Nat.{zero-add}
use native.Mathlib.Omega.{arith}
use lib.ListN.{length, length-append}
use lib.Dec.{eqb}
use borrow.Author.Tests.{le-ltb, lt-ltb, ne_eqb}
use Rattle.machine.specs.Lists.{is_empty, keep, filter, sum, concat_map}
use Rattle.machine.specs.Record.{Words, Atom, words, kind}
use Rattle.machine.specs.Store.{Branch, flat, atom_count}
use Rattle.machine.specs.Edit.{keep_atoms, non_empty}
use Rattle.laws.specs.Counting.{filter-append}
use Rattle.laws.specs.Grouped.{words-kind, fields-words}
use Rattle.laws.specs.Scan.{Ends, ends_more, ends-flats}
use Rattle.empty_removals.specs.Prune.{stays, full, kept}

-- ---- lists

module _ {A : Type 0} (p : A → Bool) where
  pub filter-length : (xs : List A) → length (filter p xs) ≤ length xs
  filter-length [] = omega arith
  filter-length (x ∷ xs) = go (p x) (filter-length xs)
    where
      go : (b : Bool) → length (filter p xs) ≤ length xs → length (keep b x (filter p xs)) ≤ suc (length xs)
      go true l = omega arith
      go false l = omega arith

-- ---- atoms that go

pub kept-atoms : (k : ℕ) → k ≤ 4 → (p : Atom → Bool) (ts : List (Branch k)) → concat_map (flat k) (keep_atoms k p ts) ≡ filter (kept p) (concat_map (flat k) ts)
unfolding keep_atoms flat
kept-atoms zero l p [] = refl
kept-atoms zero l p (t ∷ ts) = rw (words-kind zero l t, fields-words zero l t) (go (p t) (kept-atoms zero l p ts))
  where
    go : (b : Bool) → concat_map (flat zero) (filter p ts) ≡ filter (kept p) (concat_map (flat zero) ts) → concat_map (flat zero) (keep b t (filter p ts)) ≡ keep b (words zero t) (filter (kept p) (concat_map (flat zero) ts))
    go true e = rw e
    go false e = e
kept-atoms (suc k) l p [] = refl
kept-atoms (suc k) l p (t ∷ ts) =
    let e : eqb (kind (words (suc k) t.0)) 5 ≡ false = ne_eqb (kind (words (suc k) t.0)) 5 (λ q. omega (arith, words-kind (suc k) l t.0)) in
    let i : filter (kept p) (concat_map (flat k) t.1 ++ concat_map (flat (suc k)) ts) ≡ concat_map (flat k) (keep_atoms k p t.1) ++ concat_map (flat (suc k)) (keep_atoms (suc k) p ts) =
    filter-append (kept p) (concat_map (flat k) t.1) (concat_map (flat (suc k)) ts) ∙ rw (kept-atoms k (omega arith) p t.1, kept-atoms (suc k) l p ts) in
    rw e (ap (λ (rs : List Words). words (suc k) t.0 ∷ rs) (sym i))

-- as many atoms go as records
pub kept-count : (k : ℕ) (p : Atom → Bool) (ts : List (Branch k))
    → sum (atom_count k) ts + length (concat_map (flat k) (keep_atoms k p ts)) ≡ sum (atom_count k) (keep_atoms k p ts) + length (concat_map (flat k) ts)
unfolding keep_atoms flat atom_count
kept-count zero p [] = refl
kept-count zero p (t ∷ ts) = go (p t) (kept-count zero p ts)
  where
    go : (b : Bool) → sum (atom_count zero) ts + length (concat_map (flat zero) (filter p ts)) ≡ sum (atom_count zero) (filter p ts) + length (concat_map (flat zero) ts)
        → 1 + sum (atom_count zero) ts + length (concat_map (flat zero) (keep b t (filter p ts))) ≡ sum (atom_count zero) (keep b t (filter p ts)) + suc (length (concat_map (flat zero) ts))
    go true e = omega arith
    go false e = omega arith
kept-count (suc k) p [] = refl
kept-count (suc k) p (t ∷ ts) =
    omega (
      arith,
      kept-count k p t.1,
      kept-count (suc k) p ts,
      length-append (concat_map (flat k) t.1) (concat_map (flat (suc k)) ts),
      length-append (concat_map (flat k) (keep_atoms k p t.1)) (concat_map (flat (suc k)) (keep_atoms (suc k) p ts)),
    )

-- ---- what has no atoms

-- a record whose children are ts stays if there are any
stays-full : (k : ℕ) → k ≤ 3 → (r : Words) (ts : List (Branch k)) (rest : List Words) → kind r ≡ 5 - suc k → Ends (5 - suc k) rest
    → stays r (concat_map (flat k) ts ++ rest) ≡ not (is_empty ts)
unfolding flat
stays-full k l r [] [] e f = rw (ne_eqb (kind r) 5 (λ q. omega arith))
stays-full k l r [] (q ∷ rest) e f = rw (ne_eqb (kind r) 5 (λ q. omega arith)) (le-ltb (kind r) (kind q) (omega arith))
stays-full zero l r (t ∷ ts) rest e f = rw (ne_eqb (kind r) 5 (λ q. omega arith)) (lt-ltb (kind r) (kind (words zero t)) (omega (arith, words-kind zero (omega arith) t)))
stays-full (suc k) l r (t ∷ ts) rest e f = rw (ne_eqb (kind r) 5 (λ q. omega arith)) (lt-ltb (kind r) (kind (words (suc k) t.0)) (omega (arith, words-kind (suc k) (omega arith) t.0)))

full-cons : (r : Words) (rs after : List Words) (b : Bool) → full rs ≡ after → stays r after ≡ b → full (r ∷ rs) ≡ keep b r after
unfolding full
full-cons r rs after b e f = rw (e, f)

-- one pass over the records, at every level
pub full-branches : (k : ℕ) → k ≤ 4 → (ts : List (Branch k)) (rest : List Words) → Ends (5 - k) (full rest)
    → full (concat_map (flat k) ts ++ rest) ≡ concat_map (flat k) (non_empty k ts) ++ full rest
unfolding full flat non_empty
full-branches zero l [] rest e = refl
full-branches zero l (t ∷ ts) rest e = rw (words-kind zero l t, full-branches zero l ts rest e)
full-branches (suc k) l [] rest e = refl
full-branches (suc k) l (t ∷ ts) rest e =
    let after : List Words = concat_map (flat (suc k)) (non_empty (suc k) ts) ++ full rest in
    let ends : Ends (5 - suc k) after = ends-flats (5 - suc k) (suc k) (omega arith) l (non_empty (suc k) ts) (full rest) e in
    let i : full (concat_map (flat (suc k)) ts ++ rest) ≡ after = full-branches (suc k) l ts rest e in
    let b : full (concat_map (flat k) t.1 ++ (concat_map (flat (suc k)) ts ++ rest)) ≡ concat_map (flat k) (non_empty k t.1) ++ after =
    full-branches k (omega arith) t.1 (concat_map (flat (suc k)) ts ++ rest) (rw i (ends_more (5 - suc k) (5 - k) (omega arith) after ends)) ∙ ap (λ (x : List Words). concat_map (flat k) (non_empty k t.1) ++ x) i in
    let s = stays-full k (omega arith) (words (suc k) t.0) (non_empty k t.1) after (words-kind (suc k) l t.0) ends in
    ap (λ (x : List Words). full (words (suc k) t.0 ∷ x)) (append_assoc (concat_map (flat k) t.1) (concat_map (flat (suc k)) ts) rest)
    ∙ full-cons (words (suc k) t.0) (concat_map (flat k) t.1 ++ (concat_map (flat (suc k)) ts ++ rest)) _ _ b s
    ∙ go (non_empty k t.1)
  where
    go : (us : List (Branch k))
        → keep (not (is_empty us)) (words (suc k) t.0) (concat_map (flat k) us ++ (concat_map (flat (suc k)) (non_empty (suc k) ts) ++ full rest))
        ≡ concat_map (flat (suc k)) (keep (not (is_empty us)) (t.0, us) (non_empty (suc k) ts)) ++ full rest
    go [] = refl
    go (u ∷ us) = simp append_assoc

pub full-chains : (ts : List (Branch 3)) → full (concat_map (flat 3) ts) ≡ concat_map (flat 3) (non_empty 3 ts)
unfolding full
full-chains ts = simp append-nil at (full-branches 3 (omega arith) ts [] tt)

-- no atom goes
pub non_empty-atoms : (k : ℕ) (ts : List (Branch k)) → sum (atom_count k) (non_empty k ts) ≡ sum (atom_count k) ts
unfolding non_empty atom_count
non_empty-atoms zero ts = refl
non_empty-atoms (suc k) [] = refl
non_empty-atoms (suc k) (t ∷ ts) = go (non_empty k t.1) (non_empty-atoms k t.1) (non_empty-atoms (suc k) ts)
  where
    go : (us : List (Branch k)) → sum (atom_count k) us ≡ sum (atom_count k) t.1
        → sum (atom_count (suc k)) (non_empty (suc k) ts) ≡ sum (atom_count (suc k)) ts
        → sum (atom_count (suc k)) (keep (not (is_empty us)) (t.0, us) (non_empty (suc k) ts)) ≡ sum (atom_count k) t.1 + sum (atom_count (suc k)) ts
    go [] e f = rw (← e, f, zero-add)
    go (u ∷ us) e f = rw (← e, f)
