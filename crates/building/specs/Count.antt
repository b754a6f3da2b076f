-- How many records additions make, by the lines alone. Assumes nothing.
use Rattle.std.specs.Prelude.{ℕ, zero, suc, ◌+◌, ◌≤◌, min, ◌≡◌, Bool, true, false, cond, None, Option, Some, option_map}
use Rattle.std.proofs.Math.Path.{refl, ap}
use Rattle.std.proofs.Common.{sym, ◌∙◌, le_refl, add-zero, zero-add}
use mathlib.Core.List.{List, [], ◌∷◌, ◌++◌}
use native.Mathlib.Omega.{arith}
use Rattle.std.proofs.Math.ListN.{length}
use Rattle.machine.specs.Lists.{nth, and_then, sum}
use Rattle.machine.specs.Record.{Fields}
use Rattle.machine.specs.Store.{Branch, flat}
use Rattle.machine.specs.Edit.{Which, pick, put_in, upsert}
use Rattle.machine.specs.Lines.{AtomLine}
use Rattle.machine.specs.Read.{same_id}
use Rattle.laws.specs.Lists.{All, sum-append, length-concat_map}
use Rattle.laws.specs.Places.{splice-sum}
use Rattle.building.specs.Lacks.{lacks, needed}
use Rattle.building.specs.Picks.{chosen, Seen, pick-seen, pick-agree, pick-none, pick_end, nth_end, chosen-miss, chosen-other, chosen-same}
use Rattle.building.specs.Build.{Item, item_of, which_at, insert, into, into-is, into_all, id-self, id-apart, id-agree}

-- ---- how many records an addition makes in some branches

-- all n where nothing is chosen; else those that are missing below
abbrev missing : (k : ℕ) → ℕ → (List (Branch k) → ℕ) → Option (Branch (suc k)) → ℕ
missing k n m None = n
missing k n m (Some t) = m t.1

abbrev makes : (k : ℕ) → Item k → List (Branch k) → ℕ
makes zero a us = 1
makes (suc k) p ts = missing k (suc (suc k)) (makes k p.1) (chosen (which_at k) (λ t. same_id k p.0 t.0) ts)

module _ (k : ℕ) (w : Which) (n : ℕ) (m : List (Branch k) → ℕ) (top : (us : List (Branch k)) → m us ≤ n)
    (p q : Fields (suc k) → Bool) (new : Fields (suc k)) (f : List (Branch k) → List (Branch k)) where
  abbrev P : Branch (suc k) → Bool
  P t = p t.0

  abbrev Q : Branch (suc k) → Bool
  Q t = q t.0

  abbrev made : List (Branch (suc k)) → ℕ
  made ts = missing k n m (chosen w Q ts)

  abbrev put : Branch (suc k) → Branch (suc k)
  put t = (t.0, f t.1)

  made-top : (o : Option (Branch (suc k))) → missing k n m o ≤ n
  made-top None = le_refl n
  made-top (Some t) = top t.1

  -- after an addition under another id: as before
  differs : ((x : Fields (suc k)) → p x ≡ true → q x ≡ false) → p new ≡ true → (ts : List (Branch (suc k))) → made (upsert k w p new f ts) ≡ min n (made ts)
  unfolding upsert
  differs apart self ts = ap (missing k n m) (go (pick w P ts) refl) ∙ same-min (made ts) n (made-top (chosen w Q ts))
    where
      go : (o : Option ℕ) → pick w P ts ≡ o → chosen w Q (put_in o put (new, f []) ts) ≡ chosen w Q ts
      go None e = chosen-miss Q (new, f []) (apart new self) w ts
      go (Some i) e = chosen-other P Q put (λ x. refl) (λ x. apart x.0) w ts i e

      same-min : (a b : ℕ) → a ≤ b → a ≡ min b a
      same-min a b h = omega arith

  -- under the same id: as many as before, or as the other still lacks there
  agrees : (lower : ℕ) → ((us : List (Branch k)) → m (f us) ≡ min lower (m us)) → lower ≤ m [] → ((x : Fields (suc k)) → q x ≡ p x) → p new ≡ true
      → (ts : List (Branch (suc k))) → made (upsert k w p new f ts) ≡ min lower (made ts)
  unfolding upsert
  agrees lower step less agree self ts = go (pick w P ts) refl (pick-seen P w ts)
    where
      was : (o : Option ℕ) → pick w P ts ≡ o → made ts ≡ missing k n m (and_then o (λ i. nth i ts))
      was o e = ap (λ (z : Option ℕ). missing k n m (and_then z (λ i. nth i ts))) (pick-agree (λ x. agree x.0) w ts ∙ e)

      fresh : All (λ t. P t ≡ false) ts → pick w Q (ts ++ ((new, f []) ∷ [])) ≡ Some (length ts)
      fresh h = pick-agree (λ x. agree x.0) w (ts ++ ((new, f []) ∷ [])) ∙ pick_end P w ts (new, f []) h self

      both : (a b c : ℕ) → c ≤ a → a ≤ b → min c a ≡ min c b
      both a b c h l = omega arith

      go : (o : Option ℕ) → pick w P ts ≡ o → Seen P ts o → made (put_in o put (new, f []) ts) ≡ min lower (made ts)
      go None e h =
          ap (λ (z : Option ℕ). missing k n m (and_then z (λ i. nth i (ts ++ ((new, f []) ∷ []))))) (fresh h)
          ∙ ap (missing k n m) (nth_end ts (new, f []))
          ∙ step []
          ∙ both (m []) n lower less (top [])
          ∙ ap (min lower) (sym (was None e))
      go (Some i) e h =
          ap (missing k n m) (chosen-same P Q put (λ x. refl) (λ x. agree x.0) w ts i e ∙ ap (option_map put) h.1)
          ∙ step h.0.1
          ∙ ap (min lower) (sym (was (Some i) e ∙ ap (missing k n m) h.1))

makes-top : (k : ℕ) (p : Item k) (ts : List (Branch k)) → makes k p ts ≤ suc k
makes-top zero p ts = le_refl 1
makes-top (suc k) p ts = go (makes-top k p.1) (chosen (which_at k) (λ t. same_id k p.0 t.0) ts)
  where
    go : ((us : List (Branch k)) → makes k p.1 us ≤ suc k) → (o : Option (Branch (suc k))) → missing k (suc (suc k)) (makes k p.1) o ≤ suc (suc k)
    go r None = le_refl (suc (suc k))
    go r (Some t) = let h = r t.1 in omega arith

makes-all : (k : ℕ) (p : Item k) → makes k p [] ≡ suc k
makes-all zero p = refl
makes-all (suc k) p =
    ap (λ (o : Option ℕ). missing k (suc (suc k)) (makes k p.1) (and_then o (λ i. nth i []))) (pick-none (λ (t : Branch (suc k)). same_id k p.0 t.0) (which_at k) [] tt)

-- what an atom lacks beside another, up to level k
abbrev lacks_at : (k : ℕ) → Item k → Item k → ℕ
lacks_at zero b a = 1
lacks_at (suc k) b a = cond (same_id k b.0 a.0) (lacks_at k b.1 a.1) (suc (suc k))

lacks-top : (k : ℕ) (b a : Item k) → lacks_at k b a ≤ suc k
lacks-top zero b a = le_refl 1
lacks-top (suc k) b a = go (lacks-top k b.1 a.1) (same_id k b.0 a.0)
  where
    go : lacks_at k b.1 a.1 ≤ suc k → (t : Bool) → cond t (lacks_at k b.1 a.1) (suc (suc k)) ≤ suc (suc k)
    go h true = omega arith
    go h false = le_refl (suc (suc k))

-- THE LAW OF THE COUNT: what an atom needs after another was added
makes-after : (k : ℕ) → k ≤ 3 → (b a : Item k) (ts : List (Branch k)) → makes k a (insert k b ts) ≡ min (lacks_at k b a) (makes k a ts)
makes-after zero h b a ts = refl
makes-after (suc k) h b a ts = go (same_id k b.0 a.0) refl (makes-after k (omega arith) b.1 a.1)
  where
    top : (us : List (Branch k)) → makes k a.1 us ≤ suc (suc k)
    top us = let l = makes-top k a.1 us in omega arith

    less : lacks_at k b.1 a.1 ≤ makes k a.1 []
    less = let e = makes-all k a.1 in let l = lacks-top k b.1 a.1 in omega arith

    low : k ≤ 2
    low = omega arith

    go : (t : Bool) → same_id k b.0 a.0 ≡ t → ((us : List (Branch k)) → makes k a.1 (insert k b.1 us) ≡ min (lacks_at k b.1 a.1) (makes k a.1 us))
        → makes (suc k) a (insert (suc k) b ts) ≡ min (cond t (lacks_at k b.1 a.1) (suc (suc k))) (makes (suc k) a ts)
    go true e r =
        agrees k (which_at k) (suc (suc k)) (makes k a.1) top (same_id k b.0) (same_id k a.0) b.0 (insert k b.1) (lacks_at k b.1 a.1) r less
        (id-agree k b.0 a.0 e) (id-self k low b.0) ts
    go false e r =
        differs k (which_at k) (suc (suc k)) (makes k a.1) top (same_id k b.0) (same_id k a.0) b.0 (insert k b.1)
        (id-apart k b.0 a.0 e) (id-self k low b.0) ts

-- ---- the records of a list of branches

abbrev pub sizes : (k : ℕ) → List (Branch k) → ℕ
sizes k ts = sum (λ t. length (flat k t)) ts

pub size_of : (k : ℕ) (t : Branch (suc k)) → length (flat (suc k) t) ≡ suc (sizes k t.1)
unfolding flat
size_of k t = ap suc (length-concat_map (flat k) t.1)

module _ (k : ℕ) (w : Which) (m : List (Branch k) → ℕ) (p : Fields (suc k) → Bool) (new : Fields (suc k)) (f : List (Branch k) → List (Branch k))
    (step : (us : List (Branch k)) → sizes k (f us) ≡ sizes k us + m us) where
  grown : (ts : List (Branch (suc k))) → sizes (suc k) (upsert k w p new f ts) ≡ sizes (suc k) ts + missing k (suc (m [])) m (chosen w (λ t. p t.0) ts)
  unfolding upsert
  grown ts = go (pick w (λ t. p t.0) ts) (pick-seen (λ t. p t.0) w ts)
    where
      go : (o : Option ℕ) → Seen (λ t. p t.0) ts o
          → sizes (suc k) (put_in o (λ t. (t.0, f t.1)) (new, f []) ts) ≡ sizes (suc k) ts + missing k (suc (m [])) m (and_then o (λ i. nth i ts))
      go None h =
          let s = size_of k (new, f []) in
          let e = step [] in
          omega (arith, sum-append (λ t. length (flat (suc k) t)) ts ((new, f []) ∷ []))
      go (Some i) h =
          let t = h.0 in
          let s = splice-sum (λ u. length (flat (suc k) u)) i (λ u. (u.0, f u.1) ∷ []) ts t h.1 in
          let a = size_of k t in
          let b = size_of k (t.0, f t.1) in
          let e = step t.1 in
          let z : missing k (suc (m [])) m (nth i ts) ≡ m t.1 = ap (missing k (suc (m [])) m) h.1 in
          omega arith

-- an addition puts in as many records as the atom needs
grows_at : (k : ℕ) (p : Item k) (ts : List (Branch k)) → sizes k (insert k p ts) ≡ sizes k ts + makes k p ts
unfolding flat
grows_at zero a us = sum-append (λ t. length (flat 0 t)) us (a ∷ [])
grows_at (suc k) p ts =
    grown k (which_at k) (makes k p.1) (same_id k p.0) p.0 (insert k p.1) (grows_at k p.1) ts
    ∙ ap (λ (n : ℕ). sizes (suc k) ts + missing k (suc n) (makes k p.1) (chosen (which_at k) (λ t. same_id k p.0 t.0) ts)) (makes-all k p.1)

-- ---- a model's lines

-- the records of a model's lines; the lines before them come last first
abbrev pub total : List AtomLine → List AtomLine → ℕ
total before [] = 0
total before (a ∷ ls) = needed a before + total (a ∷ before) ls

grows-by : (l : AtomLine) (ts : List (Branch 3)) → sizes 3 (into l ts) ≡ sizes 3 ts + makes 3 (item_of l) ts
grows-by l ts = ap (λ (f : List (Branch 3) → List (Branch 3)). sizes 3 (f ts)) (into-is l) ∙ grows_at 3 (item_of l) ts

needs-after : (b a : AtomLine) (ts : List (Branch 3)) → makes 3 (item_of a) (into b ts) ≡ min (lacks b a) (makes 3 (item_of a) ts)
unfolding lacks
needs-after b a ts = ap (λ (f : List (Branch 3) → List (Branch 3)). makes 3 (item_of a) (f ts)) (into-is b) ∙ makes-after 3 (le_refl 3) (item_of b) (item_of a) ts

counted : (before ls : List AtomLine) (ts : List (Branch 3)) → ((a : AtomLine) → makes 3 (item_of a) ts ≡ needed a before) → sizes 3 (into_all ls ts) ≡ sizes 3 ts + total before ls
unfolding needed
counted before [] ts h = sym (add-zero (sizes 3 ts))
counted before (a ∷ ls) ts h =
    let r = counted (a ∷ before) ls (into a ts) (λ c. needs-after a c ts ∙ ap (min (lacks a c)) (h c)) in
    let g = grows-by a ts in
    let e = h a in
    omega arith

-- a model built of lines has as many records below its own as the lines need
pub model-count : (ls : List AtomLine) → sizes 3 (into_all ls []) ≡ total [] ls
unfolding needed
model-count ls = counted [] ls [] (λ a. refl) ∙ zero-add (total [] ls)

-- records only grow
pub adds-grow : (ls : List AtomLine) (ts : List (Branch 3)) → sizes 3 ts ≤ sizes 3 (into_all ls ts)
adds-grow [] ts = le_refl (sizes 3 ts)
adds-grow (l ∷ ls) ts = let g = grows-by l ts in let r = adds-grow ls (into l ts) in omega arith
