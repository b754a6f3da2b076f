-- Positions over the level: the branch at one, and what changes where it gives way to others. Assumes nothing.
use Rattle.std.specs.Prelude.{ℕ, zero, suc, ◌+◌, ◌≡◌, refl, Bool, true, false, List, [], ◌∷◌, ◌++◌, length, eqb, None, Option, Some, option_map}
use Rattle.std.proofs.Common.{sym, ap, ◌∙◌, append_assoc, arith, eqb-true, eq-eqb}
use Rattle.std.proofs.lemmas.Bool.{false≢true, eqb-false}
use Rattle.machine.specs.Lists.{all, sum, concat_map, nth, splice, and_then, same}
use Rattle.machine.specs.Record.{Fields, Words, words, good_fields}
use Rattle.machine.specs.Store.{Branch, flat, atom_count}
use Rattle.machine.specs.Edit.{up, branch_at, replace_at, root, with_fields}
use Rattle.laws.specs.Lists.{and_both, and-true, and-then, All-of, all_of, All-append, sum-append, concat_map-append, length-concat_map}
use Rattle.laws.specs.Good.{good_branch}

-- ---- one index

module _ {A : Type 0} where
  -- what stands before and after the element at an index stays where it gives way to a list
  pub record Around (i : ℕ) (xs : List A) (x : A) : Type 0 where
    pub before : List A
    pub after : List A
    pub was : xs ≡ before ++ (x ∷ after)
    pub is : (f : A → List A) → splice i f xs ≡ before ++ (f x ++ after)

  unfoldable pub around : (i : ℕ) (xs : List A) (x : A) → nth i xs ≡ Some x → Around i xs x
  around i [] x e = let z : ◌≡◌ {A = ℕ} 0 1 = cc in absurd (omega arith)
  around zero (y ∷ xs) x e = let q : y ≡ x = cc in record { before = []; after = xs; was = rw q; is = λ f. rw q }
  around (suc i) (y ∷ xs) x e =
      let a = around i xs x e in
      record { before = y ∷ a.before; after = a.after; was = ap (λ (l : List A). y ∷ l) a.was; is = λ f. ap (λ (l : List A). y ∷ l) (a.is f) }

  -- what a list's sum gains and loses where an element gives way to a list
  pub splice-sum : (μ : A → ℕ) (i : ℕ) (f : A → List A) (xs : List A) (x : A) → nth i xs ≡ Some x
      → sum μ (splice i f xs) + μ x ≡ sum μ xs + sum μ (f x)
  splice-sum μ i f xs x e =
      let a = around i xs x e in
      let was = ap (sum μ) a.was ∙ sum-append μ a.before (x ∷ a.after) in
      let is = ap (sum μ) (a.is f) ∙ sum-append μ a.before (f x ++ a.after) in
      omega (arith, sum-append μ (f x) a.after)

  pub all_append : (p : A → Bool) (xs ys : List A) → all p xs ≡ true → all p ys ≡ true → all p (xs ++ ys) ≡ true
  all_append p xs ys h g = all_of p (xs ++ ys) (All-append _ xs ys (All-of p xs h) (All-of p ys g))

  pub splice_all : (p : A → Bool) (i : ℕ) (f : A → List A) → ((x : A) → p x ≡ true → all p (f x) ≡ true) → (xs : List A) → all p xs ≡ true → all p (splice i f xs) ≡ true
  splice_all p i f g [] h = refl
  splice_all p zero f g (x ∷ xs) h = let b = and_both (p x) (all p xs) h in all_append p (f x) xs (g x b.0) b.1
  splice_all p (suc i) f g (x ∷ xs) h = let b = and_both (p x) (all p xs) h in and-true b.0 (splice_all p i f g xs b.1)

  pub splice-self : (i : ℕ) (xs : List A) (x : A) → nth i xs ≡ Some x → splice i (λ y. x ∷ []) xs ≡ xs
  splice-self i [] x h = refl
  splice-self zero (y ∷ ys) x h = let e : y ≡ x = cc in rw e
  splice-self (suc i) (y ∷ ys) x h = ap (λ (l : List A). y ∷ l) (splice-self i ys x h)

  nth-all : (p : A → Bool) (i : ℕ) (xs : List A) (x : A) → nth i xs ≡ Some x → all p xs ≡ true → p x ≡ true
  nth-all p i [] x e h = let z : ◌≡◌ {A = ℕ} 0 1 = cc in absurd (omega arith)
  nth-all p zero (y ∷ xs) x e h = let q : y ≡ x = cc in rw q at (and_both (p y) (all p xs) h).0
  nth-all p (suc i) (y ∷ xs) x e h = nth-all p i xs x e (and_both (p y) (all p xs) h).1

  nth_here : (i : ℕ) (f : A → A) (xs : List A) → nth i (splice i (λ x. f x ∷ []) xs) ≡ option_map f (nth i xs)
  nth_here i f [] = refl
  nth_here zero f (x ∷ xs) = refl
  nth_here (suc i) f (x ∷ xs) = nth_here i f xs

  nth-other : (i k : ℕ) (f : A → A) → (i ≡ k → ⊥) → (xs : List A) → nth k (splice i (λ x. f x ∷ []) xs) ≡ nth k xs
  nth-other i k f h [] = refl
  nth-other zero zero f h (x ∷ xs) = absurd (h refl)
  nth-other zero (suc k) f h (x ∷ xs) = refl
  nth-other (suc i) zero f h (x ∷ xs) = refl
  nth-other (suc i) (suc k) f h (x ∷ xs) = nth-other i k f (λ e. h (ap suc e)) xs

and-then-map : {A B : Type 0} (f : A → A) (g : A → Option B) → ((x : A) → g (f x) ≡ g x) → (o : Option A) → and_then (option_map f o) g ≡ and_then o g
and-then-map f g h None = refl
and-then-map f g h (Some x) = h x

-- the branch at the first index of a longer position, and the rest of the way
pub step_down : (d j i : ℕ) (is : List ℕ) (ts : List (Branch (suc (up d j)))) (t : Branch j) → branch_at (suc d) j (i ∷ is) ts ≡ Some t
    → (u : Branch (suc (up d j))) × (nth i ts ≡ Some u) × (branch_at d j is u.1 ≡ Some t)
unfolding branch_at
step_down d j i is ts t e = and-then (nth i ts) (λ u. branch_at d j is u.1) t e

pub no-branch : (d j : ℕ) (ts : List (Branch (up d j))) (t : Branch j) → branch_at d j [] ts ≡ Some t → ⊥
unfolding branch_at
no-branch d j ts t e = let z : ◌≡◌ {A = ℕ} 0 1 = cc in omega arith

-- ---- measures

-- a number of each branch: its record's own, which depends on the level alone, and its children's; atoms count alike
pub record Measure : Type 0 where
  pub of : (k : ℕ) → Branch k → ℕ
  pub own : ℕ → ℕ
  pub splits : (k : ℕ) (t : Branch (suc k)) → of (suc k) t ≡ own k + sum (of k) t.1
  pub alike : (a b : Branch 0) → of 0 a ≡ of 0 b

pub flat-splits : (k : ℕ) (t : Branch (suc k)) → length (flat (suc k) t) ≡ 1 + sum (λ u. length (flat k u)) t.1
unfolding flat
flat-splits k t = omega (arith, length-concat_map (flat k) t.1)

pub atom-splits : (k : ℕ) (t : Branch (suc k)) → atom_count (suc k) t ≡ 0 + sum (atom_count k) t.1
unfolding atom_count
atom-splits k t = omega arith

pub flat-alike : (a b : Branch 0) → length (flat 0 a) ≡ length (flat 0 b)
unfolding flat
flat-alike a b = refl

pub atom-alike : (a b : Branch 0) → atom_count 0 a ≡ atom_count 0 b
unfolding atom_count
atom-alike a b = refl

-- how many records a branch has, and how many atoms
abbrev pub size : Measure
size = record { of = λ k t. length (flat k t); own = λ k. 1; splits = flat-splits; alike = flat-alike }

abbrev pub atoms : Measure
atoms = record { of = atom_count; own = λ k. 0; splits = atom-splits; alike = atom-alike }

-- other fields change no measure
pub same-measure : (μ : Measure) (j : ℕ) (f : Fields j) (t : Branch j) → μ.of j (with_fields j f t) ≡ μ.of j t
same-measure μ zero f t = μ.alike f t
same-measure μ (suc k) f t = μ.splits k (f, t.1) ∙ sym (μ.splits k t)

-- what a measure gains and loses where a branch gives way to others
pub replace-sum : (μ : Measure) (d j : ℕ) (pos : List ℕ) (new : List (Branch j)) (ts : List (Branch (up d j))) (t : Branch j) → branch_at d j pos ts ≡ Some t
    → sum (μ.of (up d j)) (replace_at d j pos new ts) + μ.of j t ≡ sum (μ.of (up d j)) ts + sum (μ.of j) new
unfolding branch_at replace_at
replace-sum μ d j [] new ts t e = absurd (no-branch d j ts t e)
replace-sum μ zero j (i ∷ is) new ts t e = splice-sum (μ.of j) i (λ u. new) ts t e
replace-sum μ (suc d) j (i ∷ is) new ts t e =
    let s = step_down d j i is ts t e in
    let u = s.0 in
    let kids = replace_at d j is new u.1 in
    let below = replace-sum μ d j is new u.1 t s.2 in
    let here = splice-sum (μ.of (suc (up d j))) i (λ v. (v.0, replace_at d j is new v.1) ∷ []) ts u s.1 in
    omega (arith, μ.splits (up d j) u, μ.splits (up d j) (u.0, kids))

-- ---- good branches

-- a good branch's own fields, and its children
pub good-parts : (k : ℕ) (t : Branch (suc k)) → good_branch (suc k) t ≡ true → (good_fields (suc k) t.0 ≡ true) × (all (good_branch k) t.1 ≡ true)
unfolding good_branch
good-parts k t h = and_both (good_fields (suc k) t.0) (all (good_branch k) t.1) h

pub root-good : (j : ℕ) (t : Branch j) → good_branch j t ≡ true → good_fields j (root j t) ≡ true
unfolding good_branch
root-good zero t h = h
root-good (suc k) t h = (good-parts k t h).0

-- a branch stays good with other good fields
pub fields-good : (j : ℕ) (f : Fields j) (t : Branch j) → good_branch j t ≡ true → good_fields j f ≡ true → good_branch j (with_fields j f t) ≡ true
unfolding good_branch
fields-good zero f t h g = g
fields-good (suc k) f t h g = and-true g (good-parts k t h).1

-- and with other good children
pub good-children : (k : ℕ) (t : Branch (suc k)) (us : List (Branch k)) → good_branch (suc k) t ≡ true → all (good_branch k) us ≡ true → good_branch (suc k) (t.0, us) ≡ true
unfolding good_branch
good-children k t us h g = and-true (good-parts k t h).0 g

-- good branches in place of one keep a list good
pub replace-all : (d j : ℕ) (pos : List ℕ) (new : List (Branch j)) (ts : List (Branch (up d j)))
    → all (good_branch (up d j)) ts ≡ true → all (good_branch j) new ≡ true → all (good_branch (up d j)) (replace_at d j pos new ts) ≡ true
unfolding replace_at
replace-all d j [] new ts h g = h
replace-all zero j (i ∷ is) new ts h g = splice_all (good_branch j) i (λ t. new) (λ t o. g) ts h
replace-all (suc d) j (i ∷ is) new ts h g =
    let k = up d j in
    splice_all (good_branch (suc k)) i (λ t. (t.0, replace_at d j is new t.1) ∷ [])
    (λ t o. and-true (good-children k t _ o (replace-all d j is new t.1 (good-parts k t o).1 g)) refl)
    ts
    h

-- the branch at a position in a good list is good
pub branch-good : (d j : ℕ) (pos : List ℕ) (ts : List (Branch (up d j))) (t : Branch j) → branch_at d j pos ts ≡ Some t
    → all (good_branch (up d j)) ts ≡ true → good_branch j t ≡ true
unfolding branch_at
branch-good d j [] ts t e h = absurd (no-branch d j ts t e)
branch-good zero j (i ∷ is) ts t e h = nth-all (good_branch j) i ts t e h
branch-good (suc d) j (i ∷ is) ts t e h =
    let s = step_down d j i is ts t e in
    branch-good d j is s.0.1 t s.2 (good-parts (up d j) s.0 (nth-all (good_branch (suc (up d j))) i ts s.0 s.1 h)).1

-- ---- the records around a branch

-- the records before and after those of the branch at a position stay where it gives way to others
pub record Spot (d j : ℕ) (pos : List ℕ) (ts : List (Branch (up d j))) (t : Branch j) : Type 0 where
  pub pre : List Words
  pub post : List Words
  pub was : concat_map (flat (up d j)) ts ≡ pre ++ (flat j t ++ post)
  pub is : (new : List (Branch j)) → concat_map (flat (up d j)) (replace_at d j pos new ts) ≡ pre ++ (concat_map (flat j) new ++ post)

pub spot : (d j : ℕ) (pos : List ℕ) (ts : List (Branch (up d j))) (t : Branch j) → branch_at d j pos ts ≡ Some t → Spot d j pos ts t
unfolding branch_at replace_at flat
spot d j [] ts t e = absurd (no-branch d j ts t e)
spot zero j (i ∷ is) ts t e =
    let a = around i ts t e in
    record {
      pre = concat_map (flat j) a.before;
      post = concat_map (flat j) a.after;
      was = ap (concat_map (flat j)) a.was ∙ concat_map-append (flat j) a.before (t ∷ a.after);
      is = λ new. ap (concat_map (flat j)) (a.is (λ u. new)) ∙ simp concat_map-append;
    }
spot (suc d) j (i ∷ is) ts t e =
    let k = suc (up d j) in
    let s = step_down d j i is ts t e in
    let u = s.0 in
    let a = around i ts u s.1 in
    let below = spot d j is u.1 t s.2 in
    record {
      pre = concat_map (flat k) a.before ++ (words k u.0 ∷ below.pre);
      post = below.post ++ concat_map (flat k) a.after;
      was = ap (concat_map (flat k)) a.was ∙ concat_map-append (flat k) a.before (u ∷ a.after) ∙ rw below.was (simp append_assoc);
      is = λ new. ap (concat_map (flat k)) (a.is (λ v. (v.0, replace_at d j is new v.1) ∷ [])) ∙ concat_map-append (flat k) a.before _ ∙ rw (below.is new) (simp append_assoc);
    }

-- ---- another position

rest-differs : (i k : ℕ) (is ks : List ℕ) → same (i ∷ is) (k ∷ ks) ≡ false → i ≡ k → same is ks ≡ false
rest-differs i k is ks h e = rw (eq-eqb i k e) at h

-- one branch for another at a position leaves the branches at other positions of the same level
pub branch_at-other : (d j : ℕ) (a b : List ℕ) (new : Branch j) (ts : List (Branch (up d j))) → length a ≡ suc d → length b ≡ suc d → same a b ≡ false
    → branch_at d j b (replace_at d j a (new ∷ []) ts) ≡ branch_at d j b ts
unfolding branch_at replace_at
branch_at-other d j [] b new ts la lb h = absurd (omega arith)
branch_at-other d j (i ∷ is) [] new ts la lb h = absurd (omega arith)
branch_at-other zero j (i ∷ []) (k ∷ []) new ts la lb h = nth-other i k (λ t. new) (λ e. false≢true (sym (rest-differs i k [] [] h e))) ts
branch_at-other zero j (i ∷ []) (k ∷ (y ∷ ks)) new ts la lb h = absurd (omega arith)
branch_at-other zero j (i ∷ (x ∷ is)) (k ∷ ks) new ts la lb h = absurd (omega arith)
branch_at-other (suc d) j (i ∷ is) (k ∷ ks) new ts la lb h = go (eqb i k) refl (λ e us. branch_at-other d j is ks new us (omega arith) (omega arith) e)
  where
    put : Branch (suc (up d j)) → Branch (suc (up d j))
    put t = (t.0, replace_at d j is (new ∷ []) t.1)

    go : (c : Bool) → eqb i k ≡ c → (same is ks ≡ false → (us : List (Branch (up d j))) → branch_at d j ks (replace_at d j is (new ∷ []) us) ≡ branch_at d j ks us)
        → branch_at (suc d) j (k ∷ ks) (replace_at (suc d) j (i ∷ is) (new ∷ []) ts) ≡ branch_at (suc d) j (k ∷ ks) ts
    go true c below =
        let e = eqb-true i k c in
        rw (← e, nth_here i put ts) (and-then-map put (λ t. branch_at d j ks t.1) (λ t. below (rest-differs i k is ks h e) t.1) (nth i ts))
    go false c below = rw (nth-other i k put (eqb-false i k c) ts)
