-- The atoms from any start, where one branch gives way to another of as many records: those of that branch change, and no other. Assumes nothing.
use Rattle.std.specs.Prelude.{ℕ, zero, suc, ◌+◌, ◌≤◌, ◌≡◌, refl, Bool, true, false, ◌⊎◌, length, eqb, Option, Some}
use Rattle.std.proofs.Common.{sym, ◌∙◌, inl, inr, arith, length-append, eqb-true}
use Rattle.std.proofs.Math.Path.{ap}
use mathlib.Core.List.{List, [], ◌∷◌, ◌++◌, append_assoc, append-nil}
use Rattle.std.proofs.lemmas.Bool.{eqb-false}
use Rattle.machine.specs.Lists.{nth, splice, concat_map, concat_map_from}
use Rattle.machine.specs.Store.{Branch, flat}
use Rattle.machine.specs.Find.{Site, below, size, numbered, atoms_in, atoms_under}
use Rattle.machine.specs.Edit.{up, branch_at, replace_at}
use Rattle.laws.specs.Places as Places
use Rattle.laws.specs.Places.{around, step_down, no-branch, flat-splits, replace-sum}
use Rattle.laws.specs.Numbers.{numbered-put, nth-numbered, numbered-other}

-- ---- one branch among its siblings

concat_map_from-append : (k : ℕ) (f : ℕ → Branch k → List Site) (n : ℕ) (xs ys : List (Branch k))
    → concat_map_from (size k) f n (xs ++ ys) ≡ concat_map_from (size k) f n xs ++ concat_map_from (size k) f (n + length (concat_map (flat k) xs)) ys
concat_map_from-append k f n [] ys = let e : n ≡ n + 0 = omega arith in ap (λ (z : ℕ). concat_map_from (size k) f z ys) e
concat_map_from-append k f n (x ∷ xs) ys =
    let e : n + size k x + length (concat_map (flat k) xs) ≡ n + length (flat k x ++ concat_map (flat k) xs) = omega (arith, length-append (flat k x) (concat_map (flat k) xs)) in
    ap (λ (l : List Site). f n x ++ l) (concat_map_from-append k f (n + size k x) xs ys)
    ∙ ap (λ (z : ℕ). f n x ++ (concat_map_from (size k) f (n + size k x) xs ++ concat_map_from (size k) f z ys)) e
    ∙ sym (append_assoc (f n x) (concat_map_from (size k) f (n + size k x) xs) (concat_map_from (size k) f (n + length (flat k x ++ concat_map (flat k) xs)) ys))

-- the atoms from one start before and after: they have ys where they had xs
pub record Swapped (xs ys : List Site) (o p : Option (List Site)) : Type 0 where
  pub pre : List Site
  pub post : List Site
  pub was : o ≡ Some (pre ++ (xs ++ post))
  pub is : p ≡ Some (pre ++ (ys ++ post))

-- or they stay, or there are none
abbrev pub Alike : List Site → List Site → Option (List Site) → Option (List Site) → Type 0
Alike xs ys o p = (p ≡ o) ⊎ Swapped xs ys o p

-- the branch v at index i: its own number, the atoms before it, and those behind it where it has z records
module _ (k : ℕ) (s : Site) (n i : ℕ) (ts : List (Branch k)) (v : Branch k) (e : nth i ts ≡ Some v) where
  abbrev number_of : ℕ
  number_of = n + length (concat_map (flat k) (around i ts v e).before)

  abbrev front : List Site
  front = concat_map_from (size k) (atoms_in k s) n (around i ts v e).before

  abbrev back : ℕ → List Site
  back z = concat_map_from (size k) (atoms_in k s) (number_of + z) (around i ts v e).after

  all-was : concat_map_from (size k) (atoms_in k s) n ts ≡ front ++ (atoms_in k s number_of v ++ back (size k v))
  all-was =
      let a = around i ts v e in
      ap (concat_map_from (size k) (atoms_in k s) n) a.was ∙ concat_map_from-append k (atoms_in k s) n a.before (v ∷ a.after)

  -- it gives way to f v, which has as many records
  module _ (f : Branch k → Branch k) (z : size k (f v) ≡ size k v) where
    all-is : concat_map_from (size k) (atoms_in k s) n (splice i (λ u. f u ∷ []) ts) ≡ front ++ (atoms_in k s number_of (f v) ++ back (size k v))
    all-is =
        let a = around i ts v e in
        ap (concat_map_from (size k) (atoms_in k s) n) (a.is (λ u. f u ∷ []))
        ∙ concat_map_from-append k (atoms_in k s) n a.before (f v ∷ a.after)
        ∙ ap (λ (y : ℕ). front ++ (atoms_in k s number_of (f v) ++ back y)) z

-- a start in another branch
other-start : (k : ℕ) (s : Site) (n i : ℕ) (ts : List (Branch k)) (v : Branch k) → nth i ts ≡ Some v → (f : Branch k → Branch k) → size k (f v) ≡ size k v
    → (h : ℕ) (hs : List ℕ) → (i ≡ h → ⊥) → atoms_under k s n (h ∷ hs) (splice i (λ u. f u ∷ []) ts) ≡ atoms_under k s n (h ∷ hs) ts
unfolding atoms_under
other-start zero s n i ts v e f z h hs q = refl
other-start (suc k) s n i ts v e f z h hs q = rw (numbered-other (suc k) i h n f ts v e z q)

-- from every start: what holds from the whole, and from the starts in the branch; under its siblings nothing changes
module _ (k : ℕ) (s : Site) (n i : ℕ) (ts : List (Branch k)) (v : Branch k) (e : nth i ts ≡ Some v) (f : Branch k → Branch k) (z : size k (f v) ≡ size k v) (xs ys : List Site) (d : ℕ) where
  abbrev From : List ℕ → Type 0
  From start = Alike xs ys (atoms_under k s n start ts) (atoms_under k s n start (splice i (λ u. f u ∷ []) ts))

  each_start : From [] → ((hs : List ℕ) → length hs ≤ d → From (i ∷ hs)) → (start : List ℕ) → length start ≤ suc d → From start
  each_start whole own [] l = whole
  each_start whole own (h ∷ hs) l = go (eqb i h) refl
    where
      go : (b : Bool) → eqb i h ≡ b → From (h ∷ hs)
      go true q = rw (← eqb-true i h q) (own hs (omega arith))
      go false q = inl (other-start k s n i ts v e f z h hs (eqb-false i h q))

-- a start in the branch v at index i
module _ (k : ℕ) (s : Site) (n i : ℕ) (ts : List (Branch (suc k))) (v : Branch (suc k)) (e : nth i ts ≡ Some v) (f : Branch (suc k) → Branch (suc k)) where
  abbrev inside : Branch (suc k) → List ℕ → Option (List Site)
  inside u hs = let q = number_of (suc k) s n i ts v e in atoms_under k (below (suc k) q u.0 s) (suc q) hs u.1

  start-was : (hs : List ℕ) → atoms_under (suc k) s n (i ∷ hs) ts ≡ inside v hs
  unfolding atoms_under
  start-was hs = rw (nth-numbered (suc k) i n ts v e)

  start_is : (hs : List ℕ) → atoms_under (suc k) s n (i ∷ hs) (splice i (λ u. f u ∷ []) ts) ≡ inside (f v) hs
  unfolding atoms_under
  start_is hs = rw (numbered-put (suc k) i n f ts v e)

-- ---- the branch at a position

-- t is the branch of index last among those under a start, whose atoms are these; they stand under a site, and t has a number
pub record Above (j : ℕ) (site : Site) (number last : ℕ) (t : Branch j) (atoms : Option (List Site)) : Type 0 where
  pub first : ℕ
  pub branches : List (Branch j)
  pub are : atoms ≡ Some (concat_map_from (size j) (atoms_in j site) first branches)
  pub there : nth last (numbered j first branches) ≡ Some (number, t)

-- the atoms of the branch t at a position stand in one place, from the whole and from every start no deeper than the position
pub record Sites (d j : ℕ) (pos : List ℕ) (s : Site) (n : ℕ) (ts : List (Branch (up d j))) (t : Branch j) : Type 0 where
  pub site : Site
  pub number : ℕ
  pub pre : List Site
  pub post : List Site
  pub was : concat_map_from (size (up d j)) (atoms_in (up d j) s) n ts ≡ pre ++ (atoms_in j site number t ++ post)
  pub is : (u : Branch j) → size j u ≡ size j t → concat_map_from (size (up d j)) (atoms_in (up d j) s) n (replace_at d j pos (u ∷ []) ts) ≡ pre ++ (atoms_in j site number u ++ post)
  pub from : (start : List ℕ) → length start ≤ suc d → (u : Branch j) → size j u ≡ size j t
      → Alike (atoms_in j site number t) (atoms_in j site number u) (atoms_under (up d j) s n start ts) (atoms_under (up d j) s n start (replace_at d j pos (u ∷ []) ts))
  pub above : (start : List ℕ) (last : ℕ) → length start ≡ d → pos ≡ start ++ (last ∷ []) → Above j site number last t (atoms_under (up d j) s n start ts)

regroup : {A : Type 0} (a b c d e : List A) → a ++ ((b ++ (c ++ d)) ++ e) ≡ (a ++ b) ++ (c ++ (d ++ e))
regroup a b c d e = simp append_assoc

-- a branch has as many records with a child, or a deeper one, for one of as many
same_size : (d j : ℕ) (pos : List ℕ) (v : Branch (suc (up d j))) (t u : Branch j) → branch_at d j pos v.1 ≡ Some t → size j u ≡ size j t
    → size (suc (up d j)) (v.0, replace_at d j pos (u ∷ []) v.1) ≡ size (suc (up d j)) v
same_size d j pos v t u e h =
    omega (arith, flat-splits (up d j) v, flat-splits (up d j) (v.0, replace_at d j pos (u ∷ []) v.1), replace-sum Places.size d j pos (u ∷ []) v.1 t e)

-- a start that ends at the branch has its atoms alone; below an atom there is none
at-branch : (j : ℕ) (s : Site) (n i : ℕ) (ts : List (Branch j)) (t : Branch j) (e : nth i ts ≡ Some t) (u : Branch j) (hs : List ℕ) → length hs ≤ 0
    → Alike (atoms_in j s (number_of j s n i ts t e) t) (atoms_in j s (number_of j s n i ts t e) u) (atoms_under j s n (i ∷ hs) ts) (atoms_under j s n (i ∷ hs) (splice i (λ v. u ∷ []) ts))
unfolding atoms_under atoms_in
at-branch j s n i ts t e u (h ∷ hs) l = absurd (omega arith)
at-branch zero s n i ts t e u [] l = inl refl
at-branch (suc k) s n i ts t e u [] l =
    inr (record {
      pre = [];
      post = [];
      was = start-was k s n i ts t e (λ v. u) [] ∙ ap Some (sym (append-nil _));
      is = start_is k s n i ts t e (λ v. u) [] ∙ ap Some (sym (append-nil _));
    })

-- one level up: the branch stands in v
module _ (d j : ℕ) (s : Site) (n i : ℕ) (is : List ℕ) (ts : List (Branch (suc (up d j)))) (v : Branch (suc (up d j))) (e : nth i ts ≡ Some v) (t : Branch j) (there : branch_at d j is v.1 ≡ Some t) where
  abbrev k : ℕ
  k = suc (up d j)

  abbrev its : ℕ
  its = number_of k s n i ts v e

  abbrev put : Branch j → Branch k → Branch k
  put u x = (x.0, replace_at d j is (u ∷ []) x.1)

  module _ (b : Sites d j is (below k its v.0 s) (suc its) v.1 t) where
    abbrev pre : List Site
    pre = front k s n i ts v e ++ b.pre

    abbrev post : List Site
    post = b.post ++ back k s n i ts v e (size k v)

    up-was : concat_map_from (size k) (atoms_in k s) n ts ≡ pre ++ (atoms_in j b.site b.number t ++ post)
    unfolding atoms_in
    up-was =
        all-was k s n i ts v e
        ∙ ap (λ (l : List Site). front k s n i ts v e ++ (l ++ back k s n i ts v e (size k v))) b.was
        ∙ regroup (front k s n i ts v e) b.pre (atoms_in j b.site b.number t) b.post (back k s n i ts v e (size k v))

    module _ (u : Branch j) (h : size j u ≡ size j t) where
      abbrev after : List (Branch k)
      after = splice i (λ x. put u x ∷ []) ts

      up_is : concat_map_from (size k) (atoms_in k s) n after ≡ pre ++ (atoms_in j b.site b.number u ++ post)
      unfolding atoms_in
      up_is =
          all-is k s n i ts v e (put u) (same_size d j is v t u there h)
          ∙ ap (λ (l : List Site). front k s n i ts v e ++ (l ++ back k s n i ts v e (size k v))) (b.is u h)
          ∙ regroup (front k s n i ts v e) b.pre (atoms_in j b.site b.number u) b.post (back k s n i ts v e (size k v))

      up_from : (start : List ℕ) → length start ≤ suc (suc d) → Alike (atoms_in j b.site b.number t) (atoms_in j b.site b.number u) (atoms_under k s n start ts) (atoms_under k s n start after)
      unfolding atoms_under
      up_from =
          each_start k s n i ts v e (put u) (same_size d j is v t u there h) _ _ (suc d)
          (inr (record { pre = pre; post = post; was = ap Some up-was; is = ap Some up_is }))
          (λ hs l. rw (start-was (up d j) s n i ts v e (put u) hs, start_is (up d j) s n i ts v e (put u) hs) (b.from hs l u h))

    up_above : (start : List ℕ) (last : ℕ) → length start ≡ suc d → i ∷ is ≡ start ++ (last ∷ []) → Above j b.site b.number last t (atoms_under k s n start ts)
    up_above [] last l q = absurd (omega arith)
    up_above (h ∷ hs) last l q =
        let first : i ≡ h = cc in
        let rest : is ≡ hs ++ (last ∷ []) = cc in
        go first (b.above hs last (omega arith) rest)
      where
        go : i ≡ h → Above j b.site b.number last t (inside (up d j) s n i ts v e (λ x. x) v hs) → Above j b.site b.number last t (atoms_under k s n (h ∷ hs) ts)
        go first a =
            let f = ap (λ (x : ℕ). atoms_under k s n (x ∷ hs) ts) (sym first) in
            record { first = a.first; branches = a.branches; are = f ∙ start-was (up d j) s n i ts v e (λ x. x) hs ∙ a.are; there = a.there }

at_above : (j : ℕ) (s : Site) (n i : ℕ) (is : List ℕ) (ts : List (Branch j)) (t : Branch j) (e : nth i ts ≡ Some t) (start : List ℕ) (last : ℕ) → length start ≡ 0 → i ∷ is ≡ start ++ (last ∷ [])
    → Above j s (number_of j s n i ts t e) last t (atoms_under j s n start ts)
unfolding atoms_under
at_above j s n i is ts t e [] last l q = let first : i ≡ last = cc in record { first = n; branches = ts; are = refl; there = rw (← first) (nth-numbered j i n ts t e) }
at_above j s n i is ts t e (h ∷ hs) last l q = absurd (omega arith)

pub sites : (d j : ℕ) (pos : List ℕ) (s : Site) (n : ℕ) (ts : List (Branch (up d j))) (t : Branch j) → branch_at d j pos ts ≡ Some t → Sites d j pos s n ts t
unfolding branch_at replace_at atoms_under
sites d j [] s n ts t e = absurd (no-branch d j ts t e)
sites zero j (i ∷ is) s n ts t e =
    record {
      site = s;
      number = number_of j s n i ts t e;
      pre = front j s n i ts t e;
      post = back j s n i ts t e (size j t);
      was = all-was j s n i ts t e;
      is = λ u z. all-is j s n i ts t e (λ v. u) z;
      from = λ start l u z.
          each_start j s n i ts t e (λ v. u) z _ _ 0
          (inr (record { pre = front j s n i ts t e; post = back j s n i ts t e (size j t); was = ap Some (all-was j s n i ts t e); is = ap Some (all-is j s n i ts t e (λ v. u) z) }))
          (at-branch j s n i ts t e u) start l;
      above = at_above j s n i is ts t e;
    }
sites (suc d) j (i ∷ is) s n ts t e =
    let c = step_down d j i is ts t e in
    let b = sites d j is (below (suc (up d j)) (its d j s n i is ts c.0 c.1 t c.2) c.0.0 s) (suc (its d j s n i is ts c.0 c.1 t c.2)) c.0.1 t c.2 in
    record {
      site = b.site;
      number = b.number;
      pre = pre d j s n i is ts c.0 c.1 t c.2 b;
      post = post d j s n i is ts c.0 c.1 t c.2 b;
      was = up-was d j s n i is ts c.0 c.1 t c.2 b;
      is = up_is d j s n i is ts c.0 c.1 t c.2 b;
      from = λ start l u h. up_from d j s n i is ts c.0 c.1 t c.2 b u h start l;
      above = up_above d j s n i is ts c.0 c.1 t c.2 b;
    }
