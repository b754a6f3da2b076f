-- The record numbers of branches, and of the atoms among them: five to an atom, and the atoms' own rise. Assumes nothing.
use Prim.Native.Nat.{ℕ, zero, suc, ◌+◌, ◌*◌, ◌≤◌, ◌<◌}
use Rattle.std.proofs.Math.Path.{◌≡◌}
use Rattle.std.specs.Prelude.{refl, Bool, length, get_or, None, Option, Some}
use Rattle.std.proofs.Common.{sym, ap, ◌∙◌, subst, add-zero, add_assoc, arith, length-append}
use mathlib.Core.List.{List, [], ◌∷◌, ◌++◌, map, map-append}
use Rattle.std.proofs.lemmas.List.{length-map, get_or_at}
use Rattle.machine.specs.Lists.{filter, sum, nth, splice, concat_map, concat_map_from}
use Rattle.machine.specs.Record.{Fields}
use Rattle.machine.specs.Store.{Branch, Machine, flat, atom_count, stored}
use Rattle.machine.specs.Kleene.{is_hit}
use Rattle.machine.specs.Query.{Names}
use Rattle.machine.specs.Find.{Site, below, top, size, numbered, atoms_in, atoms_of, atoms_under, atoms_from, value_from, hits_among, hit_words}
use Rattle.machine.specs.Demand.{atom_number}
use Rattle.laws.specs.Lists.{All, All-left, All-right, All-over, and-then, then_never, sum-append, length-concat_map}
use Rattle.laws.specs.Counting.{filter-All, filter-few, All-concat_map_from, Rises, rises-from, rises-append}
use Rattle.laws.specs.Places.{Around, around, splice-self}

-- ---- branches with their record numbers

-- the i-th branch has the number of its first record; so has another in its place
pub numbered-put : (k i n : ℕ) (f : Branch k → Branch k) (ts : List (Branch k)) (t : Branch k) (e : nth i ts ≡ Some t)
    → nth i (numbered k n (splice i (λ u. f u ∷ []) ts)) ≡ Some (n + length (concat_map (flat k) (around i ts t e).before), f t)
unfolding numbered around
numbered-put k i n f [] t e = let z : ◌≡◌ {A = ℕ} 0 1 = cc in absurd (omega arith)
numbered-put k zero n f (u ∷ ts) t e = let q : u ≡ t = cc in rw (add-zero, q)
numbered-put k (suc i) n f (u ∷ ts) t e = numbered-put k i (n + size k u) f ts t e ∙ rw (length-append (flat k u), add_assoc)

pub nth-numbered : (k i n : ℕ) (ts : List (Branch k)) (t : Branch k) (e : nth i ts ≡ Some t) → nth i (numbered k n ts) ≡ Some (n + length (concat_map (flat k) (around i ts t e).before), t)
nth-numbered k i n ts t e = ap (λ (us : List (Branch k)). nth i (numbered k n us)) (sym (splice-self i ts t e)) ∙ numbered-put k i n (λ u. t) ts t e

-- one of as many records moves no other
pub numbered-other : (k i j n : ℕ) (f : Branch k → Branch k) (ts : List (Branch k)) (t : Branch k) → nth i ts ≡ Some t → size k (f t) ≡ size k t → (i ≡ j → ⊥)
    → nth j (numbered k n (splice i (λ u. f u ∷ []) ts)) ≡ nth j (numbered k n ts)
unfolding numbered
numbered-other k i j n f [] t e s h = refl
numbered-other k zero zero n f (u ∷ ts) t e s h = absurd (h refl)
numbered-other k zero (suc j) n f (u ∷ ts) t e s h = let q : u ≡ t = cc in rw q (ap (λ (z : ℕ). nth j (numbered k (n + z) ts)) s)
numbered-other k (suc i) zero n f (u ∷ ts) t e s h = refl
numbered-other k (suc i) (suc j) n f (u ∷ ts) t e s h = numbered-other k i j (n + size k u) f ts t e s (λ q. h (ap suc q))

pub no-numbered : (k i n : ℕ) (ts : List (Branch k)) → nth i ts ≡ None → nth i (numbered k n ts) ≡ None
unfolding numbered
no-numbered k i n [] e = refl
no-numbered k zero n (t ∷ ts) e = let z : ◌≡◌ {A = ℕ} 0 1 = cc in absurd (omega arith)
no-numbered k (suc i) n (t ∷ ts) e = no-numbered k i (n + size k t) ts e

-- a branch that has a number stands behind those whose records come before its own
pub numbered-at : (k i n : ℕ) (ts : List (Branch k)) (u : ℕ × Branch k) → nth i (numbered k n ts) ≡ Some u
    → (a : Around i ts u.1) × (u.0 ≡ n + length (concat_map (flat k) a.before))
numbered-at k i n ts u e = go (nth i ts) refl
  where
    go : (o : Option (Branch k)) → nth i ts ≡ o → (a : Around i ts u.1) × (u.0 ≡ n + length (concat_map (flat k) a.before))
    go None q = let f = no-numbered k i n ts q in let z : ◌≡◌ {A = ℕ} 0 1 = cc in absurd (omega arith)
    go (Some t) q =
        let f = nth-numbered k i n ts t q in
        let p : ◌≡◌ {A = ℕ × Branch k} (n + length (concat_map (flat k) (around i ts t q).before), t) u = cc in
        rw (← p) (around i ts t q, refl)

-- ---- the atoms of branches

abbrev pub site_number : Site → ℕ
site_number s = atom_number s.numbers

module _ {A B : Type 0} (size : A → ℕ) (f : ℕ → A → List B) where
  concat_map_from-length : (g : A → ℕ) → ((n : ℕ) (x : A) → length (f n x) ≡ g x) → (n : ℕ) (xs : List A) → length (concat_map_from size f n xs) ≡ sum g xs
  concat_map_from-length g h n [] = refl
  concat_map_from-length g h n (x ∷ xs) =
      let e = concat_map_from-length g h (n + size x) xs in
      omega (arith, length-append (f n x) (concat_map_from size f (n + size x) xs), h n x)

  concat_map_from-rises : (q : B → ℕ) → ((n : ℕ) (x : A) → Rises n (n + size x) (map q (f n x))) → (n : ℕ) (xs : List A) → Rises n (n + sum size xs) (map q (concat_map_from size f n xs))
  concat_map_from-rises q h n [] = omega arith
  concat_map_from-rises q h n (x ∷ xs) =
      let e : n + size x + sum size xs ≡ n + (size x + sum size xs) = omega arith in
      rw map-append (rises-append n (n + size x) _ (map q (f n x)) (map q (concat_map_from size f (n + size x) xs)) (h n x) (rw e at (concat_map_from-rises q h (n + size x) xs)))

deeper : (k n : ℕ) (f : Fields (suc k)) (s : Site) → length s.numbers + suc k ≡ 4 → length (below (suc k) n f s).numbers + k ≡ 4
deeper k n f s d = omega (arith, length-append s.numbers (n ∷ []))

five-in : (k : ℕ) (s : Site) → length s.numbers + k ≡ 4 → (n : ℕ) (t : Branch k) → All (λ x. length x.numbers ≡ 5) (atoms_in k s n t)
unfolding atoms_in
five-in zero s d n t = (omega (arith, length-append s.numbers (n ∷ [])), tt)
five-in (suc k) s d n t = All-concat_map_from _ (size k) (atoms_in k (below (suc k) n t.0 s)) (five-in k (below (suc k) n t.0 s) (deeper k n t.0 s d)) (suc n) t.1

rises-in : (k : ℕ) (s : Site) → length s.numbers + k ≡ 4 → (n : ℕ) (t : Branch k) → Rises n (n + size k t) (map site_number (atoms_in k s n t))
unfolding atoms_in flat
rises-in zero s d n t =
    let e : get_or (s.numbers ++ (n ∷ [])) 4 0 ≡ n = get_or_at s.numbers n [] 0 4 (omega arith) in
    rw e (omega arith, omega arith)
rises-in (suc k) s d n t =
    let b = below (suc k) n t.0 s in
    let e : suc n + sum (size k) t.1 ≡ n + suc (length (concat_map (flat k) t.1)) = omega (arith, length-concat_map (flat k) t.1) in
    rises-from n (suc n) (n + suc (length (concat_map (flat k) t.1))) (map site_number (concat_map_from (size k) (atoms_in k b) (suc n) t.1)) (omega arith)
    (rw e at (concat_map_from-rises (size k) (atoms_in k b) site_number (rises-in k b (deeper k n t.0 s d)) (suc n) t.1))

count-in : (k : ℕ) (s : Site) (n : ℕ) (t : Branch k) → length (atoms_in k s n t) ≡ atom_count k t
unfolding atoms_in atom_count
count-in zero s n t = refl
count-in (suc k) s n t = concat_map_from-length (size k) (atoms_in k (below (suc k) n t.0 s)) (atom_count k) (count-in k (below (suc k) n t.0 s)) (suc n) t.1

-- of branches that stand under a site of their level
module _ (k : ℕ) (s : Site) (level : length s.numbers + k ≡ 4) (n : ℕ) (ts : List (Branch k)) where
  pub branches-five : All (λ x. length x.numbers ≡ 5) (concat_map_from (size k) (atoms_in k s) n ts)
  branches-five = All-concat_map_from _ (size k) (atoms_in k s) (five-in k s level) n ts

  pub branches-rise : Rises n (n + length (concat_map (flat k) ts)) (map site_number (concat_map_from (size k) (atoms_in k s) n ts))
  branches-rise = rw (length-concat_map (flat k) ts) (concat_map_from-rises (size k) (atoms_in k s) site_number (rises-in k s level) n ts)

  pub branches-count : length (concat_map_from (size k) (atoms_in k s) n ts) ≡ sum (atom_count k) ts
  branches-count = concat_map_from-length (size k) (atoms_in k s) (atom_count k) (count-in k s) n ts

pub atoms-stored : (m : Machine) → length (atoms_of m) ≡ stored m
unfolding atoms_of
atoms-stored m = branches-count 4 top refl 0 m

-- ---- the atoms under a start

-- they are those of branches of one level, and at most as many as all
pub record Under (all : ℕ) (atoms : List Site) : Type 0 where
  pub level : ℕ
  pub site : Site
  pub depth : length site.numbers + level ≡ 4
  pub number : ℕ
  pub children : List (Branch level)
  pub are : atoms ≡ concat_map_from (size level) (atoms_in level site) number children
  pub few : length atoms ≤ all

under_at : (k : ℕ) (s : Site) → length s.numbers + k ≡ 4 → (n : ℕ) (is : List ℕ) (ts : List (Branch k)) (atoms : List Site) → atoms_under k s n is ts ≡ Some atoms → Under (sum (atom_count k) ts) atoms
unfolding atoms_under atom_count
under_at k s d n [] ts atoms e =
    let q : atoms ≡ concat_map_from (size k) (atoms_in k s) n ts = cc in
    record { level = k; site = s; depth = d; number = n; children = ts; are = q; few = omega (arith, ap length q, branches-count k s d n ts) }
under_at zero s d n (i ∷ is) ts atoms e = let z : ◌≡◌ {A = ℕ} 0 1 = cc in absurd (omega arith)
under_at (suc k) s d n (i ∷ is) ts atoms e =
    let v = and-then (nth i (numbered (suc k) n ts)) (λ t. atoms_under k (below (suc k) t.0 t.1.0 s) (suc t.0) is t.1.1) atoms e in
    let t = v.0 in
    let r = under_at k (below (suc k) t.0 t.1.0 s) (deeper k t.0 t.1.0 s d) (suc t.0) is t.1.1 atoms v.2 in
    let a = (numbered-at (suc k) i n ts t v.1).0 in
    let f = r.few in
    record {
      level = r.level;
      site = r.site;
      depth = r.depth;
      number = r.number;
      children = r.children;
      are = r.are;
      few = omega (arith, ap (sum (atom_count (suc k))) a.was, sum-append (atom_count (suc k)) a.before (t.1 ∷ a.after));
    }

pub under-start : (start : List ℕ) (m : Machine) (atoms : List Site) → atoms_from start m ≡ Some atoms → Under (stored m) atoms
under-start start m atoms e = under_at 4 top refl 0 start m atoms e

-- more indexes than there are levels above the atoms
pub too-deep : (k : ℕ) (s : Site) (n : ℕ) (is : List ℕ) (ts : List (Branch k)) → k < length is → atoms_under k s n is ts ≡ None
unfolding atoms_under
too-deep k s n [] ts l = absurd (omega arith)
too-deep zero s n (i ∷ is) ts l = refl
too-deep (suc k) s n (i ∷ is) ts l =
    then_never (nth i (numbered (suc k) n ts)) _ (λ t. too-deep k (below (suc k) t.0 t.1.0 s) (suc t.0) is t.1.1 (omega arith))

-- with no index they are all
pub whole-start : (m : Machine) → atoms_from [] m ≡ Some (atoms_of m)
unfolding atoms_under atoms_of
whole-start m = refl

-- and always among all
module _ (P : Site → Type 0) where
  All-branch : (k i : ℕ) (f : ℕ → Branch k → List Site) (n : ℕ) (ts : List (Branch k)) (u : ℕ × Branch k) → nth i (numbered k n ts) ≡ Some u → All P (concat_map_from (size k) f n ts) → All P (f u.0 u.1)
  unfolding numbered
  All-branch k i f n [] u e a = let z : ◌≡◌ {A = ℕ} 0 1 = cc in absurd (omega arith)
  All-branch k zero f n (t ∷ ts) u e a = let q : ◌≡◌ {A = ℕ × Branch k} (n, t) u = cc in rw (← q) (All-left P (f n t) _ a)
  All-branch k (suc i) f n (t ∷ ts) u e a = All-branch k i f (n + size k t) ts u e (All-right P (f n t) _ a)

  All-under : (k : ℕ) (s : Site) (n : ℕ) (is : List ℕ) (ts : List (Branch k)) (atoms : List Site) → atoms_under k s n is ts ≡ Some atoms → All P (concat_map_from (size k) (atoms_in k s) n ts) → All P atoms
  unfolding atoms_under atoms_in
  All-under k s n [] ts atoms e a = let q : concat_map_from (size k) (atoms_in k s) n ts ≡ atoms = cc in rw q at a
  All-under zero s n (i ∷ is) ts atoms e a = let z : ◌≡◌ {A = ℕ} 0 1 = cc in absurd (omega arith)
  All-under (suc k) s n (i ∷ is) ts atoms e a =
      let v = and-then (nth i (numbered (suc k) n ts)) (λ t. atoms_under k (below (suc k) t.0 t.1.0 s) (suc t.0) is t.1.1) atoms e in
      let t = v.0 in
      All-under k (below (suc k) t.0 t.1.0 s) (suc t.0) is t.1.1 atoms v.2 (All-branch (suc k) i (atoms_in (suc k) s) n ts t v.1 a)

  pub All-start : (start : List ℕ) (m : Machine) (atoms : List Site) → atoms_from start m ≡ Some atoms → All P (atoms_of m) → All P atoms
  unfolding atoms_of
  All-start start m atoms e a = All-under 4 top 0 start m atoms e a

module _ (all : ℕ) (atoms : List Site) (u : Under all atoms) where
  pub under-five : All (λ x. length x.numbers ≡ 5) atoms
  under-five = subst (λ (l : List Site). All (λ x. length x.numbers ≡ 5) l) (sym u.are) (branches-five u.level u.site u.depth u.number u.children)

  pub under-rises : Rises u.number (u.number + length (concat_map (flat u.level) u.children)) (map site_number atoms)
  under-rises =
      subst (λ (l : List Site). Rises u.number (u.number + length (concat_map (flat u.level) u.children)) (map site_number l)) (sym u.are)
      (branches-rise u.level u.site u.depth u.number u.children)

-- ---- hits among atoms

module _ (names : Names) (low : ℕ) (t : List ℕ) (atoms : List Site) where
  abbrev hit : Site → Bool
  hit s = is_hit (value_from names low t s)

  -- at most as many as there are atoms
  pub hits_few : length (hits_among names low t atoms) ≤ length atoms
  hits_few = omega (arith, length-map (filter hit atoms) (λ s. s.numbers), filter-few hit atoms)

  pub hits-five : All (λ s. length s.numbers ≡ 5) atoms → All (λ h. length h ≡ 5) (hits_among names low t atoms)
  hits-five five = All-over (λ h. length h ≡ 5) (λ s. s.numbers) (filter hit atoms) (filter-All (λ s. length s.numbers ≡ 5) hit atoms five)

pub five-words : (hs : List (List ℕ)) → All (λ h. length h ≡ 5) hs → length (hit_words hs) ≡ 5 * length hs
five-words [] a = refl
five-words (h ∷ hs) a = omega (arith, length-append h (hit_words hs), a.0, five-words hs a.1)
