-- The crate's five finds, at every position and for every accepted tree, list what document 01's definition lists from that start. Assumes nothing.
use Rattle.std.specs.Prelude.{None, Option, Some, option_map}
use Rattle.std.proofs.Common.{◌≡◌, ℕ, zero, suc, ◌+◌, ◌-◌, ◌≤◌, List, [], ◌∷◌, ◌++◌, map, length, sym, refl, ap, ◌∙◌, subst, ap₂, append_assoc, map-id, arith, le-leb}
use mathlib.Core.List.{map-map, map-append}
use Rattle.machine.specs.Lists.{filter, nth, concat_map_from, and_then}
use Rattle.machine.specs.Record.{Fields}
use Rattle.machine.specs.Store.{Branch, Machine}
use Rattle.machine.specs.Kleene.{is_hit}
use Rattle.machine.specs.Query.{Place, window, tree_value, term_value, tables}
use Rattle.machine.specs.declared.Tri.{Tri}
use Rattle.machine.specs.Find.{Site, enter, below, top, size, numbered, atoms_in, atoms_under, atoms_from, lowest, hits_among}
use Rattle.laws.specs.Counting.{filter_same}
use Rattle.laws.specs.Scan.{enter-over}
use Rattle.pdbtbx.specs.Structs.{Says}
use Rattle.pdbtbx.specs.Words.{pdb_of}
use Rattle.pdbtbx.specs.Matches.{matches_at}
use Rattle.pdbtbx.specs.Find.{Item, find, find_under, find_at}
use Rattle.pdbtbx.specs.Calls.{search_for}
use Rattle.pdbtbx.specs.Demand.{Reads}
use Rattle.pdbtbx.proofs.Vecs.{filter_map}
use Rattle.pdbtbx.proofs.Hits.{Above, hit, numbers_of, branch_item, branch_items, items-same, nowhere-above, start, found_below_lem, search-value}

-- a tree's value at a site, with all that the site knows
abbrev value_here : List ℕ → Site → Tri
value_here t s = tree_value (term_value tables s.place) t

-- a site with the levels from k down alone known
abbrev pub from : ℕ → Site → Site
from k z = record { numbers = z.numbers; place = window (5 - k) 5 z.place }

enter-from : (k j : ℕ) → j ≤ k → k ≤ 4 → (f : Fields j) (e : Place) → enter j f (window (5 - k) 5 e) ≡ window (5 - k) 5 (enter j f e)
unfolding window enter
enter-from k zero l h f e = rw (le-leb (5 - k) 5 (omega arith))
enter-from k (suc zero) l h f e = rw (le-leb (5 - k) 4 (omega arith))
enter-from k (suc (suc zero)) l h f e = rw (le-leb (5 - k) 3 (omega arith))
enter-from k (suc (suc (suc zero))) l h f e = rw (le-leb (5 - k) 2 (omega arith))
enter-from k (suc (suc (suc (suc zero)))) l h f e = rw (le-leb (5 - k) 1 (omega arith))
enter-from k (suc (suc (suc (suc (suc j))))) l h f e = absurd (omega arith)

from_start : (k : ℕ) → k ≤ 4 → (z : Site) → Above k z.place → start z.numbers ≡ from k z
unfolding window
from_start zero l z w = subst (λ (e : Place). start z.numbers ≡ record { numbers = z.numbers; place = window 5 5 e }) w refl
from_start (suc zero) l z w = subst (λ (e : Place). start z.numbers ≡ record { numbers = z.numbers; place = window 4 5 e }) w refl
from_start (suc (suc zero)) l z w = subst (λ (e : Place). start z.numbers ≡ record { numbers = z.numbers; place = window 3 5 e }) w refl
from_start (suc (suc (suc zero))) l z w = subst (λ (e : Place). start z.numbers ≡ record { numbers = z.numbers; place = window 2 5 e }) w refl
from_start (suc (suc (suc (suc zero)))) l z w = subst (λ (e : Place). start z.numbers ≡ record { numbers = z.numbers; place = window 1 5 e }) w refl
from_start (suc (suc (suc (suc (suc k))))) l z w = absurd (omega arith)

concat_map_from-from : {A B : Type 0} (c : B → B) (size' : A → ℕ) (f g : ℕ → A → List B) → ((n : ℕ) (x : A) → f n x ≡ map c (g n x)) → (n : ℕ) (xs : List A) → concat_map_from size' f n xs ≡ map c (concat_map_from size' g n xs)
concat_map_from-from c size' f g h n [] = refl
concat_map_from-from c size' f g h n (x ∷ xs) = ap₂ ◌++◌ (h n x) (concat_map_from-from c size' f g h (n + size' x) xs) ∙ sym (map-append c (g n x) (concat_map_from size' g (n + size' x) xs))

module _ (k : ℕ) (h : k ≤ 4) where
  below-from : (j : ℕ) → j ≤ k → (n : ℕ) (f : Fields j) (z : Site) → below j n f (from k z) ≡ from k (below j n f z)
  below-from j l n f z = λ i. record { numbers = z.numbers ++ (n ∷ []); place = enter-from k j l h f z.place i }

  atoms-from : (j : ℕ) → j ≤ k → (z : Site) (n : ℕ) (t : Branch j) → atoms_in j (from k z) n t ≡ map (from k) (atoms_in j z n t)
  unfolding atoms_in
  atoms-from zero l z n t = ap (λ (y : Site). y ∷ []) (below-from zero l n t z)
  atoms-from (suc j) l z n t =
      ap (λ (y : Site). concat_map_from (size j) (atoms_in j y) (suc n) t.1) (below-from (suc j) l n t.0 z)
      ∙ concat_map_from-from (from k) (size j) _ _ (atoms-from j (omega arith) (below (suc j) n t.0 z)) (suc n) t.1

-- the crate's things have the record numbers of their branches
nth-items : (k i n : ℕ) (ts : List (Branch k)) → nth i (branch_items k n ts) ≡ option_map (λ (u : ℕ × Branch k). branch_item k u.0 u.1) (nth i (numbered k n ts))
unfolding numbered
nth-items k i n [] = refl
nth-items k zero n (t ∷ ts) = refl
nth-items k (suc i) n (t ∷ ts) = nth-items k i (n + size k t) ts

-- one number more before the hits
one_more : (p : List ℕ) (n : ℕ) (o : Option (List (List ℕ)))
    → option_map (map (λ (h : List ℕ). p ++ h)) (option_map (map (λ (h : List ℕ). n ∷ h)) o) ≡ option_map (map (λ (h : List ℕ). (p ++ (n ∷ [])) ++ h)) o
one_more p n None = refl
one_more p n (Some hs) = ap Some (map-map _ _ hs ∙ (λ i. map (λ (h : List ℕ). sym (append_assoc p (n ∷ []) h) i) hs))

no_more : (o : Option (List (List ℕ))) → option_map (map (λ (h : List ℕ). [] ++ h)) o ≡ o
no_more None = refl
no_more (Some hs) = ap Some (map-id hs)

module _ (t : List ℕ) (r : Reads t) where
  -- below a site of which only the record numbers are known
  find-below : (k : ℕ) → k ≤ 4 → (p : List ℕ) (n : ℕ) (ts : List (Branch k))
      → map (λ (l : List ℕ). p ++ l) (find Says matches_at k (search_for t) (branch_items k n ts)) ≡ map numbers_of (filter (λ z. is_hit (value_here t z)) (concat_map_from (size k) (atoms_in k (start p)) n ts))
  find-below k l p n ts =
      found_below_lem (search_for t) k l p n ts
      ∙ ap (map numbers_of) (filter_same (hit (search_for t)) _ (λ z. ap is_hit (search-value t r z.place)) (concat_map_from (size k) (atoms_in k (start p)) n ts))

  -- below any site, whose own level and those above stay undecided
  find-site : (k : ℕ) → k ≤ 4 → (z : Site) → Above k z.place → (n : ℕ) (ts : List (Branch k))
      → map (λ (h : List ℕ). z.numbers ++ h) (find Says matches_at k (search_for t) (branch_items k n ts)) ≡ hits_among tables (5 - k) t (concat_map_from (size k) (atoms_in k z) n ts)
  find-site k l z w n ts =
      find-below k l z.numbers n ts
      ∙ ap (λ (y : Site). map numbers_of (filter (λ x. is_hit (value_here t x)) (concat_map_from (size k) (atoms_in k y) n ts))) (from_start k l z w)
      ∙ ap (λ (ys : List Site). map numbers_of (filter (λ x. is_hit (value_here t x)) ys)) (concat_map_from-from (from k) (size k) _ _ (atoms-from k l k (omega arith) z) n ts)
      ∙ ap (map numbers_of) (filter_map (from k) _ _ (λ y. refl) (concat_map_from (size k) (atoms_in k z) n ts))
      ∙ map-map numbers_of (from k) (filter (λ y. is_hit (value_here t (from k y))) (concat_map_from (size k) (atoms_in k z) n ts))

  -- at a position under that site: low is the first kind below the start
  abbrev FindsUnder : (k : ℕ) (z : Site) (n low : ℕ) (is : List ℕ) (ts : List (Branch k)) → Type 0
  FindsUnder k z n low is ts =
      option_map (map (λ (h : List ℕ). z.numbers ++ h)) (find_under Says matches_at k is (search_for t) (branch_items k n ts)) ≡ option_map (hits_among tables low t) (atoms_under k z n is ts)

  find-under : (k : ℕ) → k ≤ 4 → (z : Site) → Above k z.place → (n low : ℕ) (is : List ℕ) → low + k ≡ 5 + length is → (ts : List (Branch k)) → FindsUnder k z n low is ts
  unfolding find_under atoms_under branch_item
  find-under k l z w n low [] d ts =
      let e : low ≡ 5 - k = omega arith in
      rw e (ap Some (find-site k l z w n ts))
  find-under zero l z w n low (i ∷ is) d ts = refl
  find-under (suc k) l z w n low (i ∷ is) d ts =
      ap (λ (o : Option (Item Says (suc k))). option_map (map (λ (h : List ℕ). z.numbers ++ h)) (and_then o down)) (nth-items (suc k) i n ts)
      ∙ go (nth i (numbered (suc k) n ts)) (λ u. find-under k (omega arith) (below (suc k) u.0 u.1.0 z) (enter-over k (omega arith) u.1.0 z.place w) (suc u.0) low is (omega arith) u.1.1)
    where
      down : Item Says (suc k) → Option (List (List ℕ))
      down m = option_map (map (λ (h : List ℕ). m.0 ∷ h)) (find_under Says matches_at k is (search_for t) m.2)

      go : (o : Option (ℕ × Branch (suc k))) → ((u : ℕ × Branch (suc k)) → FindsUnder k (below (suc k) u.0 u.1.0 z) (suc u.0) low is u.1.1)
          → option_map (map (λ (h : List ℕ). z.numbers ++ h)) (and_then (option_map (λ (u : ℕ × Branch (suc k)). branch_item (suc k) u.0 u.1) o) down)
          ≡ option_map (hits_among tables low t) (and_then o (λ u. atoms_under k (below (suc k) u.0 u.1.0 z) (suc u.0) is u.1.1))
      go None on = refl
      go (Some u) on = one_more z.numbers u.0 (find_under Says matches_at k is (search_for t) (branch_items k (suc u.0) u.1.1)) ∙ on u

  -- the five finds
  pub find-hits : (start : List ℕ) (m : Machine) → find_at start (search_for t) (pdb_of m) ≡ option_map (hits_among tables (lowest start) t) (atoms_from start m)
  find-hits start m =
      ap (find_under Says matches_at 4 start (search_for t)) (items-same 4 0 m)
      ∙ sym (no_more _)
      ∙ find-under 4 (omega arith) top (nowhere-above 4 (omega arith)) 0 (lowest start) start (omega arith) m
