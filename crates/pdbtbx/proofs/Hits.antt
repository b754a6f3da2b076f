-- The crate's `find`, at each of its five levels and for every machine, lists the atoms at which its search isn't false by its own terms; and these are
-- document 01's. Assumes nothing.
use Rattle.std.specs.Prelude.{None, Option, Some, option_map}
use Rattle.std.proofs.Common.{◌≡◌, ℕ, zero, suc, ◌+◌, ◌-◌, ◌≤◌, Bool, true, false, cond, not, ◌&&◌, eqb, List, [], ◌∷◌, ◌++◌, map, sym, refl, ap, ◌∙◌, subst, ap₂, append_assoc, arith}
use mathlib.Core.List.{map-map, map-append}
use Rattle.machine.specs.Lists.{or_else, and_then, keep, filter, sum, concat_map_from}
use Rattle.machine.specs.Record.{Fields, Conformer, Atom, read_out}
use Rattle.machine.specs.Store.{Branch, flat}
use Rattle.machine.specs.Kleene.{decided, not_t, and_t, is_hit}
use Rattle.machine.specs.Query.{Place, window, tree_value, same_z, close, drop_sign, known, element_is, among_residues, member, tables, term_value}
use Rattle.machine.specs.Find.{Site, enter, below, nowhere, size, atoms_in}
use Rattle.machine.specs.declared.Tri.{Tri}
use Rattle.machine.specs.declared.Tri.TheVariants.{False, Undecided}
use Rattle.machine.specs.declared.Term.{Term}
use Rattle.machine.specs.declared.Term.TheVariants.{ModelSerialNumber, ModelSerialNumberRange, ChainId, ChainIdRange, ResidueSerialNumber, ResidueSerialNumberRange, ResidueInsertionCode, ResidueId, ConformerName, ConformerAlternativeLocation, ConformerId, AtomSerialNumber, AtomSerialNumberRange, AtomName, Element, BFactor, BFactorRange, Occupancy, OccupancyRange, Backbone, SideChain, Hetero}
use Rattle.laws.specs.Kleene.{to_tri}
use Rattle.laws.specs.Lists.{length-concat_map}
use Rattle.laws.specs.Counting.{filter-append}
use Rattle.laws.specs.Scan.{enter-over}
use Rattle.demands.specs.Hetero.{is_side, former_value}
use Rattle.demands.proofs.Hetero.{same-others, hetero-first}
use Rattle.pdbtbx.specs.Std.{abs, within_epsilon}
use Rattle.pdbtbx.specs.Structs.{Says}
use Rattle.pdbtbx.specs.Words.{isize, says_of, struct_of, structs_of}
use Rattle.pdbtbx.specs.Search.{Search, Operator, Not, Single, Known}
use Rattle.pdbtbx.specs.Matches.{optional_matches, matches_at}
use Rattle.pdbtbx.specs.Find.{Item, find, count_of, item, items}
use Rattle.pdbtbx.specs.Calls.{search_of, asked_by, asked, given, search_for}
use Rattle.pdbtbx.specs.Demand.{value, Reads}
use Rattle.pdbtbx.proofs.Values.{value_same, listed, find-all}
use Rattle.pdbtbx.proofs.Texts.{same-string, eqb_swap, same-option, before-string, among-amino-acids, among-backbone}

-- ---- the terms

abbrev by_model : Place → Term → Option Bool
by_model e t = and_then e.model (λ m. (optional_matches t).model (says_of 4 m))

abbrev by_chain : Place → Term → Option Bool
by_chain e t = and_then e.chain (λ c. (optional_matches t).chain (says_of 3 c))

abbrev by_residue : Place → Term → Option Bool
by_residue e t = and_then e.residue (λ r. (optional_matches t).residue (says_of 2 r))

abbrev by_conformer : Place → Term → Option Bool
by_conformer e t = and_then e.conformer (λ c. (optional_matches t).conformer (says_of 1 c))

abbrev by_atom : Place → Term → Option Bool
by_atom e t = and_then e.atom (λ a. (optional_matches t).atom (says_of 0 a))

-- what the levels of a place tell of a term: the first that tells, from the model down
unfoldable pub told_at : Place → Term → Option Bool
told_at e t = or_else (by_model e t) (or_else (by_chain e t) (or_else (by_residue e t) (or_else (by_conformer e t) (by_atom e t))))

none_then : {A : Type 0} (o : Option A) → and_then {B = Bool} o (λ x. None) ≡ None
none_then None = refl
none_then (Some x) = refl

else-none : (o : Option Bool) → or_else o None ≡ o
else-none None = refl
else-none (Some x) = refl

known-then : {A : Type 0} (o : Option A) (f g : A → Bool) → ((x : A) → f x ≡ g x) → to_tri (and_then o (λ x. Some (f x))) ≡ known o g
known-then None f g h = refl
known-then (Some x) f g h = ap decided (h x)

element-then : (n : ℕ) (o : Option Atom) → to_tri (and_then o (λ a. option_map (λ (x : ℕ). eqb x n) (cond (eqb a.element 0) None (Some a.element)))) ≡ element_is n o
element-then n None = refl
element-then n (Some a) = go (eqb a.element 0)
  where
    go : (b : Bool) → to_tri (option_map (λ (x : ℕ). eqb x n) (cond b None (Some a.element))) ≡ cond b Undecided (decided (eqb a.element n))
    go true = refl
    go false = refl

-- a conformer that isn't an amino acid is told first
side_then : (o : Option Conformer) (p : Option Atom) (amino : Conformer → Bool) (f g : Atom → Bool) → ((c : Conformer) → amino c ≡ member tables.residues c.name) → ((a : Atom) → f a ≡ g a)
    → to_tri (or_else (and_then o (λ c. cond (not (amino c)) (Some false) None)) (and_then p (λ a. Some (f a)))) ≡ among_residues tables o (known p g)
side_then None p amino f g h k = known-then p f g k
side_then (Some c) p amino f g h k = rw (← h c) (go (amino c))
  where
    go : (b : Bool) → to_tri (or_else (cond (not b) (Some false) None) (and_then p (λ a. Some (f a)))) ≡ cond b (known p g) False
    go true = known-then p f g k
    go false = refl

-- the crate's terms have the values from before change request §8
told-value : (e : Place) (t : Term) → to_tri (told_at e t) ≡ former_value tables e t
unfolding told_at optional_matches term_value says_of read_out within_epsilon abs close drop_sign
told-value e (ModelSerialNumber n) = simp (none_then, else-none) (known-then e.model _ _ (λ m. eqb_swap n m.serial))
told-value e (ModelSerialNumberRange low high) = simp (none_then, else-none) (known-then e.model _ _ (λ m. refl))
told-value e (ChainId n) = simp (none_then, else-none) (known-then e.chain _ _ (λ c. same-string n c.id ∙ eqb_swap n c.id))
told-value e (ChainIdRange low high) = simp (none_then, else-none) (known-then e.chain _ _ (λ c. ap₂ ◌&&◌ (before-string low c.id) (before-string c.id high)))
told-value e (ResidueSerialNumber n) = simp (none_then, else-none) (known-then e.residue _ _ (λ r. refl))
told-value e (ResidueSerialNumberRange low high) = simp (none_then, else-none) (known-then e.residue _ _ (λ r. refl))
told-value e (ResidueInsertionCode n) = simp (none_then, else-none) (known-then e.residue _ _ (λ r. same-option n r.code ∙ eqb_swap n r.code))
told-value e (ResidueId n k) = simp (none_then, else-none) (known-then e.residue _ _ (λ r. ap (λ (b : Bool). same_z n (isize r.serial) && b) (same-option k r.code ∙ eqb_swap k r.code)))
told-value e (ConformerName n) = simp (none_then, else-none) (known-then e.conformer _ _ (λ c. same-string n c.name ∙ eqb_swap n c.name))
told-value e (ConformerAlternativeLocation n) = simp (none_then, else-none) (known-then e.conformer _ _ (λ c. same-option n c.location ∙ eqb_swap n c.location))
told-value e (ConformerId n k) = simp (none_then, else-none) (known-then e.conformer _ _ (λ c. ap₂ ◌&&◌ (same-string n c.name ∙ eqb_swap n c.name) (same-option k c.location ∙ eqb_swap k c.location)))
told-value e (AtomSerialNumber n) = simp none_then (known-then e.atom _ _ (λ a. refl))
told-value e (AtomSerialNumberRange low high) = simp none_then (known-then e.atom _ _ (λ a. refl))
told-value e (AtomName n) = simp none_then (known-then e.atom _ _ (λ a. same-string a.name n))
told-value e (Element n) = simp none_then (element-then n e.atom)
told-value e (BFactor x) = simp none_then (known-then e.atom _ _ (λ a. refl))
told-value e (BFactorRange low high) = simp none_then (known-then e.atom _ _ (λ a. refl))
told-value e (Occupancy x) = simp none_then (known-then e.atom _ _ (λ a. refl))
told-value e (OccupancyRange low high) = simp none_then (known-then e.atom _ _ (λ a. refl))
told-value e Backbone = simp none_then (side_then e.conformer e.atom _ _ _ (λ c. among-amino-acids c.name) (λ a. among-backbone a.name))
told-value e SideChain = simp none_then (side_then e.conformer e.atom _ _ _ (λ c. among-amino-acids c.name) (λ a. ap not (among-backbone a.name)))
told-value e Hetero = simp none_then (known-then e.atom _ _ (λ a. refl))

-- the crate's own terms at a place
abbrev pub own : Place → Term → Tri
own e t = to_tri (told_at e t)

-- each as it is given has document 01's value
asked-value : (e : Place) (t : Term) → value (own e) (asked t) ≡ term_value tables e t
unfolding value
asked-value e t = go (is_side t) refl
  where
    go : (b : Bool) → is_side t ≡ b → value (own e) (asked_by b t) ≡ term_value tables e t
    go true h = ap₂ (λ (x y : Tri). and_t x (not_t y)) (told-value e t) (told-value e Hetero) ∙ sym ((hetero-first tables).sides e t h)
    go false h = told-value e t ∙ sym (same-others tables e t h)

given-value : (v : Term → Tri) (s : Search Term) → value v (given s) ≡ value (λ t. value v (asked t)) s
unfolding value given
given-value v (Operator o a b) = rw (given-value v a, given-value v b)
given-value v (Not a) = rw (given-value v a)
given-value v (Single t) = refl
given-value v (Known b) = refl

-- so the search that is given for an accepted tree has the tree's value
pub search-value : (t : List ℕ) → Reads t → (e : Place) → value (own e) (search_for t) ≡ tree_value (term_value tables e) t
search-value t r e = given-value (own e) (search_of t) ∙ value_same _ _ (asked-value e) (search_of t) ∙ sym (r.kleene (term_value tables e))

-- ---- a level more

-- at a place that is above level k, the levels from k down aren't known
abbrev pub Above : ℕ → Place → Type 0
Above k e = window 1 (4 - k) e ≡ e

-- what the levels above tell, then this one
after_one : (a x : Option Bool) → or_else (or_else a None) x ≡ or_else a (or_else x None)
after_one (Some p) x = refl
after_one None x = sym (else-none x)

after_two : (a b x : Option Bool) → or_else (or_else a (or_else b None)) x ≡ or_else a (or_else b (or_else x None))
after_two (Some p) b x = refl
after_two None b x = after_one b x

after-three : (a b c x : Option Bool) → or_else (or_else a (or_else b (or_else c None))) x ≡ or_else a (or_else b (or_else c (or_else x None)))
after-three (Some p) b c x = refl
after-three None b c x = after_two b c x

after-four : (a b c d x : Option Bool) → or_else (or_else a (or_else b (or_else c (or_else d None)))) x ≡ or_else a (or_else b (or_else c (or_else d x)))
after-four (Some p) b c d x = refl
after-four None (Some p) c d x = refl
after-four None None (Some p) d x = refl
after-four None None None d x = ap (λ (o : Option Bool). or_else o x) (else-none d)

told-enter : (k : ℕ) → k ≤ 4 → (f : Fields k) (e : Place) → Above k e → (t : Term) → or_else (told_at e t) (matches_at k (says_of k f) t) ≡ told_at (enter k f e) t
unfolding told_at matches_at enter window
told-enter zero l f e w t = subst (λ (x : Place). or_else (told_at x t) (matches_at 0 (says_of 0 f) t) ≡ told_at (enter 0 f x) t) w (after-four (by_model e t) (by_chain e t) (by_residue e t) (by_conformer e t) ((optional_matches t).atom (says_of 0 f)))
told-enter (suc zero) l f e w t = subst (λ (x : Place). or_else (told_at x t) (matches_at 1 (says_of 1 f) t) ≡ told_at (enter 1 f x) t) w (after-three (by_model e t) (by_chain e t) (by_residue e t) ((optional_matches t).conformer (says_of 1 f)))
told-enter (suc (suc zero)) l f e w t = subst (λ (x : Place). or_else (told_at x t) (matches_at 2 (says_of 2 f) t) ≡ told_at (enter 2 f x) t) w (after_two (by_model e t) (by_chain e t) ((optional_matches t).residue (says_of 2 f)))
told-enter (suc (suc (suc zero))) l f e w t = subst (λ (x : Place). or_else (told_at x t) (matches_at 3 (says_of 3 f) t) ≡ told_at (enter 3 f x) t) w (after_one (by_model e t) ((optional_matches t).chain (says_of 3 f)))
told-enter (suc (suc (suc (suc zero)))) l f e w t = subst (λ (x : Place). or_else (told_at x t) (matches_at 4 (says_of 4 f) t) ≡ told_at (enter 4 f x) t) w (sym (else-none ((optional_matches t).model (says_of 4 f))))
told-enter (suc (suc (suc (suc (suc k))))) l f e w t = absurd (omega arith)

-- ---- the machine's atoms

abbrev pub hit : Search Term → Site → Bool
hit s z = is_hit (value (own z.place) s)

abbrev pub numbers_of : Site → List ℕ
numbers_of z = z.numbers

-- ---- the numbers

unfoldable pub branch_item : (k : ℕ) → ℕ → Branch k → Item Says k
branch_item zero n a = (n, says_of zero a)
branch_item (suc k) n t = (n, says_of (suc k) t.0, concat_map_from (size k) (λ i u. branch_item k i u ∷ []) (suc n) t.1)

abbrev pub branch_items : (k : ℕ) → ℕ → List (Branch k) → List (Item Says k)
branch_items k n ts = concat_map_from (size k) (λ i t. branch_item k i t ∷ []) n ts

pub sum-map : {A B : Type 0} (f : A → ℕ) (g : B → ℕ) (u : B → A) → ((x : B) → f (u x) ≡ g x) → (xs : List B) → sum f (map u xs) ≡ sum g xs
sum-map f g u h [] = refl
sum-map f g u h (x ∷ xs) = ap₂ ◌+◌ (h x) (sum-map f g u h xs)

-- what the crate counts are the machine's records
pub count-size : (k : ℕ) (t : Branch k) → count_of k (struct_of k t) ≡ size k t
unfolding count_of struct_of flat
count-size zero t = refl
count-size (suc k) t = ap suc (sum-map (count_of k) (size k) (struct_of k) (count-size k) t.1 ∙ sym (length-concat_map (flat k) t.1))

concat_map_from-map : {A B C : Type 0} (f : A → ℕ) (g : B → ℕ) (u : B → A) (c : ℕ → A → C) (d : ℕ → B → C) → ((x : B) → f (u x) ≡ g x) → ((n : ℕ) (x : B) → c n (u x) ≡ d n x)
    → (n : ℕ) (xs : List B) → concat_map_from f (λ i x. c i x ∷ []) n (map u xs) ≡ concat_map_from g (λ i x. d i x ∷ []) n xs
concat_map_from-map f g u c d h k n [] = refl
concat_map_from-map f g u c d h k n (x ∷ xs) = ap₂ ◌∷◌ (k n x) (ap (λ (e : ℕ). concat_map_from f (λ i y. c i y ∷ []) (n + e) (map u xs)) (h x) ∙ concat_map_from-map f g u c d h k (n + g x) xs)

item-same : (k n : ℕ) (t : Branch k) → item k n (struct_of k t) ≡ branch_item k n t
unfolding item struct_of branch_item
item-same zero n t = refl
item-same (suc k) n t = ap (λ (l : List (Item Says k)). (n, says_of (suc k) t.0, l)) (concat_map_from-map (count_of k) (size k) (struct_of k) (item k) (branch_item k) (count-size k) (item-same k) (suc n) t.1)

pub items-same : (k n : ℕ) (ts : List (Branch k)) → items k n (structs_of k ts) ≡ branch_items k n ts
items-same k n ts = concat_map_from-map (count_of k) (size k) (struct_of k) (item k) (branch_item k) (count-size k) (item-same k) n ts

keep_same : {A B C : Type 0} (f : A → C) (g : B → C) (b : Bool) (x : A) (y : B) (xs : List A) (ys : List B) → f x ≡ g y → map f xs ≡ map g ys → map f (keep b x xs) ≡ map g (keep b y ys)
keep_same f g true x y xs ys e i = ap₂ ◌∷◌ e i
keep_same f g false x y xs ys e i = i

module _ (s : Search Term) where
  -- what is listed below a site is what the site's atoms give
  abbrev pub Bridge : (k : ℕ) → Site → ℕ → List (Branch k) → Type 0
  Bridge k z n ts =
      map (λ (h : List ℕ). z.numbers ++ h) (listed Says matches_at k (told_at z.place) s (branch_items k n ts)) ≡ map numbers_of (filter (hit s) (concat_map_from (size k) (atoms_in k z) n ts))

  module _ (z : Site) (w : Above zero z.place) where
    -- a test of an atom, with what was told above it
    abbrev told : Item Says zero → Bool
    told a = is_hit (value (λ t. to_tri (or_else (told_at z.place t) (matches_at zero a.1 t))) s)

    same-hit : (n : ℕ) (a : Branch zero) → told (n, says_of zero a) ≡ hit s (below zero n a z)
    same-hit n a = ap is_hit (value_same _ _ (λ t. ap to_tri (told-enter zero (omega arith) a z.place w t)) s)

    atoms : (n : ℕ) (ts : List (Branch zero)) → map (λ (a : Item Says zero). z.numbers ++ (a.0 ∷ [])) (filter told (branch_items zero n ts)) ≡ map numbers_of (filter (hit s) (concat_map_from (size zero) (atoms_in zero z) n ts))
    unfolding branch_item atoms_in
    atoms n [] = refl
    atoms n (a ∷ ts) =
        ap (λ (b : Bool). map (λ (x : Item Says zero). z.numbers ++ (x.0 ∷ [])) (keep b (n, says_of zero a) (filter told (branch_items zero (n + size zero a) ts)))) (same-hit n a)
        ∙ keep_same _ _ (hit s (below zero n a z)) (n, says_of zero a) (below zero n a z) _ _ refl (atoms (n + size zero a) ts)

  bridge-atoms : (z : Site) → Above zero z.place → (n : ℕ) (ts : List (Branch zero)) → Bridge zero z n ts
  unfolding listed
  bridge-atoms z w n ts = map-map _ _ (filter (told z w) (branch_items zero n ts)) ∙ atoms z w n ts

  module _ (k : ℕ) (l : suc k ≤ 4) (below-it : (z : Site) → Above k z.place → (n : ℕ) (ts : List (Branch k)) → Bridge k z n ts) (z : Site) (w : Above (suc k) z.place) where
    one : (n : ℕ) (t : Branch (suc k))
        → map (λ (h : List ℕ). z.numbers ++ h) (map (λ (h : List ℕ). n ∷ h) (listed Says matches_at k (λ u. or_else (told_at z.place u) (matches_at (suc k) (says_of (suc k) t.0) u)) s (branch_items k (suc n) t.1)))
        ≡ map numbers_of (filter (hit s) (atoms_in (suc k) z n t))
    unfolding atoms_in
    one n t =
        let y = below (suc k) n t.0 z in
        map-map _ _ (listed Says matches_at k (λ u. or_else (told_at z.place u) (matches_at (suc k) (says_of (suc k) t.0) u)) s (branch_items k (suc n) t.1))
        ∙ (λ i. map (λ (h : List ℕ). sym (append_assoc z.numbers (n ∷ []) h) i) (listed Says matches_at k (λ u. told-enter (suc k) l t.0 z.place w u i) s (branch_items k (suc n) t.1)))
        ∙ below-it y (enter-over k (omega arith) t.0 z.place w) (suc n) t.1

    each : (n : ℕ) (ts : List (Branch (suc k))) → Bridge (suc k) z n ts
    unfolding listed branch_item
    each n [] = refl
    each n (t ∷ ts) =
        map-append _ (map (λ (h : List ℕ). n ∷ h) (listed Says matches_at k (λ u. or_else (told_at z.place u) (matches_at (suc k) (says_of (suc k) t.0) u)) s (branch_items k (suc n) t.1))) _
        ∙ ap₂ ◌++◌ (one n t) (each (n + size (suc k) t) ts)
        ∙ sym (map-append numbers_of (filter (hit s) (atoms_in (suc k) z n t)) _)
        ∙ ap (map numbers_of) (sym (filter-append (hit s) (atoms_in (suc k) z n t) _))

  pub bridge : (k : ℕ) → k ≤ 4 → (z : Site) → Above k z.place → (n : ℕ) (ts : List (Branch k)) → Bridge k z n ts
  bridge zero l = bridge-atoms
  bridge (suc k) l = each k l (bridge k (omega arith))

pub nowhere-above : (k : ℕ) → k ≤ 4 → Above k nowhere
unfolding window
nowhere-above zero l = refl
nowhere-above (suc zero) l = refl
nowhere-above (suc (suc zero)) l = refl
nowhere-above (suc (suc (suc zero))) l = refl
nowhere-above (suc (suc (suc (suc zero)))) l = refl
nowhere-above (suc (suc (suc (suc (suc k))))) l = absurd (omega arith)

-- a start of which only the record numbers are known
abbrev pub start : List ℕ → Site
start p = record { numbers = p; place = nowhere }

-- the crate's `find` at any of its levels: what it lists, after the numbers of the start, are the atoms below at which its search isn't false by its own terms, with
-- nothing of the start known
pub found_below_lem : (s : Search Term) (k : ℕ) → k ≤ 4 → (p : List ℕ) (n : ℕ) (ts : List (Branch k))
    → map (λ (h : List ℕ). p ++ h) (find Says matches_at k s (branch_items k n ts)) ≡ map numbers_of (filter (hit s) (concat_map_from (size k) (atoms_in k (start p)) n ts))
unfolding told_at
found_below_lem s k l p n ts = ap (map (λ (h : List ℕ). p ++ h)) (find-all Says matches_at k s (branch_items k n ts)) ∙ bridge s k l (start p) (nowhere-above k l) n ts
