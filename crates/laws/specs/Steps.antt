-- Each of the calls keeps a machine good and within its store, and counts its atoms right. Assumes nothing.
use Rattle.std.specs.Prelude.{ℕ, zero, suc, ◌+◌, ◌≤◌, ◌≡◌, refl, Bool, true, false, not, ◌&&◌, cond, length, leb, eqb, Err, None, Ok, Option, Some, option_map}
use Rattle.std.proofs.Common.{sym, ap, ◌∙◌, arith, leb-true, ne_eqb}
use Rattle.std.proofs.Math.Bool.{or-true}
use mathlib.Core.List.{List, [], ◌∷◌, ◌++◌, map}
use Rattle.std.proofs.lemmas.Bool.{not-true}
use Rattle.machine.specs.Lists.{is_empty, or_else, all, sum, keep, filter, nth, splice, first_where, last_where, same}
use Rattle.machine.specs.Answer.{Result, ◌>>=◌, ◌>>◌, need, position, refusal_number}
use Rattle.machine.specs.Text.{Optional, chain_id, insertion_code, conformer_name, alternative_location, atom_name, plain, trim, to_upper, pack, fit, uppercase_or, by_flag, optional, stored_by, absent_or}
use Rattle.machine.specs.Record.{Fields, Atom, finite, is_element, good_fields, good_values}
use Rattle.machine.specs.Store.{Branch, Machine, records, flat, stored, capacity, atom_count}
use Rattle.machine.specs.Query.{read_tree}
use Rattle.machine.specs.Edit.{Addition, Call, AddModel, AddAtom, RemoveChain, RemoveResidue, RemoveConformer, RemoveAtom, RemoveChainById, RemoveResidueById, RemoveConformerById, RemoveAtomBySerialNumber, RemoveAtomsBy, RemoveEmpty, JoinModels, JoinChains, JoinResidues, JoinConformers, SetElement, Change, up, branch_at, replace_at, fits, add_model, accept, prepare, new_atom, Which, first, last, pick, put_in, upsert, into_chains, add_prepared, add_atom, remove_at, root, with_children, without, remove_first, with_found, keep_atoms, remove_atoms_by, non_empty, remove_empty, join_at, with_machine, with_fields, refielded, set_at, with_element, fill_in, machine_step, answer, next}
use Rattle.machine.specs.declared.Refusal.{Refusal}
use Rattle.machine.specs.declared.Refusal.TheVariants.{BadLength, BrokenLayout, TreeShape, TreeNode, NoPosition, BadIdentifier, BadValue, NoCapacity, JoinWithItself, ShortOutput, BadFile, TooWide, ShortText, BadInsertionCode, BadConformer, BadAtomName, BadText, BadList, ShortAnswers}
use Rattle.machine.specs.declared.Name.{Name}
use Rattle.machine.specs.declared.Name.TheVariants.{ChainId, InsertionCode, ConformerName, AlternativeLocation, AtomName}
use Rattle.machine.specs.declared.Prepared.{Prepared}
use Rattle.machine.specs.declared.PreparedAddition.{PreparedAddition}
use Rattle.machine.specs.declared.Prepared.TheVariants.{Stored, Absent, Bad}
use Rattle.machine.specs.Demand.{added_by, removed_by}
use Rattle.laws.specs.Lists.{and_both, and-true, sum-append, length-concat_map}
use Rattle.laws.specs.Good.{good_branch, Fit}
use Rattle.laws.specs.Text.{chain_id-stored, insertion_code-stored, conformer_name-stored, alternative_location-stored, atom_name-stored}
use Rattle.laws.specs.Places.{Measure, size, atoms, splice-sum, splice_all, all_append, good-parts, good-children, replace-sum, replace-all, branch-good, branch_at-other, same-measure, root-good, fields-good}

-- ---- results

module _ {A : Type 0} where
  -- P of the value, where there is one
  data IfOk (P : A → Type 0) : Result A → Type 0 where
    holds : {x : A} → P x → IfOk P (Ok x)
    nothing : {r : Refusal} → IfOk P (Err r)

  if_ok : {P : A → Type 0} {x : A} → IfOk P (Ok x) → P x
  if_ok (holds h) = h

  if-bind : {B : Type 0} (P : A → Type 0) (r : Result B) (f : B → Result A) → ((x : B) → r ≡ Ok x → IfOk P (f x)) → IfOk P (r >>= f)
  if-bind P (Ok x) f h = h x refl
  if-bind P (Err e) f h = nothing

  if-then : {B : Type 0} (P : A → Type 0) (r : Result B) (q : Result A) → ((x : B) → r ≡ Ok x → IfOk P q) → IfOk P (r >> q)
  if-then P (Ok x) q h = h x refl
  if-then P (Err e) q h = nothing

  position_some : (o : Option A) (x : A) → position o ≡ Ok x → o ≡ Some x
  position_some None x e = let z : ◌≡◌ {A = ℕ} 0 1 = cc in absurd (omega arith)
  position_some (Some y) x e = cc

need-true : (b : Bool) (r : Refusal) (u : Unit {0}) → need b r ≡ Ok u → b ≡ true
need-true true r u e = refl
need-true false r u e = let z : ◌≡◌ {A = ℕ} 0 1 = cc in absurd (omega arith)

-- ---- lists of branches that lose something

module _ {A : Type 0} where
  keep-sum : (μ : A → ℕ) (b : Bool) (x : A) (xs : List A) → sum μ (keep b x xs) ≤ μ x + sum μ xs
  keep-sum μ true x xs = omega arith
  keep-sum μ false x xs = omega arith

  filter-sum : (μ : A → ℕ) (p : A → Bool) (xs : List A) → sum μ (filter p xs) ≤ sum μ xs
  filter-sum μ p [] = omega arith
  filter-sum μ p (x ∷ xs) = omega (arith, keep-sum μ (p x) x (filter p xs), filter-sum μ p xs)

  keep_all : (q : A → Bool) (b : Bool) (x : A) (xs : List A) → q x ≡ true → all q xs ≡ true → all q (keep b x xs) ≡ true
  keep_all q true x xs h g = and-true h g
  keep_all q false x xs h g = g

  filter-all : (q p : A → Bool) (xs : List A) → all q xs ≡ true → all q (filter p xs) ≡ true
  filter-all q p [] h = refl
  filter-all q p (x ∷ xs) h = let b = and_both (q x) (all q xs) h in keep_all q (p x) x (filter p xs) b.0 (filter-all q p xs b.1)

  without-sum : (μ : A → ℕ) (i : ℕ) (xs : List A) → sum μ (splice i (λ x. []) xs) ≤ sum μ xs
  without-sum μ i [] = omega arith
  without-sum μ zero (x ∷ xs) = omega arith
  without-sum μ (suc i) (x ∷ xs) = omega (arith, without-sum μ i xs)

-- us is good where ts is, and has no more than ts of what one may count
record Less (k : ℕ) (ts us : List (Branch k)) : Type 0 where
  good : all (good_branch k) ts ≡ true → all (good_branch k) us ≡ true
  fewer : (μ : Measure) → sum (μ.of k) us ≤ sum (μ.of k) ts

less-same : (k : ℕ) (ts : List (Branch k)) → Less k ts ts
less-same k ts = record { good = λ h. h; fewer = λ μ. omega arith }

less-twice : (k : ℕ) (ts us vs : List (Branch k)) → Less k ts us → Less k us vs → Less k ts vs
less-twice k ts us vs a b = record { good = λ h. b.good (a.good h); fewer = λ μ. omega (arith, a.fewer μ, b.fewer μ) }

less-filter : (k : ℕ) (p : Branch k → Bool) (ts : List (Branch k)) → Less k ts (filter p ts)
less-filter k p ts = record { good = filter-all (good_branch k) p ts; fewer = λ μ. filter-sum (μ.of k) p ts }

less-without : (k i : ℕ) (ts : List (Branch k)) → Less k ts (splice i (λ t. []) ts)
less-without k i ts = record { good = splice_all (good_branch k) i (λ t. []) (λ t h. refl) ts; fewer = λ μ. without-sum (μ.of k) i ts }

less-map : (k : ℕ) (f : List (Branch k) → List (Branch k)) → ((us : List (Branch k)) → Less k us (f us)) → (ts : List (Branch (suc k))) → Less (suc k) ts (map (λ t. (t.0, f t.1)) ts)
less-map k f l [] = less-same (suc k) []
less-map k f l (t ∷ ts) =
    let a = less-map k f l ts in
    record {
      good = λ h.
          let b = and_both (good_branch (suc k) t) (all (good_branch (suc k)) ts) h in
          and-true (good-children k t (f t.1) b.0 ((l t.1).good (good-parts k t b.0).1)) (a.good b.1);
      fewer = λ μ. omega (arith, a.fewer μ, (l t.1).fewer μ, μ.splits k t, μ.splits k (t.0, f t.1));
    }

less-keep_atoms : (k : ℕ) (p : Branch 0 → Bool) (ts : List (Branch k)) → Less k ts (keep_atoms k p ts)
unfolding keep_atoms
less-keep_atoms zero p ts = less-filter zero p ts
less-keep_atoms (suc k) p ts = less-map k (keep_atoms k p) (less-keep_atoms k p) ts

less-non_empty : (k : ℕ) (ts : List (Branch k)) → Less k ts (non_empty k ts)
unfolding non_empty
less-non_empty zero ts = less-same zero ts
less-non_empty (suc k) ts = less-twice (suc k) ts _ _ (less-map k (non_empty k) (less-non_empty k) ts) (less-filter (suc k) (λ t. not (is_empty t.1)) _)

-- ---- removals and joins

-- the branch at a position with fewer children
less-children : (d j : ℕ) (pos : List ℕ) (t : Branch (suc j)) (us : List (Branch j)) (m : List (Branch (up d (suc j)))) → branch_at d (suc j) pos m ≡ Some t
    → Less j t.1 us → Less (up d (suc j)) m (with_children d j pos t us m)
less-children d j pos t us m e l = record {
  good = λ h.
      let g = branch-good d (suc j) pos m t e h in
      replace-all d (suc j) pos ((t.0, us) ∷ []) m h (and-true (good-children j t us g (l.good (good-parts j t g).1)) refl);
  fewer = λ μ. omega (arith, replace-sum μ d (suc j) pos ((t.0, us) ∷ []) m t e, l.fewer μ, μ.splits j t, μ.splits j (t.0, us));
}

remove_at-less : (d j : ℕ) (pos : List ℕ) (m : List (Branch (up d j))) → IfOk (Less (up d j) m) (remove_at d j pos m)
unfolding remove_at
remove_at-less d j pos m =
    if-then (Less (up d j) m) (position (branch_at d j pos m)) _
    (λ t e. holds (record {
      good = λ h. replace-all d j pos [] m h refl;
      fewer = λ μ. omega (arith, replace-sum μ d j pos [] m t (position_some _ t e));
    }))

without-less : (d j : ℕ) (pos : List ℕ) (t : Branch (suc j)) (o : Option ℕ) (m : List (Branch (up d (suc j)))) → branch_at d (suc j) pos m ≡ Some t
    → Less (up d (suc j)) m (without d j pos t o m).1
without-less d j pos t None m e = less-same (up d (suc j)) m
without-less d j pos t (Some i) m e = less-children d j pos t _ m e (less-without j i t.1)

remove_first-less : (d j : ℕ) (pos : List ℕ) (flag : Result (Unit {0})) (p : Fields j → Bool) (m : List (Branch (up d (suc j))))
    → IfOk (λ c. Less (up d (suc j)) m c.1) (remove_first d j pos flag p m)
unfolding remove_first
remove_first-less d j pos flag p m =
    if-bind _ (position (branch_at d (suc j) pos m)) _
    (λ t e. if-then _ flag _ (λ u f. holds (without-less d j pos t (first_where (λ v. p (root j v)) t.1) m (position_some _ t e))))

remove_atoms_by-less : (i : ℕ) (tree : List ℕ) (m : Machine) → IfOk (λ c. Less 4 m c.after) (remove_atoms_by i tree m)
unfolding remove_atoms_by
remove_atoms_by-less i tree m =
    if-bind _ (position (branch_at 0 4 (i ∷ []) m)) _
    (λ t e. if-then _ (read_tree tree) _ (λ ns f. holds (less-children 0 3 (i ∷ []) t _ m (position_some _ t e) (less-keep_atoms 3 _ t.1))))

remove_empty-less : (i : ℕ) (m : Machine) → IfOk (λ c. Less 4 m c.after) (remove_empty i m)
unfolding remove_empty
remove_empty-less i m =
    if-bind _ (position (branch_at 0 4 (i ∷ []) m)) _
    (λ t e. holds (less-children 0 3 (i ∷ []) t _ m (position_some _ t e) (less-non_empty 3 t.1)))

-- the first takes the second's children, and then the second goes
module _ (d j : ℕ) (a b : List ℕ) (m : List (Branch (up d (suc j)))) (la : length a ≡ suc d) (lb : length b ≡ suc d) where
  joined-less : (t u : Branch (suc j)) → branch_at d (suc j) a m ≡ Some t → branch_at d (suc j) b m ≡ Some u → same a b ≡ false
      → Less (up d (suc j)) m (replace_at d (suc j) b [] (with_children d j a t (t.1 ++ u.1) m))
  joined-less t u e f s =
      let both : Branch (suc j) = (t.0, t.1 ++ u.1) in
      let there = branch_at-other d (suc j) a b both m la lb s ∙ f in
      record {
        good = λ h.
            let g = branch-good d (suc j) a m t e h in
            let k = all_append (good_branch j) t.1 u.1 (good-parts j t g).1 (good-parts j u (branch-good d (suc j) b m u f h)).1 in
            replace-all d (suc j) b [] _ (replace-all d (suc j) a (both ∷ []) m h (and-true (good-children j t (t.1 ++ u.1) g k) refl)) refl;
        fewer = λ μ.
            omega (arith, replace-sum μ d (suc j) a (both ∷ []) m t e, replace-sum μ d (suc j) b [] _ u there, μ.splits j t, μ.splits j u, μ.splits j both, sum-append (μ.of j) t.1 u.1);
      }

  join_at-less : IfOk (Less (up d (suc j)) m) (join_at d j a b m)
  unfolding join_at
  join_at-less =
      if-bind _ (position (branch_at d (suc j) a m)) _
      (λ t e. if-bind _ (position (branch_at d (suc j) b m)) _
      (λ u f. if-then _ (need (not (same a b)) JoinWithItself) _
      (λ v g. holds (joined-less t u (position_some _ t e) (position_some _ u f) (not-true (same a b) (need-true _ _ v g))))))

-- ---- one record's own fields

refielded-less : (d j : ℕ) (pos : List ℕ) (t : Branch j) (o : Option (Fields j)) (m : List (Branch (up d j))) → branch_at d j pos m ≡ Some t
    → ((f : Fields j) → o ≡ Some f → good_fields j (root j t) ≡ true → good_fields j f ≡ true) → Less (up d j) m (refielded d j pos t o m).1
refielded-less d j pos t None m e h = less-same (up d j) m
refielded-less d j pos t (Some f) m e h = record {
  good = λ g.
      let b = branch-good d j pos m t e g in
      replace-all d j pos (with_fields j f t ∷ []) m g (and-true (fields-good j f t b (h f refl (root-good j t b))) refl);
  fewer = λ μ. omega (arith, replace-sum μ d j pos (with_fields j f t ∷ []) m t e, same-measure μ j f t);
}

-- f makes good fields of good ones
set_at-less : (d j : ℕ) (pos : List ℕ) (f : Fields j → Result (Option (Fields j))) (m : List (Branch (up d j)))
    → ((x y : Fields j) → f x ≡ Ok (Some y) → good_fields j x ≡ true → good_fields j y ≡ true)
    → IfOk (λ c. Less (up d j) m c.1) (set_at d j pos f m)
unfolding set_at
set_at-less d j pos f m h =
    if-bind _ (position (branch_at d j pos m)) _
    (λ t e. if-bind _ (f (root j t)) _
    (λ o g. holds (refielded-less d j pos t o m (position_some _ t e) (λ y q. h (root j t) y (rw q at g)))))

element-good : (e : ℕ) (a : Atom) → leb e 118 ≡ true → good_fields 0 a ≡ true → good_fields 0 (with_element e a) ≡ true
unfolding good_fields good_values
element-good e a l g =
    let floats = all finite (a.x ∷ a.y ∷ a.z ∷ a.occupancy ∷ a.b_factor ∷ []) in
    let b = and_both (stored_by atom_name a.name) (good_values a) g in
    let v = and_both (floats && leb a.element 118) (leb a.hetero 1) b.1 in
    let w = and_both floats (leb a.element 118) v.0 in
    and-true b.0 (and-true (and-true w.0 l) v.1)

fill_in-good : (e : ℕ) (a b : Atom) → fill_in e a ≡ Ok (Some b) → good_fields 0 a ≡ true → good_fields 0 b ≡ true
fill_in-good e a b h g = go (is_element e) refl (eqb a.element 0) h
  where
    go : (c : Bool) → is_element e ≡ c → (z : Bool) → (need c BadValue >> Ok (cond z (Some (with_element e a)) None)) ≡ Ok (Some b) → good_fields 0 b ≡ true
    go false p z q = let n : ◌≡◌ {A = ℕ} 0 1 = cc in absurd (omega arith)
    go true p false q = let n : ◌≡◌ {A = ℕ} 0 1 = cc in absurd (omega arith)
    go true p true q = let i : with_element e a ≡ b = cc in rw i at (element-good e a (and_both (leb 1 e) (leb e 118) p).1 g)

-- ---- additions

module _ {A : Type 0} where
  -- an index, where there is one, has an element
  abbrev Inside : List A → Option ℕ → Type 0
  Inside xs None = Unit {0}
  Inside xs (Some i) = (x : A) × (nth i xs ≡ Some x)

  first-inside : (p : A → Bool) (xs : List A) → Inside xs (first_where p xs)
  first-inside p [] = tt
  first-inside p (x ∷ xs) = go (p x) (first_where p xs) (first-inside p xs)
    where
      go : (b : Bool) (o : Option ℕ) → Inside xs o → Inside (x ∷ xs) (cond b (Some 0) (option_map suc o))
      go true o h = (x, refl)
      go false None h = tt
      go false (Some i) h = h

  last-inside : (p : A → Bool) (xs : List A) → Inside xs (last_where p xs)
  last-inside p [] = tt
  last-inside p (x ∷ xs) = go (p x) (last_where p xs) (last-inside p xs)
    where
      go : (b : Bool) (o : Option ℕ) → Inside xs o → Inside (x ∷ xs) (or_else (option_map suc o) (cond b (Some 0) None))
      go b (Some i) h = h
      go true None h = (x, refl)
      go false None h = tt

  pick-inside : (w : Which) (p : A → Bool) (xs : List A) → Inside xs (pick w p xs)
  pick-inside first p xs = first-inside p xs
  pick-inside last p xs = last-inside p xs

  put_in-sum : (μ : A → ℕ) (o : Option ℕ) (f : A → A) (new : A) (xs : List A) → ((x : A) → μ (f x) ≡ suc (μ x)) → μ new ≡ 1 → Inside xs o
      → sum μ (put_in o f new xs) ≡ suc (sum μ xs)
  put_in-sum μ None f new xs g e h = omega (arith, sum-append μ xs (new ∷ []))
  put_in-sum μ (Some i) f new xs g e h = omega (arith, splice-sum μ i (λ x. f x ∷ []) xs h.0 h.1, g h.0)

  put_in-all : (p : A → Bool) (o : Option ℕ) (f : A → A) (new : A) (xs : List A) → ((x : A) → p x ≡ true → p (f x) ≡ true) → p new ≡ true → all p xs ≡ true
      → all p (put_in o f new xs) ≡ true
  put_in-all p None f new xs g e h = all_append p xs (new ∷ []) h (and-true e refl)
  put_in-all p (Some i) f new xs g e h = splice_all p i (λ x. f x ∷ []) (λ x k. and-true (g x k) refl) xs h

module _ (k : ℕ) (w : Which) (p : Fields (suc k) → Bool) (new : Fields (suc k)) (f : List (Branch k) → List (Branch k)) where
  -- one atom more among the children is one atom more
  upsert-count : ((us : List (Branch k)) → sum (atom_count k) (f us) ≡ suc (sum (atom_count k) us))
      → (ts : List (Branch (suc k))) → sum (atom_count (suc k)) (upsert k w p new f ts) ≡ suc (sum (atom_count (suc k)) ts)
  unfolding upsert atom_count
  upsert-count g ts = put_in-sum (atom_count (suc k)) (pick w (λ t. p t.0) ts) (λ t. (t.0, f t.1)) (new, f []) ts (λ t. g t.1) (g []) (pick-inside w (λ t. p t.0) ts)

  -- good children and a good new record keep the list good
  upsert-good : ((us : List (Branch k)) → all (good_branch k) us ≡ true → all (good_branch k) (f us) ≡ true) → good_fields (suc k) new ≡ true
      → (ts : List (Branch (suc k))) → all (good_branch (suc k)) ts ≡ true → all (good_branch (suc k)) (upsert k w p new f ts) ≡ true
  unfolding upsert good_branch
  upsert-good g n ts h =
      put_in-all (good_branch (suc k)) (pick w (λ t. p t.0) ts) (λ t. (t.0, f t.1)) (new, f []) ts (λ t o. good-children k t (f t.1) o (g t.1 (good-parts k t o).1)) (and-true n (g [] refl)) h

atom-one : (p : PreparedAddition) (us : List (Branch 0)) → sum (atom_count 0) (us ++ (new_atom p ∷ [])) ≡ suc (sum (atom_count 0) us)
unfolding atom_count
atom-one p us = omega (arith, sum-append (atom_count 0) us (new_atom p ∷ []))

into_chains-count : (p : PreparedAddition) (ts : List (Branch 3)) → sum (atom_count 3) (into_chains p ts) ≡ suc (sum (atom_count 3) ts)
into_chains-count p ts = upsert-count 2 _ _ _ _ (upsert-count 1 _ _ _ _ (upsert-count 0 _ _ _ _ (atom-one p))) ts

-- ---- an addition's names are in stored form

-- where a rule never says absent, what is accepted is stored
accepted : (n : Name) (b : Bool) (t : List ℕ) (w : ℕ) → accept n (cond b (fit t) Bad) ≡ Ok w → cond b (fit t) Bad ≡ Stored w
accepted n true t w e = go (leb (length t) 8) e
  where
    go : (c : Bool) → accept n (cond c (Stored (pack t)) Bad) ≡ Ok w → cond c (Stored (pack t)) Bad ≡ Stored w
    go true f = cc
    go false f = let z : ◌≡◌ {A = ℕ} 0 1 = cc in absurd (omega arith)
accepted n false t w e = let z : ◌≡◌ {A = ℕ} 0 1 = cc in absurd (omega arith)

chain_id-accepted : (t : List ℕ) (w : ℕ) → accept ChainId (chain_id t) ≡ Ok w → chain_id t ≡ Stored w
unfolding chain_id
chain_id-accepted t w e = accepted ChainId (all plain (trim t) && not (is_empty (trim t))) (trim t) w e

conformer_name-accepted : (t : List ℕ) (w : ℕ) → accept ConformerName (conformer_name t) ≡ Ok w → conformer_name t ≡ Stored w
unfolding uppercase_or
conformer_name-accepted t w e = accepted ConformerName (all plain t && not (is_empty (trim t))) (map to_upper (trim t)) w e

atom_name-accepted : (t : List ℕ) (w : ℕ) → accept AtomName (atom_name t) ≡ Ok w → atom_name t ≡ Stored w
unfolding atom_name
atom_name-accepted t w e = accepted AtomName (all plain (trim t)) (map to_upper (trim t)) w e

flag-stored : (flag : ℕ) (p : Prepared) (w : ℕ) → by_flag flag p ≡ Stored w → p ≡ Stored w
flag-stored zero p w e = let z : ◌≡◌ {A = ℕ} 0 1 = cc in absurd (omega arith)
flag-stored (suc zero) p w e = e
flag-stored (suc (suc f)) p w e = let z : ◌≡◌ {A = ℕ} 0 1 = cc in absurd (omega arith)

-- an optional name that is accepted is absent or in stored form
module _ (n : Name) (rule : List ℕ → Prepared) (w : ℕ) where
  prepared-good : (p : Prepared) → (p ≡ Stored w → stored_by rule w ≡ true) → accept n p ≡ Ok w → absent_or rule w ≡ true
  prepared-good (Stored v) h e = let q : Stored v ≡ Stored w = cc in rw (h q) (or-true (eqb w 0))
  prepared-good Absent h e = let q : 0 ≡ w = cc in rw (← q)
  prepared-good Bad h e = let z : ◌≡◌ {A = ℕ} 0 1 = cc in absurd (omega arith)

  optional-good : (o : Optional) → ((t : List ℕ) (v : ℕ) → rule t ≡ Stored v → stored_by rule v ≡ true) → accept n (optional rule o) ≡ Ok w → absent_or rule w ≡ true
  optional-good o stores e = prepared-good (optional rule o) (λ q. stores o.text w (flag-stored o.flag (rule o.text) w q)) e

-- an addition's names as they are stored are good
record GoodNames (p : PreparedAddition) : Type 0 where
  chain : stored_by chain_id p.chain ≡ true
  code : absent_or insertion_code p.code ≡ true
  conformer : stored_by conformer_name p.conformer ≡ true
  location : absent_or alternative_location p.location ≡ true
  name : stored_by atom_name p.name ≡ true

prepare-good : (a : Addition) → IfOk GoodNames (prepare a)
unfolding prepare
prepare-good a =
    if-bind GoodNames (accept ChainId (chain_id a.chain)) _
    (λ chain e₁. if-bind GoodNames (accept InsertionCode (optional insertion_code a.code)) _
    (λ code e₂. if-bind GoodNames (accept ConformerName (conformer_name a.conformer)) _
    (λ conformer e₃. if-bind GoodNames (accept AlternativeLocation (optional alternative_location a.location)) _
    (λ location e₄. if-bind GoodNames (accept AtomName (atom_name a.name)) _
    (λ name e₅. holds (record {
      chain = chain_id-stored a.chain chain (chain_id-accepted a.chain chain e₁);
      code = optional-good InsertionCode insertion_code code a.code insertion_code-stored e₂;
      conformer = conformer_name-stored a.conformer conformer (conformer_name-accepted a.conformer conformer e₃);
      location = optional-good AlternativeLocation alternative_location location a.location alternative_location-stored e₄;
      name = atom_name-stored a.name name (atom_name-accepted a.name name e₅);
    }))))))

-- ---- good additions

module _ (p : PreparedAddition) (g : GoodNames p) (values : good_values (new_atom p) ≡ true) where
  atom-good : (us : List (Branch 0)) → all (good_branch 0) us ≡ true → all (good_branch 0) (us ++ (new_atom p ∷ [])) ≡ true
  unfolding good_branch good_fields
  atom-good us h = all_append (good_branch 0) us (new_atom p ∷ []) h (and-true (and-true g.name values) refl)

  into_chains-good : (ts : List (Branch 3)) → all (good_branch 3) ts ≡ true → all (good_branch 3) (into_chains p ts) ≡ true
  unfolding good_fields
  into_chains-good ts h =
      upsert-good 2 first _ _ _ (upsert-good 1 last _ _ _ (upsert-good 0 first _ _ _ atom-good (and-true g.conformer g.location)) g.code) g.chain ts h

-- a machine in a store of n words with k atoms more
record Grows (n k : ℕ) (m after : Machine) : Type 0 where
  good : all (good_branch 4) m ≡ true → all (good_branch 4) after ≡ true
  more : stored after ≡ k + stored m
  room : length (records after) ≤ capacity n

fits-grows : (n k : ℕ) (m after : Machine) → (all (good_branch 4) m ≡ true → all (good_branch 4) after ≡ true) → stored after ≡ k + stored m
    → IfOk (λ c. Grows n k m c.after) (fits n after)
fits-grows n k m after g e =
    if-then _ (need (leb (length (records after)) (capacity n)) NoCapacity) _ (λ u f. holds (record { good = g; more = e; room = leb-true _ _ (need-true _ _ u f) }))

add_model-grows : (n serial : ℕ) (m : Machine) → IfOk (λ c. Grows n 0 m c.after) (add_model n serial m)
unfolding add_model good_branch good_fields
add_model-grows n serial m =
    let new : Branch 4 = (record { serial = serial }, []) in
    fits-grows n 0 m (m ++ (new ∷ [])) (λ h. all_append (good_branch 4) m (new ∷ []) h refl) (omega (arith, sum-append (atom_count 4) m (new ∷ []), atoms.splits 3 new))

-- the machine with an atom added to the model t at index i
abbrev with_atom : ℕ → PreparedAddition → Branch 4 → Machine → Machine
with_atom i p t m = with_children 0 3 (i ∷ []) t (into_chains p t.1) m

module _ (i : ℕ) (m : Machine) (t : Branch 4) (p : PreparedAddition) (there : branch_at 0 4 (i ∷ []) m ≡ Some t) where
  added-count : stored (with_atom i p t m) ≡ 1 + stored m
  added-count =
      let new : Branch 4 = (t.0, into_chains p t.1) in
      omega (arith, replace-sum atoms 0 4 (i ∷ []) (new ∷ []) m t there, into_chains-count p t.1, atoms.splits 3 t, atoms.splits 3 new)

  added-good : GoodNames p → good_values (new_atom p) ≡ true → all (good_branch 4) m ≡ true
      → all (good_branch 4) (with_atom i p t m) ≡ true
  added-good names values h =
      let g = branch-good 0 4 (i ∷ []) m t there h in
      replace-all 0 4 (i ∷ []) _ m h (and-true (good-children 3 t _ g (into_chains-good p names values t.1 (good-parts 3 t g).1)) refl)

add_atom-grows : (n i : ℕ) (a : Addition) (m : Machine) → IfOk (λ c. Grows n 1 m c.after) (add_atom n i a m)
unfolding add_prepared
add_atom-grows n i a m =
    if-bind _ (position (branch_at 0 4 (i ∷ []) m)) _
    (λ t e. if-bind _ (prepare a) _
    (λ p f. if-then _ (need (good_values (new_atom p)) BadValue) _
    (λ u g.
    let there = position_some _ t e in
    fits-grows n 1 m (with_atom i p t m) (λ h. added-good i m t p there (if_ok (rw f at (prepare-good a))) (need-true _ _ u g) h) (added-count i m t p there))))

-- ---- one call

-- what both laws say of one call with the result r
record Step (n : ℕ) (m : Machine) (c : Call) (r : Result Change) : Type 0 where
  keeps : Fit n m → Fit n (next m r)
  counts : stored (next m r) + removed_by (answer m r) ≡ stored m + added_by c (answer m r)

refused-step : (n : ℕ) (m : Machine) (c : Call) (e : Refusal) → added_by c (answer m (Err e)) ≡ 0 → Step n m c (Err e)
refused-step n m c e z = record { keeps = λ f. f; counts = ap (λ (k : ℕ). stored m + k) (sym z) }

-- a call that adds nothing
module _ (n : ℕ) (m : Machine) (c : Call) (none-added : (l : List ℕ) → added_by c l ≡ 0) where
  less-step : (r : Result Change) → IfOk (λ x. Less 4 m x.after) r → Step n m c r
  less-step (Err e) nothing = refused-step n m c e (none-added (answer m (Err e)))
  less-step (Ok x) (holds l) = record {
    keeps = λ f. record { good = l.good f.good; room = omega (arith, l.fewer size, length-concat_map (flat 4) m, length-concat_map (flat 4) x.after, f.room) };
    counts = omega (arith, l.fewer atoms, none-added (answer m (Ok x)));
  }

  machine-step : (r : Result Machine) → IfOk (Less 4 m) r → Step n m c (with_machine r)
  machine-step r h = less-step (with_machine r) (if-bind _ r _ (λ x e. holds (if_ok (rw e at h))))

  found-step : (r : Result (ℕ × Machine)) → IfOk (λ x. Less 4 m x.1) r → Step n m c (with_found r)
  found-step r h = less-step (with_found r) (if-bind _ r _ (λ x e. holds (if_ok (rw e at h))))

-- a call that adds k atoms where it is accepted
grows-step : (n k : ℕ) (m : Machine) (c : Call) → ((x : Change) → added_by c (answer m (Ok x)) ≡ k) → ((e : Refusal) → added_by c (answer m (Err e)) ≡ 0)
    → (r : Result Change) → IfOk (λ x. Grows n k m x.after) r → Step n m c r
grows-step n k m c done not_done (Err e) nothing = refused-step n m c e (not_done e)
grows-step n k m c done not_done (Ok x) (holds g) = record {
  keeps = λ f. record { good = g.good f.good; room = g.room };
  counts = omega (arith, g.more, done x);
}

-- a refusal's number has one digit or two, and is not that of an accepted call
pub refusal-digits : (r : Refusal) → leb 1 (refusal_number r) && leb (refusal_number r) 99 ≡ true
refusal-digits BadLength = refl
refusal-digits BrokenLayout = refl
refusal-digits TreeShape = refl
refusal-digits TreeNode = refl
refusal-digits NoPosition = refl
refusal-digits BadIdentifier = refl
refusal-digits BadValue = refl
refusal-digits NoCapacity = refl
refusal-digits JoinWithItself = refl
refusal-digits ShortOutput = refl
refusal-digits BadFile = refl
refusal-digits TooWide = refl
refusal-digits ShortText = refl
refusal-digits BadInsertionCode = refl
refusal-digits BadConformer = refl
refusal-digits BadAtomName = refl
refusal-digits BadText = refl
refusal-digits BadList = refl
refusal-digits ShortAnswers = refl

pub refusal-number : (r : Refusal) → eqb (refusal_number r) 0 ≡ false
refusal-number r = ne_eqb (refusal_number r) 0 (λ e. omega (arith, leb-true 1 (refusal_number r) (and_both _ _ (refusal-digits r)).0))

step : (n : ℕ) (m : Machine) (c : Call) → Step n m c (machine_step n m c)
unfolding machine_step
step n m (AddModel serial) = grows-step n 0 m _ (λ x. refl) (λ e. refl) _ (add_model-grows n serial m)
step n m (AddAtom i a) = grows-step n 1 m _ (λ x. refl) (λ e. rw (refusal-number e)) _ (add_atom-grows n i a m)
step n m (RemoveChain i c) = machine-step n m _ (λ l. refl) _ (remove_at-less 1 3 (i ∷ c ∷ []) m)
step n m (RemoveResidue i c r) = machine-step n m _ (λ l. refl) _ (remove_at-less 2 2 (i ∷ c ∷ r ∷ []) m)
step n m (RemoveConformer i c r f) = machine-step n m _ (λ l. refl) _ (remove_at-less 3 1 (i ∷ c ∷ r ∷ f ∷ []) m)
step n m (RemoveAtom i c r f a) = machine-step n m _ (λ l. refl) _ (remove_at-less 4 0 (i ∷ c ∷ r ∷ f ∷ a ∷ []) m)
step n m (RemoveChainById i id) = found-step n m _ (λ l. refl) _ (remove_first-less 0 3 (i ∷ []) _ _ m)
step n m (RemoveResidueById i c serial code) = found-step n m _ (λ l. refl) _ (remove_first-less 1 2 (i ∷ c ∷ []) _ _ m)
step n m (RemoveConformerById i c r name location) = found-step n m _ (λ l. refl) _ (remove_first-less 2 1 (i ∷ c ∷ r ∷ []) _ _ m)
step n m (RemoveAtomBySerialNumber i c r f serial) = found-step n m _ (λ l. refl) _ (remove_first-less 3 0 (i ∷ c ∷ r ∷ f ∷ []) _ _ m)
step n m (RemoveAtomsBy i tree) = less-step n m _ (λ l. refl) _ (remove_atoms_by-less i tree m)
step n m (RemoveEmpty i) = less-step n m _ (λ l. refl) _ (remove_empty-less i m)
step n m (JoinModels i i') = machine-step n m _ (λ l. refl) _ (join_at-less 0 3 (i ∷ []) (i' ∷ []) m refl refl)
step n m (JoinChains i c i' c') = machine-step n m _ (λ l. refl) _ (join_at-less 1 2 (i ∷ c ∷ []) (i' ∷ c' ∷ []) m refl refl)
step n m (JoinResidues i c r i' c' r') = machine-step n m _ (λ l. refl) _ (join_at-less 2 1 (i ∷ c ∷ r ∷ []) (i' ∷ c' ∷ r' ∷ []) m refl refl)
step n m (JoinConformers i c r f i' c' r' f') = machine-step n m _ (λ l. refl) _ (join_at-less 3 0 (i ∷ c ∷ r ∷ f ∷ []) (i' ∷ c' ∷ r' ∷ f' ∷ []) m refl refl)
step n m (SetElement i c r f a e) = found-step n m _ (λ l. refl) _ (set_at-less 4 0 (i ∷ c ∷ r ∷ f ∷ a ∷ []) (fill_in e) m (fill_in-good e))

-- each call keeps a machine good and within its store
pub step_keeps : (n : ℕ) (m : Machine) (c : Call) → Fit n m → Fit n (next m (machine_step n m c))
step_keeps n m c f = (step n m c).keeps f

-- atoms afterwards and removed are those before and added
pub step_counts : (n : ℕ) (m : Machine) (c : Call)
    → stored (next m (machine_step n m c)) + removed_by (answer m (machine_step n m c)) ≡ stored m + added_by c (answer m (machine_step n m c))
step_counts n m c = (step n m c).counts
