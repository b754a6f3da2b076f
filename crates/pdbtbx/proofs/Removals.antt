-- The crate's removals and joins are document 01's, at every level. Assumes nothing.
use Rattle.std.proofs.lemmas.Option.{none-some, same_Some}
use Rattle.std.specs.Prelude.{None, Option, Some, option_map}
use Rattle.std.proofs.Common.{◌≡◌, ℕ, zero, suc, ◌≤◌, Bool, true, not, ltb, List, [], ◌∷◌, ◌++◌, map, length, sym, refl, ap, ◌∙◌, ap₂, map-id, arith, lt-ltb}
use mathlib.Core.Bool.{not-not}
use mathlib.Core.List.{map-append}
use Rattle.machine.specs.Lists.{is_some, is_empty, filter, nth, splice, first_where, and_then}
use Rattle.machine.specs.Record.{Fields}
use Rattle.machine.specs.Store.{Branch}
use Rattle.machine.specs.Edit.{up, branch_at, replace_at, root, without, with_children, keep_atoms, non_empty}
use Rattle.laws.specs.Lists.{and-then, All}
use Rattle.laws.specs.Places.{splice-self}
use Rattle.pdbtbx.specs.Std.{Answer, at, remove}
use Rattle.pdbtbx.specs.Structs.{Atom, Struct}
use Rattle.pdbtbx.specs.Words.{says_of, struct_of, structs_of}
use Rattle.pdbtbx.specs.Edits.{children, at_position, remove_at, remove_index, remove_by_id, remove_atoms_by, remove_empty, join, struct_at, join_at}
use Rattle.pdbtbx.specs.Demand.{bit}
use Rattle.pdbtbx.proofs.Vecs.{filter_map, at_map, at_none, at-panic, first-all, first-within, Within}

-- ---- lists

module _ {A : Type 0} where
  splice_at : (f : A → List A) (i : ℕ) (xs : List A) (x : A) → nth i xs ≡ Some x → splice i (λ y. f x) xs ≡ splice i f xs
  splice_at f i [] x h = refl
  splice_at f zero (y ∷ ys) x h = let e : y ≡ x = cc in rw e
  splice_at f (suc i) (y ∷ ys) x h = ap (λ (l : List A). y ∷ l) (splice_at f i ys x h)

module _ {A B : Type 0} (u : B → A) where
  nth-map : (i : ℕ) (ts : List B) → nth i (map u ts) ≡ option_map u (nth i ts)
  nth-map i [] = refl
  nth-map zero (t ∷ ts) = refl
  nth-map (suc i) (t ∷ ts) = nth-map i ts

  remove-map : (i : ℕ) (ts : List B) (t : B) → nth i ts ≡ Some t → remove i (map u ts) ≡ Some (map u (splice i (λ x. []) ts))
  unfolding remove
  remove-map i [] t h = let z : ◌≡◌ {A = ℕ} 0 1 = cc in absurd (omega arith)
  remove-map zero (x ∷ ts) t h = refl
  remove-map (suc i) (x ∷ ts) t h = rw (remove-map i ts t h)

  remove-within : (i : ℕ) (ts : List B) → suc i ≤ length ts → remove i (map u ts) ≡ Some (map u (splice i (λ x. []) ts))
  unfolding remove
  remove-within i [] l = absurd (omega arith)
  remove-within zero (x ∷ ts) l = refl
  remove-within (suc i) (x ∷ ts) l = rw (remove-within i ts (omega arith))

  remove-none : (i : ℕ) (ts : List B) → nth i ts ≡ None → remove i (map u ts) ≡ None
  unfolding remove
  remove-none i [] h = refl
  remove-none zero (x ∷ ts) h = let z : ◌≡◌ {A = ℕ} 0 1 = cc in absurd (omega arith)
  remove-none (suc i) (x ∷ ts) h = rw (remove-none i ts h)

-- ---- positions

module _ (j : ℕ) (g : Struct j → Answer (Struct j)) (t t' : Branch j) (b : Bool) (h : g (struct_of j t) ≡ Some (b, struct_of j t')) where
  pub at_position_lem : (d : ℕ) (pos : List ℕ) (m : List (Branch (up d j))) → branch_at d j pos m ≡ Some t
      → at_position d j pos g (structs_of (up d j) m) ≡ Some (b, structs_of (up d j) (replace_at d j pos (t' ∷ []) m))
  unfolding at_position branch_at replace_at struct_of
  at_position_lem d [] m e = let z : ◌≡◌ {A = ℕ} 0 1 = cc in absurd (omega arith)
  at_position_lem zero (i ∷ is) m e = at_map (struct_of j) g i m t t' b e h
  at_position_lem (suc d) (i ∷ is) m e =
      let s = and-then (nth i m) (λ x. branch_at d j is x.1) t e in
      at_map (struct_of (suc (up d j))) _ i m s.0 (s.0.0, replace_at d j is (t' ∷ []) s.0.1) b s.1 (ap (children (says_of (suc (up d j)) s.0.0)) (at_position_lem d is s.0.1 s.2))
      ∙ ap (λ (l : List (Branch (suc (up d j)))). Some (b, structs_of (suc (up d j)) l)) (splice_at (λ (x : Branch (suc (up d j))). (x.0, replace_at d j is (t' ∷ []) x.1) ∷ []) i m s.0 s.1)

-- no such position: a panic
pub no-position : (d j : ℕ) (g : Struct j → Answer (Struct j)) (pos : List ℕ) (m : List (Branch (up d j))) → branch_at d j pos m ≡ None → at_position d j pos g (structs_of (up d j) m) ≡ None
unfolding at_position branch_at struct_of
no-position d j g [] m e = refl
no-position zero j g (i ∷ is) m e = at_none (struct_of j) g i m e
no-position (suc d) j g (i ∷ is) m e = go (nth i m) refl e (λ u. no-position d j g is u)
  where
    go : (o : Option (Branch (suc (up d j)))) → nth i m ≡ o → and_then o (λ x. branch_at d j is x.1) ≡ None → ((u : List (Branch (up d j))) → branch_at d j is u ≡ None → at_position d j is g (structs_of (up d j) u) ≡ None)
        → at i (λ (x : Struct (suc (up d j))). children x.0 (at_position d j is g x.1)) (structs_of (suc (up d j)) m) ≡ None
    go None n k f = at_none (struct_of (suc (up d j))) _ i m n
    go (Some x) n k f = at-panic (struct_of (suc (up d j))) _ i m x n (ap (children (says_of (suc (up d j)) x.0)) (f x.1 k))

-- ---- by position

pub remove-at : (d j : ℕ) (pos : List ℕ) (m : List (Branch (up d j))) (t : Branch j) → branch_at d j pos m ≡ Some t
    → remove_at d j pos (structs_of (up d j) m) ≡ Some (true, structs_of (up d j) (replace_at d j pos [] m))
unfolding remove_at branch_at replace_at struct_of
remove-at d j [] m t e = let z : ◌≡◌ {A = ℕ} 0 1 = cc in absurd (omega arith)
remove-at zero j (i ∷ is) m t e = rw (remove-map (struct_of j) i m t e)
remove-at (suc d) j (i ∷ is) m t e =
    let s = and-then (nth i m) (λ x. branch_at d j is x.1) t e in
    at_map (struct_of (suc (up d j))) _ i m s.0 (s.0.0, replace_at d j is [] s.0.1) true s.1 (ap (children (says_of (suc (up d j)) s.0.0)) (remove-at d j is s.0.1 t s.2))
    ∙ ap (λ (l : List (Branch (suc (up d j)))). Some (true, structs_of (suc (up d j)) l)) (splice_at (λ (x : Branch (suc (up d j))). (x.0, replace_at d j is [] x.1) ∷ []) i m s.0 s.1)

pub remove-nowhere : (d j : ℕ) (pos : List ℕ) (m : List (Branch (up d j))) → branch_at d j pos m ≡ None → remove_at d j pos (structs_of (up d j) m) ≡ None
unfolding remove_at branch_at struct_of
remove-nowhere d j [] m e = refl
remove-nowhere zero j (i ∷ is) m e = rw (remove-none (struct_of j) i m e)
remove-nowhere (suc d) j (i ∷ is) m e = go (nth i m) refl e (λ u. remove-nowhere d j is u)
  where
    go : (o : Option (Branch (suc (up d j)))) → nth i m ≡ o → and_then o (λ x. branch_at d j is x.1) ≡ None → ((u : List (Branch (up d j))) → branch_at d j is u ≡ None → remove_at d j is (structs_of (up d j) u) ≡ None)
        → at i (λ (x : Struct (suc (up d j))). children x.0 (remove_at d j is x.1)) (structs_of (suc (up d j)) m) ≡ None
    go None n k f = at_none (struct_of (suc (up d j))) _ i m n
    go (Some x) n k f = at-panic (struct_of (suc (up d j))) _ i m x n (ap (children (says_of (suc (up d j)) x.0)) (f x.1 k))

-- a branch that gives way to itself stays
pub replace-self : (d j : ℕ) (pos : List ℕ) (m : List (Branch (up d j))) (t : Branch j) → branch_at d j pos m ≡ Some t → replace_at d j pos (t ∷ []) m ≡ m
unfolding branch_at replace_at
replace-self d j [] m t e = refl
replace-self zero j (i ∷ is) m t e = splice-self i m t e
replace-self (suc d) j (i ∷ is) m t e =
    let s = and-then (nth i m) (λ x. branch_at d j is x.1) t e in
    sym (splice_at (λ (x : Branch (suc (up d j))). (x.0, replace_at d j is (t ∷ []) x.1) ∷ []) i m s.0 s.1)
    ∙ ap (λ (l : List (Branch (up d j))). splice i (λ (x : Branch (suc (up d j))). (s.0.0, l) ∷ []) m) (replace-self d j is s.0.1 t s.2)
    ∙ splice-self i m s.0 s.1

-- ---- by id

abbrev pub without_one : {A : Type 0} → Option ℕ → List A → List A
without_one None ts = ts
without_one (Some i) ts = splice i (λ u. []) ts

module _ (j : ℕ) (p : Fields j → Bool) (q : Struct j → Bool) (t : Branch (suc j)) (agree : All (λ (u : Branch j). q (struct_of j u) ≡ p (root j u)) t.1) where
  abbrev pub index : Option ℕ
  index = first_where (λ (u : Branch j). p (root j u)) t.1

  on-index : (o : Option ℕ) → Within o t.1 → remove_index j o (struct_of (suc j) t) ≡ Some (is_some o, struct_of (suc j) (t.0, without_one o t.1))
  unfolding struct_of remove_index
  on-index None w = refl
  on-index (Some i) w = rw (remove-within (struct_of j) i t.1 w)

  pub remove-by-id : remove_by_id j q (struct_of (suc j) t) ≡ Some (is_some index, struct_of (suc j) (t.0, without_one index t.1))
  unfolding remove_by_id struct_of
  remove-by-id =
      ap (λ (o : Option ℕ). remove_index j o (struct_of (suc j) t)) (first-all (struct_of j) q (λ (u : Branch j). p (root j u)) t.1 agree)
      ∙ on-index (first_where (λ (u : Branch j). p (root j u)) t.1) (first-within (λ (u : Branch j). p (root j u)) t.1)

-- found 0 is the crate's false, and nothing changed
pub without-found : (d j : ℕ) (pos : List ℕ) (t : Branch (suc j)) (m : List (Branch (up d (suc j)))) → branch_at d (suc j) pos m ≡ Some t
    → (o : Option ℕ) → without d j pos t o m ≡ (bit (is_some o), replace_at d (suc j) pos ((t.0, without_one o t.1) ∷ []) m)
without-found d j pos t m e None = ap (λ (l : List (Branch (up d (suc j)))). (0, l)) (sym (replace-self d (suc j) pos m t e))
without-found d j pos t m e (Some i) = refl

-- ---- joins

pub struct-at : (d j : ℕ) (pos : List ℕ) (m : List (Branch (up d j))) → struct_at d j pos (structs_of (up d j) m) ≡ option_map (struct_of j) (branch_at d j pos m)
unfolding struct_at branch_at struct_of
struct-at d j [] m = refl
struct-at zero j (i ∷ is) m = nth-map (struct_of j) i m
struct-at (suc d) j (i ∷ is) m = rw (nth-map (struct_of (suc (up d j))) i m) (go (nth i m) (λ u. struct-at d j is u))
  where
    go : (o : Option (Branch (suc (up d j)))) → ((u : List (Branch (up d j))) → struct_at d j is (structs_of (up d j) u) ≡ option_map (struct_of j) (branch_at d j is u))
        → and_then (option_map (struct_of (suc (up d j))) o) (λ (x : Struct (suc (up d j))). struct_at d j is x.1) ≡ option_map (struct_of j) (and_then o (λ x. branch_at d j is x.1))
    go None f = refl
    go (Some x) f = f x.1

pub join-square : (j : ℕ) (t u : Branch (suc j)) → join j (struct_of (suc j) u) (struct_of (suc j) t) ≡ Some (true, struct_of (suc j) (t.0, t.1 ++ u.1))
unfolding struct_of
join-square j t u = ap (λ (l : List (Struct j)). Some (true, (says_of (suc j) t.0, l))) (sym (map-append (struct_of j) t.1 u.1))

module _ (d j : ℕ) (a b : List ℕ) (m : List (Branch (up d (suc j)))) (r : Bool × List (Struct (up d (suc j)))) where
  abbrev joined : Branch (suc j) → Branch (suc j) → List (Branch (up d (suc j)))
  joined t u = with_children d j a t (t.1 ++ u.1) m

  pub record Joined : Type 0 where
    pub first : Branch (suc j)
    pub second : Branch (suc j)
    pub at_first : branch_at d (suc j) a m ≡ Some first
    pub at_second : branch_at d (suc j) b m ≡ Some second
    pub held : r ≡ (true, structs_of (up d (suc j)) (replace_at d (suc j) b [] (joined first second)))

  -- a join that doesn't panic
  pub join-at : join_at d j a b (structs_of (up d (suc j)) m) ≡ Some r → Joined
  unfolding join_at
  join-at h = go (branch_at d (suc j) b m) refl (rw (struct-at d (suc j) b m) at h)
    where
      third : (t u : Branch (suc j)) → branch_at d (suc j) a m ≡ Some t → branch_at d (suc j) b m ≡ Some u → (o : Option (Branch (suc j))) → branch_at d (suc j) b (joined t u) ≡ o
          → remove_at d (suc j) b (structs_of (up d (suc j)) (joined t u)) ≡ Some r → Joined
      third t u e f None g k = absurd (none-some r (sym (remove-nowhere d (suc j) b (joined t u) g) ∙ k))
      third t u e f (Some v) g k =
          record { first = t; second = u; at_first = e; at_second = f; held = sym (same_Some _ r (sym (remove-at d (suc j) b (joined t u) v g) ∙ k)) }

      second_at : (u : Branch (suc j)) → branch_at d (suc j) b m ≡ Some u → (o : Option (Branch (suc j))) → branch_at d (suc j) a m ≡ o
          → and_then (at_position d (suc j) a (join j (struct_of (suc j) u)) (structs_of (up d (suc j)) m)) (λ q. remove_at d (suc j) b q.1) ≡ Some r → Joined
      second_at u f None e k = absurd (none-some r (ap (λ o. and_then o (λ q. remove_at d (suc j) b q.1)) (sym (no-position d (suc j) (join j (struct_of (suc j) u)) a m e)) ∙ k))
      second_at u f (Some t) e k =
          third t u e f (branch_at d (suc j) b (joined t u)) refl
          (ap (λ o. and_then o (λ q. remove_at d (suc j) b q.1)) (sym (at_position_lem (suc j) (join j (struct_of (suc j) u)) t (t.0, t.1 ++ u.1) true (join-square j t u) d a m e)) ∙ k)

      go : (o : Option (Branch (suc j))) → branch_at d (suc j) b m ≡ o
          → and_then (option_map (struct_of (suc j)) o) (λ (other : Struct (suc j)). and_then (at_position d (suc j) a (join j other) (structs_of (up d (suc j)) m)) (λ q. remove_at d (suc j) b q.1)) ≡ Some r → Joined
      go None f k = absurd (none-some r k)
      go (Some u) f k = second_at u f (branch_at d (suc j) a m) refl k

-- ---- remove_empty, remove_atoms_by

filled : {A B : Type 0} (u : B → A) (ts : List B) → ltb 0 (length (map u ts)) ≡ not (is_empty ts)
filled u [] = refl
filled u (t ∷ ts) = lt-ltb 0 (suc (length (map u ts))) (omega arith)

map_both : {A B C D : Type 0} (f : B → C) (u : A → B) (v : D → C) (g : A → D) → ((x : A) → f (u x) ≡ v (g x)) → (xs : List A) → map f (map u xs) ≡ map v (map g xs)
map_both f u v g h [] = refl
map_both f u v g h (x ∷ xs) = ap₂ ◌∷◌ (h x) (map_both f u v g h xs)

pub remove-empty : (k : ℕ) (t : Branch (suc (suc k))) → remove_empty k (struct_of (suc (suc k)) t) ≡ struct_of (suc (suc k)) (t.0, non_empty (suc k) t.1)
unfolding remove_empty struct_of non_empty
remove-empty zero t =
    ap (λ (l : List (Struct 1)). (says_of 2 t.0, l))
    (filter_map (struct_of 1) _ _ (λ u. filled (struct_of 0) u.1) t.1 ∙ ap (λ (l : List (Branch 1)). structs_of 1 (filter (λ u. not (is_empty u.1)) l)) (sym (map-id t.1)))
remove-empty (suc k) t =
    ap (λ (l : List (Struct (suc (suc k)))). (says_of (suc (suc (suc k))) t.0, l))
    (ap (filter (λ (c : Struct (suc (suc k))). ltb 0 (length c.1))) (map_both (remove_empty k) (struct_of (suc (suc k))) (struct_of (suc (suc k))) _ (remove-empty k) t.1)
    ∙ filter_map (struct_of (suc (suc k))) _ _ (λ u. filled (struct_of (suc k)) u.1) (map (λ u. (u.0, non_empty (suc k) u.1)) t.1))

module _ (predicate : Atom → Bool) (p : Fields zero → Bool) (agree : (a : Fields zero) → predicate (says_of zero a) ≡ not (p a)) where
  pub remove-atoms-by : (k : ℕ) (ts : List (Branch k)) → remove_atoms_by k predicate (structs_of k ts) ≡ structs_of k (keep_atoms k p ts)
  unfolding remove_atoms_by struct_of keep_atoms
  remove-atoms-by zero ts = filter_map (struct_of 0) _ p (λ a. ap not (agree a) ∙ not-not (p a)) ts
  remove-atoms-by (suc k) ts =
      map_both _ (struct_of (suc k)) (struct_of (suc k)) _ (λ t. ap (λ (l : List (Struct k)). (says_of (suc k) t.0, l)) (remove-atoms-by k t.1)) ts
