-- A call that document 01's machine accepts lies in the domain, and the crate doesn't panic on it: the two take the same steps. Assumes nothing.
use Rattle.std.specs.Prelude.{Err, None, Ok, Option, Some, option_map}
use Rattle.std.proofs.Common.{◌≡◌, ℕ, zero, suc, ◌≤◌, Bool, true, false, not, ◌&&◌, eqb, leb, List, [], ◌∷◌, ◌++◌, refl, ap, ◌∙◌, arith, leb-true}
use mathlib.Core.Bool.{false≢true}
use Rattle.machine.specs.Lists.{all, same, nth, splice, and_then}
use Rattle.machine.specs.Answer.{Result, ◌>>◌, need, position, bad_name}
use Rattle.machine.specs.Text.{good_flag, matches, matches_optional}
use Rattle.machine.specs.Record.{Fields, is_element, good_values}
use Rattle.machine.specs.Store.{Branch, Machine}
use Rattle.machine.specs.Kleene.{is_true}
use Rattle.machine.specs.Query.{read_tree, tree_value, term_value, tables}
use Rattle.machine.specs.Find.{enter, nowhere}
use Rattle.machine.specs.Edit.{Call, AddModel, AddAtom, RemoveChain, RemoveResidue, RemoveConformer, RemoveAtom, RemoveChainById, RemoveResidueById, RemoveConformerById, RemoveAtomBySerialNumber, RemoveAtomsBy, RemoveEmpty, JoinModels, JoinChains, JoinResidues, JoinConformers, SetElement, Change, up, branch_at, replace_at, root, remove_first, prepare, new_atom, into_chains, set_at, fill_in, machine_step}
use Rattle.machine.specs.Edit as Plain
use Rattle.machine.specs.declared.Refusal.{Refusal}
use Rattle.machine.specs.declared.Refusal.TheVariants.{BadValue, JoinWithItself}
use Rattle.machine.specs.declared.Name.TheVariants.{InsertionCode, AlternativeLocation}
use Rattle.laws.specs.Lists.{and_both, All, All-of, All-map, and-then}
use Rattle.laws.specs.Good.{good_branch}
use Rattle.laws.specs.Places.{good-parts, branch-good}
use Rattle.pdbtbx.specs.Std.{Answer}
use Rattle.pdbtbx.specs.Structs.{Struct, PDB}
use Rattle.pdbtbx.specs.Words.{says_of, struct_of, structs_of, pdb_of}
use Rattle.pdbtbx.specs.Edits.{add_atom, add_model, at_position, remove_at, remove_by_id, remove_atoms_by, remove_empty, join, join_at}
use Rattle.pdbtbx.specs.Calls.{option_of, search_for, chosen, same_chain, same_residue, same_conformer, same_atom, fill_element, edit}
use Rattle.pdbtbx.specs.Demand.{Flagged, InDomain}
use Rattle.pdbtbx.proofs.Trees.{reads}
use Rattle.pdbtbx.proofs.Vecs.{at_map}
use Rattle.pdbtbx.proofs.Additions.{words, atom, atom-new, into-model, on_model}
use Rattle.pdbtbx.proofs.Removals.{at_position_lem, remove-at, remove-by-id, struct-at, join-square, remove-empty, remove-atoms-by}
use Rattle.pdbtbx.proofs.Setters.{fill-element}
use Rattle.pdbtbx.proofs.Equal.{agree-chain, agree-residue, agree-conformer, agree-atom, chosen-value}
use Rattle.pdbtbx.proofs.Accepted.{bind_ok, fine}

-- ---- results

then_ok : {A B : Type 0} (r : Result A) (x : Result B) (y : B) → (r >> x) ≡ Ok y → (a : A) × (r ≡ Ok a) × (x ≡ Ok y)
then_ok (Ok a) x y h = (a, refl, h)
then_ok (Err c) x y h = let z : ◌≡◌ {A = ℕ} 0 1 = cc in absurd (omega arith)

need-ok : (b : Bool) (c : Refusal) (u : Unit {0}) → need b c ≡ Ok u → b ≡ true
need-ok true c u h = refl
need-ok false c u h = let z : ◌≡◌ {A = ℕ} 0 1 = cc in absurd (omega arith)

position-ok : {A : Type 0} (o : Option A) (x : A) → position o ≡ Ok x → o ≡ Some x
position-ok None x h = let z : ◌≡◌ {A = ℕ} 0 1 = cc in absurd (omega arith)
position-ok (Some y) x h = let e : y ≡ x = cc in ap {B = Option _} Some e

-- ---- a position stays where another one is changed

abbrev pick_at : {A : Type 0} → ℕ → ℕ → (A → A) → A → A
pick_at zero zero g y = g y
pick_at zero (suc k) g y = y
pick_at (suc i) zero g y = y
pick_at (suc i) (suc k) g y = pick_at i k g y

pick-by : {A : Type 0} (P : A → Type 0) (i k : ℕ) (g : A → A) (y : A) → P y → P (g y) → P (pick_at i k g y)
pick-by P zero zero g y a b = b
pick-by P zero (suc k) g y a b = a
pick-by P (suc i) zero g y a b = a
pick-by P (suc i) (suc k) g y a b = pick-by P i k g y a b

nth-splice : {A : Type 0} (i k : ℕ) (g : A → A) (xs : List A) → nth k (splice i (λ x. g x ∷ []) xs) ≡ option_map (pick_at i k g) (nth k xs)
nth-splice i k g [] = refl
nth-splice zero zero g (x ∷ xs) = refl
nth-splice zero (suc k) g (x ∷ xs) = same-nth k xs
  where
    same-nth : {A : Type 0} (k : ℕ) (xs : List A) → nth k xs ≡ option_map (λ (x : A). x) (nth k xs)
    same-nth k [] = refl
    same-nth zero (x ∷ xs) = refl
    same-nth (suc k) (x ∷ xs) = same-nth k xs
nth-splice (suc i) zero g (x ∷ xs) = refl
nth-splice (suc i) (suc k) g (x ∷ xs) = nth-splice i k g xs

abbrev Stands : (d j : ℕ) → List ℕ → List (Branch (up d j)) → Type 0
Stands d j pos m = (t : Branch j) × (branch_at d j pos m ≡ Some t)

still : (d j : ℕ) (a b : List ℕ) (new : Branch j) (m : List (Branch (up d j))) → Stands d j b m → Stands d j b (replace_at d j a (new ∷ []) m)
unfolding branch_at replace_at
still d j [] b new m s = s
still d j (i ∷ is) [] new m s = let z : ◌≡◌ {A = ℕ} 0 1 = cc s.1 in absurd (omega arith)
still zero j (i ∷ is) (k ∷ ks) new m s = (pick_at i k (λ x. new) s.0, nth-splice i k (λ x. new) m ∙ ap (option_map (pick_at i k (λ x. new))) s.1)
still (suc d) j (i ∷ is) (k ∷ ks) new m s =
    let x = and-then (nth k m) (λ y. branch_at d j ks y.1) s.0 s.1 in
    let g : Branch (suc (up d j)) → Branch (suc (up d j)) = λ y. (y.0, replace_at d j is (new ∷ []) y.1) in
    let r : Stands d j ks (pick_at i k g x.0).1 = pick-by (λ (y : Branch (suc (up d j))). Stands d j ks y.1) i k g x.0 (s.0, x.2) (still d j is ks new x.0.1 (s.0, x.2)) in
    (r.0, ap (λ (o : Option (Branch (suc (up d j)))). and_then o (λ y. branch_at d j ks y.1)) (nth-splice i k g m ∙ ap (option_map (pick_at i k g)) x.1) ∙ r.1)

-- ---- what is shown of an accepted call

pub record Taken (m : Machine) (c : Call) : Type 0 where
  pub domain : InDomain c
  pub result : Bool × PDB
  pub taken : edit c (pdb_of m) ≡ Some result

-- ---- shape by shape

module _ (d j : ℕ) (pos : List ℕ) (m : List (Branch (up d j))) where
  abbrev Runs : Answer (List (Struct (up d j))) → Type 0
  Runs o = (r : Bool × List (Struct (up d j))) × (o ≡ Some r)

  removes : (y : List (Branch (up d j))) → Plain.remove_at d j pos m ≡ Ok y → Runs (remove_at d j pos (structs_of (up d j) m))
  unfolding Plain.remove_at
  removes y h =
      let s = then_ok (position (branch_at d j pos m)) _ y h in
      (_, remove-at d j pos m s.0 (position-ok (branch_at d j pos m) s.0 s.1))

module _ (d j : ℕ) (pos : List ℕ) (m : List (Branch (up d (suc j)))) (good : all (good_branch (up d (suc j))) m ≡ true) (p : Fields j → Bool) (q : Struct j → Bool)
    (agree : (u : Branch j) → good_branch j u ≡ true → q (struct_of j u) ≡ p (root j u)) where
  removes-by-id : (flag : Result (Unit {0})) (y : ℕ × List (Branch (up d (suc j)))) → remove_first d j pos flag p m ≡ Ok y → Runs d (suc j) pos m (at_position d (suc j) pos (remove_by_id j q) (structs_of (up d (suc j)) m))
  unfolding remove_first
  removes-by-id flag y h =
      let s = bind_ok (position (branch_at d (suc j) pos m)) _ y h in
      let e = position-ok (branch_at d (suc j) pos m) s.0 s.1 in
      let g = (good-parts j s.0 (branch-good d (suc j) pos m s.0 e good)).1 in
      let a : All (λ (u : Branch j). q (struct_of j u) ≡ p (root j u)) s.0.1 = All-map agree s.0.1 (All-of (good_branch j) s.0.1 g) in
      (_, at_position_lem (suc j) (remove_by_id j q) s.0 _ _ (remove-by-id j p q s.0 a) d pos m e)

  -- its flag was good
  flag-good : (flag : Result (Unit {0})) (y : ℕ × List (Branch (up d (suc j)))) → remove_first d j pos flag p m ≡ Ok y → flag ≡ Ok tt
  unfolding remove_first
  flag-good flag y h = (then_ok flag _ y (bind_ok (position (branch_at d (suc j) pos m)) _ y h).2).1

flagged : (flag : ℕ) (x : Refusal) → need (leb flag 1) x ≡ Ok tt → Flagged flag (Unit {0})
flagged zero x h = tt
flagged (suc zero) x h = tt
flagged (suc (suc n)) x h = let l = leb-true (suc (suc n)) 1 (need-ok (leb (suc (suc n)) 1) x tt h) in absurd (omega arith)

-- the branch there, and what f gave for its fields
sets : (d j : ℕ) (pos : List ℕ) (f : Fields j → Result (Option (Fields j))) (m : List (Branch (up d j))) (y : ℕ × List (Branch (up d j))) → set_at d j pos f m ≡ Ok y
    → (t : Branch j) × (branch_at d j pos m ≡ Some t) × (o : Option (Fields j)) × (f (root j t) ≡ Ok o)
unfolding set_at
sets d j pos f m y h =
    let s = bind_ok (position (branch_at d j pos m)) _ y h in
    let o = bind_ok (f (root j s.0)) _ y s.2 in
    (s.0, position-ok (branch_at d j pos m) s.0 s.1, o.0, o.1)

-- an element that was taken is an `Element`
is-element : (e : ℕ) (a : Fields 0) (o : Option (Fields 0)) → fill_in e a ≡ Ok o → (1 ≤ e) × (e ≤ 118)
is-element e a o h =
    let n = then_ok (need (is_element e) BadValue) _ o h in
    let b = and_both (leb 1 e) (leb e 118) (need-ok (is_element e) _ n.0 n.1) in
    (leb-true 1 e b.0, leb-true e 118 b.1)

not_same : (b : Bool) → not b ≡ true → b ≡ false
not_same true h = absurd (false≢true h)
not_same false h = refl

module _ (d j : ℕ) (a b : List ℕ) (m : List (Branch (up d (suc j)))) where
  record Joins : Type 0 where
    apart : same a b ≡ false
    result : Bool × List (Struct (up d (suc j)))
    taken : join_at d j a b (structs_of (up d (suc j)) m) ≡ Some result

  joins : (y : List (Branch (up d (suc j)))) → Plain.join_at d j a b m ≡ Ok y → Joins
  unfolding Plain.join_at join_at
  joins y h =
      let s = bind_ok (position (branch_at d (suc j) a m)) _ y h in
      let u = bind_ok (position (branch_at d (suc j) b m)) _ y s.2 in
      let n = then_ok (need (not (same a b)) JoinWithItself) _ y u.2 in
      let e = position-ok (branch_at d (suc j) a m) s.0 s.1 in
      let f = position-ok (branch_at d (suc j) b m) u.0 u.1 in
      let t' : Branch (suc j) = (s.0.0, s.0.1 ++ u.0.1) in
      let v = still d (suc j) a b t' m (u.0, f) in
      record {
        apart = not_same (same a b) (need-ok (not (same a b)) _ n.0 n.1);
        result = (true, structs_of (up d (suc j)) (replace_at d (suc j) b [] (replace_at d (suc j) a (t' ∷ []) m)));
        taken =
            ap (λ (o : Option (Struct (suc j))). and_then o (λ (other : Struct (suc j)). and_then (at_position d (suc j) a (join j other) (structs_of (up d (suc j)) m)) (λ r. remove_at d (suc j) b r.1))) (struct-at d (suc j) b m ∙ ap (option_map (struct_of (suc j))) f)
            ∙ ap (λ (o : Answer (List (Struct (up d (suc j))))). and_then o (λ r. remove_at d (suc j) b r.1)) (at_position_lem (suc j) (join j (struct_of (suc j) u.0)) s.0 t' true (join-square j s.0 u.0) d a m e)
            ∙ remove-at d (suc j) b (replace_at d (suc j) a (t' ∷ []) m) v.0 v.1;
      }

-- ---- the theorem

module _ (n : ℕ) (m : Machine) (good : all (good_branch 4) m ≡ true) where
  on-model : (i : ℕ) (g : Struct 4 → Struct 4) (f : Branch 4 → Branch 4) → ((t : Branch 4) → g (struct_of 4 t) ≡ struct_of 4 (f t)) → (t : Branch 4) → position (branch_at 0 4 (i ∷ []) m) ≡ Ok t
      → Runs 0 4 (i ∷ []) m (at_position 0 4 (i ∷ []) (λ (x : Struct 4). Some (true, g x)) (pdb_of m))
  on-model i g f e t h = (_, at_position_lem 4 (λ (x : Struct 4). Some (true, g x)) t (f t) true (ap (λ (x : Struct 4). Some (true, x)) (e t)) 0 (i ∷ []) m (position-ok (branch_at 0 4 (i ∷ []) m) t h))

  by-position : (c : Call) → InDomain c → Runs 0 4 [] m (edit c (pdb_of m)) → Taken m c
  by-position c d r = record { domain = d; result = r.0; taken = r.1 }

  pub no-panic : (c : Call) (ch : Change) → machine_step n m c ≡ Ok ch → Taken m c
  unfolding edit machine_step add_model add_atom Plain.add_prepared branch_at struct_of Plain.remove_atoms_by Plain.remove_empty
  no-panic (AddModel serial) ch h = record { domain = tt; result = _; taken = refl }
  no-panic (AddAtom i a) ch h =
      let s = bind_ok (position (branch_at 0 4 (i ∷ []) m)) _ ch h in
      let p = bind_ok (prepare a) _ ch s.2 in
      let v = then_ok (need (good_values (new_atom p.0)) BadValue) _ ch p.2 in
      let y = fine a p.0 p.1 (need-ok (good_values (new_atom p.0)) _ v.0 v.1) in
      let t' : Branch 4 = (s.0.0, into_chains (words a y.domain y.ready) s.0.1) in
      record {
        domain = y.domain;
        result = (true, pdb_of (splice i (λ x. t' ∷ []) m));
        taken = rw (atom-new a y.domain y.ready) (at_map (struct_of 4) (on_model a (atom a y.domain y.ready)) i m s.0 t' true (position-ok (nth i m) s.0 s.1) (into-model a y.domain y.ready s.0));
      }
  no-panic (RemoveChain i c) ch h = by-position (RemoveChain i c) tt (removes 1 3 (i ∷ c ∷ []) m _ (bind_ok (Plain.remove_at 1 3 (i ∷ c ∷ []) m) _ ch h).1)
  no-panic (RemoveResidue i c r) ch h = by-position (RemoveResidue i c r) tt (removes 2 2 (i ∷ c ∷ r ∷ []) m _ (bind_ok (Plain.remove_at 2 2 (i ∷ c ∷ r ∷ []) m) _ ch h).1)
  no-panic (RemoveConformer i c r f) ch h = by-position (RemoveConformer i c r f) tt (removes 3 1 (i ∷ c ∷ r ∷ f ∷ []) m _ (bind_ok (Plain.remove_at 3 1 (i ∷ c ∷ r ∷ f ∷ []) m) _ ch h).1)
  no-panic (RemoveAtom i c r f a) ch h = by-position (RemoveAtom i c r f a) tt (removes 4 0 (i ∷ c ∷ r ∷ f ∷ a ∷ []) m _ (bind_ok (Plain.remove_at 4 0 (i ∷ c ∷ r ∷ f ∷ a ∷ []) m) _ ch h).1)
  no-panic (RemoveChainById i id) ch h =
      let e = (bind_ok (remove_first 0 3 (i ∷ []) (Ok tt) (λ c. matches id c.id) m) _ ch h).1 in
      by-position (RemoveChainById i id) tt (removes-by-id 0 3 (i ∷ []) m good (λ c. matches id c.id) (same_chain id) (agree-chain id) (Ok tt) _ e)
  no-panic (RemoveResidueById i c serial code) ch h =
      let p : Fields 2 → Bool = λ y. eqb y.serial serial && matches_optional code y.code in
      let flag = need (good_flag code) (bad_name InsertionCode) in
      let e = (bind_ok (remove_first 1 2 (i ∷ c ∷ []) flag p m) _ ch h).1 in
      by-position (RemoveResidueById i c serial code) (flagged code.flag _ (flag-good 1 2 (i ∷ c ∷ []) m good p (same_residue serial (option_of code)) (agree-residue serial code) flag _ e))
      (removes-by-id 1 2 (i ∷ c ∷ []) m good p (same_residue serial (option_of code)) (agree-residue serial code) flag _ e)
  no-panic (RemoveConformerById i c r name location) ch h =
      let p : Fields 1 → Bool = λ f. matches name f.name && matches_optional location f.location in
      let flag = need (good_flag location) (bad_name AlternativeLocation) in
      let e = (bind_ok (remove_first 2 1 (i ∷ c ∷ r ∷ []) flag p m) _ ch h).1 in
      by-position (RemoveConformerById i c r name location) (flagged location.flag _ (flag-good 2 1 (i ∷ c ∷ r ∷ []) m good p (same_conformer name (option_of location)) (agree-conformer name location) flag _ e))
      (removes-by-id 2 1 (i ∷ c ∷ r ∷ []) m good p (same_conformer name (option_of location)) (agree-conformer name location) flag _ e)
  no-panic (RemoveAtomBySerialNumber i c r f serial) ch h =
      let e = (bind_ok (remove_first 3 0 (i ∷ c ∷ r ∷ f ∷ []) (Ok tt) (λ a. eqb a.serial serial) m) _ ch h).1 in
      by-position (RemoveAtomBySerialNumber i c r f serial) tt (removes-by-id 3 0 (i ∷ c ∷ r ∷ f ∷ []) m good (λ a. eqb a.serial serial) (same_atom serial) (agree-atom serial) (Ok tt) _ e)
  no-panic (RemoveAtomsBy i tree) ch h =
      let p : Fields zero → Bool = λ a. not (is_true (tree_value (term_value tables (enter zero a nowhere)) tree)) in
      let x = bind_ok (position (branch_at 0 4 (i ∷ []) m)) _ ch h in
      let t = then_ok (read_tree tree) _ ch x.2 in
      let w = reads tree t.0 t.1 in
      by-position (RemoveAtomsBy i tree) w
      (on-model i (λ (y : Struct 4). (y.0, remove_atoms_by 3 (chosen (search_for tree)) y.1)) (λ t. (t.0, Plain.keep_atoms 3 p t.1))
      (λ t. ap (λ (l : List (Struct 3)). (says_of 4 t.0, l)) (remove-atoms-by (chosen (search_for tree)) p (chosen-value tree w) 3 t.1)) x.0 x.1)
  no-panic (RemoveEmpty i) ch h =
      let x = bind_ok (position (branch_at 0 4 (i ∷ []) m)) _ ch h in
      by-position (RemoveEmpty i) tt (on-model i (remove_empty 2) (λ t. (t.0, Plain.non_empty 3 t.1)) (remove-empty 2) x.0 x.1)
  no-panic (JoinModels i i') ch h =
      let x = joins 0 3 (i ∷ []) (i' ∷ []) m _ (bind_ok (Plain.join_at 0 3 (i ∷ []) (i' ∷ []) m) _ ch h).1 in
      record { domain = x.apart; result = x.result; taken = x.taken }
  no-panic (JoinChains i c i' c') ch h =
      let x = joins 1 2 (i ∷ c ∷ []) (i' ∷ c' ∷ []) m _ (bind_ok (Plain.join_at 1 2 (i ∷ c ∷ []) (i' ∷ c' ∷ []) m) _ ch h).1 in
      record { domain = x.apart; result = x.result; taken = x.taken }
  no-panic (JoinResidues i c r i' c' r') ch h =
      let x = joins 2 1 (i ∷ c ∷ r ∷ []) (i' ∷ c' ∷ r' ∷ []) m _ (bind_ok (Plain.join_at 2 1 (i ∷ c ∷ r ∷ []) (i' ∷ c' ∷ r' ∷ []) m) _ ch h).1 in
      record { domain = x.apart; result = x.result; taken = x.taken }
  no-panic (JoinConformers i c r f i' c' r' f') ch h =
      let x = joins 3 0 (i ∷ c ∷ r ∷ f ∷ []) (i' ∷ c' ∷ r' ∷ f' ∷ []) m _ (bind_ok (Plain.join_at 3 0 (i ∷ c ∷ r ∷ f ∷ []) (i' ∷ c' ∷ r' ∷ f' ∷ []) m) _ ch h).1 in
      record { domain = x.apart; result = x.result; taken = x.taken }
  no-panic (SetElement i c r f a e) ch h =
      let pos = i ∷ c ∷ r ∷ f ∷ a ∷ [] in
      let s = sets 4 0 pos (fill_in e) m _ (bind_ok (set_at 4 0 pos (fill_in e) m) _ ch h).1 in
      let d = is-element e s.0 s.2 s.3 in
      by-position (SetElement i c r f a e) d (_, at_position_lem 0 (fill_element e) s.0 _ _ (fill-element e d.0 s.0) 4 pos m s.1)
