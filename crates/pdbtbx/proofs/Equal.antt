-- Edits are the crate's: for every call of the domain on which the crate doesn't panic, document 01's machine takes the same step. Assumes nothing.
use Rattle.std.proofs.lemmas.Option.{none-some, same_Some}
use Rattle.std.specs.Prelude.{None, Ok, Option, Some}
use Rattle.std.proofs.Common.{◌≡◌, ℕ, zero, suc, Bool, true, false, not, ◌&&◌, eqb, leb, List, [], ◌∷◌, ◌++◌, length, sym, refl, ap, ◌∙◌, subst, ap₂, eqb-true}
use mathlib.Core.Bool.{false≢true, not-not}
use mathlib.Core.List.{map-append}
use Rattle.machine.specs.Lists.{is_some, all, same}
use Rattle.machine.specs.Answer.{Result, ◌>>◌, need, bad_name}
use Rattle.machine.specs.Text.{Optional, text_of, trim, trim_start, unpacked, without_zeros, chain_id, uppercase_or, conformer_name, stored_by, absent_or, alternative_location, matches, matches_optional}
use Rattle.machine.specs.Record.{Fields, good_fields}
use Rattle.machine.specs.Store.{Branch, Machine, records, capacity}
use Rattle.machine.specs.Kleene.{is_true}
use Rattle.machine.specs.Query.{tree_value, term_value, tables}
use Rattle.machine.specs.Find.{enter, nowhere}
use Rattle.machine.specs.Edit.{Call, AddModel, AddAtom, RemoveChain, RemoveResidue, RemoveConformer, RemoveAtom, RemoveChainById, RemoveResidueById, RemoveConformerById, RemoveAtomBySerialNumber, RemoveAtomsBy, RemoveEmpty, JoinModels, JoinChains, JoinResidues, JoinConformers, SetElement, up, branch_at, replace_at, remove_first, with_children, root, keep_atoms, non_empty, set_at, fill_in, machine_step}
use Rattle.machine.specs.Edit as Plain
use Rattle.machine.specs.declared.Refusal.{Refusal}
use Rattle.machine.specs.declared.Refusal.TheVariants.{NoCapacity}
use Rattle.machine.specs.declared.Name.TheVariants.{InsertionCode, AlternativeLocation}
use Rattle.laws.specs.Lists.{and_both, All, All-of, All-map}
use Rattle.laws.specs.Good.{good_branch}
use Rattle.laws.specs.Places.{good-parts, branch-good}
use Rattle.laws.specs.Kleene.{to_tri}
use Rattle.pdbtbx.specs.Std.{Text, Answer}
use Rattle.pdbtbx.specs.Structs.{Struct, PDB}
use Rattle.pdbtbx.specs.Words.{string, says_of, struct_of, structs_of, pdb_of}
use Rattle.pdbtbx.specs.Search.{is_known, complete, add_info}
use Rattle.pdbtbx.specs.Matches.{matches_at}
use Rattle.pdbtbx.specs.Edits.{add_model, at_position, remove_at, remove_by_id, remove_atoms_by, remove_empty}
use Rattle.pdbtbx.specs.Calls.{option_of, search_for, chosen, same_chain, same_residue, same_conformer, same_atom, fill_element, edit}
use Rattle.pdbtbx.specs.Demand.{Reads, Flagged, InDomain, bit}
use Rattle.pdbtbx.proofs.Values.{value_same, over-open, untold, add-value, add-complete}
use Rattle.pdbtbx.proofs.Hits.{told_at, search-value}
use Rattle.pdbtbx.proofs.Names.{matches-given, both}
use Rattle.pdbtbx.proofs.Additions.{add-atom}
use Rattle.pdbtbx.proofs.Removals.{at_position_lem, no-position, remove-at, remove-nowhere, index, without_one, remove-by-id, without-found, join-at, remove-empty, remove-atoms-by}
use Rattle.pdbtbx.proofs.Setters.{with_new, refielded-found, filled_in, fill-in, fill-element}

-- the machine's step, in a store of n words, gives the crate's answer and what stands for the crate's structure, unless it has no room for it
pub record Same (n : ℕ) (m : Machine) (c : Call) (r : Bool × PDB) : Type 0 where
  pub after : Machine
  pub fits : Bool
  pub unfit : fits ≡ false → leb (length (records after)) (capacity n) ≡ false
  pub stepped : machine_step n m c ≡ need fits NoCapacity >> Ok (record { found = bit r.0; after = after })
  pub held : r.1 ≡ pdb_of after

-- the same for a step that says what it found, at any level
record Found (k : ℕ) (s : Result (ℕ × List (Branch k))) (r : Bool × List (Struct k)) : Type 0 where
  next : List (Branch k)
  steps : s ≡ Ok (bit r.0, next)
  held : r.1 ≡ structs_of k next

-- ---- removals by position

module _ (d j : ℕ) (pos : List ℕ) (m : List (Branch (up d j))) (r : Bool × List (Struct (up d j))) where
  the_same : (q : Bool × List (Struct (up d j))) → ◌≡◌ {A = Answer (List (Struct (up d j)))} (Some q) (Some r) → r ≡ q
  the_same q e = sym (same_Some q r e)

  record Removed : Type 0 where
    gone : Branch j
    there : branch_at d j pos m ≡ Some gone
    held : r ≡ (true, structs_of (up d j) (replace_at d j pos [] m))

  removed : remove_at d j pos (structs_of (up d j) m) ≡ Some r → Removed
  removed h = go (branch_at d j pos m) refl
    where
      go : (o : Option (Branch j)) → branch_at d j pos m ≡ o → Removed
      go None e = absurd (none-some r (sym (remove-nowhere d j pos m e) ∙ h))
      go (Some t) e = record { gone = t; there = e; held = the_same _ (sym (remove-at d j pos m t e) ∙ h) }

  -- a call on what stands at the position
  record There (g : Struct j → Answer (Struct j)) : Type 0 where
    what : Branch j
    there : branch_at d j pos m ≡ Some what

  there : (g : Struct j → Answer (Struct j)) → at_position d j pos g (structs_of (up d j) m) ≡ Some r → There g
  there g h = go (branch_at d j pos m) refl
    where
      go : (o : Option (Branch j)) → branch_at d j pos m ≡ o → There g
      go None e = absurd (none-some r (sym (no-position d j g pos m e) ∙ h))
      go (Some t) e = record { what = t; there = e }

  -- it changes that to u or leaves it, and says which; s is the machine's step
  found-there : (g : Struct j → Answer (Struct j)) (t u : Branch j) (b : Bool) (s : Result (ℕ × List (Branch (up d j)))) → branch_at d j pos m ≡ Some t → g (struct_of j t) ≡ Some (b, struct_of j u)
      → s ≡ Ok (bit b, replace_at d j pos (u ∷ []) m) → at_position d j pos g (structs_of (up d j) m) ≡ Some r → Found (up d j) s r
  found-there g t u b s e a k h =
      let q : Bool × List (Struct (up d j)) = (b, structs_of (up d j) (replace_at d j pos (u ∷ []) m)) in
      subst (Found (up d j) s) (sym (the_same q (sym (at_position_lem j g t u b a d pos m e) ∙ h))) (record { next = replace_at d j pos (u ∷ []) m; steps = k; held = refl })

-- ---- removals by id

filled-chain : (c : Fields 3) → good_fields 3 c ≡ true → eqb c.id 0 ≡ false
unfolding good_fields stored_by chain_id text_of without_zeros unpacked trim trim_start
filled-chain c h = go (eqb c.id 0) refl
  where
    go : (b : Bool) → eqb c.id 0 ≡ b → b ≡ false
    go false e = refl
    go true e = absurd (false≢true (ap (stored_by chain_id) (sym (eqb-true c.id 0 e)) ∙ h))

filled-conformer : (c : Fields 1) → good_fields 1 c ≡ true → eqb c.name 0 ≡ false
unfolding good_fields stored_by uppercase_or text_of without_zeros unpacked trim trim_start
filled-conformer c h = go (eqb c.name 0) refl
  where
    go : (b : Bool) → eqb c.name 0 ≡ b → b ≡ false
    go false e = refl
    go true e = absurd (false≢true (ap (stored_by conformer_name) (sym (eqb-true c.name 0 e)) ∙ (and_both (stored_by conformer_name c.name) (absent_or alternative_location c.location) h).0))

-- a text as given beside a stored one that isn't empty
text-match : (w : ℕ) → eqb w 0 ≡ false → (t : Text) → same (string w) t ≡ matches t w
unfolding matches
text-match w e t = sym (both w e t)

module _ (d j : ℕ) (pos : List ℕ) (m : List (Branch (up d (suc j)))) (good : all (good_branch (up d (suc j))) m ≡ true) (p : Fields j → Bool) (q : Struct j → Bool)
    (agree : (u : Branch j) → good_branch j u ≡ true → q (struct_of j u) ≡ p (root j u)) (flag : Result (Unit {0})) (f : flag ≡ Ok tt) (r : Bool × List (Struct (up d (suc j)))) where
  removed-by-id : at_position d (suc j) pos (remove_by_id j q) (structs_of (up d (suc j)) m) ≡ Some r → Found (up d (suc j)) (remove_first d j pos flag p m) r
  unfolding remove_first
  removed-by-id h =
      let t = there d (suc j) pos m r (remove_by_id j q) h in
      let g = (good-parts j t.what (branch-good d (suc j) pos m t.what t.there good)).1 in
      let a : All (λ (u : Branch j). q (struct_of j u) ≡ p (root j u)) t.what.1 = All-map agree t.what.1 (All-of (good_branch j) t.what.1 g) in
      let o = index j p q t.what a in
      found-there d (suc j) pos m r (remove_by_id j q) t.what (t.what.0, without_one o t.what.1) (is_some o) _ t.there (remove-by-id j p q t.what a)
      (rw (t.there, f) (ap {B = Result _} Ok (without-found d j pos t.what m t.there o))) h

-- ---- a record's own fields

-- o is what f says of the fields, other ones or none, and the crate's call g on the struct agrees
module _ (d j : ℕ) (pos : List ℕ) (m : List (Branch (up d j))) (f : Fields j → Result (Option (Fields j))) (o : Fields j → Option (Fields j)) (says : (x : Fields j) → f x ≡ Ok (o x))
    (g : Struct j → Answer (Struct j)) (agree : (t : Branch j) → g (struct_of j t) ≡ Some (is_some (o (root j t)), struct_of j (with_new j (o (root j t)) t))) (r : Bool × List (Struct (up d j))) where
  set_there : at_position d j pos g (structs_of (up d j) m) ≡ Some r → Found (up d j) (set_at d j pos f m) r
  unfolding set_at
  set_there h =
      let t = there d j pos m r g h in
      let x = root j t.what in
      found-there d j pos m r g t.what (with_new j (o x) t.what) (is_some (o x)) _ t.there (agree t.what)
      (rw (t.there, says x) (ap {B = Result _} Ok (refielded-found d j pos t.what m t.there (o x)))) h

-- ---- remove_atoms_by: the tree's value with the atom alone known

known-true : (o : Option Bool) → is_known true o ≡ is_true (to_tri o)
known-true None = refl
known-true (Some true) = refl
known-true (Some false) = refl

pub chosen-value : (tree : List ℕ) → Reads tree → (a : Fields zero)
    → chosen (search_for tree) (says_of zero a) ≡ not (not (is_true (tree_value (term_value tables (enter zero a nowhere)) tree)))
unfolding told_at enter matches_at
chosen-value tree h a =
    let f = matches_at zero (says_of zero a) in
    let s = search_for tree in
    known-true (complete (add_info f s))
    ∙ ap is_true (add-complete f s ∙ add-value f untold s ∙ value_same _ _ (λ t. over-open (f t)) s ∙ search-value tree h (enter zero a nowhere))
    ∙ sym (not-not (is_true (tree_value (term_value tables (enter zero a nowhere)) tree)))

-- ---- the tests of the four removals by id

pub agree-chain : (id : Text) (u : Branch 3) → good_branch 3 u ≡ true → same_chain id (struct_of 3 u) ≡ matches id u.0.id
unfolding struct_of says_of
agree-chain id u g = text-match u.0.id (filled-chain u.0 (good-parts 2 u g).0) id

pub agree-residue : (serial : ℕ) (code : Optional) (u : Branch 2) → good_branch 2 u ≡ true → same_residue serial (option_of code) (struct_of 2 u) ≡ (eqb u.0.serial serial && matches_optional code u.0.code)
unfolding struct_of says_of
agree-residue serial code u g = ap (λ (b : Bool). eqb u.0.serial serial && b) (sym (matches-given u.0.code code.flag code.text))

pub agree-conformer : (name : Text) (location : Optional) (u : Branch 1) → good_branch 1 u ≡ true → same_conformer name (option_of location) (struct_of 1 u) ≡ (matches name u.0.name && matches_optional location u.0.location)
unfolding struct_of says_of
agree-conformer name location u g = ap₂ ◌&&◌ (text-match u.0.name (filled-conformer u.0 (good-parts 0 u g).0) name) (sym (matches-given u.0.location location.flag location.text))

pub agree-atom : (serial : ℕ) (u : Branch 0) → good_branch 0 u ≡ true → same_atom serial (struct_of 0 u) ≡ eqb u.serial serial
unfolding struct_of says_of
agree-atom serial u g = refl

flag_ok : (flag : ℕ) (x : Refusal) → Flagged flag (Unit {0}) → need (leb flag 1) x ≡ Ok tt
flag_ok zero x f = refl
flag_ok (suc zero) x f = refl
flag_ok (suc (suc n)) x f = absurd f

-- ---- the theorem

module _ (n : ℕ) (m : Machine) (good : all (good_branch 4) m ≡ true) where
  -- a call that changes the model at an index
  on-model : (i : ℕ) (g : Struct 4 → Struct 4) (f : Branch 4 → Branch 4) → ((t : Branch 4) → g (struct_of 4 t) ≡ struct_of 4 (f t)) → (r : Bool × PDB)
      → at_position 0 4 (i ∷ []) (λ (x : Struct 4). Some (true, g x)) (pdb_of m) ≡ Some r
      → (t : Branch 4) × (branch_at 0 4 (i ∷ []) m ≡ Some t) × (r ≡ (true, pdb_of (replace_at 0 4 (i ∷ []) (f t ∷ []) m)))
  on-model i g f e r h =
      let t = there 0 4 (i ∷ []) m r (λ (x : Struct 4). Some (true, g x)) h in
      (t.what, t.there, the_same 0 4 (i ∷ []) m r _ (sym (at_position_lem 4 (λ (x : Struct 4). Some (true, g x)) t.what (f t.what) true (ap (λ (x : Struct 4). Some (true, x)) (e t.what)) 0 (i ∷ []) m t.there) ∙ h))

  found : (c : Call) (r : Bool × PDB) (s : Result (ℕ × Machine)) → machine_step n m c ≡ Plain.with_found s → Found 4 s r → Same n m c r
  found c r s e x = record { after = x.next; fits = true; unfit = λ f. absurd (false≢true (sym f)); stepped = e ∙ ap Plain.with_found x.steps; held = x.held }

  done : (c : Call) (r : Bool × PDB) (after : Machine) → r ≡ (true, pdb_of after) → machine_step n m c ≡ Ok (record { found = 1; after = after }) → Same n m c r
  done c r after e s = subst (λ (x : Bool × PDB). Same n m c x) (sym e) (found c (true, pdb_of after) (Ok (1, after)) s (record { next = after; steps = refl; held = refl }))

  -- an addition needs room
  grown : (c : Call) (r : Bool × PDB) (after : Machine) → r ≡ (true, pdb_of after) → machine_step n m c ≡ Plain.fits n after → Same n m c r
  grown c r after e s =
      subst (λ (x : Bool × PDB). Same n m c x) (sym e) (record { after = after; fits = leb (length (records after)) (capacity n); unfit = λ f. f; stepped = s; held = refl })

  pub same_step : (c : Call) → InDomain c → (r : Bool × PDB) → edit c (pdb_of m) ≡ Some r → Same n m c r
  unfolding edit machine_step add_model Plain.add_model Plain.remove_at Plain.remove_atoms_by Plain.remove_empty Plain.join_at struct_of says_of
  same_step (AddModel serial) d r h =
      grown (AddModel serial) r (m ++ ((record { serial = serial }, []) ∷ []))
      (sym (same_Some _ r h) ∙ ap (λ (l : PDB). (true, l)) (sym (map-append (struct_of 4) m ((record { serial = serial }, []) ∷ [])))) refl
  same_step (AddAtom i a) d r h = let x = add-atom n i m a d r h in grown (AddAtom i a) r x.after x.held x.stepped
  same_step (RemoveChain i c) d r h = let x = removed 1 3 (i ∷ c ∷ []) m r h in done (RemoveChain i c) r (replace_at 1 3 (i ∷ c ∷ []) [] m) x.held (rw x.there)
  same_step (RemoveResidue i c y) d r h = let x = removed 2 2 (i ∷ c ∷ y ∷ []) m r h in done (RemoveResidue i c y) r (replace_at 2 2 (i ∷ c ∷ y ∷ []) [] m) x.held (rw x.there)
  same_step (RemoveConformer i c y f) d r h = let x = removed 3 1 (i ∷ c ∷ y ∷ f ∷ []) m r h in done (RemoveConformer i c y f) r (replace_at 3 1 (i ∷ c ∷ y ∷ f ∷ []) [] m) x.held (rw x.there)
  same_step (RemoveAtom i c y f a) d r h = let x = removed 4 0 (i ∷ c ∷ y ∷ f ∷ a ∷ []) m r h in done (RemoveAtom i c y f a) r (replace_at 4 0 (i ∷ c ∷ y ∷ f ∷ a ∷ []) [] m) x.held (rw x.there)
  same_step (RemoveChainById i id) d r h =
      found _ r _ refl (removed-by-id 0 3 (i ∷ []) m good (λ c. matches id c.id) (same_chain id) (agree-chain id) (Ok tt) refl r h)
  same_step (RemoveResidueById i c serial code) d r h =
      found _ r _ refl
      (removed-by-id 1 2 (i ∷ c ∷ []) m good (λ y. eqb y.serial serial && matches_optional code y.code) (same_residue serial (option_of code)) (agree-residue serial code) _
      (flag_ok code.flag (bad_name InsertionCode) d) r h)
  same_step (RemoveConformerById i c y name location) d r h =
      found _ r _ refl
      (removed-by-id 2 1 (i ∷ c ∷ y ∷ []) m good (λ f. matches name f.name && matches_optional location f.location) (same_conformer name (option_of location)) (agree-conformer name location) _
      (flag_ok location.flag (bad_name AlternativeLocation) d) r h)
  same_step (RemoveAtomBySerialNumber i c y f serial) d r h =
      found _ r _ refl (removed-by-id 3 0 (i ∷ c ∷ y ∷ f ∷ []) m good (λ a. eqb a.serial serial) (same_atom serial) (agree-atom serial) (Ok tt) refl r h)
  same_step (RemoveAtomsBy i tree) d r h =
      let p : Fields zero → Bool = λ a. not (is_true (tree_value (term_value tables (enter zero a nowhere)) tree)) in
      let x = on-model i (λ (y : Struct 4). (y.0, remove_atoms_by 3 (chosen (search_for tree)) y.1)) (λ t. (t.0, keep_atoms 3 p t.1))
      (λ t. ap (λ (l : List (Struct 3)). (says_of 4 t.0, l)) (remove-atoms-by (chosen (search_for tree)) p (chosen-value tree d) 3 t.1)) r h in
      done (RemoveAtomsBy i tree) r (replace_at 0 4 (i ∷ []) ((x.0.0, keep_atoms 3 p x.0.1) ∷ []) m) x.2 (rw (x.1, d.nodes))
  same_step (RemoveEmpty i) d r h =
      let x = on-model i (remove_empty 2) (λ t. (t.0, non_empty 3 t.1)) (remove-empty 2) r h in
      done (RemoveEmpty i) r (replace_at 0 4 (i ∷ []) ((x.0.0, non_empty 3 x.0.1) ∷ []) m) x.2 (rw x.1)
  same_step (JoinModels i i') d r h =
      let x = join-at 0 3 (i ∷ []) (i' ∷ []) m r h in
      done (JoinModels i i') r (replace_at 0 4 (i' ∷ []) [] (with_children 0 3 (i ∷ []) x.first (x.first.1 ++ x.second.1) m)) x.held (rw (x.at_first, x.at_second, d))
  same_step (JoinChains i c i' c') d r h =
      let x = join-at 1 2 (i ∷ c ∷ []) (i' ∷ c' ∷ []) m r h in
      done (JoinChains i c i' c') r (replace_at 1 3 (i' ∷ c' ∷ []) [] (with_children 1 2 (i ∷ c ∷ []) x.first (x.first.1 ++ x.second.1) m)) x.held (rw (x.at_first, x.at_second, d))
  same_step (JoinResidues i c y i' c' y') d r h =
      let x = join-at 2 1 (i ∷ c ∷ y ∷ []) (i' ∷ c' ∷ y' ∷ []) m r h in
      done (JoinResidues i c y i' c' y') r (replace_at 2 2 (i' ∷ c' ∷ y' ∷ []) [] (with_children 2 1 (i ∷ c ∷ y ∷ []) x.first (x.first.1 ++ x.second.1) m)) x.held (rw (x.at_first, x.at_second, d))
  same_step (JoinConformers i c y f i' c' y' f') d r h =
      let x = join-at 3 0 (i ∷ c ∷ y ∷ f ∷ []) (i' ∷ c' ∷ y' ∷ f' ∷ []) m r h in
      done (JoinConformers i c y f i' c' y' f') r (replace_at 3 1 (i' ∷ c' ∷ y' ∷ f' ∷ []) [] (with_children 3 0 (i ∷ c ∷ y ∷ f ∷ []) x.first (x.first.1 ++ x.second.1) m)) x.held (rw (x.at_first, x.at_second, d))
  same_step (SetElement i c y f a e) d r h =
      found _ r _ refl (set_there 4 0 (i ∷ c ∷ y ∷ f ∷ a ∷ []) m (fill_in e) (filled_in e) (fill-in e d.0 d.1) (fill_element e) (fill-element e d.0) r h)
