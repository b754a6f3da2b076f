-- `Model::add_atom` is document 01's "Add atom", on every machine, for every call of the domain. Assumes nothing.
use Rattle.std.proofs.lemmas.Option.{none-some, same_Some}
use Rattle.std.specs.Prelude.{None, Ok, Option, Some}
use Rattle.std.proofs.Common.{◌≡◌, ℕ, zero, suc, Bool, true, false, ◌&&◌, eqb, List, [], ◌∷◌, ◌++◌, sym, refl, ap, ◌∙◌, ap₂, arith, le-leb}
use mathlib.Core.List.{map-append}
use Rattle.machine.specs.Lists.{all, same, nth, splice, first_where, last_where, and_then}
use Rattle.machine.specs.Text.{Optional, optional_of, trim, optional, insertion_code}
use Rattle.machine.specs.Record.{finite, good_values}
use Rattle.machine.specs.Record as Record
use Rattle.machine.specs.Store.{Branch, Machine}
use Rattle.machine.specs.Edit.{Addition, AddAtom, accept, prepare, new_chain, new_residue, new_conformer, new_atom, upsert, into_conformers, into_residues, into_chains, branch_at, replace_at, fits, machine_step}
use Rattle.machine.specs.Edit as Edit
use Rattle.machine.specs.declared.Name.TheVariants.{InsertionCode}
use Rattle.machine.specs.declared.Prepared.TheVariants.{Bad}
use Rattle.machine.specs.declared.PreparedAddition.{PreparedAddition}
use Rattle.laws.specs.Lists.{and_both, and-true, then_never}
use Rattle.pdbtbx.specs.Std.{Text, Answer, on_current, position, position_from_back}
use Rattle.pdbtbx.specs.Structs.{Model, Chain, Residue, Atom, Struct, valid_identifier, prepare_identifier, prepare_identifier_uppercase}
use Rattle.pdbtbx.specs.Words.{string, option_string, says_of, struct_of, structs_of, pdb_of}
use Rattle.pdbtbx.specs.Edits.{children, atom_new, conformer_new, residue_new, chain_new, conformer_add_atom, residue_add_atom, chain_add_atom, model_add_atom, add_atom}
use Rattle.pdbtbx.specs.Calls.{or_given, prepared_code, prepared_location, arguments_of, same_chain, same_residue, same_conformer}
use Rattle.pdbtbx.specs.Demand.{Short, Flagged, Domain}
use Rattle.pdbtbx.proofs.Texts.{same-string, same-option}
use Rattle.pdbtbx.proofs.Names.{Chained, chained, Uppercased, uppercase_or-ready, Named, named, Given, absent, raised, Located, located}
use Rattle.pdbtbx.proofs.Vecs.{first-within, last_within, back_last, first-map, last-map, at_map, at_none, current-map, at-never, current-never}

-- ---- what the arguments are prepared to

abbrev pub Coded : Optional → Type 0
Coded o = Given (accept InsertionCode (optional insertion_code o)) (prepared_code o)

-- a code of which the crate makes a residue can be prepared
coded : (serial flag : ℕ) (t : Text) (new : Struct 2) → Flagged flag (Short t) → residue_new serial (prepared_code (optional_of flag t)) ≡ Some new → Coded (optional_of flag t)
unfolding residue_new
coded serial zero t new s h = absent
coded serial (suc zero) t new s h = go (prepare_identifier_uppercase t) refl
  where
    go : (p : Option Text) → prepare_identifier_uppercase t ≡ p → Given (accept InsertionCode (insertion_code t)) (Some (or_given t p))
    go None e = let z : ◌≡◌ {A = ℕ} 0 1 = cc in absurd (omega arith)
    go (Some u) e = raised InsertionCode Bad t u s e
coded serial (suc (suc n)) t new s h = absurd s

-- a code that is prepared to itself is the residue's
residue-new : (serial : ℕ) (o : Option Text) → and_then o prepare_identifier_uppercase ≡ o → residue_new serial o ≡ Some (record { serial = serial; code = o }, [])
unfolding residue_new
residue-new serial None h = refl
residue-new serial (Some t) h = rw h

-- ---- one level of an addition

module _ (k : ℕ) (p : Record.Fields (suc k) → Bool) (new : Record.Fields (suc k)) (f : List (Branch k) → List (Branch k)) (g : Struct (suc k) → Answer (Struct (suc k)))
    (h : (t : Branch (suc k)) → g (struct_of (suc k) t) ≡ Some (true, struct_of (suc k) (t.0, f t.1))) (q : Struct (suc k) → Bool) (e : (t : Branch (suc k)) → q (struct_of (suc k) t) ≡ p t.0) where
  upsert-first : (ts : List (Branch (suc k))) → on_current (position q (structs_of (suc k) ts)) (struct_of (suc k) (new, [])) g (structs_of (suc k) ts) ≡ Some (true, structs_of (suc k) (upsert k Edit.first p new f ts))
  unfolding upsert
  upsert-first ts =
      ap (λ (o : Option ℕ). on_current o (struct_of (suc k) (new, [])) g (structs_of (suc k) ts)) (first-map (struct_of (suc k)) q (λ t. p t.0) e ts)
      ∙ current-map (struct_of (suc k)) g (λ t. (t.0, f t.1)) h (first_where (λ t. p t.0) ts) (new, []) ts (first-within (λ t. p t.0) ts)

  upsert-last : (ts : List (Branch (suc k))) → on_current (position_from_back q (structs_of (suc k) ts)) (struct_of (suc k) (new, [])) g (structs_of (suc k) ts) ≡ Some (true, structs_of (suc k) (upsert k Edit.last p new f ts))
  unfolding upsert
  upsert-last ts =
      ap (λ (o : Option ℕ). on_current o (struct_of (suc k) (new, [])) g (structs_of (suc k) ts)) (back_last q (structs_of (suc k) ts) ∙ last-map (struct_of (suc k)) q (λ t. p t.0) e ts)
      ∙ current-map (struct_of (suc k)) g (λ t. (t.0, f t.1)) h (last_where (λ t. p t.0) ts) (new, []) ts (last_within (λ t. p t.0) ts)

-- what the crate does to the model
abbrev pub on_model : Addition → Atom → Struct 4 → Answer (Struct 4)
on_model a atom = model_add_atom atom a.chain a.residue (prepared_code a.code) a.conformer (prepared_location a.location)

-- the floats of an atom
abbrev pub floats : Addition → List ℕ
floats a = a.values.x ∷ a.values.y ∷ a.values.z ∷ a.values.occupancy ∷ a.values.b_factor ∷ []

pub record Ready (a : Addition) : Type 0 where
  pub chain : Chained a.chain
  pub code : Coded a.code
  pub conformer : Uppercased a.conformer
  pub location : Located a.location
  pub name : Named a.name
  pub valid : valid_identifier (trim a.name) ≡ true
  pub finites : all finite (floats a) ≡ true

module _ (a : Addition) (d : Domain a) (r : Ready a) where
  abbrev pub words : PreparedAddition
  words =
      record {
        chain = r.chain.word;
        residue = a.residue;
        code = r.code.word;
        conformer = r.conformer.word;
        location = r.location.word;
        name = r.name.word;
        values = a.values;
      }

  pub prepared : prepare a ≡ Ok words
  unfolding prepare
  prepared = rw (r.chain.stored, r.code.accepted, r.conformer.stored Bad, r.location.accepted, r.name.stored)

  pub good-values : good_values (new_atom words) ≡ true
  unfolding good_values
  good-values = and-true (and-true r.finites (le-leb a.values.element 118 d.element)) (le-leb a.values.hetero 1 d.hetero)

  abbrev pub atom : Atom
  atom = says_of zero (new_atom words)

  pub atom-new : atom_new (arguments_of a) ≡ Some atom
  unfolding atom_new says_of
  atom-new = rw (r.valid, r.finites, r.name.text)

  -- ---- the three levels

  into-conformer : (t : Branch 1) → conformer_add_atom atom (struct_of 1 t) ≡ Some (true, struct_of 1 (t.0, t.1 ++ (new_atom words ∷ [])))
  unfolding struct_of
  into-conformer t = rw (map-append (struct_of 0) t.1)

  new-conformer : conformer_new (string words.conformer) (option_string words.location) ≡ Some (struct_of 1 (new_conformer words, []))
  unfolding conformer_new struct_of says_of
  new-conformer = rw (r.conformer.again, r.location.again)

  conformer-test : (t : Branch 1)
      → same_conformer (string words.conformer) (option_string words.location) (struct_of 1 t) ≡ (eqb t.0.name words.conformer && eqb t.0.location words.location)
  unfolding struct_of says_of
  conformer-test t = ap₂ ◌&&◌ (same-string t.0.name words.conformer) (same-option t.0.location words.location)

  abbrev on_residue : Struct 2 → Answer (Struct 2)
  on_residue = residue_add_atom atom a.conformer (option_string words.location)

  residue-square : (said : Residue) (ts : List (Branch 1)) → on_residue (said, structs_of 1 ts) ≡ Some (true, (said, structs_of 1 (into_conformers words ts)))
  unfolding residue_add_atom
  residue-square said ts = rw (r.conformer.text, new-conformer) (ap (children said) (upsert-first 0 _ (new_conformer words) _ (conformer_add_atom atom) into-conformer _ conformer-test ts))

  into-residue : (t : Branch 2) → on_residue (struct_of 2 t) ≡ Some (true, struct_of 2 (t.0, into_conformers words t.1))
  unfolding struct_of
  into-residue t = residue-square (says_of 2 t.0) t.1

  new-residue : residue_new a.residue (option_string words.code) ≡ Some (struct_of 2 (new_residue words, []))
  unfolding struct_of says_of
  new-residue = residue-new a.residue (option_string words.code) r.code.again

  residue-test : (t : Branch 2) → same_residue a.residue (option_string words.code) (struct_of 2 t) ≡ (eqb t.0.serial a.residue && eqb t.0.code words.code)
  unfolding struct_of says_of
  residue-test t = ap (λ (b : Bool). eqb t.0.serial a.residue && b) (same-option t.0.code words.code)

  abbrev on_chain : Struct 3 → Answer (Struct 3)
  on_chain = chain_add_atom atom a.residue (option_string words.code) a.conformer (option_string words.location)

  chain-square : (said : Chain) (ts : List (Branch 2)) → on_chain (said, structs_of 2 ts) ≡ Some (true, (said, structs_of 2 (into_residues words ts)))
  unfolding chain_add_atom
  chain-square said ts = rw new-residue (ap (children said) (upsert-last 1 _ (new_residue words) _ on_residue into-residue _ residue-test ts))

  into-chain : (t : Branch 3) → on_chain (struct_of 3 t) ≡ Some (true, struct_of 3 (t.0, into_residues words t.1))
  unfolding struct_of
  into-chain t = chain-square (says_of 3 t.0) t.1

  new-chain : chain_new (trim a.chain) ≡ Some (struct_of 3 (new_chain words, []))
  unfolding chain_new struct_of says_of
  new-chain = rw r.chain.new

  chain-test : (t : Branch 3) → same_chain (trim a.chain) (struct_of 3 t) ≡ eqb t.0.id words.chain
  unfolding struct_of says_of
  chain-test t = ap (same (string t.0.id)) (sym r.chain.text) ∙ same-string t.0.id words.chain

  model-square : (said : Model) (ts : List (Branch 3))
      → model_add_atom atom a.chain a.residue (option_string words.code) a.conformer (option_string words.location) (said, structs_of 3 ts) ≡ Some (true, (said, structs_of 3 (into_chains words ts)))
  unfolding model_add_atom
  model-square said ts = rw new-chain (ap (children said) (upsert-first 2 _ (new_chain words) _ on_chain into-chain _ chain-test ts))

  pub into-model : (t : Branch 4) → on_model a atom (struct_of 4 t) ≡ Some (true, struct_of 4 (t.0, into_chains words t.1))
  unfolding struct_of
  into-model t = rw (r.code.text, r.location.text) (model-square (says_of 4 t.0) t.1)

-- ---- a call that doesn't panic has arguments that can be prepared

module _ (i : ℕ) (a : Addition) where
  never-model : ((atom : Atom) (self : Struct 4) → on_model a atom self ≡ None) → (pdb : List (Struct 4)) → add_atom i (arguments_of a) pdb ≡ None
  unfolding add_atom
  never-model h pdb = then_never (atom_new (arguments_of a)) _ (λ atom. at-never (on_model a atom) (h atom) i pdb)

  never-chain : ((atom : Atom) (self : Struct 3) → chain_add_atom atom a.residue (prepared_code a.code) a.conformer (prepared_location a.location) self ≡ None) → (pdb : List (Struct 4)) → add_atom i (arguments_of a) pdb ≡ None
  unfolding model_add_atom
  never-chain h = never-model (λ atom self. then_never (chain_new (trim a.chain)) _ (λ new. ap (children self.0) (current-never _ (h atom) _ new self.1)))

  never-residue : ((atom : Atom) (self : Struct 2) → residue_add_atom atom a.conformer (prepared_location a.location) self ≡ None) → (pdb : List (Struct 4)) → add_atom i (arguments_of a) pdb ≡ None
  unfolding chain_add_atom
  never-residue h = never-chain (λ atom self. then_never (residue_new a.residue (prepared_code a.code)) _ (λ new. ap (children self.0) (current-never _ (h atom) _ new self.1)))

  module _ (d : Domain a) (pdb : List (Struct 4)) (r : Bool × List (Struct 4)) (h : add_atom i (arguments_of a) pdb ≡ Some r) where
    clash : add_atom i (arguments_of a) pdb ≡ None → ⊥
    clash e = none-some r (sym e ∙ h)

    ready_with : (b : Bool) → valid_identifier (trim a.name) && all finite (floats a) ≡ b
        → (o : Option Text) → prepare_identifier (trim a.chain) ≡ o → (c : Option (Struct 2)) → residue_new a.residue (prepared_code a.code) ≡ c → (f : Option Text) → prepare_identifier_uppercase a.conformer ≡ f → Ready a
    unfolding add_atom atom_new chain_new model_add_atom chain_add_atom residue_add_atom
    ready_with false e o p c q f s = absurd (clash (rw e))
    ready_with true e None p c q f s = absurd (clash (never-model (λ atom self. rw p) pdb))
    ready_with true e (Some u) p None q f s = absurd (clash (never-chain (λ atom self. rw q) pdb))
    ready_with true e (Some u) p (Some new) q None s = absurd (clash (never-residue (λ atom self. rw s) pdb))
    ready_with true e (Some u) p (Some new) q (Some v) s =
        let t = and_both (valid_identifier (trim a.name)) (all finite (floats a)) e in
        record {
          chain = chained a.chain u d.chain p;
          code = coded a.residue a.code.flag a.code.text new d.code q;
          conformer = uppercase_or-ready a.conformer v d.conformer s;
          location = located a.location.flag a.location.text d.location;
          name = named a.name d.name t.0;
          valid = t.0;
          finites = t.1;
        }

    ready : Ready a
    ready = ready_with _ refl _ refl _ refl _ refl

-- ---- the theorem

-- in a store of n words the machine takes the step, if there is room, to what stands for the crate's structure afterwards
pub record Added (n i : ℕ) (m : Machine) (a : Addition) (r : Bool × List (Struct 4)) : Type 0 where
  pub after : Machine
  pub stepped : machine_step n m (AddAtom i a) ≡ fits n after
  pub held : r ≡ (true, pdb_of after)

module _ (n i : ℕ) (m : Machine) (a : Addition) (d : Domain a) (r : Bool × List (Struct 4)) (h : add_atom i (arguments_of a) (pdb_of m) ≡ Some r) where
  y : Ready a
  y = ready i a d (pdb_of m) r h

  added : (o : Option (Branch 4)) → nth i m ≡ o → Added n i m a r
  unfolding add_atom machine_step Edit.add_prepared branch_at replace_at
  added None e = absurd (clash i a d (pdb_of m) r h (then_never (atom_new (arguments_of a)) _ (λ atom. at_none (struct_of 4) _ i m e)))
  added (Some t) e =
      let t' : Branch 4 = (t.0, into_chains (words a d y) t.1) in
      record {
        after = splice i (λ x. t' ∷ []) m;
        stepped = rw (e, prepared a d y, good-values a d y);
        held = same_Some r (true, pdb_of (splice i (λ x. t' ∷ []) m)) (sym h ∙ rw (atom-new a d y) (at_map (struct_of 4) _ i m t t' true e (into-model a d y t)));
      }

  -- "Edits equal the crate's": an addition
  pub add-atom : Added n i m a r
  add-atom = added (nth i m) refl
