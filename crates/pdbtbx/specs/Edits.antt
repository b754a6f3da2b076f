-- pdbtbx 0.12.0: the edits of `PDB`, `Model`, `Chain`, `Residue`, `Conformer` and `Atom`, function by function. `none` is a panic, after which
-- the crate's structure may be half changed: nothing is said of it. Assumes nothing.
use Rattle.std.specs.Prelude.{ℕ, zero, suc, Bool, true, false, cond, not, ◌&&◌, List, [], ◌∷◌, ◌++◌, map, length, ◌==◌, nat_lt, None, Option, Some, option_map}
use Rattle.machine.specs.Lists.{filter, nth, and_then, all, same}
use Rattle.machine.specs.Text.{trim}
use Rattle.machine.specs.Record.{finite}
use Rattle.machine.specs.Edit.{up}
use Rattle.pdbtbx.specs.Std.{Text, to_uppercase, same_option, Answer, changed, at, remove, position, position_from_back, on_current}
use Rattle.pdbtbx.specs.Structs.{Atom, Struct, PDB, valid_identifier, prepare_identifier, prepare_identifier_uppercase}

-- self, whose children a call changed
abbrev pub children : {S U : Type 0} → S → Answer (List U) → Answer (S × List U)
children said r = changed (λ us. (said, us)) r

-- ---- additions

-- the arguments of `Atom::new` and `Model::add_atom`; the element is given, as an `Element`, and not guessed
pub record Arguments : Type 0 where
  pub chain : Text
  pub residue : ℕ
  pub code : Option Text
  pub conformer : Text
  pub location : Option Text
  pub hetero : Bool
  pub serial : ℕ
  pub name : Text
  pub x : ℕ
  pub y : ℕ
  pub z : ℕ
  pub occupancy : ℕ
  pub b_factor : ℕ
  pub element : Option ℕ
  pub charge : ℕ

-- Atom::new: let atom_name = atom_name.into().trim().to_string(); if valid_identifier(&atom_name) && x.is_finite() && y.is_finite() && z.is_finite()
--   && occupancy.is_finite() && b_factor.is_finite() { Some(Atom { name: atom_name.trim().to_ascii_uppercase(), .. }) } else { None }
unfoldable pub atom_new : Arguments → Option Atom
atom_new a =
    cond (valid_identifier (trim a.name) && all finite (a.x ∷ a.y ∷ a.z ∷ a.occupancy ∷ a.b_factor ∷ []))
    (Some (record {
      hetero = a.hetero;
      serial = a.serial;
      name = to_uppercase (trim (trim a.name));
      x = a.x;
      y = a.y;
      z = a.z;
      occupancy = a.occupancy;
      b_factor = a.b_factor;
      element = a.element;
      charge = a.charge;
    }))
    None

-- Conformer::new: prepare_identifier_uppercase(name).map(|n| { Conformer { name: n, alternative_location: None, .. };
--   if let Some(al) = alt_loc { res.alternative_location = prepare_identifier_uppercase(al); } .. })
unfoldable pub conformer_new : Text → Option Text → Option (Struct 1)
conformer_new name location = option_map (λ n. (record { name = n; location = and_then location prepare_identifier_uppercase }, [])) (prepare_identifier_uppercase name)

-- Residue::new: if let Some(ic) = insertion_code { if !res.set_insertion_code(ic) { return None; } }, which is
--   prepare_identifier_uppercase(new_code).map(|c| self.insertion_code = Some(c)).is_some()
unfoldable pub residue_new : ℕ → Option Text → Option (Struct 2)
residue_new serial None = Some (record { serial = serial; code = None }, [])
residue_new serial (Some ic) = option_map (λ c. (record { serial = serial; code = Some c }, [])) (prepare_identifier_uppercase ic)

-- Chain::new: prepare_identifier(id).map(|id| Chain { id, residues: Vec::new(), .. })
unfoldable pub chain_new : Text → Option (Struct 3)
chain_new id = option_map (λ i. (record { id = i }, [])) (prepare_identifier id)

-- Conformer::add_atom: self.atoms.push(new_atom)
abbrev pub conformer_add_atom : Atom → Struct 1 → Answer (Struct 1)
conformer_add_atom atom self = Some (true, (self.0, self.1 ++ (atom ∷ [])))

-- Residue::add_atom: let name = prepare_identifier_uppercase(conformer_id.0).expect(..); let conformer_id = (name.as_str(), conformer_id.1);
--   let mut new_conformer = Conformer::new(conformer_id.0, conformer_id.1, None).expect(..);
--   for conformer in &mut self.conformers { if conformer.id() == conformer_id { .. break; } } ..; current_conformer.add_atom(new_atom)
unfoldable pub residue_add_atom : Atom → Text → Option Text → Struct 2 → Answer (Struct 2)
residue_add_atom atom conformer location self =
    and_then (prepare_identifier_uppercase conformer) (λ name.
    and_then (conformer_new name location) (λ new.
    children self.0 (on_current (position (λ (c : Struct 1). same c.0.name name && same_option c.0.location location) self.1) new (conformer_add_atom atom) self.1)))

-- Chain::add_atom: let mut new_residue = Residue::new(residue_id.0, residue_id.1, None).expect(..);
--   for residue in &mut self.residues.iter_mut().rev() { if residue.id() == residue_id { .. break; } } ..; current_residue.add_atom(new_atom, conformer_id)
unfoldable pub chain_add_atom : Atom → ℕ → Option Text → Text → Option Text → Struct 3 → Answer (Struct 3)
chain_add_atom atom residue code conformer location self =
    and_then (residue_new residue code) (λ new.
    children self.0 (on_current (position_from_back (λ (r : Struct 2). (r.0.serial == residue) && same_option r.0.code code) self.1) new (residue_add_atom atom conformer location) self.1))

-- Model::add_atom: let chain_id = chain_id.as_ref().trim(); let mut new_chain = Chain::new(chain_id).expect(..);
--   for chain in &mut self.chains { if chain.id() == chain_id { .. break; } } ..; current_chain.add_atom(new_atom, residue_id, conformer_id)
unfoldable pub model_add_atom : Atom → Text → ℕ → Option Text → Text → Option Text → Struct 4 → Answer (Struct 4)
model_add_atom atom chain residue code conformer location self =
    and_then (chain_new (trim chain)) (λ new.
    children self.0 (on_current (position (λ (c : Struct 3). same c.0.id (trim chain)) self.1) new (chain_add_atom atom residue code conformer location) self.1))

-- pdb.model_mut(i).unwrap().add_atom(Atom::new(..).unwrap(), ..)
unfoldable pub add_atom : ℕ → Arguments → PDB → Answer PDB
add_atom i a pdb = and_then (atom_new a) (λ atom. at i (model_add_atom atom a.chain a.residue a.code a.conformer a.location) pdb)

-- pdb.add_model(Model::new(serial)): self.models.push(new_model)
unfoldable pub add_model : ℕ → PDB → Answer PDB
add_model serial pdb = Some (true, pdb ++ ((record { serial = serial }, []) ∷ []))

-- ---- positions

-- a call on pdb.model_mut(at[0]).unwrap().chain_mut(at[1]).unwrap() .., d levels down
unfoldable pub at_position : (d j : ℕ) → List ℕ → (Struct j → Answer (Struct j)) → List (Struct (up d j)) → Answer (List (Struct (up d j)))
at_position d j [] f ts = None
at_position zero j (i ∷ is) f ts = at i f ts
at_position (suc d) j (i ∷ is) f ts = at i (λ t. children t.0 (at_position d j is f t.1)) ts

-- ---- removals

-- remove_chain, remove_residue, remove_conformer, remove_atom (and remove_model, for a join): self.chains.remove(index), and so on, of the parent at a position
unfoldable pub remove_at : (d j : ℕ) → List ℕ → List (Struct (up d j)) → Answer (List (Struct (up d j)))
remove_at d j [] ts = None
remove_at zero j (i ∷ is) ts = option_map (λ us. (true, us)) (remove i ts)
remove_at (suc d) j (i ∷ is) ts = at i (λ t. children t.0 (remove_at d j is t.1)) ts

-- if let Some(i) = index { self.remove_chain(i); true } else { false }, and so on
unfoldable pub remove_index : (j : ℕ) → Option ℕ → Struct (suc j) → Answer (Struct (suc j))
remove_index j None self = Some (false, self)
remove_index j (Some i) self = children self.0 (option_map (λ (us : List (Struct j)). (true, us)) (remove i self.1))

-- remove_chain_by_id, and so on: let index = self.chains().position(|a| a.id() == id)
unfoldable pub remove_by_id : (j : ℕ) → (Struct j → Bool) → Struct (suc j) → Answer (Struct (suc j))
remove_by_id j p self = remove_index j (position p self.1) self

-- Conformer::remove_atoms_by: self.atoms.retain(|atom| !predicate(atom)); Residue's: self.conformers_mut().for_each(..); Model's:
--   for residue in self.residues_mut() { residue.remove_atoms_by(&predicate); }, whose residues are those of its chains, one chain after another
unfoldable pub remove_atoms_by : (k : ℕ) → (Atom → Bool) → List (Struct k) → List (Struct k)
remove_atoms_by zero predicate atoms = filter (λ a. not (predicate a)) atoms
remove_atoms_by (suc k) predicate ts = map (λ (t : Struct (suc k)). (t.0, remove_atoms_by k predicate t.1)) ts

-- Residue::remove_empty: self.conformers.retain(|c| c.atom_count() > 0); Chain's: self.residues_mut().for_each(Residue::remove_empty);
--   self.residues.retain(|r| r.conformer_count() > 0); Model's: the same of its chains
unfoldable pub remove_empty : (k : ℕ) → Struct (suc (suc k)) → Struct (suc (suc k))
remove_empty zero self = (self.0, filter (λ (c : Struct 1). nat_lt 0 (length c.1)) self.1)
remove_empty (suc k) self = (self.0, filter (λ (c : Struct (suc (suc k))). nat_lt 0 (length c.1)) (map (remove_empty k) self.1))

-- ---- joins

-- self.chains.extend(other.chains), and so on
abbrev pub join : (j : ℕ) → Struct (suc j) → Struct (suc j) → Answer (Struct (suc j))
join j other self = Some (true, (self.0, self.1 ++ other.1))

-- what stands at a position
unfoldable pub struct_at : (d j : ℕ) → List ℕ → List (Struct (up d j)) → Option (Struct j)
struct_at d j [] ts = None
struct_at zero j (i ∷ is) ts = nth i ts
struct_at (suc d) j (i ∷ is) ts = and_then (nth i ts) (λ t. struct_at d j is t.1)

-- let other = std::mem::replace(second, an empty one); first.join(other); then the second, empty now, is removed from its parent. Here it is
-- removed with its children, which makes no difference to what stays
unfoldable pub join_at : (d j : ℕ) → List ℕ → List ℕ → List (Struct (up d (suc j))) → Answer (List (Struct (up d (suc j))))
join_at d j a b ts =
    and_then (struct_at d (suc j) b ts) (λ other. and_then (at_position d (suc j) a (join j other) ts) (λ r. remove_at d (suc j) b r.1))

-- ---- an atom's own fields

-- Atom::set_element: self.element = Some(element)
abbrev pub set_element : ℕ → Atom → Atom
set_element element self =
    record {
      hetero = self.hetero;
      serial = self.serial;
      name = self.name;
      x = self.x;
      y = self.y;
      z = self.z;
      occupancy = self.occupancy;
      b_factor = self.b_factor;
      element = Some element;
      charge = self.charge;
    }
