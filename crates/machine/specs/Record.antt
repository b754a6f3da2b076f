-- Document 01, "Store": one record. Levels count from the atom, 0, up to the model, 4; a record's kind is 5 less its level.
-- Numbers signed in the document are held as their bits, and so are floats. Assumes nothing.
use Rattle.std.specs.Prelude.{ℕ, zero, suc, Bool, true, false, ◌&&◌, List, [], ◌∷◌, get_or, replicate, leb, eqb, Float}
use Rattle.std.specs.Float.{nan, inf, fin, binary64}
use Rattle.std.specs.Float.Ieee.{of_bits}
use Rattle.std.specs.Int.{w64}
use Rattle.std.proofs.Common.{to_z}
use Rattle.machine.specs.Lists.{all, same}
use Rattle.machine.specs.Text.{chain_id, insertion_code, conformer_name, alternative_location, atom_name, stored_by, absent_or}
use Rattle.machine.specs.declared.AtomRec.{AtomRec}

pub record Model : Type 0 where
  pub serial : ℕ

pub record Chain : Type 0 where
  pub id : ℕ

pub record Residue : Type 0 where
  pub serial : ℕ
  pub code : ℕ

pub record Conformer : Type 0 where
  pub name : ℕ
  pub location : ℕ

pub record Atom : Type 0 where
  pub serial : ℕ
  pub name : ℕ
  pub x : ℕ
  pub y : ℕ
  pub z : ℕ
  pub occupancy : ℕ
  pub b_factor : ℕ
  pub element : ℕ
  pub charge : ℕ
  pub hetero : ℕ

-- what a record of each level says; there is no level above 4
abbrev pub Fields : ℕ → Type 0
Fields zero = Atom
Fields (suc zero) = Conformer
Fields (suc (suc zero)) = Residue
Fields (suc (suc (suc zero))) = Chain
Fields (suc (suc (suc (suc zero)))) = Model
Fields (suc (suc (suc (suc (suc k))))) = Unit {0}

abbrev pub Words : Type 0
Words = List ℕ

-- "A record is 12 words; word 0 is the kind; words not named are 0"
unfoldable pub words : (k : ℕ) → Fields k → Words
words zero a =
    5 ∷ a.serial ∷ a.name ∷ a.x ∷ a.y ∷ a.z ∷ a.occupancy ∷ a.b_factor ∷ a.element ∷ a.charge ∷ a.hetero ∷ 0 ∷ []
words (suc zero) c = 4 ∷ c.name ∷ c.location ∷ replicate 9 0
words (suc (suc zero)) r = 3 ∷ r.serial ∷ r.code ∷ replicate 9 0
words (suc (suc (suc zero))) c = 2 ∷ c.id ∷ replicate 10 0
words (suc (suc (suc (suc zero)))) m = 1 ∷ m.serial ∷ replicate 10 0
words (suc (suc (suc (suc (suc k))))) u = []

abbrev pub kind : Words → ℕ
kind r = get_or r 0 0

-- the fields that twelve words hold
unfoldable pub fields_of : (k : ℕ) → Words → Fields k
fields_of zero r =
    record {
      serial = get_or r 1 0;
      name = get_or r 2 0;
      x = get_or r 3 0;
      y = get_or r 4 0;
      z = get_or r 5 0;
      occupancy = get_or r 6 0;
      b_factor = get_or r 7 0;
      element = get_or r 8 0;
      charge = get_or r 9 0;
      hetero = get_or r 10 0;
    }
fields_of (suc zero) r = record { name = get_or r 1 0; location = get_or r 2 0 }
fields_of (suc (suc zero)) r = record { serial = get_or r 1 0; code = get_or r 2 0 }
fields_of (suc (suc (suc zero))) r = record { id = get_or r 1 0 }
fields_of (suc (suc (suc (suc zero)))) r = record { serial = get_or r 1 0 }
fields_of (suc (suc (suc (suc (suc k))))) r = tt

-- ---- stored forms

abbrev pub is_finite : Float → Bool
is_finite nan = false
is_finite (inf s) = false
is_finite (fin s m e) = true

-- "f64 bits, finite"; Classes.antt has the classes of IEEE 754 of which this is so
abbrev pub finite : ℕ → Bool
finite b = is_finite (of_bits binary64 b)

-- a number that names an element: "elements 1..118" in trees, and change request §6's "1 to 118"
abbrev pub is_element : ℕ → Bool
is_element n = leb 1 n && leb n 118

-- what refusal 7 is about: the floats are finite, "element 1..118 or 0 missing", "hetero 0 or 1"
unfoldable pub good_values : Atom → Bool
good_values a =
    all finite (a.x ∷ a.y ∷ a.z ∷ a.occupancy ∷ a.b_factor ∷ []) && leb a.element 118 && leb a.hetero 1

-- a record's identifiers are in stored form, and an atom's values are good
unfoldable pub good_fields : (k : ℕ) → Fields k → Bool
good_fields zero a = stored_by atom_name a.name && good_values a
good_fields (suc zero) c = stored_by conformer_name c.name && absent_or alternative_location c.location
good_fields (suc (suc zero)) r = absent_or insertion_code r.code
good_fields (suc (suc (suc zero))) c = stored_by chain_id c.id
good_fields (suc (suc (suc (suc zero)))) m = true
good_fields (suc (suc (suc (suc (suc k))))) u = false

-- twelve words are a good record of level k
unfoldable pub good_record : (k : ℕ) → Words → Bool
good_record k r = same r (words k (fields_of k r)) && good_fields k (fields_of k r)

-- ---- "read out as a record of its floats and numbers"

unfoldable pub read_out : Atom → AtomRec
read_out a =
    record {
      serial = a.serial;
      name = a.name;
      x = of_bits binary64 a.x;
      y = of_bits binary64 a.y;
      z = of_bits binary64 a.z;
      occupancy = of_bits binary64 a.occupancy;
      b_factor = of_bits binary64 a.b_factor;
      element = a.element;
      charge = to_z w64 a.charge;
      hetero = eqb a.hetero 1;
    }
