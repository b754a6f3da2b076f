-- pdbtbx 0.12.0: the five `optional_matches_..` of src/structs/search.rs, and the two tables of src/reference_tables.rs. Assumes nothing.
-- A term's texts are given packed: its `String` is the text of the word, and an absent `Option<String>` the word 0.
use Rattle.std.specs.Prelude.{ℕ, zero, suc, Bool, false, cond, not, ◌&&◌, List, [], ◌∷◌, ◌==◌, int_le, nat_eq, nat_le, None, Option, Some, option_map}
use Prim.Native.String.{String}
use Rattle.std.specs.Float.Ieee.{le}
use Rattle.machine.specs.Lists.{any, same, bytes}
use Rattle.machine.specs.Text.{before}
use Rattle.machine.specs.Query.{same_z}
use Rattle.machine.specs.declared.Term.{Term}
use Rattle.machine.specs.declared.Term.TheVariants.{ModelSerialNumber, ModelSerialNumberRange, ChainId, ChainIdRange, ResidueSerialNumber, ResidueSerialNumberRange, ResidueInsertionCode, ResidueId, ConformerName, ConformerAlternativeLocation, ConformerId, AtomSerialNumber, AtomSerialNumberRange, AtomName, Element, BFactor, BFactorRange, Occupancy, OccupancyRange, Backbone, SideChain, Hetero}
use Rattle.pdbtbx.specs.Std.{Text, same_option, within_epsilon}
use Rattle.pdbtbx.specs.Structs.{Model, Chain, Residue, Conformer, Atom, Says}
use Rattle.pdbtbx.specs.Words.{string, option_string, isize, f64}

-- ---- src/reference_tables.rs

unfoldable pub AMINO-ACIDS : List String
AMINO-ACIDS =
    "ALA" ∷ "ARG" ∷ "ASH" ∷ "ASN" ∷ "ASP" ∷ "ASX" ∷ "CYS" ∷ "CYX" ∷ "GLH" ∷ "GLN" ∷ "GLU" ∷ "GLY" ∷ "HID" ∷ "HIE" ∷ "HIM" ∷ "HIP" ∷ "HIS" ∷ "ILE" ∷ "LEU" ∷ "LYN" ∷ "LYS" ∷ "MET" ∷ "PHE" ∷ "PRO" ∷ "SER" ∷ "THR" ∷ "TRP" ∷ "TYR" ∷ "VAL" ∷ "SEC" ∷ "PYL" ∷ []

unfoldable pub BACKBONE-NAMES : List String
BACKBONE-NAMES = "N" ∷ "CA" ∷ "C" ∷ "O" ∷ "H" ∷ "H1" ∷ "H2" ∷ "H3" ∷ "HA" ∷ "HA2" ∷ "HA3" ∷ []

-- AMINO_ACIDS.contains(&name)
abbrev pub contains : List String → Text → Bool
contains names t = any (λ s. same t (bytes s)) names

abbrev pub is_amino_acid : Conformer → Bool
is_amino_acid c = contains AMINO-ACIDS c.name

abbrev pub is_backbone : Atom → Bool
is_backbone a = contains BACKBONE-NAMES a.name

-- ---- the arms of the five functions, by term; an arm that isn't named is `_ => None`

pub record Arms : Type 0 where
  pub model : Model → Option Bool
  pub chain : Chain → Option Bool
  pub residue : Residue → Option Bool
  pub conformer : Conformer → Option Bool
  pub atom : Atom → Option Bool

abbrev nothing : {A : Type 0} → A → Option Bool
nothing x = None

abbrev of_model : (Model → Bool) → Arms
of_model f = record { model = λ m. Some (f m); chain = nothing; residue = nothing; conformer = nothing; atom = nothing }

abbrev of_chain : (Chain → Bool) → Arms
of_chain f = record { model = nothing; chain = λ c. Some (f c); residue = nothing; conformer = nothing; atom = nothing }

abbrev of_residue : (Residue → Bool) → Arms
of_residue f = record { model = nothing; chain = nothing; residue = λ r. Some (f r); conformer = nothing; atom = nothing }

abbrev of_conformer : (Conformer → Bool) → Arms
of_conformer f = record { model = nothing; chain = nothing; residue = nothing; conformer = λ c. Some (f c); atom = nothing }

abbrev of_atom : (Atom → Option Bool) → Arms
of_atom f = record { model = nothing; chain = nothing; residue = nothing; conformer = nothing; atom = f }

-- `if !conformer.is_amino_acid() => Some(false)`, and an arm of the atom
abbrev of_side : (Atom → Option Bool) → Arms
of_side f = record { model = nothing; chain = nothing; residue = nothing; conformer = λ c. cond (not (is_amino_acid c)) (Some false) None; atom = f }

unfoldable pub optional_matches : Term → Arms
optional_matches (ModelSerialNumber s) = of_model (λ m. nat_eq s m.serial)
optional_matches (ModelSerialNumberRange low high) = of_model (λ m. nat_le low m.serial && nat_le m.serial high)
optional_matches (ChainId s) = of_chain (λ c. same (string s) c.id)
optional_matches (ChainIdRange low high) = of_chain (λ c. before (string low) c.id && before c.id (string high))
optional_matches (ResidueSerialNumber s) = of_residue (λ r. same_z s (isize r.serial))
optional_matches (ResidueSerialNumberRange low high) = of_residue (λ r. int_le low (isize r.serial) && int_le (isize r.serial) high)
optional_matches (ResidueInsertionCode ic) = of_residue (λ r. same_option (option_string ic) r.code)
optional_matches (ResidueId s ic) = of_residue (λ r. same_z s (isize r.serial) && same_option (option_string ic) r.code)
optional_matches (ConformerName n) = of_conformer (λ c. same (string n) c.name)
optional_matches (ConformerAlternativeLocation al) = of_conformer (λ c. same_option (option_string al) c.location)
optional_matches (ConformerId n al) = of_conformer (λ c. same (string n) c.name && same_option (option_string al) c.location)
optional_matches (AtomSerialNumber n) = of_atom (λ a. Some (a.serial == n))
optional_matches (AtomSerialNumberRange low high) = of_atom (λ a. Some (nat_le low a.serial && nat_le a.serial high))
optional_matches (AtomName n) = of_atom (λ a. Some (same a.name (string n)))
optional_matches (Element e) = of_atom (λ a. option_map (λ (x : ℕ). nat_eq x e) a.element)
optional_matches (BFactor x) = of_atom (λ a. Some (within_epsilon (f64 a.b_factor) x))
optional_matches (BFactorRange low high) = of_atom (λ a. Some (le low (f64 a.b_factor) && le (f64 a.b_factor) high))
optional_matches (Occupancy x) = of_atom (λ a. Some (within_epsilon (f64 a.occupancy) x))
optional_matches (OccupancyRange low high) = of_atom (λ a. Some (le low (f64 a.occupancy) && le (f64 a.occupancy) high))
optional_matches Backbone = of_side (λ a. Some (is_backbone a))
optional_matches SideChain = of_side (λ a. Some (not (is_backbone a)))
optional_matches Hetero = of_atom (λ a. Some a.hetero)

-- which of the five is asked at a level
unfoldable pub matches_at : (k : ℕ) → Says k → Term → Option Bool
matches_at zero a t = (optional_matches t).atom a
matches_at (suc zero) c t = (optional_matches t).conformer c
matches_at (suc (suc zero)) r t = (optional_matches t).residue r
matches_at (suc (suc (suc zero))) c t = (optional_matches t).chain c
matches_at (suc (suc (suc (suc zero)))) m t = (optional_matches t).model m
matches_at (suc (suc (suc (suc (suc k))))) u t = None
