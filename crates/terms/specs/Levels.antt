-- Places at which one level alone is known, and the place that five records of a store make. Assumes nothing.
use Rattle.std.specs.Prelude.{ℕ, ◌+◌, ◌*◌, ◌≤◌, Bool, List, length, leb, None, Option, Some}
use Rattle.machine.specs.Record.{Model, Chain, Residue, Conformer, Atom, fields_of}
use Rattle.machine.specs.Query.{Place, window, term_value}
use Rattle.machine.specs.declared.Tri.{Tri}
use Rattle.machine.specs.declared.Tri.TheVariants.{False, True, Undecided}
use Rattle.machine.specs.declared.Term.{Term}
use Rattle.machine.specs.declared.Term.TheVariants.{ModelSerialNumber, ModelSerialNumberRange, ChainId, ChainIdRange, ResidueSerialNumber, ResidueSerialNumberRange, ResidueInsertionCode, ResidueId, ConformerName, ConformerAlternativeLocation, ConformerId, AtomSerialNumber, AtomSerialNumberRange, AtomName, Element, BFactor, BFactorRange, Occupancy, OccupancyRange, Backbone, SideChain, Hetero}
use Rattle.machine.specs.declared.RecordNumbers.{RecordNumbers}
use Rattle.seek.specs.Seek.{record_at}

abbrev pub at_model : Option Model → Place
at_model o = record { model = o; chain = None; residue = None; conformer = None; atom = None }

abbrev pub at_chain : Option Chain → Place
at_chain o = record { model = None; chain = o; residue = None; conformer = None; atom = None }

abbrev pub at_residue : Option Residue → Place
at_residue o = record { model = None; chain = None; residue = o; conformer = None; atom = None }

abbrev pub at_conformer : Option Conformer → Place
at_conformer o = record { model = None; chain = None; residue = None; conformer = o; atom = None }

abbrev pub at_atom : Option Atom → Place
at_atom o = record { model = None; chain = None; residue = None; conformer = None; atom = o }

-- what of an atom a term goes by: 0 none of it, 1 one of its floats, 2 its numbers and its name, 3 first whether it is hetero
abbrev pub part_of : Term → ℕ
part_of (ModelSerialNumber n) = 0
part_of (ModelSerialNumberRange a b) = 0
part_of (ChainId n) = 0
part_of (ChainIdRange a b) = 0
part_of (ResidueSerialNumber n) = 0
part_of (ResidueSerialNumberRange a b) = 0
part_of (ResidueInsertionCode n) = 0
part_of (ResidueId a b) = 0
part_of (ConformerName n) = 0
part_of (ConformerAlternativeLocation n) = 0
part_of (ConformerId a b) = 0
part_of (AtomSerialNumber n) = 2
part_of (AtomSerialNumberRange a b) = 2
part_of (AtomName n) = 2
part_of (Element n) = 2
part_of (BFactor n) = 1
part_of (BFactorRange a b) = 1
part_of (Occupancy n) = 1
part_of (OccupancyRange a b) = 1
part_of Backbone = 3
part_of SideChain = 3
part_of Hetero = 3

-- none of the four terms that go by a float, and no term of a level above
abbrev pub by_words : Term → Bool
by_words t = leb 2 (part_of t)

abbrev pub by_hetero : Term → Bool
by_hetero t = leb 3 (part_of t)

-- all five levels known
unfoldable pub place_at : List ℕ → RecordNumbers → Place
place_at w at =
    record {
      model = Some (fields_of 4 (record_at at.model w));
      chain = Some (fields_of 3 (record_at at.chain w));
      residue = Some (fields_of 2 (record_at at.residue w));
      conformer = Some (fields_of 1 (record_at at.conformer w));
      atom = Some (fields_of 0 (record_at at.atom w));
    }

-- the terms' values there with the kinds from low to high alone known, by lists of residue names and of atom names
abbrev pub term_value_at : List ℕ → RecordNumbers → ℕ → ℕ → List ℕ → List ℕ → Term → Tri
term_value_at w at low high residues atoms = term_value (record { residues = residues; atoms = atoms }) (window low high (place_at w at))

-- what two levels say of a term: false if either does, else what one of them decides
abbrev pub narrow : Tri → Tri → Tri
narrow False b = False
narrow True False = False
narrow True True = True
narrow True Undecided = True
narrow Undecided b = b

-- the five records stand in the words
pub record Inside (w : List ℕ) (at : RecordNumbers) : Type 0 where
  pub model : at.model * 12 + 12 ≤ length w
  pub chain : at.chain * 12 + 12 ≤ length w
  pub residue : at.residue * 12 + 12 ≤ length w
  pub conformer : at.conformer * 12 + 12 ≤ length w
  pub atom : at.atom * 12 + 12 ≤ length w
