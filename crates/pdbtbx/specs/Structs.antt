-- pdbtbx 0.12.0, src/structs: the five structs and helper.rs. Left out, as in document 01: `counter`, `atf`, `modification`,
-- `database_reference`. An `isize` and an `f64` are held as their bits. Assumes nothing.
use Rattle.std.specs.Prelude.{ℕ, zero, suc, Bool, cond, not, ◌&&◌, List, nat_lt, None, Option, Some, option_map}
use Rattle.machine.specs.Lists.{is_empty, all}
use Rattle.machine.specs.Text.{trim}
use Rattle.pdbtbx.specs.Std.{Text, to_uppercase}

-- ---- the structs, without their Vec of children

pub record Model : Type 0 where
  pub serial : ℕ

pub record Chain : Type 0 where
  pub id : Text

pub record Residue : Type 0 where
  pub serial : ℕ
  pub code : Option Text

pub record Conformer : Type 0 where
  pub name : Text
  pub location : Option Text

-- an `Element` is its number, 1 to 118
pub record Atom : Type 0 where
  pub hetero : Bool
  pub serial : ℕ
  pub name : Text
  pub x : ℕ
  pub y : ℕ
  pub z : ℕ
  pub occupancy : ℕ
  pub b_factor : ℕ
  pub element : Option ℕ
  pub charge : ℕ

-- by level, which counts from the atom, 0, up to the model, 4
abbrev pub Says : ℕ → Type 0
Says zero = Atom
Says (suc zero) = Conformer
Says (suc (suc zero)) = Residue
Says (suc (suc (suc zero))) = Chain
Says (suc (suc (suc (suc zero)))) = Model
Says (suc (suc (suc (suc (suc k))))) = Unit {0}

-- struct Chain { id: String, residues: Vec<Residue>, .. }, and so on
abbrev pub Struct : ℕ → Type 0
Struct zero = Says zero
Struct (suc k) = Says (suc k) × List (Struct k)

-- struct PDB { models: Vec<Model>, .. }
abbrev pub PDB : Type 0
PDB = List (Struct 4)

-- ---- helper.rs

-- (c as u32) < 127 && c as u32 > 31
abbrev pub check_char : ℕ → Bool
check_char c = nat_lt c 127 && nat_lt 31 c

-- text.chars().all(check_char)
abbrev pub valid_identifier : Text → Bool
valid_identifier t = all check_char t

-- (valid_identifier(text) && !text.trim().is_empty()).then(|| text.trim().to_string())
unfoldable pub prepare_identifier : Text → Option Text
prepare_identifier t = cond (valid_identifier t && not (is_empty (trim t))) (Some (trim t)) None

-- prepare_identifier(text).map(|s| s.to_uppercase())
unfoldable pub prepare_identifier_uppercase : Text → Option Text
prepare_identifier_uppercase t = option_map to_uppercase (prepare_identifier t)
