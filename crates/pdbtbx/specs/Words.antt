-- Document 01's words and the crate's values that they stand for: texts, numbers, and a whole structure, both ways. Assumes nothing.
use Rattle.std.specs.Prelude.{ℕ, zero, suc, cond, List, map, ℤ, ◌==◌, from_bits, Float, None, Option, Some}
use Rattle.std.specs.Float.{binary64}
use Rattle.std.specs.Int.{w64}
use Rattle.std.proofs.Common.{to_z}
use Rattle.machine.specs.Text.{pack, text_of}
use Rattle.machine.specs.Record.{Fields}
use Rattle.machine.specs.Store.{Branch, Machine}
use Rattle.pdbtbx.specs.Std.{Text}
use Rattle.pdbtbx.specs.Structs.{Says, Struct, PDB}

-- ---- a word's value: "0 means absent, or empty for an atom name"

abbrev pub string : ℕ → Text
string w = text_of w

abbrev pub option_string : ℕ → Option Text
option_string w = cond (w == 0) None (Some (text_of w))

-- "element 1..118 or 0 missing"
abbrev pub option_element : ℕ → Option ℕ
option_element w = cond (w == 0) None (Some w)

abbrev pub isize : ℕ → ℤ
isize w = to_z w64 w

abbrev pub f64 : ℕ → Float
f64 w = from_bits binary64 w

-- ---- the structure that a machine stands for

unfoldable pub says_of : (k : ℕ) → Fields k → Says k
says_of zero a =
    record {
      hetero = (a.hetero == 1);
      serial = a.serial;
      name = string a.name;
      x = a.x;
      y = a.y;
      z = a.z;
      occupancy = a.occupancy;
      b_factor = a.b_factor;
      element = option_element a.element;
      charge = a.charge;
    }
says_of (suc zero) c = record { name = string c.name; location = option_string c.location }
says_of (suc (suc zero)) r = record { serial = r.serial; code = option_string r.code }
says_of (suc (suc (suc zero))) c = record { id = string c.id }
says_of (suc (suc (suc (suc zero)))) m = record { serial = m.serial }
says_of (suc (suc (suc (suc (suc k))))) u = tt

unfoldable pub struct_of : (k : ℕ) → Branch k → Struct k
struct_of zero a = says_of zero a
struct_of (suc k) t = (says_of (suc k) t.0, map (struct_of k) t.1)

abbrev pub structs_of : (k : ℕ) → List (Branch k) → List (Struct k)
structs_of k ts = map (struct_of k) ts

abbrev pub pdb_of : Machine → PDB
pdb_of m = structs_of 4 m

-- ---- and the machine that a structure packs to

abbrev pub pack_option : Option Text → ℕ
pack_option None = 0
pack_option (Some t) = pack t

abbrev pub element_word : Option ℕ → ℕ
element_word None = 0
element_word (Some e) = e

unfoldable pub fields_from : (k : ℕ) → Says k → Fields k
fields_from zero a =
    record {
      serial = a.serial;
      name = pack a.name;
      x = a.x;
      y = a.y;
      z = a.z;
      occupancy = a.occupancy;
      b_factor = a.b_factor;
      element = element_word a.element;
      charge = a.charge;
      hetero = cond a.hetero 1 0;
    }
fields_from (suc zero) c = record { name = pack c.name; location = pack_option c.location }
fields_from (suc (suc zero)) r = record { serial = r.serial; code = pack_option r.code }
fields_from (suc (suc (suc zero))) c = record { id = pack c.id }
fields_from (suc (suc (suc (suc zero)))) m = record { serial = m.serial }
fields_from (suc (suc (suc (suc (suc k))))) u = tt

unfoldable pub branch_from : (k : ℕ) → Struct k → Branch k
branch_from zero a = fields_from zero a
branch_from (suc k) t = (fields_from (suc k) t.0, map (branch_from k) t.1)

abbrev pub machine_from : PDB → Machine
machine_from pdb = map (branch_from 4) pdb
