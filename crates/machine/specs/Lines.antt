-- Change request §1, "PDB lines out": the text. "The text has one definition". A line is a list of columns, each a width and a text,
-- so that what is written and what is too wide come from one place. Assumes nothing.
use Rattle.std.specs.Prelude.{ℕ, zero, suc, ◌-◌, ◌/◌, ◌%◌, ◌^◌, Bool, not, ◌&&◌, cond, List, [], ◌∷◌, ◌++◌, map, ℤ, pos, negsuc, length, get_or, replicate, leb, ltb, eqb}
use Rattle.std.specs.Int.{w64}
use Rattle.std.proofs.Common.{to_z}
use Rattle.machine.specs.Lists.{all, concat_map, bytes}
use Rattle.machine.specs.Text.{text_of}
use Rattle.machine.specs.Record.{Model, Chain, Residue, Conformer, Atom}
use Rattle.machine.specs.Store.{Branch, Machine}
use Rattle.machine.specs.Program.{digit, decimal, newline}
use Rattle.machine.specs.Rounding.{rounded}

-- ---- columns

-- a text at the left or at the right of some columns
pub data Column : Type 0 where
  at_left at_right : ℕ → List ℕ → Column

abbrev pub blanks : ℕ → List ℕ
blanks n = replicate n 32

abbrev pub column_text : Column → List ℕ
column_text (at_left w t) = t ++ blanks (w - length t)
column_text (at_right w t) = blanks (w - length t) ++ t

-- not "A field too wide for its columns"
abbrev pub fitting : Column → Bool
fitting (at_left w t) = leb (length t) w
fitting (at_right w t) = leb (length t) w

-- "every line has 80 columns and a newline"
abbrev pub line_of : List Column → List ℕ
line_of cs = concat_map column_text cs ++ newline

-- ---- numbers. `decimal` has at most 20 digits; a number with more is too wide with those 20 as well.

abbrev pub dash : Bool → List ℕ
dash s = cond s (bytes "-") []

-- a whole number with its sign
abbrev pub signed : ℤ → List ℕ
signed (pos n) = decimal n
signed (negsuc n) = bytes "-" ++ decimal (suc n)

-- the last d digits of a number
unfoldable pub last_digits : ℕ → ℕ → List ℕ
last_digits zero n = []
last_digits (suc d) n = last_digits d (n / 10) ++ (digit (n % 10) ∷ [])

-- n times 10 ^ -d
unfoldable pub pointed : ℕ → ℕ → List ℕ
pointed d n = decimal (n / 10 ^ d) ++ (bytes "." ++ last_digits d n)

-- "a value that rounds to zero has no minus": the sign's bit is set, and not all decimals are zero
abbrev pub negative : ℕ → ℕ → Bool
negative d b = leb (2 ^ 63) b && ltb 0 (rounded d b)

-- an f64, given by its bits, to d decimals
unfoldable pub fixed : ℕ → ℕ → List ℕ
fixed d b = dash (negative d b) ++ pointed d (rounded d b)

-- "Charge is a digit and a sign, blank at zero."
unfoldable pub charge_text : ℤ → List ℕ
charge_text (pos zero) = []
charge_text (pos (suc n)) = decimal (suc n) ++ bytes "+"
charge_text (negsuc n) = decimal (suc n) ++ bytes "-"

-- ---- elements

-- "element symbols, these in capitals": of elements 1 to 118
abbrev pub symbols : List (List ℕ)
symbols =
    map bytes
    ("H" ∷ "HE"
    ∷ "LI" ∷ "BE" ∷ "B" ∷ "C" ∷ "N" ∷ "O" ∷ "F" ∷ "NE"
    ∷ "NA" ∷ "MG" ∷ "AL" ∷ "SI" ∷ "P" ∷ "S" ∷ "CL" ∷ "AR"
    ∷ "K" ∷ "CA" ∷ "SC" ∷ "TI" ∷ "V" ∷ "CR" ∷ "MN" ∷ "FE" ∷ "CO" ∷ "NI" ∷ "CU" ∷ "ZN" ∷ "GA" ∷ "GE" ∷ "AS" ∷ "SE" ∷ "BR" ∷ "KR"
    ∷ "RB" ∷ "SR" ∷ "Y" ∷ "ZR" ∷ "NB" ∷ "MO" ∷ "TC" ∷ "RU" ∷ "RH" ∷ "PD" ∷ "AG" ∷ "CD" ∷ "IN" ∷ "SN" ∷ "SB" ∷ "TE" ∷ "I" ∷ "XE"
    ∷ "CS" ∷ "BA" ∷ "LA" ∷ "CE" ∷ "PR" ∷ "ND" ∷ "PM" ∷ "SM" ∷ "EU" ∷ "GD" ∷ "TB" ∷ "DY" ∷ "HO" ∷ "ER" ∷ "TM" ∷ "YB" ∷ "LU"
    ∷ "HF" ∷ "TA" ∷ "W" ∷ "RE" ∷ "OS" ∷ "IR" ∷ "PT" ∷ "AU" ∷ "HG" ∷ "TL" ∷ "PB" ∷ "BI" ∷ "PO" ∷ "AT" ∷ "RN"
    ∷ "FR" ∷ "RA" ∷ "AC" ∷ "TH" ∷ "PA" ∷ "U" ∷ "NP" ∷ "PU" ∷ "AM" ∷ "CM" ∷ "BK" ∷ "CF" ∷ "ES" ∷ "FM" ∷ "MD" ∷ "NO" ∷ "LR"
    ∷ "RF" ∷ "DB" ∷ "SG" ∷ "BH" ∷ "HS" ∷ "MT" ∷ "DS" ∷ "RG" ∷ "CN" ∷ "NH" ∷ "FL" ∷ "MC" ∷ "LV" ∷ "TS" ∷ "OG" ∷ [])

-- the symbol of an element's number; 0, a missing element, has no letters
abbrev pub symbol : ℕ → List ℕ
symbol e = get_or ([] ∷ symbols) e []

-- "An atom name shorter than four starts in column 14, unless its element symbol has two letters; then, and at four bytes,
-- in column 13": the blanks before the name
abbrev pub indent : ℕ → ℕ → ℕ
indent name element = cond (ltb (length (text_of name)) 4 && not (eqb (length (symbol element)) 2)) 1 0

-- ---- lines

-- an atom with what it stands under
pub record AtomLine : Type 0 where
  pub chain : Chain
  pub residue : Residue
  pub conformer : Conformer
  pub atom : Atom

-- columns 1 to 16: the record's name, and the atom's serial number and name
unfoldable pub name_columns : Atom → List Column
name_columns a =
    at_left 6 (cond (eqb a.hetero 1) (bytes "HETATM") (bytes "ATOM"))
    ∷ at_right 5 (decimal a.serial)
    ∷ at_left 1 []
    ∷ at_left 4 (blanks (indent a.name a.element) ++ text_of a.name)
    ∷ []

-- columns 17 to 30: location, residue name, chain id, residue number and insertion code. "Residue names, numbers and element symbols,
-- these in capitals, stand at the right of their columns; what is absent is blank."
unfoldable pub place_columns : Chain → Residue → Conformer → List Column
place_columns c r f =
    at_left 1 (text_of f.location)
    ∷ at_right 3 (text_of f.name)
    ∷ at_left 1 []
    ∷ at_left 1 (text_of c.id)
    ∷ at_right 4 (signed (to_z w64 r.serial))
    ∷ at_left 1 (text_of r.code)
    ∷ at_left 3 []
    ∷ []

-- columns 31 to 76: "Coordinates go out to three decimals, occupancy and B-factor to two"
unfoldable pub value_columns : Atom → List Column
value_columns a =
    at_right 8 (fixed 3 a.x)
    ∷ at_right 8 (fixed 3 a.y)
    ∷ at_right 8 (fixed 3 a.z)
    ∷ at_right 6 (fixed 2 a.occupancy)
    ∷ at_right 6 (fixed 2 a.b_factor)
    ∷ at_left 10 []
    ∷ []

-- columns 77 to 80
unfoldable pub element_columns : Atom → List Column
element_columns a = at_right 2 (symbol a.element) ∷ at_left 2 (charge_text (to_z w64 a.charge)) ∷ []

-- "Columns follow the wwPDB format 3.3, ATOM and HETATM records"
unfoldable pub atom_columns : AtomLine → List Column
atom_columns l =
    name_columns l.atom ++ (place_columns l.chain l.residue l.conformer ++ (value_columns l.atom ++ element_columns l.atom))

-- wwPDB's MODEL record: the serial number in columns 11 to 14
unfoldable pub model_columns : Model → List Column
model_columns m = at_left 10 (bytes "MODEL") ∷ at_right 4 (decimal m.serial) ∷ at_left 66 [] ∷ []

abbrev pub end_columns : List Column
end_columns = at_left 80 (bytes "ENDMDL") ∷ []

-- a model with the lines of its atoms
pub record Entry : Type 0 where
  pub model : Model
  pub atoms : List AtomLine

-- "MODEL and ENDMDL around each model and nothing else"
unfoldable pub entry_lines : Entry → List (List Column)
entry_lines e = model_columns e.model ∷ (map atom_columns e.atoms ++ (end_columns ∷ []))

-- what a model has to write. A chain, a residue or a conformer without an atom has no line
unfoldable pub entry_of : Branch 4 → Entry
entry_of t =
    record {
      model = t.0;
      atoms = concat_map (λ c. concat_map (λ r. concat_map (λ f. map (λ a. record { chain = c.0; residue = r.0; conformer = f.0; atom = a }) f.1) r.1) c.1) t.1;
    }

abbrev pub lines_of : List Entry → List (List Column)
lines_of es = concat_map entry_lines es

-- no "field too wide for its columns, on a line that is written"
abbrev pub writable : List Entry → Bool
writable es = all (all fitting) (lines_of es)

abbrev pub text_of_entries : List Entry → List ℕ
text_of_entries es = concat_map line_of (lines_of es)

-- the text of a machine
abbrev pub machine_text : Machine → List ℕ
machine_text m = text_of_entries (map entry_of m)
