-- What the contracts of `src/` cite: bytes and columns put into a line of 81 bytes, and an atom's line given by words. Assumes nothing.
use Rattle.std.specs.Prelude.{ℕ, ◌-◌, ◌^◌, min, ◌≡◌, true, ◌&&◌, List, [], ◌∷◌, ◌++◌, leb, ltb, length}
use Rattle.std.specs.Float.{binary64}
use Rattle.std.specs.Float.Ieee.{of_bits}
use Rattle.machine.specs.Lists.{all, sum, concat_map}
use Rattle.machine.specs.Record.{Atom, Words, fields_of, good_values}
use Rattle.machine.specs.Rounding.{in_units}
use Rattle.machine.specs.Program.{newline}
use Rattle.machine.specs.Lines.{Column, at_left, at_right, column_text, fitting, blanks, dash, pointed, AtomLine, name_columns, place_columns, element_columns}
use Rattle.laws.specs.Columns.{width}
use Rattle.moves.specs.Over.{over}
use Rattle.columns.specs.declared.Above.{Above}
use Rattle.columns.specs.declared.Decimal.{Decimal}
use Rattle.columns.specs.declared.Decimals.{Decimals}

-- t over s from `at` on
pub record Put (at : ℕ) (t s s' : List ℕ) : Type 0 where
  pub is : s' ≡ over at t s
  pub size : length s' ≡ 81

-- a line with the columns cs, which end at column `at`; then blanks and the newline
pub record Begun (at : ℕ) (cs : List Column) (s : List ℕ) : Type 0 where
  pub is : s ≡ concat_map column_text cs ++ (blanks (80 - at) ++ newline)
  pub wide : sum width cs ≡ at
  pub fits : all fitting cs ≡ true

-- columns put into a line, whatever stands before them
pub record Adds (at to : ℕ) (cs : List Column) (s s' : List ℕ) : Type 0 where
  pub size : length s' ≡ 81
  pub after : (ds : List Column) → Begun at ds s → Begun to (ds ++ cs) s'

-- an atom's line, given by what it stands under and by its twelve words
abbrev pub line_at : Above → Words → AtomLine
line_at u atom =
    record {
      chain = record { id = u.chain };
      residue = record { serial = u.serial; code = u.code };
      conformer = record { name = u.name; location = u.location };
      atom = fields_of 0 atom;
    }

abbrev pub place_of : Above → List Column
place_of u = place_columns (record { id = u.chain }) (record { serial = u.serial; code = u.code }) (record { name = u.name; location = u.location })

-- twelve words of an atom with good values
pub record GoodAtom (atom : Words) : Type 0 where
  pub size : length atom ≡ 12
  pub good : good_values (fields_of 0 atom) ≡ true

-- a decimal with d digits after the point
abbrev pub decimal_text : ℕ → Decimal → List ℕ
decimal_text d n = dash n.minus ++ pointed d n.size

-- an f64, given by its bits, as a decimal; more than any columns take is cut
abbrev pub decimal_of : ℕ → ℕ → Decimal
decimal_of unit b =
    let n = min (in_units unit (of_bits binary64 b)) 10000000 in
    record { minus = leb (2 ^ 63) b && ltb 0 n; size = n }

unfoldable pub decimals_of : Atom → Decimals
decimals_of a =
    record { x = decimal_of 1000 a.x; y = decimal_of 1000 a.y; z = decimal_of 1000 a.z; occupancy = decimal_of 100 a.occupancy; b_factor = decimal_of 100 a.b_factor }

-- columns 31 to 76
unfoldable pub decimal_columns : Decimals → List Column
decimal_columns ds =
    at_right 8 (decimal_text 3 ds.x)
    ∷ at_right 8 (decimal_text 3 ds.y)
    ∷ at_right 8 (decimal_text 3 ds.z)
    ∷ at_right 6 (decimal_text 2 ds.occupancy)
    ∷ at_right 6 (decimal_text 2 ds.b_factor)
    ∷ at_left 10 []
    ∷ []

-- an atom's line with these decimals
abbrev pub columns_at : Above → Words → Decimals → List Column
columns_at u w ds = name_columns (fields_of 0 w) ++ (place_of u ++ (decimal_columns ds ++ element_columns (fields_of 0 w)))
