-- PDB lines by computation, each telling a definition from a near miss: one table, one theorem. Assumes nothing.
use Rattle.std.specs.Prelude.{ℕ, ◌-◌, ◌^◌, ◌≡◌, refl, not, List, [], ◌∷◌, ◌++◌, map, replicate}
use Prim.Native.String.{String}
use Rattle.std.specs.Float.Ieee.{of_bits, of_fields, odd}
use Rattle.std.specs.Int.Count.{count_trailing_zeros}
use Rattle.machine.specs.Lists.{concat_map, filter, bytes}
use Rattle.machine.specs.Text.{packed, unpacked, without_zeros, text_of}
use Rattle.machine.specs.Record.{Words, words, fields_of, good_fields, good_record}
use Rattle.machine.specs.Store.{Machine, in_order, good_layout, sections, group, read_store}
use Rattle.machine.specs.Query.{packed_name}
use Rattle.machine.specs.Program.{digits, newline}
use Rattle.machine.specs.Rounding.{nearest_whole, in_units, rounded}
use Rattle.machine.specs.Write.{store_text, write_run}
use Rattle.machine.specs.Lines.{Column, column_text, fitting, line_of, last_digits, pointed, fixed, charge_text, AtomLine, name_columns, place_columns, value_columns, element_columns, atom_columns, model_columns, entry_lines, entry_of, machine_text}

pub record LineExample : Type 0 where
  pub given : List ℕ
  pub stated : List ℕ

abbrev example : List ℕ → List ℕ → LineExample
example given stated = record { given = given; stated = stated }

-- ---- atoms

-- -n in two's complement
abbrev minus : ℕ → ℕ
minus n = 2 ^ 64 - n

-- an atom's words from its name on, under a chain id, a residue's serial number and code, a conformer's name and location
abbrev under : String → ℕ → String → String → String → Words → AtomLine
under chain serial code name location atom =
    record {
      chain = record { id = packed_name chain };
      residue = record { serial = serial; code = packed_name code };
      conformer = record { name = packed_name name; location = packed_name location };
      atom = fields_of 0 atom;
    }

-- at 0.0625, -0.0625, 9999.999, with occupancy 0.125 and B-factor -0.0
abbrev zinc : AtomLine
zinc =
    under "A" (minus 7) "B" "ZN" ""
    (5 ∷ 12 ∷ packed_name "ZN" ∷ 0x3fb0_0000_0000_0000 ∷ 0xbfb0_0000_0000_0000 ∷ 0x40c3_87ff_df3b_645a ∷ 0x3fc0_0000_0000_0000 ∷ 0x8000_0000_0000_0000 ∷ 30 ∷ 2 ∷ 1 ∷ 0 ∷ [])

-- a name of four bytes, and every field that may be absent; at -1.5, 12.345, -0.0004, with occupancy 1 and B-factor 20
abbrev iron : AtomLine
iron =
    under "b" 1234 "C" "HEM" "D"
    (5 ∷ 99999 ∷ packed_name "FE12" ∷ 0xbff8_0000_0000_0000 ∷ 0x4028_b0a3_d70a_3d71 ∷ 0xbf3a_36e2_eb1c_432d ∷ 0x3ff0_0000_0000_0000 ∷ 0x4034_0000_0000_0000 ∷ 26 ∷ minus 3 ∷ 1 ∷ 0 ∷ [])

-- a name and an element; all else is least
abbrev named : String → ℕ → AtomLine
named name element = under "A" 1 "" "ALA" "" (5 ∷ 0 ∷ packed_name name ∷ 0 ∷ 0 ∷ 0 ∷ 0 ∷ 0 ∷ element ∷ 0 ∷ 0 ∷ 0 ∷ [])

-- coordinates x and occupancies o, and a charge
abbrev valued : ℕ → ℕ → ℕ → AtomLine
valued x o charge = under "A" 1 "" "A" "" (5 ∷ 0 ∷ 0 ∷ x ∷ x ∷ x ∷ o ∷ o ∷ 0 ∷ charge ∷ 0 ∷ 0 ∷ [])

-- a chain's id, a residue's serial number, a conformer's name and an atom's serial number and name
abbrev ids : String → ℕ → String → ℕ → String → AtomLine
ids chain residue conformer serial name = under chain residue "" conformer "" (5 ∷ serial ∷ packed_name name ∷ 0 ∷ 0 ∷ 0 ∷ 0 ∷ 0 ∷ 0 ∷ 0 ∷ 0 ∷ 0 ∷ [])

abbrev written : AtomLine → List ℕ
written l = line_of (atom_columns l)

-- the texts that are too wide for their columns
abbrev too_wide : List Column → List ℕ
too_wide cs = concat_map column_text (filter (λ c. not (fitting c)) cs)

abbrev line : String → List ℕ
line s = bytes s ++ newline

-- each of some f64s to d decimals, and a blank
abbrev decimals : ℕ → List ℕ → List ℕ
decimals d = concat_map (λ b. fixed d b ++ bytes " ")

-- ---- models

-- a model with an empty residue, an atom and an empty chain, and a model without chains
abbrev two_models : Machine
two_models =
    let atom = (named "N" 7).atom in
    let conformer = (named "N" 7).conformer in
    let chain = (named "N" 7).chain in
    let residue = (named "N" 7).residue in
    (record { serial = 1 }, (chain, (residue, []) ∷ (residue, (conformer, atom ∷ []) ∷ []) ∷ []) ∷ (chain, []) ∷ []) ∷ (record { serial = 9999 }, []) ∷ []

-- ---- the writer

-- a store with a model and no more
abbrev one_model : ℕ → List ℕ
one_model serial = 1 ∷ serial ∷ replicate 10 0 ++ (12 ∷ [])

-- the answer's numbers, then the output
abbrev wrote : List ℕ → List ℕ → List ℕ
wrote w out = (write_run w out).0 ++ (write_run w out).1

-- its text
abbrev model_seven : List ℕ
model_seven =
    line "MODEL        7                                                                  "
    ++ line "ENDMDL                                                                          "

-- ---- the table

unfoldable pub line_examples : List LineExample
line_examples =
    example (written zinc) (line "HETATM   12 ZN    ZN A  -7B      0.062  -0.0629999.999  0.12  0.00          ZN2+")
    ∷ example (written iron) (line "HETATM99999 FE12DHEM b1234C     -1.500  12.345   0.000  1.00 20.00          FE3-")
    -- halfway, at two decimals and at three: 0.125, 0.375, 0.625, -0.125, -0.375 and 0.0625, 0.1875, 0.3125, -0.0625, -0.1875
    ∷ example (decimals 2 (0x3fc0_0000_0000_0000 ∷ 0x3fd8_0000_0000_0000 ∷ 0x3fe4_0000_0000_0000 ∷ 0xbfc0_0000_0000_0000 ∷ 0xbfd8_0000_0000_0000 ∷ []))
    (bytes "0.12 0.38 0.62 -0.12 -0.38 ")
    ∷ example (decimals 3 (0x3fb0_0000_0000_0000 ∷ 0x3fc8_0000_0000_0000 ∷ 0x3fd4_0000_0000_0000 ∷ 0xbfb0_0000_0000_0000 ∷ 0xbfc8_0000_0000_0000 ∷ []))
    (bytes "0.062 0.188 0.312 -0.062 -0.188 ")
    -- not exactly halfway: the f64s next above 0.125 and below 0.375, and that of 0.015, which lies below it; that of 0.0025, which lies above
    ∷ example (decimals 2 (0x3fc0_0000_0000_0001 ∷ 0x3fd7_ffff_ffff_ffff ∷ 0x3f8e_b851_eb85_1eb8 ∷ [])) (bytes "0.13 0.37 0.01 ")
    ∷ example (decimals 3 (0x3f64_7ae1_47ae_147b ∷ [])) (bytes "0.003 ")
    -- other counts: 0.5, 1.5 and 2.5 as whole numbers, 0.25 and 0.75 in tenths, 0.03125 and 0.09375 to four decimals
    ∷ example (map (rounded 0) (0x3fe0_0000_0000_0000 ∷ 0x3ff8_0000_0000_0000 ∷ 0x4004_0000_0000_0000 ∷ [])) (0 ∷ 2 ∷ 2 ∷ [])
    ∷ example (map (rounded 1) (0x3fd0_0000_0000_0000 ∷ 0x3fe8_0000_0000_0000 ∷ [])) (2 ∷ 8 ∷ [])
    ∷ example (map (rounded 4) (0x3fa0_0000_0000_0000 ∷ 0x3fb8_0000_0000_0000 ∷ [])) (312 ∷ 938 ∷ [])
    -- a name's first column, by its length and its element's symbol
    ∷ example (written (named "N" 7)) (line "ATOM      0  N   ALA A   1       0.000   0.000   0.000  0.00  0.00           N  ")
    ∷ example (written (named "CA" 20)) (line "ATOM      0 CA   ALA A   1       0.000   0.000   0.000  0.00  0.00          CA  ")
    ∷ example (written (named "CA" 0)) (line "ATOM      0  CA  ALA A   1       0.000   0.000   0.000  0.00  0.00              ")
    ∷ example (written (named "HG11" 1)) (line "ATOM      0 HG11 ALA A   1       0.000   0.000   0.000  0.00  0.00           H  ")
    ∷ example (written (named "" 118)) (line "ATOM      0      ALA A   1       0.000   0.000   0.000  0.00  0.00          OG  ")
    -- MODEL and ENDMDL, around a model without atoms too; an empty residue and an empty chain have no line
    ∷ example (machine_text two_models)
    (line "MODEL        1                                                                  "
    ++ line "ATOM      0  N   ALA A   1       0.000   0.000   0.000  0.00  0.00           N  "
    ++ line "ENDMDL                                                                          "
    ++ line "MODEL     9999                                                                  "
    ++ line "ENDMDL                                                                          ")
    ∷ example (machine_text []) []
    -- what is too wide: the f64 of 9999.9995 lies below it, and 9999.9996 rounds up; a minus takes a column
    ∷ example (too_wide (atom_columns zinc) ++ too_wide (atom_columns iron)) []
    ∷ example (too_wide (atom_columns (valued 0x40c3_87ff_ef9d_b22d 0x408f_3ff0_0000_0000 9))) []
    ∷ example (too_wide (atom_columns (valued 0x40c3_87ff_f2e4_8e8a 0x408f_4000_0000_0000 10))) (bytes "10000.00010000.00010000.0001000.001000.0010+")
    ∷ example (too_wide (atom_columns (valued 0xc08f_3fff_2e48_e8a7 0xc059_0000_0000_0000 (minus 10)))) (bytes "-1000.000-1000.000-1000.000-100.00-100.0010-")
    ∷ example (too_wide (atom_columns (ids "A" 9999 "ALA" 99999 "CAAA"))) []
    ∷ example (too_wide (atom_columns (ids "AB" 10000 "ALAN" 100000 "CAAAA"))) (bytes "100000CAAAAALANAB10000")
    ∷ example (too_wide (atom_columns (ids "A" (minus 999) "ALA" 0 ""))) []
    ∷ example (too_wide (atom_columns (ids "A" (minus 1000) "ALA" 0 ""))) (bytes "-1000")
    ∷ example (too_wide (atom_columns (under "A" 1 "CD" "ALA" "EF" (5 ∷ [])))) (bytes "EFCD")
    ∷ example (too_wide (model_columns (record { serial = 10000 }))) (bytes "10000")
    -- the length of the text, and the bytes past it; 13 where one byte is missing, 12 before it, and the store's 1 and 2 before that
    ∷ example (wrote (one_model 7) (replicate 164 9)) (0 ∷ 162 ∷ model_seven ++ (9 ∷ 9 ∷ []))
    ∷ example (wrote (one_model 7) (replicate 161 9)) (13 ∷ 0 ∷ replicate 161 9)
    ∷ example (wrote (one_model 10000) (9 ∷ [])) (12 ∷ 0 ∷ 9 ∷ [])
    ∷ example (wrote (5 ∷ one_model 10000) (9 ∷ [])) (2 ∷ 0 ∷ 9 ∷ [])
    ∷ example (wrote [] (9 ∷ [])) (1 ∷ 0 ∷ 9 ∷ [])
    ∷ example (wrote (0 ∷ []) (9 ∷ [])) (0 ∷ 0 ∷ 9 ∷ [])
    ∷ []

pub lines-shown : map (λ (e : LineExample). e.given) line_examples ≡ map (λ (e : LineExample). e.stated) line_examples
unfolding line_examples in_order good_layout sections group read_store words good_fields good_record store_text write_run packed unpacked without_zeros text_of fields_of digits nearest_whole in_units last_digits pointed fixed charge_text name_columns place_columns value_columns element_columns atom_columns model_columns entry_lines entry_of of_bits of_fields odd count_trailing_zeros
lines-shown = refl
