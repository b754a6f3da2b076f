-- PDB lines read, by computation, each telling a definition from a near miss: one table, one theorem. Assumes nothing.
use Rattle.std.specs.Prelude.{ℕ, ◌+◌, ◌-◌, ◌*◌, ◌^◌, ◌≡◌, refl, cond, List, [], ◌∷◌, ◌++◌, map, replicate}
use Prim.Native.String.{String}
use Rattle.std.specs.Float.Ieee.{of_bits, of_fields, odd, round, to_bits}
use Rattle.std.specs.Int.Count.{count_trailing_zeros}
use Rattle.machine.specs.Lists.{concat_map, bytes}
use Rattle.machine.specs.Query.{packed_name}
use Rattle.machine.specs.Text.{packed, unpacked, without_zeros, text_of, trim, trim_start, chain_id, uppercase_or, atom_name, stored_by}
use Rattle.machine.specs.Record.{words, fields_of, good_values, good_fields}
use Rattle.machine.specs.Store.{Branch, flat, laid, lay_out}
use Rattle.machine.specs.Edit.{branch_at, replace_at, add_model, prepare, upsert, add_prepared, machine_step}
use Rattle.machine.specs.Program.{digits, newline}
use Rattle.machine.specs.Rounding.{nearest_whole, in_units}
use Rattle.machine.specs.Lines.{last_digits, pointed, fixed, charge_text, name_columns, place_columns, value_columns, element_columns, atom_columns, model_columns, entry_lines}
use Rattle.machine.specs.LinesIn.{figures_from, signed_bits, decimal_bits, word, element_of, atom_in, model_in, lines_in, part_in, good_line, read_text}
use Rattle.machine.specs.Read.{addition_of, calls_from, run_calls, text_machine, read_run, distinct, tidy, tidy_machine}

pub record ReadExample : Type 0 where
  pub given : List ℕ
  pub stated : List ℕ

abbrev example : List ℕ → List ℕ → ReadExample
example given stated = record { given = given; stated = stated }

abbrev line : String → List ℕ
line s = bytes s ++ newline

-- ---- texts

abbrev model : List ℕ
model = line "MODEL        7                                                                  "

abbrev ends : List ℕ
ends = line "ENDMDL                                                                          "

-- a model of some lines
abbrev model_of : List (List ℕ) → List ℕ
model_of ls = model ++ (concat_map (λ (l : List ℕ). l) ls ++ ends)

abbrev zinc : List ℕ
zinc = line "HETATM   12 ZN    ZN A  -7B      0.062  -0.0629999.999  0.12  0.00          ZN2+"

-- residues 1 and 2 of chain A, and residue 1 of chain B
abbrev a1 : List ℕ
a1 = line "ATOM      1  N   ALA A   1       0.000   0.000   0.000  0.00  0.00           N  "

abbrev a2 : List ℕ
a2 = line "ATOM      1  N   ALA A   2       0.000   0.000   0.000  0.00  0.00           N  "

abbrev b1 : List ℕ
b1 = line "ATOM      1  N   ALA B   1       0.000   0.000   0.000  0.00  0.00           N  "

-- ---- the reader

-- words that are no store
abbrev old : ℕ → List ℕ
old n = replicate n 9

-- the answer's number, then the words
abbrev read : List ℕ → ℕ → List ℕ
read t n = (read_run t (old n)).0 ++ (read_run t (old n)).1

-- the numbers for some texts, each with a capacity that is enough
abbrev answers : List (List ℕ) → List ℕ
answers ts = concat_map (λ t. (read_run t (old 121)).0) ts

-- the numbers with a capacity of n records and of one less
abbrev around : List ℕ → ℕ → List ℕ
around t n = (read_run t (old (12 * n + 1))).0 ++ (read_run t (old (12 * n))).0

abbrev decimals : ℕ → List String → List ℕ
decimals d ts = map (λ t. decimal_bits d (bytes t)) ts

-- ---- structures

abbrev atoms : List (Branch 0)
atoms = fields_of 0 [] ∷ []

abbrev conformer : ℕ → List (Branch 0) → Branch 1
conformer location ts = (record { name = 1; location = location }, ts)

abbrev residue : ℕ → List (Branch 1) → Branch 2
residue code ts = (record { serial = 1; code = code }, ts)

abbrev chain : ℕ → List (Branch 2) → Branch 3
chain id ts = (record { id = id }, ts)

abbrev filled : List (Branch 2)
filled = residue 0 (conformer 0 atoms ∷ []) ∷ []

-- 1 for each that is tidy, in a model
abbrev tidied : List (List (Branch 3)) → List ℕ
tidied ms = map (λ ts. cond (tidy_machine ((record { serial = 1 }, ts) ∷ [])) 1 0) ms

-- ---- the table

unfoldable pub read_examples : List ReadExample
read_examples =
    -- the store is opened, and one record fits into thirteen words
    example (read [] 3) (0 ∷ 0 ∷ 0 ∷ 0 ∷ [])
    ∷ example (read (model_of []) 13) (0 ∷ 1 ∷ 7 ∷ replicate 10 0 ++ (12 ∷ []))
    -- 8 leaves the words; 17 comes before it, and 1 before both
    ∷ example (read (model_of []) 12) (8 ∷ old 12)
    ∷ example (read model 12) (17 ∷ old 12)
    ∷ example (read model 0) (1 ∷ [])
    -- every field of a line
    ∷ example (read (model_of (zinc ∷ [])) 61)
    (0
    ∷ (1 ∷ 7 ∷ replicate 10 0)
    ++ (2 ∷ packed_name "A" ∷ replicate 10 0)
    ++ (3 ∷ (2 ^ 64 - 7) ∷ packed_name "B" ∷ replicate 9 0)
    ++ (4 ∷ packed_name "ZN" ∷ replicate 10 0)
    ++ (5 ∷ 12 ∷ packed_name "ZN" ∷ 0x3faf_be76_c8b4_3958 ∷ 0xbfaf_be76_c8b4_3958 ∷ 0x40c3_87ff_df3b_645a ∷ 0x3fbe_b851_eb85_1eb8 ∷ 0 ∷ 30 ∷ 2 ∷ 1 ∷ 0 ∷ 60 ∷ []))
    -- decimals: the nearest f64, also of 0.3, which is not three times that of 0.1, and of the largest
    ∷ example (decimals 3 ("   0.001" ∷ " -12.345" ∷ "9999.999" ∷ "-999.999" ∷ "   0.300" ∷ [])) (0x3f50_624d_d2f1_a9fc ∷ 0xc028_b0a3_d70a_3d71 ∷ 0x40c3_87ff_df3b_645a ∷ 0xc08f_3ffd_f3b6_45a2 ∷ 0x3fd3_3333_3333_3333 ∷ [])
    ∷ example (decimals 2 ("  0.30" ∷ " -0.01" ∷ "999.99" ∷ [])) (0x3fd3_3333_3333_3333 ∷ 0xbf84_7ae1_47ae_147b ∷ 0x408f_3feb_851e_b852 ∷ [])
    -- equal ids merge, in whatever order they come; a model is another each time
    ∷ example (around (model_of (a1 ∷ a2 ∷ a1 ∷ [])) 9) (0 ∷ 8 ∷ [])
    ∷ example (around (model_of (a1 ∷ b1 ∷ a1 ∷ b1 ∷ [])) 11) (0 ∷ 8 ∷ [])
    ∷ example (around (model_of (a1 ∷ []) ++ model_of (a1 ∷ [])) 10) (0 ∷ 8 ∷ [])
    -- what the writer doesn't make
    -- a minus before zero
    ∷ example (answers (model_of (line "HETATM   12 ZN    ZN A  -7B      0.062  -0.0009999.999  0.12  0.00          ZN2+" ∷ []) ∷ [])) (17 ∷ [])
    -- a zero before a number, and a plus
    ∷ example (answers (model_of (line "HETATM   12 ZN    ZN A  -7B     00.062  -0.0629999.999  0.12  0.00          ZN2+" ∷ []) ∷ model_of (line "HETATM   12 ZN    ZN A  -7B     +0.062  -0.0629999.999  0.12  0.00          ZN2+" ∷ []) ∷ [])) (17 ∷ 17 ∷ [])
    -- a blank in a number
    ∷ example (answers (model_of (line "HETATM   12 ZN    ZN A  -7B     0. 062  -0.0629999.999  0.12  0.00          ZN2+" ∷ []) ∷ model_of (line "HETATM   12 ZN    ZN A- 7 B      0.062  -0.0629999.999  0.12  0.00          ZN2+" ∷ []) ∷ [])) (17 ∷ 17 ∷ [])
    -- two decimals, and four
    ∷ example (answers (model_of (line "HETATM   12 ZN    ZN A  -7B       0.06  -0.0629999.999  0.12  0.00          ZN2+" ∷ []) ∷ model_of (line "HETATM   12 ZN    ZN A  -7B     0.0625  -0.0629999.999  0.12  0.00          ZN2+" ∷ []) ∷ [])) (17 ∷ 17 ∷ [])
    -- a number at the left
    ∷ example (answers (model_of (line "HETATM12    ZN    ZN A  -7B      0.062  -0.0629999.999  0.12  0.00          ZN2+" ∷ []) ∷ [])) (17 ∷ [])
    -- no chain
    ∷ example (answers (model_of (line "HETATM   12 ZN    ZN    -7B      0.062  -0.0629999.999  0.12  0.00          ZN2+" ∷ []) ∷ [])) (17 ∷ [])
    -- lower case in a symbol, a residue name, a code and an atom name
    ∷ example (answers (model_of (line "HETATM   12 ZN    ZN A  -7B      0.062  -0.0629999.999  0.12  0.00          Zn2+" ∷ []) ∷ model_of (line "HETATM   12 ZN    zn A  -7B      0.062  -0.0629999.999  0.12  0.00          ZN2+" ∷ []) ∷ model_of (line "HETATM   12 ZN    ZN A  -7b      0.062  -0.0629999.999  0.12  0.00          ZN2+" ∷ []) ∷ model_of (line "HETATM   12 Zn    ZN A  -7B      0.062  -0.0629999.999  0.12  0.00          ZN2+" ∷ []) ∷ [])) (17 ∷ 17 ∷ 17 ∷ 17 ∷ [])
    -- a symbol and a name at the wrong column
    ∷ example (answers (model_of (line "HETATM   12 ZN    ZN A  -7B      0.062  -0.0629999.999  0.12  0.00          C 2+" ∷ []) ∷ model_of (line "HETATM   12  ZN   ZN A  -7B      0.062  -0.0629999.999  0.12  0.00          ZN2+" ∷ []) ∷ [])) (17 ∷ 17 ∷ [])
    -- a residue name at the left
    ∷ example (answers (model_of (line "HETATM   12 ZN   ZN  A  -7B      0.062  -0.0629999.999  0.12  0.00          ZN2+" ∷ []) ∷ [])) (17 ∷ [])
    -- a charge before its size, and one of 0
    ∷ example (answers (model_of (line "HETATM   12 ZN    ZN A  -7B      0.062  -0.0629999.999  0.12  0.00          ZN+2" ∷ []) ∷ model_of (line "HETATM   12 ZN    ZN A  -7B      0.062  -0.0629999.999  0.12  0.00          ZN0+" ∷ []) ∷ [])) (17 ∷ 17 ∷ [])
    -- a segment in columns 73 to 76
    ∷ example (answers (model_of (line "HETATM   12 ZN    ZN A  -7B      0.062  -0.0629999.999  0.12  0.00      SEGAZN2+" ∷ []) ∷ [])) (17 ∷ [])
    -- another record
    ∷ example (answers (model_of (line "ANISOU   12 ZN    ZN A  -7B      0.062  -0.0629999.999  0.12  0.00          ZN2+" ∷ []) ∷ [])) (17 ∷ [])
    -- lines of 79 and of 81 columns, a carriage return, no newline at the end
    ∷ example (answers (model_of ((bytes "HETATM   12 ZN    ZN A  -7B      0.062  -0.0629999.999  0.12  0.00          ZN2" ++ newline) ∷ []) ∷ model_of ((bytes "HETATM   12 ZN    ZN A  -7B      0.062  -0.0629999.999  0.12  0.00          ZN2+ " ++ newline) ∷ []) ∷ model_of ((bytes "HETATM   12 ZN    ZN A  -7B      0.062  -0.0629999.999  0.12  0.00          ZN2+" ++ (13 ∷ 10 ∷ [])) ∷ []) ∷ (model ++ bytes "ENDMDL                                                                          ") ∷ [])) (17 ∷ 17 ∷ 17 ∷ 17 ∷ [])
    -- a model in a model, one that isn't ended, one that is ended twice, an atom outside
    ∷ example (answers ((model ++ model_of []) ∷ (model ++ a1) ∷ (model_of [] ++ ends) ∷ (a1 ++ model_of []) ∷ (model_of [] ++ a1) ∷ [])) (17 ∷ 17 ∷ 17 ∷ 17 ∷ 17 ∷ [])
    -- no chain, two chains, two codes and two locations; what is empty; equal ids
    ∷ example
    (tidied
    ([]
    ∷ (chain 1 filled ∷ chain 2 filled ∷ [])
    ∷ (chain 1 (residue 0 (conformer 0 atoms ∷ []) ∷ residue 1 (conformer 0 atoms ∷ []) ∷ []) ∷ [])
    ∷ (chain 1 (residue 0 (conformer 0 atoms ∷ conformer 1 atoms ∷ []) ∷ []) ∷ [])
    ∷ []))
    (1 ∷ 1 ∷ 1 ∷ 1 ∷ [])
    ∷ example (tidied ((chain 1 [] ∷ []) ∷ (chain 1 (residue 0 [] ∷ []) ∷ []) ∷ (chain 1 (residue 0 (conformer 0 [] ∷ []) ∷ []) ∷ []) ∷ [])) (0 ∷ 0 ∷ 0 ∷ [])
    ∷ example
    (tidied
    ((chain 1 filled ∷ chain 2 filled ∷ chain 2 filled ∷ [])
    ∷ (chain 1 (filled ++ filled) ∷ [])
    ∷ (chain 1 (residue 0 (conformer 0 atoms ∷ conformer 0 atoms ∷ []) ∷ []) ∷ [])
    ∷ []))
    (0 ∷ 0 ∷ 0 ∷ [])
    ∷ []

pub reads-shown : map (λ (e : ReadExample). e.given) read_examples ≡ map (λ (e : ReadExample). e.stated) read_examples
unfolding read_examples packed unpacked without_zeros text_of trim trim_start chain_id uppercase_or atom_name stored_by words fields_of good_values good_fields flat laid lay_out branch_at replace_at add_model prepare upsert add_prepared machine_step digits nearest_whole in_units last_digits pointed fixed charge_text name_columns place_columns value_columns element_columns atom_columns model_columns entry_lines figures_from signed_bits decimal_bits word element_of atom_in model_in lines_in part_in good_line read_text addition_of calls_from run_calls text_machine read_run distinct tidy of_bits of_fields odd round to_bits count_trailing_zeros
reads-shown = refl
