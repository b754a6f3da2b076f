-- Small examples beside document 01's ten cases, each telling a definition from a near miss: one table, one theorem.
-- Assumes nothing.
use Rattle.std.specs.Prelude.{ℕ, ◌*◌, ◌≡◌, refl, Bool, cond, List, [], ◌∷◌, ◌++◌, map, length, replicate, Err, Ok}
use Prim.Native.String.{String}
use Rattle.std.specs.Float.{binary64}
use Rattle.std.specs.Float.Ieee.{of_bits, sub, lt}
use Rattle.machine.specs.Lists.{bytes, concat_map}
use Rattle.machine.specs.Answer.{Result, refusal_number}
use Rattle.machine.specs.Text.{packed, pack, unpacked, without_zeros, text_of, trim_start, trim, chain_id, uppercase_or, atom_name, alternative_location, insertion_code, Optional, matches, matches_optional, stored_by, packed_text, before}
use Rattle.machine.specs.Classes.{class_of_fields, class_of, class_of_value, finite_class}
use Rattle.machine.specs.Record.{Words, words, fields_of, finite, good_values, good_fields, good_record, read_out}
use Rattle.machine.specs.Store.{flat, atom_count, laid, lay_out, in_order, good_layout, sections, group, read_store, open_run}
use Rattle.machine.specs.Query.{codes, node_of, nodes_of, run, leaves_one, read_tree, tree_value, term_value, window, tables, packed_name}
use Rattle.machine.specs.Find.{enter, nowhere, numbered, atoms_in, atoms_under, hits_from, find_run, find_from}
use Rattle.machine.specs.Edit.{addition, Call, AddModel, AddAtom, RemoveChain, RemoveAtom, RemoveChainById, RemoveResidueById, RemoveConformerById, RemoveAtomBySerialNumber, RemoveAtomsBy, RemoveEmpty, JoinModels, JoinResidues, SetElement, branch_at, replace_at, add_model, prepare, upsert, add_prepared, remove_at, remove_first, keep_atoms, remove_atoms_by, non_empty, remove_empty, join_at, set_at, machine_step, step_by, store_step, store_after, store_answers}
use Rattle.machine.specs.Lookup.{serials, lookup_in, lookup_run}
use Rattle.machine.specs.Program.{read_input, digits, printed, program_run}
use Rattle.machine.specs.Cases.{record12, store, six, S, renamed, node, element7, found, absent, present, atom, zeros, atom_record, file, eight_bytes, Case}
use Rattle.machine.specs.declared.FloatClass.{FloatClass}
use Rattle.machine.specs.declared.FloatClass.TheVariants.{Zero, Subnormal, Normal, Infinite, NotANumber}
use Rattle.machine.specs.declared.Tri.{Tri}
use Rattle.machine.specs.declared.Tri.TheVariants.{False, True, Undecided}
use Rattle.machine.specs.declared.Prepared.{Prepared}
use Rattle.machine.specs.declared.Prepared.TheVariants.{Stored, Absent, Bad}

-- what a rule makes of a text: 0 and the word, 1 absent, 2 bad
abbrev ruled : Prepared → List ℕ
ruled (Stored w) = 0 ∷ w ∷ []
ruled Absent = 1 ∷ []
ruled Bad = 2 ∷ []

abbrev bit : Bool → List ℕ
bit b = cond b 1 0 ∷ []

-- the five classes in the request's order, from 1
abbrev place : FloatClass → ℕ
place Zero = 1
place Subnormal = 2
place Normal = 3
place Infinite = 4
place NotANumber = 5

-- a pattern's class by its fields and by its value; whether that class is finite, and whether the pattern is
abbrev classes : ℕ → List ℕ
classes b = place (class_of b) ∷ place (class_of_value (of_bits binary64 b)) ∷ bit (finite_class (class_of b)) ++ bit (finite b)

-- the refusal of a tree, or of a program's input; 0 for none
abbrev refusal_of : {A : Type 0} → Result A → List ℕ
refusal_of (Ok x) = 0 ∷ []
refusal_of (Err r) = refusal_number r ∷ []

-- the answers to some calls on S
abbrev on_s : List Call → List (List ℕ)
on_s calls = store_answers S calls

abbrev lines : List (List ℕ) → List ℕ
lines ls = concat_map (λ (l : List ℕ). l) ls

-- ---- stores

-- chain X is empty; three atoms have serial 5, the third in the next residue, at location B; serial 6 is in the second model
unfoldable pub serial_store : List ℕ
serial_store =
    store 181
    (record12 (1 ∷ 1 ∷ [])
    ∷ record12 (2 ∷ packed_name "X" ∷ [])
    ∷ record12 (2 ∷ packed_name "A" ∷ [])
    ∷ record12 (3 ∷ 7 ∷ [])
    ∷ record12 (4 ∷ packed_name "ALA" ∷ [])
    ∷ atom_record 5
    ∷ atom_record 5
    ∷ record12 (3 ∷ 8 ∷ [])
    ∷ record12 (4 ∷ packed_name "ALA" ∷ packed_name "B" ∷ [])
    ∷ atom_record 5
    ∷ record12 (1 ∷ 2 ∷ [])
    ∷ record12 (2 ∷ packed_name "A" ∷ [])
    ∷ record12 (3 ∷ 7 ∷ [])
    ∷ record12 (4 ∷ packed_name "ALA" ∷ [])
    ∷ atom_record 6
    ∷ [])

-- two models with a chain A each, and then those chains in one model
abbrev two_models : List ℕ
two_models = store 61 (record12 (1 ∷ 1 ∷ []) ∷ record12 (2 ∷ packed_name "A" ∷ []) ∷ record12 (1 ∷ 2 ∷ []) ∷ record12 (2 ∷ packed_name "A" ∷ []) ∷ [])

abbrev two_chains : List ℕ
two_chains = store 61 (record12 (1 ∷ 1 ∷ []) ∷ record12 (2 ∷ packed_name "A" ∷ []) ∷ record12 (2 ∷ packed_name "A" ∷ []) ∷ [])

-- two residues 7A, as a store that was lent may have them, the second with two equal conformers: the atoms of each
abbrev twins : List Words → List Words → List ℕ
twins first second =
    store 133
    (record12 (1 ∷ 1 ∷ [])
    ∷ record12 (2 ∷ packed_name "A" ∷ [])
    ∷ record12 (3 ∷ 7 ∷ packed_name "A" ∷ [])
    ∷ record12 (4 ∷ packed_name "ALA" ∷ [])
    ∷ atom_record 1
    ∷ record12 (3 ∷ 7 ∷ packed_name "A" ∷ [])
    ∷ record12 (4 ∷ packed_name "ALA" ∷ [])
    ∷ first
    ++ (record12 (4 ∷ packed_name "ALA" ∷ []) ∷ second))

-- residue 7 with one conformer, at this location, and two atoms
abbrev one_conformer : ℕ → List ℕ
one_conformer location =
    store 97
    (record12 (1 ∷ 1 ∷ [])
    ∷ record12 (2 ∷ packed_name "A" ∷ [])
    ∷ record12 (3 ∷ 7 ∷ [])
    ∷ record12 (4 ∷ packed_name "ALA" ∷ location ∷ [])
    ∷ atom_record 1
    ∷ atom_record 2
    ∷ [])

-- two atoms at these locations
abbrev two_locations : Optional → Optional → List ℕ
two_locations first second = store_after (zeros 97) (AddModel 1 ∷ AddAtom 0 (atom 1 absent first) ∷ AddAtom 0 (atom 2 absent second) ∷ [])

abbrev one_model : List ℕ
one_model = store 73 (record12 (1 ∷ 1 ∷ []) ∷ [])

-- one atom `XX` with these words from its element on
abbrev one_atom : List ℕ → List ℕ
one_atom words =
    store 61
    (record12 (1 ∷ 1 ∷ [])
    ∷ record12 (2 ∷ packed_name "A" ∷ [])
    ∷ record12 (3 ∷ 7 ∷ [])
    ∷ record12 (4 ∷ packed_name "ALA" ∷ [])
    ∷ record12 (5 ∷ 1 ∷ packed_name "XX" ∷ 0 ∷ 0 ∷ 0 ∷ 0 ∷ 0 ∷ words)
    ∷ [])

-- a soaked residue: atoms `N` and `XX`, 4 and 5, and the same as hetero atoms, 6 and 7, in one conformer of this name
abbrev pub soaked : String → List ℕ
soaked conformer =
    store 97
    (six (packed_name conformer)
    ++ (record12 (5 ∷ 1 ∷ packed_name "N" ∷ 0 ∷ 0 ∷ 0 ∷ 0 ∷ 0 ∷ 7 ∷ 0 ∷ 1 ∷ [])
    ∷ record12 (5 ∷ 1 ∷ packed_name "XX" ∷ 0 ∷ 0 ∷ 0 ∷ 0 ∷ 0 ∷ 0 ∷ 0 ∷ 1 ∷ [])
    ∷ []))

-- ---- searches from lower down

-- the answer from a start, with room for n hits, and the words of the hits
abbrev from : ℕ → List ℕ → List ℕ → List ℕ → List ℕ
from n w start t = let r = find_from w start t (replicate (5 * n) 8) in r.0 ++ r.1

abbrev known : List ℕ
known = node 28 0 0

-- ---- Backbone and SideChain

abbrev backbone : List ℕ
backbone = node 20 0 0

abbrev side_chain : List ℕ
side_chain = node 21 0 0

-- 0 false, 1 true, 2 undecided
abbrev said : Tri → ℕ
said False = 0
said True = 1
said Undecided = 2

-- what the two say at a conformer of this name, before an atom of it is known
abbrev at_conformer : String → List ℕ
at_conformer name =
    let v = term_value tables (enter 1 (record { name = packed_name name; location = 0 }) nowhere) in
    said (tree_value v backbone) ∷ said (tree_value v side_chain) ∷ []

-- ---- names

abbrev bad_flag : Optional
bad_flag = record { flag = 2; text = [] }

abbrev over_eight : Optional
over_eight = present "ABCDEFGHI"

-- the answer to an atom with these names and this element, in a model that has no room for it
abbrev named : List ℕ → Optional → List ℕ → Optional → List ℕ → ℕ → List ℕ
named chain code conformer location name element =
    lines
    (store_answers (store 13 (record12 (1 ∷ []) ∷ []))
    (AddAtom 0
    (addition chain 7 code conformer location name
    (record { serial = 1; x = 0; y = 0; z = 0; occupancy = 0; b_factor = 0; element = element; charge = 0; hetero = 0 }))
    ∷ []))

-- ---- the table

abbrev example : List ℕ → List ℕ → Case
example given stated = record { number = 0; given = given; stated = stated }

unfoldable pub examples : List Case
examples =
    -- identifiers: blanks, the last byte allowed, eight bytes, case
    example (ruled (chain_id (bytes "\t a b \n"))) (0 ∷ packed_name "a b" ∷ [])
    ∷ example (ruled (chain_id (14 ∷ []))) (2 ∷ [])
    ∷ example (ruled (chain_id (127 ∷ []))) (2 ∷ [])
    ∷ example (ruled (chain_id (126 ∷ []))) (0 ∷ packed_name "~" ∷ [])
    ∷ example (ruled (chain_id (bytes "  "))) (2 ∷ [])
    ∷ example (ruled (chain_id (bytes "ABCDEFGHI"))) (2 ∷ [])
    ∷ example (ruled (insertion_code (bytes " a "))) (0 ∷ packed_name "A" ∷ [])
    ∷ example (ruled (insertion_code (bytes "\ta"))) (2 ∷ [])
    ∷ example (ruled (alternative_location (bytes " "))) (1 ∷ [])
    ∷ example (ruled (alternative_location (bytes "\ta"))) (1 ∷ [])
    ∷ example (ruled (alternative_location (bytes "ABCDEFGHI"))) (2 ∷ [])
    ∷ example (ruled (atom_name (bytes "\tca "))) (0 ∷ packed_name "CA" ∷ [])
    ∷ example (ruled (atom_name [])) (0 ∷ 0 ∷ [])
    -- texts as given: untrimmed, unraised, no padding, an empty one nothing
    ∷ example (bit (matches (bytes "A") (packed_name "A"))) (1 ∷ [])
    ∷ example (bit (matches (bytes " A") (packed_name "A"))) (0 ∷ [])
    ∷ example (bit (matches (bytes "a") (packed_name "A"))) (0 ∷ [])
    ∷ example (bit (matches (65 ∷ 0 ∷ []) (packed_name "A"))) (0 ∷ [])
    ∷ example (bit (matches_optional (present "") 0)) (0 ∷ [])
    ∷ example (bit (matches_optional absent 0)) (1 ∷ [])
    -- the order of `str`: the first byte that differs decides, and a prefix comes first
    ∷ example (bit (before (bytes "AZ") (bytes "BA"))) (1 ∷ [])
    ∷ example (bit (before (bytes "BA") (bytes "AZ"))) (0 ∷ [])
    ∷ example (bit (before (bytes "A") (bytes "AB"))) (1 ∷ [])
    ∷ example (bit (before (bytes "AB") (bytes "A"))) (0 ∷ [])
    -- floats: zero, with either sign
    ∷ example (classes 0x0000_0000_0000_0000) (1 ∷ 1 ∷ 1 ∷ 1 ∷ [])
    ∷ example (classes 0x8000_0000_0000_0000) (1 ∷ 1 ∷ 1 ∷ 1 ∷ [])
    -- the least subnormal number and the greatest
    ∷ example (classes 0x0000_0000_0000_0001) (2 ∷ 2 ∷ 1 ∷ 1 ∷ [])
    ∷ example (classes 0x000f_ffff_ffff_ffff) (2 ∷ 2 ∷ 1 ∷ 1 ∷ [])
    ∷ example (classes 0x8000_0000_0000_0001) (2 ∷ 2 ∷ 1 ∷ 1 ∷ [])
    ∷ example (classes 0x800f_ffff_ffff_ffff) (2 ∷ 2 ∷ 1 ∷ 1 ∷ [])
    -- the least normal number, 1 and the greatest
    ∷ example (classes 0x0010_0000_0000_0000) (3 ∷ 3 ∷ 1 ∷ 1 ∷ [])
    ∷ example (classes 0x8010_0000_0000_0000) (3 ∷ 3 ∷ 1 ∷ 1 ∷ [])
    ∷ example (classes 0x3ff0_0000_0000_0000) (3 ∷ 3 ∷ 1 ∷ 1 ∷ [])
    ∷ example (classes 0x7fef_ffff_ffff_ffff) (3 ∷ 3 ∷ 1 ∷ 1 ∷ [])
    ∷ example (classes 0xffef_ffff_ffff_ffff) (3 ∷ 3 ∷ 1 ∷ 1 ∷ [])
    -- the infinities
    ∷ example (classes 0x7ff0_0000_0000_0000) (4 ∷ 4 ∷ 0 ∷ 0 ∷ [])
    ∷ example (classes 0xfff0_0000_0000_0000) (4 ∷ 4 ∷ 0 ∷ 0 ∷ [])
    -- not a number, from the first pattern to the last
    ∷ example (classes 0x7ff0_0000_0000_0001) (5 ∷ 5 ∷ 0 ∷ 0 ∷ [])
    ∷ example (classes 0x7ff8_0000_0000_0000) (5 ∷ 5 ∷ 0 ∷ 0 ∷ [])
    ∷ example (classes 0xfff0_0000_0000_0001) (5 ∷ 5 ∷ 0 ∷ 0 ∷ [])
    ∷ example (classes 0xffff_ffff_ffff_ffff) (5 ∷ 5 ∷ 0 ∷ 0 ∷ [])
    -- the store: the length, the end, the gap, the kinds, words not named
    ∷ example ((open_run (replicate 3 9)).0 ++ (open_run (replicate 3 9)).1) (0 ∷ 0 ∷ 0 ∷ 0 ∷ [])
    ∷ example (refusal_of (read_store [])) (1 ∷ [])
    ∷ example (refusal_of (read_store (0 ∷ []))) (0 ∷ [])
    ∷ example (refusal_of (read_store (zeros 12 ++ (12 ∷ [])))) (2 ∷ [])
    ∷ example (refusal_of (read_store (zeros 5 ++ (12 ∷ [])))) (2 ∷ [])
    ∷ example (refusal_of (read_store (zeros 5 ++ (6 ∷ [])))) (2 ∷ [])
    ∷ example (refusal_of (read_store (1 ∷ 0 ∷ []))) (2 ∷ [])
    ∷ example (refusal_of (read_store (store 25 (record12 (1 ∷ []) ∷ record12 (3 ∷ []) ∷ [])))) (2 ∷ [])
    ∷ example (refusal_of (read_store (store 25 (record12 (1 ∷ 0 ∷ 1 ∷ []) ∷ [])))) (2 ∷ [])
    ∷ example (refusal_of (read_store (store 25 (record12 (1 ∷ []) ∷ record12 (1 ∷ []) ∷ [])))) (0 ∷ [])
    -- trees: length 3, nodes 4, shape 3
    ∷ example (refusal_of (read_tree [])) (3 ∷ [])
    ∷ example (refusal_of (read_tree (28 ∷ 0 ∷ []))) (3 ∷ [])
    ∷ example (refusal_of (read_tree (node 29 0 0))) (4 ∷ [])
    ∷ example (refusal_of (read_tree (node 0 0 0))) (4 ∷ [])
    ∷ example (refusal_of (read_tree (node 28 0 1))) (4 ∷ [])
    ∷ example (refusal_of (read_tree (node 15 119 0))) (4 ∷ [])
    ∷ example (refusal_of (read_tree (node 3 (pack (65 ∷ 0 ∷ 65 ∷ [])) 0))) (4 ∷ [])
    ∷ example (refusal_of (read_tree (node 28 0 0 ++ node 0 0 0))) (4 ∷ [])
    ∷ example (refusal_of (read_tree (node 28 0 0 ++ node 28 0 0))) (3 ∷ [])
    ∷ example (refusal_of (read_tree (node 26 0 0 ++ node 28 0 0))) (3 ∷ [])
    ∷ example (refusal_of (read_tree (node 28 0 0 ++ node 23 0 0 ++ node 28 0 0 ++ node 28 0 0))) (3 ∷ [])
    -- a residue's serial number is equal or not
    ∷ example (found S (node 5 7 0)) (4 ∷ 5 ∷ [])
    ∷ example (found S (node 5 6 0) ++ found S (node 5 8 0)) []
    -- Kleene's tables: an undecided side stays open under Or with false, and under And with true
    ∷ example (found S (element7 ++ node 27 0 0 ++ node 24 0 0)) (4 ∷ 5 ∷ [])
    ∷ example (found S (element7 ++ node 28 0 0 ++ node 23 0 0 ++ node 26 0 0)) (5 ∷ [])
    -- find: an output too short stays, and one that fits exactly is enough
    ∷ example (lines ((find_run S element7 (replicate 9 8)).0 ∷ (find_run S element7 (replicate 9 8)).1 ∷ [])) (10 ∷ 0 ∷ replicate 9 8)
    ∷ example (find_run S element7 (replicate 10 8)).0 (0 ∷ 2 ∷ [])
    -- from lower down: what stands under the start, by all five numbers; its own terms and those above exclude nothing
    ∷ example (from 3 serial_store (0 ∷ []) (node 1 2 0)) (0 ∷ 3 ∷ 0 ∷ 2 ∷ 3 ∷ 4 ∷ 5 ∷ 0 ∷ 2 ∷ 3 ∷ 4 ∷ 6 ∷ 0 ∷ 2 ∷ 7 ∷ 8 ∷ 9 ∷ [])
    ∷ example (from 3 serial_store (0 ∷ 1 ∷ []) (node 3 (packed_name "X") 0)) (0 ∷ 3 ∷ 0 ∷ 2 ∷ 3 ∷ 4 ∷ 5 ∷ 0 ∷ 2 ∷ 3 ∷ 4 ∷ 6 ∷ 0 ∷ 2 ∷ 7 ∷ 8 ∷ 9 ∷ [])
    ∷ example (from 1 serial_store (1 ∷ 0 ∷ 0 ∷ []) (node 5 8 0)) (0 ∷ 1 ∷ 10 ∷ 11 ∷ 12 ∷ 13 ∷ 14 ∷ [])
    -- those below it are decided
    ∷ example (from 1 serial_store (0 ∷ 1 ∷ []) (node 5 8 0)) (0 ∷ 1 ∷ 0 ∷ 2 ∷ 7 ∷ 8 ∷ 9 ∷ [])
    ∷ example (from 1 S (0 ∷ 0 ∷ 0 ∷ []) (node 9 (packed_name "HOH") 0)) (0 ∷ 0 ∷ replicate 5 8)
    -- from a conformer Backbone and SideChain go by the atom alone, from a residue by the conformer's name too
    ∷ example (from 1 renamed (0 ∷ 0 ∷ 0 ∷ 0 ∷ []) backbone) (0 ∷ 1 ∷ 0 ∷ 1 ∷ 2 ∷ 3 ∷ 4 ∷ [])
    ∷ example (from 1 renamed (0 ∷ 0 ∷ 0 ∷ 0 ∷ []) side_chain) (0 ∷ 1 ∷ 0 ∷ 1 ∷ 2 ∷ 3 ∷ 5 ∷ [])
    ∷ example (from 1 renamed (0 ∷ 0 ∷ 0 ∷ []) backbone) (0 ∷ 0 ∷ replicate 5 8)
    -- hetero goes first: on a hetero atom both are false, beside others of its conformer, so both their opposites have it
    ∷ example (found (soaked "GLY") backbone ++ found (soaked "GLY") side_chain ++ found (soaked "GLY") (node 22 0 0)) (4 ∷ 5 ∷ 6 ∷ 7 ∷ [])
    ∷ example (found (soaked "GLY") (backbone ++ node 26 0 0) ++ found (soaked "GLY") (side_chain ++ node 26 0 0)) (5 ∷ 6 ∷ 7 ∷ 4 ∷ 6 ∷ 7 ∷ [])
    -- under any name from a conformer, and in tree removals
    ∷ example (from 1 (soaked "HOH") (0 ∷ 0 ∷ 0 ∷ 0 ∷ []) backbone ++ from 1 (soaked "HOH") (0 ∷ 0 ∷ 0 ∷ 0 ∷ []) side_chain) (0 ∷ 1 ∷ 0 ∷ 1 ∷ 2 ∷ 3 ∷ 4 ∷ 0 ∷ 1 ∷ 0 ∷ 1 ∷ 2 ∷ 3 ∷ 5 ∷ [])
    ∷ example (lines (store_answers (soaked "HOH") (RemoveAtomsBy 0 backbone ∷ RemoveAtomsBy 0 side_chain ∷ []))) (0 ∷ 1 ∷ 1 ∷ 0 ∷ 1 ∷ 1 ∷ [])
    ∷ example (found (store_after (soaked "GLY") (RemoveAtomsBy 0 backbone ∷ RemoveAtomsBy 0 side_chain ∷ [])) (node 22 0 0)) (4 ∷ 5 ∷ [])
    -- "The term then settles at the atom wherever the conformer has such a name", and is false at any other
    ∷ example (at_conformer "GLY" ++ at_conformer "HOH") (2 ∷ 2 ∷ 0 ∷ 0 ∷ [])
    -- a start without atoms lists nothing; 2 comes before 5, 5 before 3, and 3 before 10
    ∷ example (from 1 serial_store (0 ∷ 0 ∷ []) known) (0 ∷ 0 ∷ replicate 5 8)
    ∷ example (from 1 (zeros 12 ++ (12 ∷ [])) (0 ∷ []) known) (2 ∷ 0 ∷ replicate 5 8)
    ∷ example (from 1 serial_store (0 ∷ 2 ∷ []) []) (5 ∷ 0 ∷ replicate 5 8)
    ∷ example (from 1 S (0 ∷ 0 ∷ 0 ∷ 0 ∷ 0 ∷ []) known) (5 ∷ 0 ∷ replicate 5 8)
    ∷ example (from 0 S (0 ∷ 0 ∷ []) []) (3 ∷ 0 ∷ [])
    ∷ example (from 1 S (0 ∷ 0 ∷ []) known) (10 ∷ 0 ∷ replicate 5 8)
    -- edits: what is removed, a list that goes on after a refusal, found 0, undecided atoms stay
    ∷ example (lines (on_s (RemoveChain 0 0 ∷ RemoveChain 0 0 ∷ []))) (0 ∷ 1 ∷ 2 ∷ 5 ∷ 0 ∷ 0 ∷ [])
    ∷ example (lines (on_s (RemoveChain 0 1 ∷ RemoveChain 0 0 ∷ []))) (5 ∷ 0 ∷ 0 ∷ 0 ∷ 1 ∷ 2 ∷ [])
    ∷ example (store_after S (RemoveChain 0 1 ∷ RemoveChain 0 0 ∷ [])) one_model
    ∷ example (lines (on_s (RemoveChainById 0 (bytes "a") ∷ RemoveChainById 0 (bytes "A") ∷ []))) (0 ∷ 0 ∷ 0 ∷ 0 ∷ 1 ∷ 2 ∷ [])
    ∷ example (lines (on_s (RemoveAtomBySerialNumber 0 0 0 0 0 ∷ []))) (0 ∷ 1 ∷ 1 ∷ [])
    ∷ example (lines (on_s (RemoveResidueById 0 0 7 bad_flag ∷ RemoveResidueById 0 9 7 bad_flag ∷ []))) (14 ∷ 0 ∷ 0 ∷ 5 ∷ 0 ∷ 0 ∷ [])
    ∷ example (lines (on_s (RemoveConformerById 0 0 0 (bytes "ALA") bad_flag ∷ RemoveConformerById 0 0 9 [] bad_flag ∷ []))) (15 ∷ 0 ∷ 0 ∷ 5 ∷ 0 ∷ 0 ∷ [])
    ∷ example (lines (on_s (RemoveConformerById 0 0 0 (bytes "ALA") (present " ") ∷ RemoveConformerById 0 0 0 (bytes "ALA") absent ∷ []))) (0 ∷ 0 ∷ 0 ∷ 0 ∷ 1 ∷ 2 ∷ [])
    ∷ example (lines (on_s (RemoveAtomsBy 0 element7 ∷ RemoveAtomsBy 0 (node 3 (packed_name "A") 0) ∷ RemoveAtomsBy 0 [] ∷ []))) (0 ∷ 1 ∷ 1 ∷ 0 ∷ 1 ∷ 0 ∷ 3 ∷ 0 ∷ 0 ∷ [])
    ∷ example (store_after S (RemoveAtom 0 0 0 0 1 ∷ RemoveAtom 0 0 0 0 0 ∷ RemoveEmpty 0 ∷ [])) one_model
    -- a code is prepared, then looked for: the last residue, the first conformer
    ∷ example (store_after (twins (atom_record 2 ∷ []) (atom_record 3 ∷ [])) (AddAtom 0 (atom 4 (present " a") absent) ∷ [])) (twins (atom_record 2 ∷ atom_record 4 ∷ []) (atom_record 3 ∷ []))
    -- so is a location; a bad or blank one looks for an absent one
    ∷ example (two_locations (present "b") (present " B")) (one_conformer (packed_name "B"))
    ∷ example (two_locations absent (present " ")) (one_conformer 0)
    ∷ example (two_locations absent (present "\t")) (one_conformer 0)
    -- "Removals by id still take ids as given."
    ∷ example (lines (store_answers (twins [] []) (RemoveResidueById 0 0 7 (present " A") ∷ RemoveResidueById 0 0 7 (present "a") ∷ RemoveResidueById 0 0 7 (present "A") ∷ []))) (0 ∷ 0 ∷ 0 ∷ 0 ∷ 0 ∷ 0 ∷ 0 ∷ 1 ∷ 1 ∷ [])
    -- which name was bad: each row has one bad name less, then a bad value, then no room
    ∷ example (named [] bad_flag [] bad_flag (127 ∷ []) 119) (6 ∷ 0 ∷ 0 ∷ [])
    ∷ example (named (bytes "A") bad_flag [] bad_flag (127 ∷ []) 119) (14 ∷ 0 ∷ 0 ∷ [])
    ∷ example (named (bytes "A") over_eight [] bad_flag (127 ∷ []) 119) (14 ∷ 0 ∷ 0 ∷ [])
    ∷ example (named (bytes "A") absent [] bad_flag (127 ∷ []) 119) (15 ∷ 0 ∷ 0 ∷ [])
    ∷ example (named (bytes "A") absent (bytes "ALA") bad_flag (127 ∷ []) 119) (15 ∷ 0 ∷ 0 ∷ [])
    ∷ example (named (bytes "A") absent (bytes "ALA") over_eight (127 ∷ []) 119) (15 ∷ 0 ∷ 0 ∷ [])
    ∷ example (named (bytes "A") absent (bytes "ALA") (present "\t") (127 ∷ []) 119) (16 ∷ 0 ∷ 0 ∷ [])
    ∷ example (named (bytes "A") absent (bytes "ALA") absent (bytes "N") 119) (7 ∷ 0 ∷ 0 ∷ [])
    ∷ example (named (bytes "A") absent (bytes "ALA") absent (bytes "N") 118) (8 ∷ 0 ∷ 0 ∷ [])
    -- joins: nothing is merged; 5 comes before 9
    ∷ example (store_after two_models (JoinModels 0 1 ∷ [])) two_chains
    ∷ example (lines (on_s (JoinResidues 0 0 0 0 0 0 ∷ JoinResidues 0 0 1 0 0 1 ∷ []))) (9 ∷ 0 ∷ 0 ∷ 5 ∷ 0 ∷ 0 ∷ [])
    -- an element is set where it is missing, and no word beside it; where there is one, it stays, and found is 0
    ∷ example (store_after (one_atom (0 ∷ 3 ∷ 1 ∷ [])) (SetElement 0 0 0 0 0 8 ∷ [])) (one_atom (8 ∷ 3 ∷ 1 ∷ []))
    ∷ example (store_after (one_atom (8 ∷ 3 ∷ 1 ∷ [])) (SetElement 0 0 0 0 0 7 ∷ [])) (one_atom (8 ∷ 3 ∷ 1 ∷ []))
    ∷ example (lines (on_s (SetElement 0 0 0 0 1 118 ∷ SetElement 0 0 0 0 1 118 ∷ SetElement 0 0 0 0 0 1 ∷ []))) (0 ∷ 1 ∷ 0 ∷ 0 ∷ 0 ∷ 0 ∷ 0 ∷ 0 ∷ 0 ∷ [])
    -- outside 1 to 118 it gives 7, where there is one too, and after 5
    ∷ example (lines (on_s (SetElement 0 0 0 0 1 0 ∷ SetElement 0 0 0 0 1 119 ∷ SetElement 0 0 0 0 0 119 ∷ SetElement 0 0 0 0 2 119 ∷ []))) (7 ∷ 0 ∷ 0 ∷ 7 ∷ 0 ∷ 0 ∷ 7 ∷ 0 ∷ 0 ∷ 5 ∷ 0 ∷ 0 ∷ [])
    -- a list of hits then loses the atom, or stays
    ∷ example (found (store_after S (SetElement 0 0 0 0 1 8 ∷ [])) element7) (4 ∷ [])
    ∷ example (found (store_after S (SetElement 0 0 0 0 1 7 ∷ [])) element7) (4 ∷ 5 ∷ [])
    -- lookup: the first of equal serials, past an empty chain; no going back; the first model alone
    ∷ example (lookup_run serial_store 5 absent) (0 ∷ 1 ∷ 0 ∷ 2 ∷ 3 ∷ 4 ∷ 5 ∷ [])
    ∷ example (lookup_run serial_store 5 (present "B")) (replicate 7 0)
    ∷ example (lookup_run serial_store 6 absent) (replicate 7 0)
    ∷ example (lookup_run (zeros 13) 5 absent) (replicate 7 0)
    ∷ example (lookup_run (zeros 13) 5 bad_flag) (15 ∷ replicate 6 0)
    -- the program: a start equal to the last index is taken, one above it isn't
    ∷ example (program_run []) (bytes "refused 11\n")
    ∷ example (program_run (zeros 9)) (bytes "refused 11\n")
    ∷ example (program_run (zeros 8)) (bytes "refused 1\n")
    ∷ example (program_run (file (0 ∷ []) [])) (bytes "refused 3\n")
    ∷ example (program_run (concat_map eight_bytes (0 ∷ 2 ∷ []))) (bytes "refused 11\n")
    ∷ []

pub shown : map (λ (c : Case). c.given) examples ≡ map (λ (c : Case). c.stated) examples
unfolding examples serial_store S renamed packed unpacked without_zeros text_of trim_start trim chain_id uppercase_or atom_name matches stored_by packed_text words fields_of good_values good_fields good_record read_out flat atom_count laid lay_out in_order good_layout sections group read_store open_run codes node_of nodes_of run leaves_one read_tree tree_value term_value tables window enter atoms_in atoms_under hits_from find_from branch_at replace_at add_model prepare upsert add_prepared remove_at remove_first keep_atoms remove_atoms_by non_empty remove_empty join_at set_at machine_step step_by store_step store_after store_answers numbered serials lookup_in lookup_run read_input digits printed program_run of_bits sub lt class_of_fields class_of class_of_value before
shown = refl

-- "over 65,536 bytes": the next multiple of 8 is refused
pub over-long : (bs : List ℕ) → length bs ≡ 65544 → program_run bs ≡ bytes "refused 11\n"
unfolding program_run read_input printed digits
over-long bs e = rw e
