-- Document 01, "Worked cases, proved": one table of the definitions, one theorem. Assumes nothing.
use Rattle.std.specs.Prelude.{ℕ, ◌-◌, ◌/◌, ◌%◌, ◌^◌, ◌≡◌, refl, List, [], ◌∷◌, ◌++◌, map, length, get_or, replicate, Err, Ok}
use Prim.Native.String.{String}
use Rattle.std.specs.Float.Ieee.{of_bits, sub, lt}
use Rattle.machine.specs.Lists.{concat_map, bytes}
use Rattle.machine.specs.Answer.{Result, refusal_number}
use Rattle.machine.specs.Text.{packed, unpacked, without_zeros, text_of, trim_start, trim, chain_id, uppercase_or, atom_name, matches, stored_by, packed_text, Optional}
use Rattle.machine.specs.Record.{Words, words, fields_of, good_values, good_fields, good_record, read_out}
use Rattle.machine.specs.Store.{Machine, stored, flat, atom_count, laid, lay_out, in_order, good_layout, sections, group, read_store}
use Rattle.machine.specs.Query.{codes, node_of, nodes_of, run, leaves_one, read_tree, tree_value, drop_sign, close, term_value, window, tables, packed_name}
use Rattle.machine.specs.Find.{enter, atoms_in, atoms_of, atoms_under, hits_of, hits_from, find_run, find_from}
use Rattle.machine.specs.Edit.{Addition, addition, Call, AddModel, AddAtom, branch_at, replace_at, add_model, prepare, upsert, add_prepared, machine_step, step_by, store_step, store_after, store_answers}
use Rattle.machine.specs.Program.{read_input, digits, printed, program_run}
use Rattle.machine.specs.Demand.{undecided}

-- ---- stores

-- "record words not given are 0"
abbrev pub record12 : List ℕ → Words
record12 ws = ws ++ replicate (12 - length ws) 0

-- the words of some records, zeros up to n words, and the trailer
abbrev pub store : ℕ → List Words → List ℕ
store n rs = laid n (concat_map (λ (r : Words). r) rs)

abbrev pub six : ℕ → List Words
six conformer =
    record12 (1 ∷ 1 ∷ [])
    ∷ record12 (2 ∷ packed_name "A" ∷ [])
    ∷ record12 (3 ∷ 7 ∷ [])
    ∷ record12 (4 ∷ conformer ∷ [])
    ∷ record12 (5 ∷ 0 ∷ packed_name "N" ∷ 0 ∷ 0 ∷ 0 ∷ 0 ∷ 0 ∷ 7 ∷ [])
    ∷ record12 (5 ∷ 0 ∷ packed_name "XX" ∷ [])
    ∷ []

-- "Store S, 73 words"
unfoldable pub S : List ℕ
S = store 73 (six (packed_name "ALA"))

-- "Conformer renamed HOH"
unfoldable pub renamed : List ℕ
renamed = store 73 (six (packed_name "HOH"))

-- a store with one atom of a given B-factor
unfoldable pub with_bfactor : ℕ → List ℕ
with_bfactor b =
    store 61
    (record12 (1 ∷ [])
    ∷ record12 (2 ∷ packed_name "A" ∷ [])
    ∷ record12 (3 ∷ [])
    ∷ record12 (4 ∷ packed_name "ALA" ∷ [])
    ∷ record12 (5 ∷ 0 ∷ 0 ∷ 0 ∷ 0 ∷ 0 ∷ 0 ∷ b ∷ [])
    ∷ [])

-- ---- trees

abbrev pub node : ℕ → ℕ → ℕ → List ℕ
node c p q = c ∷ p ∷ q ∷ []

abbrev pub element7 : List ℕ
element7 = node 15 7 0

abbrev pub not_element7 : List ℕ
not_element7 = element7 ++ node 26 0 0

abbrev pub b_factor_node : ℕ → List ℕ
b_factor_node b = node 16 b 0

-- the atoms found, by their record numbers; or the refusal
abbrev pub atoms : Result (List (List ℕ)) → List ℕ
atoms (Ok hs) = map (λ (h : List ℕ). get_or h 4 0) hs
atoms (Err r) = bytes "refused" ++ (refusal_number r ∷ [])

abbrev pub found : List ℕ → List ℕ → List ℕ
found w t = atoms (hits_of w t)

-- a count of the machine that a store's words hold
abbrev pub counted : Result Machine → (Machine → ℕ) → ℕ
counted (Ok m) count = count m
counted (Err r) count = 0

abbrev pub held : List ℕ → (Machine → ℕ) → ℕ
held w count = counted (read_store w) count

-- ---- edits

abbrev pub absent : Optional
absent = record { flag = 0; text = [] }

abbrev pub present : String → Optional
present t = record { flag = 1; text = bytes t }

-- an atom under chain A, residue 7, conformer ALA
abbrev pub atom : ℕ → Optional → Optional → Addition
atom serial code location =
    addition (bytes "A") 7 code (bytes "ALA") location (bytes "N")
    (record { serial = serial; x = 0; y = 0; z = 0; occupancy = 0; b_factor = 0; element = 7; charge = 0; hetero = 0 })

abbrev pub zeros : ℕ → List ℕ
zeros n = replicate n 0

-- "Atom added to one empty model"
abbrev pub one_atom : List Call
one_atom = AddModel 1 ∷ AddAtom 0 (atom 1 absent absent) ∷ []

-- "Code `a` added twice", "then `A`"
abbrev pub three_atoms : List Call
three_atoms = AddModel 1 ∷ AddAtom 0 (atom 1 (present "a") absent) ∷ AddAtom 0 (atom 2 (present "a") absent) ∷ AddAtom 0 (atom 3 (present "A") absent) ∷ []

abbrev pub atom_record : ℕ → Words
atom_record serial = record12 (5 ∷ serial ∷ packed_name "N" ∷ 0 ∷ 0 ∷ 0 ∷ 0 ∷ 0 ∷ 7 ∷ [])

-- change request §3: "Case 10 becomes one residue for all three atoms"
abbrev pub one_residue : List Words
one_residue =
    record12 (1 ∷ 1 ∷ [])
    ∷ record12 (2 ∷ packed_name "A" ∷ [])
    ∷ record12 (3 ∷ 7 ∷ packed_name "A" ∷ [])
    ∷ record12 (4 ∷ packed_name "ALA" ∷ [])
    ∷ atom_record 1
    ∷ atom_record 2
    ∷ atom_record 3
    ∷ []

-- ---- the program's input

abbrev pub eight_bytes : ℕ → List ℕ
eight_bytes w = map (λ i. w / 256 ^ i % 256) (0 ∷ 1 ∷ 2 ∷ 3 ∷ 4 ∷ 5 ∷ 6 ∷ 7 ∷ [])

abbrev pub file : List ℕ → List ℕ → List ℕ
file w t = concat_map eight_bytes (w ++ t ++ (length w ∷ []))

-- ---- the table

-- a case's number, what the definitions give, and what document 01 states
pub record Case : Type 0 where
  pub number : ℕ
  pub given : List ℕ
  pub stated : List ℕ

abbrev case : ℕ → List ℕ → List ℕ → Case
case n given stated = record { number = n; given = given; stated = stated }

unfoldable pub cases : List Case
cases =
    case 1 (found S element7) (4 ∷ 5 ∷ [])
    ∷ case 1 (find_run S element7 (replicate 11 9)).1 (0 ∷ 1 ∷ 2 ∷ 3 ∷ 4 ∷ 0 ∷ 1 ∷ 2 ∷ 3 ∷ 5 ∷ 9 ∷ [])
    ∷ case 2 (found S not_element7) (5 ∷ [])
    ∷ case 2 (length (found S element7) ∷ length (found S not_element7) ∷ held S stored ∷ held S (λ m. undecided tables 1 element7 (atoms_of m)) ∷ []) (2 ∷ 1 ∷ 2 ∷ 1 ∷ [])
    ∷ case 2 (program_run (file S not_element7)) (bytes "0 1 2 3 5\nfound 1\n")
    ∷ case 3 (found S (node 14 (packed_name "N") 0 ++ element7 ++ node 23 0 0)) (4 ∷ [])
    ∷ case 4 (found S (element7 ++ element7 ++ node 25 0 0)) (5 ∷ [])
    ∷ case 5 (found S (node 20 0 0)) (4 ∷ [])
    ∷ case 5 (found S (node 21 0 0)) (5 ∷ [])
    ∷ case 6 (found renamed (node 20 0 0)) []
    ∷ case 6 (found renamed (node 21 0 0)) []
    ∷ case 7 (found (with_bfactor 0x3fe0_0000_0000_0000) (b_factor_node 0x3fe0_0000_0000_0001)) (4 ∷ [])
    ∷ case 7 (found (with_bfactor 0x3ff0_0000_0000_0000) (b_factor_node 0x3ff0_0000_0000_0001)) []
    ∷ case 8 (found (with_bfactor 0x3cb0_0000_0000_0000) (b_factor_node 0x3370_0000_0000_0000)) []
    ∷ case 9 (concat_map (λ (a : List ℕ). a) (store_answers (zeros 61) one_atom)) (0 ∷ 1 ∷ 0 ∷ 0 ∷ 1 ∷ 0 ∷ [])
    ∷ case 9 (concat_map (λ (a : List ℕ). a) (store_answers (zeros 60) one_atom)) (0 ∷ 1 ∷ 0 ∷ 8 ∷ 0 ∷ 0 ∷ [])
    ∷ case 10 (store_after (zeros 121) three_atoms) (store 121 one_residue)
    ∷ []

pub worked : map (λ (c : Case). c.given) cases ≡ map (λ (c : Case). c.stated) cases
unfolding cases S renamed with_bfactor packed unpacked without_zeros text_of trim_start trim chain_id uppercase_or atom_name matches stored_by packed_text words fields_of good_values good_fields good_record read_out flat atom_count laid lay_out in_order good_layout sections group read_store codes node_of nodes_of run leaves_one read_tree tree_value drop_sign close term_value tables window enter atoms_in atoms_of atoms_under hits_from find_from branch_at replace_at add_model prepare upsert add_prepared machine_step step_by store_step store_after store_answers read_input digits printed program_run undecided of_bits sub lt
worked = refl
