-- Document 01's worked cases 1 to 8 and 10, four searches from lower down and a soaked residue, asked of the crate's transcribed `find` and edits: one table,
-- one theorem.
-- Assumes nothing.
use Rattle.std.specs.Prelude.{Err, None, Ok, Option, Some, option_map}
use Rattle.std.proofs.Common.{◌≡◌, ℕ, Bool, List, [], ◌∷◌, ◌++◌, map, get_or, refl}
use mathlib.Core.Bool.{xor}
use lib.Ieee.{of_bits, sub, lt}
use Rattle.machine.specs.Answer.{Result}
use Rattle.machine.specs.Text.{packed, unpacked, without_zeros, text_of, trim_start, trim, chain_id, uppercase_or, atom_name, stored_by, packed_text}
use Rattle.machine.specs.Record.{words, fields_of, good_values, good_fields, good_record}
use Rattle.machine.specs.Store.{Machine, flat, laid, lay_out, in_order, good_layout, sections, group, read_store}
use Rattle.machine.specs.Query.{packed_name, codes, node_of, nodes_of, run, leaves_one, read_tree}
use Rattle.machine.specs.Find.{hit_words}
use Rattle.machine.specs.Cases.{store, S, renamed, with_bfactor, node, element7, not_element7, b_factor_node, three_atoms, one_residue}
use Rattle.machine.specs.Examples.{soaked}
use Rattle.machine.specs.declared.Term.{Term}
use Rattle.pdbtbx.specs.Std.{abs, within_epsilon, at, on_current}
use Rattle.pdbtbx.specs.Structs.{PDB, prepare_identifier, prepare_identifier_uppercase}
use Rattle.pdbtbx.specs.Words.{says_of, struct_of, pdb_of, fields_from, branch_from, machine_from}
use Rattle.pdbtbx.specs.Search.{Search, complete, simplify, add_info}
use Rattle.pdbtbx.specs.Matches.{AMINO-ACIDS, BACKBONE-NAMES, optional_matches, matches_at}
use Rattle.pdbtbx.specs.Find.{find, find_under, count_of, item, find_at}
use Rattle.pdbtbx.specs.Edits.{atom_new, conformer_new, residue_new, chain_new, residue_add_atom, chain_add_atom, model_add_atom, add_atom, add_model}
use Rattle.pdbtbx.specs.Calls.{push, build, search_of, given, search_for, edit, edits}

-- the structure that a store's words hold
abbrev held : Result Machine → PDB
held (Ok m) = pdb_of m
held (Err r) = []

-- the words of the crate's hits from a start
abbrev found_from : List ℕ → List ℕ → List ℕ → Option (List ℕ)
found_from w start t = option_map hit_words (find_at start (search_for t) (held (read_store w)))

-- the atoms that the crate finds for a search in the whole structure, by their record numbers
abbrev atoms_for : List ℕ → Search Term → Option (List ℕ)
atoms_for w s = option_map (map (λ (h : List ℕ). get_or h 4 0)) (find_at [] s (held (read_store w)))

abbrev found : List ℕ → List ℕ → Option (List ℕ)
found w t = atoms_for w (search_for t)

-- the words of what the crate's edits leave
abbrev left : ℕ → Option (List Bool × PDB) → Option (List ℕ)
left n o = option_map (λ (q : List Bool × PDB). lay_out n (machine_from q.1)) o

-- in the order of document 01: what the crate gives, and what the document states; then change request §4: a chain's own id excludes no atom of it, a model's chains
-- are told apart by theirs, from a conformer Backbone goes by the atom's name alone, and a position that isn't there; then change request §8: the crate's own Backbone
-- claims a hetero atom of a soaked residue, and with And Not Hetero it doesn't
pub worked : found S element7 ∷ found S not_element7 ∷ found S (node 14 (packed_name "N") 0 ++ element7 ++ node 23 0 0) ∷ found S (element7 ++ element7 ++ node 25 0 0) ∷ found S (node 20 0 0)
    ∷ found S (node 21 0 0) ∷ found renamed (node 20 0 0) ∷ found renamed (node 21 0 0) ∷ found (with_bfactor 0x3fe0_0000_0000_0000) (b_factor_node 0x3fe0_0000_0000_0001)
    ∷ found (with_bfactor 0x3ff0_0000_0000_0000) (b_factor_node 0x3ff0_0000_0000_0001) ∷ found (with_bfactor 0x3cb0_0000_0000_0000) (b_factor_node 0x3370_0000_0000_0000) ∷ left 121 (edits three_atoms [])
    ∷ found_from S (0 ∷ 0 ∷ []) (node 3 (packed_name "B") 0) ∷ found_from S (0 ∷ []) (node 3 (packed_name "B") 0) ∷ found_from renamed (0 ∷ 0 ∷ 0 ∷ 0 ∷ []) (node 20 0 0) ∷ found_from S (0 ∷ 1 ∷ []) element7 ∷ atoms_for (soaked "GLY") (search_of (node 20 0 0)) ∷ found (soaked "GLY") (node 20 0 0) ∷ []
    ≡ Some (4 ∷ 5 ∷ []) ∷ Some (5 ∷ []) ∷ Some (4 ∷ []) ∷ Some (5 ∷ []) ∷ Some (4 ∷ []) ∷ Some (5 ∷ []) ∷ Some [] ∷ Some [] ∷ Some (4 ∷ []) ∷ Some [] ∷ Some [] ∷ Some (store 121 one_residue)
    ∷ Some (0 ∷ 1 ∷ 2 ∷ 3 ∷ 4 ∷ 0 ∷ 1 ∷ 2 ∷ 3 ∷ 5 ∷ []) ∷ Some [] ∷ Some (0 ∷ 1 ∷ 2 ∷ 3 ∷ 4 ∷ []) ∷ None ∷ Some (4 ∷ 6 ∷ []) ∷ Some (4 ∷ []) ∷ []
unfolding S renamed with_bfactor packed unpacked without_zeros text_of trim_start trim chain_id uppercase_or atom_name stored_by packed_text words fields_of good_values good_fields good_record flat laid lay_out in_order good_layout sections group read_store codes node_of nodes_of run leaves_one read_tree of_bits sub lt abs within_epsilon at on_current prepare_identifier prepare_identifier_uppercase says_of struct_of fields_from branch_from complete simplify add_info AMINO-ACIDS BACKBONE-NAMES optional_matches matches_at find find_under count_of item atom_new conformer_new residue_new chain_new residue_add_atom chain_add_atom model_add_atom add_atom add_model push build search_of given edit edits xor
worked = refl
