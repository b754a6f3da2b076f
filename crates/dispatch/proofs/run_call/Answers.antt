-- `dispatch::run_call` meets its contract. Assumes nothing.
use Rattle.std.proofs.Common.{rules, arith}
use Rattle.dispatch.proofs.Texts.{read}
use Rattle.dispatch.proofs.Calls.{at_code, of_code, codes-none, codes-join, codes-last}
use Rattle.dispatch.proofs.run_call.Goals.{in_default-via-then-code-lt3, in_default-via-else-code-lt3+else-code-lt7}
use Rattle.dispatch.proofs.run_call.Goals as goal

pub add_model-requires : goal.add_model-requires
add_model-requires c = search (rules, at_code)

pub remove_chain_by_id-requires : goal.remove_chain_by_id-requires
remove_chain_by_id-requires c = search (rules, at_code)

pub remove_residue_by_id-requires : goal.remove_residue_by_id-requires
remove_residue_by_id-requires c = search (rules, at_code)

pub remove_conformer_by_id-requires : goal.remove_conformer_by_id-requires
remove_conformer_by_id-requires c = search (rules, at_code)

pub remove_atom_by_serial_number-requires : goal.remove_atom_by_serial_number-requires
remove_atom_by_serial_number-requires c = search (rules, at_code)

pub remove_atoms_by-requires : goal.remove_atoms_by-requires
remove_atoms_by-requires c = search (rules, at_code)

pub remove_empty-requires : goal.remove_empty-requires
remove_empty-requires c = search (rules, at_code)

pub set_element-requires : goal.set_element-requires
set_element-requires c = search (rules, at_code)

pub join-requires-clause-code_range : goal.join-requires-clause-code_range
join-requires-clause-code_range c =
    let code = c.args.code in
    let known = read code c.args.words.now c.requires.reads_call in
    let later = c.in_default-1.rest in
    let none = later.0 in (
      elim c.in_default.branch [
        | in_default-via-then-code-lt3 w ↦ absurd (codes-none code known.low (omega arith) none.0.0.0.0.0.0.1 c.requires.no_addition)
        | in_default-via-else-code-lt3+else-code-lt7 w ↦ codes-join code (omega arith) none.0.0.0.0.0.1 none.0.0.0.0.1 none.0.0.0.1 none.0.0.1 none.0.1 none.1
      ],
      codes-last code known.high later.1,
    )

pub returns-in-1 : goal.returns-in-1
returns-in-1 c = search (rules, of_code)

pub returns-in-7 : goal.returns-in-7
returns-in-7 c = search (rules, of_code)

pub returns-in-8 : goal.returns-in-8
returns-in-8 c = search (rules, of_code)

pub returns-in-9 : goal.returns-in-9
returns-in-9 c = search (rules, of_code)

pub returns-in-10 : goal.returns-in-10
returns-in-10 c = search (rules, of_code)

pub returns-in-11 : goal.returns-in-11
returns-in-11 c = search (rules, of_code)

pub returns-in-12 : goal.returns-in-12
returns-in-12 c = search (rules, of_code)

pub returns-in-17 : goal.returns-in-17
returns-in-17 c = search (rules, of_code)

pub returns-in-3-to-6 : goal.returns-in-3-to-6
returns-in-3-to-6 c = search (rules, of_code)

pub returns-in_default : goal.returns-in_default
returns-in_default c = search (rules, of_code)
