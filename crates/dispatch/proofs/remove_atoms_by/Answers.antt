-- `dispatch::remove_atoms_by` meets its contract. Assumes nothing.
use Rattle.std.proofs.Common.{rules}
use Rattle.calls.specs.Format.{rows}
use Rattle.dispatch.proofs.Calls.{there}
use Rattle.dispatch.proofs.Parted.{tree-fits, tree-call}
use Rattle.dispatch.proofs.remove_atoms_by.Goals as goal

pub bounds-words-0 : goal.bounds-words-0
unfolding rows
bounds-words-0 c = search (rules, there)

pub slice_bounds-remove_atoms_by-count : goal.slice_bounds-remove_atoms_by-count
slice_bounds-remove_atoms_by-count c = search (rules, tree-fits)

pub slice_bounds-remove_atoms_by-start : goal.slice_bounds-remove_atoms_by-start
slice_bounds-remove_atoms_by-start c = search (rules, tree-fits)

pub returns : goal.returns
returns c = search (rules, tree-call)
