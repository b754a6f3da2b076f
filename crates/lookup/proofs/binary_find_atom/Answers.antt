-- `lookup::binary_find_atom` meets its contract, by what `first_in` ensures on each level. Assumes nothing.
use Rattle.std.proofs.Common.{rules}
use Rattle.lookup.proofs.Laws.{bad-flag, no-model, after_first, chains, no-chain, residues, no-residue, conformers, no-conformer, atoms, no-atom, found}
use Rattle.lookup.proofs.binary_find_atom.Goals as goal

pub returns-then-flag-gt1 : goal.returns-then-flag-gt1
returns-then-flag-gt1 c = search (rules, bad-flag)

pub returns-then-count-eq0 : goal.returns-then-count-eq0
returns-then-count-eq0 c = search (rules, no-model)

pub end_of-end-requires : goal.end_of-end-requires
end_of-end-requires c = search (rules, after_first)

pub first_in-requires : goal.first_in-requires
first_in-requires c = search (rules, chains)

pub returns-in_default : goal.returns-in_default
returns-in_default c = search (rules, no-chain)

pub first_in-requires-2 : goal.first_in-requires-2
first_in-requires-2 c = search (rules, residues)

pub returns-in_default-first_in : goal.returns-in_default-first_in
returns-in_default-first_in c = search (rules, no-residue)

pub first_in-requires-3 : goal.first_in-requires-3
first_in-requires-3 c = search (rules, conformers)

pub returns-in_default-first_in-2 : goal.returns-in_default-first_in-2
returns-in_default-first_in-2 c = search (rules, no-conformer)

pub first_in-requires-4 : goal.first_in-requires-4
first_in-requires-4 c = search (rules, atoms)

pub returns-in_default-first_in-3 : goal.returns-in_default-first_in-3
returns-in_default-first_in-3 c =
    no-atom _ _ _ _
    (search rules)
    c.requires
    _ c.record_count-count.ensures
    (search rules)
    _ c.end_of-end.ensures
    _ c.first_in.ensures _ _ c.in-Some.is
    _ c.first_in-2.ensures _ _ c.in-Some-first_in.is
    _ c.first_in-3.ensures _ _ c.in-Some-first_in-2.is
    _ c.first_in-4.ensures (search rules)

pub returns : goal.returns
returns c =
    found _ _ _ _
    (search rules)
    c.requires
    _ c.record_count-count.ensures
    (search rules)
    _ c.end_of-end.ensures
    _ c.first_in.ensures _ _ c.in-Some.is
    _ c.first_in-2.ensures _ _ c.in-Some-first_in.is
    _ c.first_in-3.ensures _ _ c.in-Some-first_in-2.is
    _ c.first_in-4.ensures _ _ c.in-Some-first_in-3.is
