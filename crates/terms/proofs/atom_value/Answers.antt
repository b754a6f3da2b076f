-- `terms::atom_value` meets its contract: the atom is read out of the record at the place, or nothing is known. Assumes nothing.
use Rattle.std.proofs.Common.{refl, ◌∙◌}
use Rattle.terms.proofs.Terms.{cases, by_less, nothing}
use Rattle.terms.proofs.atom_value.Goals as goal

pub returns-in-BFactor : goal.returns-in-BFactor
returns-in-BFactor c others =
    let a = c.args in
    c.matches_float.ensures _ c.read_atom.ensures (by_less 2 (cases 15 4) a.t c.in-BFactor.in-BFactor-own.keys1 refl) (record { residues = others; atoms = a.atoms.now }) ∙ simp c.if-known.true

pub returns-in_default : goal.returns-in_default
returns-in_default c others = c.optional_matches_atom.ensures _ c.read_atom-in_default.ensures others ∙ simp c.if-known.true

pub returns-else-known : goal.returns-else-known
returns-else-known c others = nothing (record { residues = others; atoms = c.args.atoms.now }) c.args.t ∙ simp c.if-known.false
