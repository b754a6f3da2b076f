-- `terms::conformer_value` meets its contract: the words read are the record's, or nothing is known. Assumes nothing.
use Rattle.std.proofs.Common.{◌∙◌}
use Rattle.machine.specs.Record.{fields_of}
use Rattle.terms.proofs.Terms.{nothing}
use Rattle.terms.proofs.conformer_value.Goals as goal

pub returns-then-known : goal.returns-then-known
unfolding fields_of
returns-then-known c others = c.optional_matches_conformer.ensures others ∙ simp (c.word-location.ensures, c.word-name.ensures, c.if-known.true)

pub returns-else-known : goal.returns-else-known
returns-else-known c others = nothing (record { residues = c.args.residues.now; atoms = others }) c.args.t ∙ simp c.if-known.false
