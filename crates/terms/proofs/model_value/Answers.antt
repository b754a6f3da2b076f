-- `terms::model_value` meets its contract: the word read is the record's, or nothing is known. Assumes nothing.
use Rattle.std.proofs.Common.{◌∙◌}
use Rattle.machine.specs.Record.{fields_of}
use Rattle.terms.proofs.Terms.{nothing}
use Rattle.terms.proofs.model_value.Goals as goal

pub returns-then-known : goal.returns-then-known
unfolding fields_of
returns-then-known c names = c.optional_matches_model.ensures names ∙ simp (c.word.ensures, c.if-known.true)

pub returns-else-known : goal.returns-else-known
returns-else-known c names = nothing names c.args.t ∙ simp c.if-known.false
