-- `search::good_parameters` meets its contract: the codes of an arm have parameters of one sort. 9 and 10 are no keys in the compiled match.
-- Assumes nothing.
use Rattle.std.proofs.Common.{arith, refl, sym, ◌∙◌}
use Rattle.machine.specs.Query.{codes}
use Rattle.search.specs.Nodes.{good_node}
use Rattle.elements.proofs.Laws.{element-good}
use Rattle.search.proofs.Nodes.{no_parameters}
use Rattle.search.proofs.good_parameters.Goals.{in_default-via-then-code-lt1, in_default-via-else-code-lt1+else-code-lt11}
use Rattle.search.proofs.good_parameters.Goals as goal

pub returns-in-15 : goal.returns-in-15
unfolding good_node codes
returns-in-15 c = rw (c.is_some.ensures ∙ sym (element-good c.args.p _ c.from_number.ensures), c.in-15.is) refl

pub returns-in_default : goal.returns-in_default
returns-in_default c =
    let a = c.args in
    elim c.in_default.branch [
      | in_default-via-then-code-lt1 w ↦ absurd (omega arith)
      | in_default-via-else-code-lt1+else-code-lt11 w ↦ no_parameters a.code a.p a.q (grind (arith, c.in_default-1.rest)) c.requires.1
    ]
