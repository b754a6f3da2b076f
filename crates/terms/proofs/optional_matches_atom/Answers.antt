-- `terms::optional_matches_atom` meets its contract: each term of the level by its case, and the others are undecided. Assumes nothing.
use Rattle.std.proofs.Common.{refl, ◌++◌}
use Rattle.machine.specs.Record.{read_out}
use Rattle.machine.specs.Query.{term_value}
use Rattle.terms.proofs.Terms.{cases, by_less, by-more}
use borrow.Enum.Refused.{opened}
use Rattle.terms.proofs.optional_matches_atom.Goals as goal

pub returns-in-AtomSerialNumber : goal.returns-in-AtomSerialNumber
unfolding read_out term_value
returns-in-AtomSerialNumber c a e others = simp (c.decided.ensures, c.in-AtomSerialNumber.is, e)

pub returns-in-AtomSerialNumberRange : goal.returns-in-AtomSerialNumberRange
unfolding read_out term_value
returns-in-AtomSerialNumberRange c a e others = simp (c.decided-in-AtomSerialNumberRange.ensures, c.between.ensures, c.in-AtomSerialNumberRange.is, e)

pub returns-in-AtomName : goal.returns-in-AtomName
unfolding read_out term_value
returns-in-AtomName c a e others = simp (c.decided-in-AtomName.ensures, c.in-AtomName.is, e)

pub returns-in-Element : goal.returns-in-Element
unfolding read_out term_value
returns-in-Element c a e others = simp (c.element_is.ensures, c.in-Element.is, e)

pub returns-in-Backbone : goal.returns-in-Backbone
returns-in-Backbone c a e others = c.matches_hetero.ensures a e (by-more 3 (cases 19 3) c.args.t c.in-Backbone.in-Backbone-own.keys5 refl) others

pub returns-in_default : goal.returns-in_default
returns-in_default c a e others = c.matches_float.ensures a e (by_less 2 (cases 0 11 ++ cases 15 4) c.args.t (opened c.in_default.in_default-own.keys6) refl) _
