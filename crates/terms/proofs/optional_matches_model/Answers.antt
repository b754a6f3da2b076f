-- `terms::optional_matches_model` meets its contract: each term of the level by its case, and the others are undecided. Assumes nothing.
use Rattle.std.specs.Prelude.{Some}
use Rattle.std.proofs.Common.{refl}
use Rattle.machine.specs.Query.{window, term_value}
use Rattle.terms.specs.Levels.{at_model}
use Rattle.terms.proofs.Terms.{cases, elsewhere}
use borrow.Enum.Refused.{opened}
use Rattle.terms.proofs.optional_matches_model.Goals as goal

pub returns-in-ModelSerialNumber : goal.returns-in-ModelSerialNumber
unfolding term_value
returns-in-ModelSerialNumber c names = simp (c.decided.ensures, c.in-ModelSerialNumber.is)

pub returns-in-ModelSerialNumberRange : goal.returns-in-ModelSerialNumberRange
unfolding term_value
returns-in-ModelSerialNumberRange c names = simp (c.decided-in-ModelSerialNumberRange.ensures, c.between.ensures, c.in-ModelSerialNumberRange.is)

pub returns-in_default : goal.returns-in_default
unfolding window
returns-in_default c names = elsewhere names 1 (at_model (Some (record { serial = c.args.serial }))) (cases 2 20) c.args.t refl (opened c.in_default.in_default-own.keys3)
