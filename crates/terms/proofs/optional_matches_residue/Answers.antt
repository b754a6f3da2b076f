-- `terms::optional_matches_residue` meets its contract: each term of the level by its case, and the others are undecided. Assumes nothing.
use Rattle.std.specs.Prelude.{Some}
use Rattle.std.proofs.Common.{refl, rules, to_z-of_z, w64, ◌++◌, ◌∙◌}
use Rattle.machine.specs.Query.{window, term_value}
use Rattle.terms.specs.Levels.{at_residue}
use Rattle.terms.proofs.Terms.{cases, elsewhere}
use borrow.Enum.Refused.{opened}
use Rattle.terms.proofs.optional_matches_residue.Goals as goal

pub returns-in-ResidueSerialNumber : goal.returns-in-ResidueSerialNumber
unfolding term_value
returns-in-ResidueSerialNumber c names =
    simp (c.decided.ensures, c.between_signed.ensures, c.in-ResidueSerialNumber.is, to_z-of_z {w = w64} {z = c.int_of-number.result} (search rules) ∙ c.int_of-number.ensures, to_z-of_z {w = w64} {z = c.in-ResidueSerialNumber.n} (search rules))

pub returns-in-ResidueSerialNumberRange : goal.returns-in-ResidueSerialNumberRange
unfolding term_value
returns-in-ResidueSerialNumberRange c names =
    simp (c.decided-in-ResidueSerialNumberRange.ensures, c.between_signed-in-ResidueSerialNumberRange.ensures, c.in-ResidueSerialNumberRange.is, to_z-of_z {w = w64} {z = c.int_of-number.result} (search rules) ∙ c.int_of-number.ensures, to_z-of_z {w = w64} {z = c.in-ResidueSerialNumberRange.low} (search rules), to_z-of_z {w = w64} {z = c.in-ResidueSerialNumberRange.high} (search rules))

pub returns-in-ResidueInsertionCode : goal.returns-in-ResidueInsertionCode
unfolding term_value
returns-in-ResidueInsertionCode c names = simp (c.decided-in-ResidueInsertionCode.ensures, c.in-ResidueInsertionCode.is)

pub returns-in-ResidueId : goal.returns-in-ResidueId
unfolding term_value
returns-in-ResidueId c names =
    simp (c.decided-in-ResidueId.ensures, c.between_signed-in-ResidueId.ensures, c.in-ResidueId.is, to_z-of_z {w = w64} {z = c.int_of-number.result} (search rules) ∙ c.int_of-number.ensures, to_z-of_z {w = w64} {z = c.in-ResidueId.n} (search rules))

pub returns-in_default : goal.returns-in_default
unfolding window
returns-in_default c names =
    let a = c.args in
    elsewhere names 3 (at_residue (Some (record { serial = a.serial; code = a.code }))) (cases 0 4 ++ cases 8 14) a.t refl (opened c.in_default.in_default-own.keys5)
