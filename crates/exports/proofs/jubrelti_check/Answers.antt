-- `exports::jubrelti_check` meets its contract: the check's answer, as a number. Assumes nothing.
use Rattle.std.specs.Prelude.{Err, Ok}
use Rattle.std.proofs.Common.{ap, refl, ◌∙◌, ◌≡◌}
use Rattle.machine.specs.Answer.{Result, result_number}
use Rattle.machine.specs.Store.{Machine}
use Rattle.store.specs.Store.{checked_by}
use Rattle.exports.proofs.jubrelti_check.Goals as goal

same : (x : Result Machine) → result_number (checked_by x) ≡ result_number x
same (Ok m) = refl
same (Err r) = refl

pub returns : goal.returns
returns c = c.number_of.ensures ∙ ap result_number c.check.ensures ∙ same _
