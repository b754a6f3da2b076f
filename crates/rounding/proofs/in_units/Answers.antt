-- `rounding::in_units` meets its contract: each return by its law. Assumes nothing.
use Rattle.std.proofs.Common.{rules}
use Rattle.rounding.proofs.Laws.{too_small, too_wide_lem, inside}
use Rattle.rounding.proofs.in_units.Goals as goal

pub returns-then-field-lt1012 : goal.returns-then-field-lt1012
returns-then-field-lt1012 c = search (rules, too_small)

pub returns-then-field-gt1074 : goal.returns-then-field-gt1074
returns-then-field-gt1074 c = search (rules, too_wide_lem)

pub returns : goal.returns
returns c = search (rules, inside)
