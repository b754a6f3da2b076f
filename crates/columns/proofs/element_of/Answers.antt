-- `columns::element_of` is `element_of`. Assumes nothing.
use Rattle.std.proofs.Common.{rules}
use Rattle.columns.proofs.Symbols.{carbon, nitrogen, oxygen, hydrogen, sulphur}
use Rattle.columns.proofs.element_of.Goals as goal

pub returns-in-67 : goal.returns-in-67
returns-in-67 c = search (rules, carbon)

pub returns-in-78 : goal.returns-in-78
returns-in-78 c = search (rules, nitrogen)

pub returns-in-79 : goal.returns-in-79
returns-in-79 c = search (rules, oxygen)

pub returns-in-72 : goal.returns-in-72
returns-in-72 c = search (rules, hydrogen)

pub returns-in-83 : goal.returns-in-83
returns-in-83 c = search (rules, sulphur)
