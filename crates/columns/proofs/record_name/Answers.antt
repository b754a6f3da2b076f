-- `columns::record_name` meets its contract. Assumes nothing.
use Rattle.std.proofs.Common.{ne_eqb, rules}
use Rattle.columns.proofs.Parts.{hetero-name, atom-name}
use Rattle.columns.proofs.record_name.Goals as goal

pub returns-then-hetero-eq1 : goal.returns-then-hetero-eq1
returns-then-hetero-eq1 c = search (rules, hetero-name)

pub returns : goal.returns
returns c = search (rules, atom-name, ne_eqb)
