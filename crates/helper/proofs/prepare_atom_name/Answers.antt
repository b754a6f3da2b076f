-- `helper::prepare_atom_name` is `atom_name`. Assumes nothing.
use Rattle.std.proofs.Common.{rules}
use Rattle.helper.proofs.Laws.{atom-good, atom-bad}
use Rattle.helper.proofs.prepare_atom_name.Goals as goal

pub returns-then-valid_text : goal.returns-then-valid_text
returns-then-valid_text c = search (rules, atom-good)

pub returns-else-valid_text : goal.returns-else-valid_text
returns-else-valid_text c = search (rules, atom-bad)
