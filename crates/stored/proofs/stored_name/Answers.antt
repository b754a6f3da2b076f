-- `stored::stored_name` is `stored_by conformer_name`. Assumes nothing.
use Rattle.std.proofs.Common.{rules}
use Rattle.stored.proofs.Words.{name-stored}
use Rattle.stored.proofs.stored_name.Goals as goal

pub returns : goal.returns
returns c = search (rules, name-stored)
