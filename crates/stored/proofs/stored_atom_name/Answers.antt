-- `stored::stored_atom_name` is `stored_by atom_name`. Assumes nothing.
use Rattle.std.proofs.Common.{rules}
use Rattle.stored.proofs.Words.{atom-stored}
use Rattle.stored.proofs.stored_atom_name.Goals as goal

pub returns : goal.returns
returns c = search (rules, atom-stored)
