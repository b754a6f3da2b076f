-- `filling::add_line` adds the atom: no addition of a line that has room is refused. Assumes nothing.
use Rattle.std.proofs.Common.{rules}
use Rattle.filling.proofs.Stores.{line-added}
use Rattle.filling.proofs.add_line.Goals as goal

pub returns : goal.returns
returns c = search (rules, line-added)
