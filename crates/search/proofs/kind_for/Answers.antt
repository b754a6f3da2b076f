-- `search::kind_for` is `kind_for`: a table, and 0 past its end. Assumes nothing.
use Rattle.std.proofs.Common.{rules}
use Rattle.search.proofs.Topmost.{no_kind}
use Rattle.search.proofs.kind_for.Goals as goal

pub returns-then-code-ge29 : goal.returns-then-code-ge29
returns-then-code-ge29 c = search (rules, no_kind)
