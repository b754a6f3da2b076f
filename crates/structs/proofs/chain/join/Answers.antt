-- `structs::chain::join` meets its contract. Assumes nothing.
use Rattle.std.proofs.Common.{rules}
use Rattle.structs.proofs.Laws.{chains-joined}
use Rattle.structs.proofs.chain.join.Goals as goal

pub returns : goal.returns
returns c = search (rules, chains-joined)
