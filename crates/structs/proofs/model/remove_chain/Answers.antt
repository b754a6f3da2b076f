-- `structs::model::remove_chain` meets its contract. Assumes nothing.
use Rattle.std.proofs.Common.{rules}
use Rattle.structs.proofs.Laws.{chain-removed}
use Rattle.structs.proofs.model.remove_chain.Goals as goal

pub returns : goal.returns
returns c = search (rules, chain-removed)
