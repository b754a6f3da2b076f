-- `stored::stored_chain_id` is `stored_by chain_id`. Assumes nothing.
use Rattle.std.proofs.Common.{rules}
use Rattle.stored.proofs.Words.{chain-stored}
use Rattle.stored.proofs.stored_chain_id.Goals as goal

pub returns : goal.returns
returns c = search (rules, chain-stored)
