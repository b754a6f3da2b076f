-- `filling::chain_at` reads the chain of a line. Assumes nothing.
use Rattle.std.proofs.Common.{rules}
use Rattle.filling.proofs.Lines.{slice-length, slice-chain}
use Rattle.filling.proofs.chain_at.Goals as goal

pub chain_in-requires : goal.chain_in-requires
chain_in-requires c = search (rules, slice-length)

pub returns : goal.returns
returns c = search (rules, slice-chain)
