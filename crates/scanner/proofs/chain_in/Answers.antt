-- `scanner::chain_in` reads column 22. Assumes nothing.
use Rattle.std.proofs.Common.{rules}
use Rattle.scanner.proofs.Laws.{chain-is}
use Rattle.scanner.proofs.chain_in.Goals as goal

pub returns : goal.returns
returns c = search (rules, chain-is)
