use Rattle.std.proofs.Common.{rules}
use Rattle.filling.proofs.Lines.{none-looked, same-chain, other-chain, all-looked}
use Rattle.filling.proofs.is_seen.Goals as goal

pub loop-before-init : goal.loop-before-init
loop-before-init c = search (rules, none-looked)

pub returns-then-chain_at-chain : goal.returns-then-chain_at-chain
returns-then-chain_at-chain c = search (rules, same-chain)

pub loop-before-preserved : goal.loop-before-preserved
loop-before-preserved c = search (rules, other-chain)

pub returns : goal.returns
returns c = search (rules, all-looked)
