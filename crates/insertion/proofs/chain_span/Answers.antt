-- `insertion::chain_span` meets its contract: the place's chain, or what `pick_child` finds. Assumes nothing.
use Rattle.std.proofs.Common.{rules}
use Rattle.insertion.proofs.PointsInto.{chain-known}
use Rattle.insertion.proofs.chain_span.Goals as goal

pub returns-then-cursor-start : goal.returns-then-cursor-start
returns-then-cursor-start c = search (rules, chain-known)
