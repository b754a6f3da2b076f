-- `insertion::advanced` meets its contract: each return is a law's. Assumes nothing.
use Rattle.std.proofs.Common.{rules}
use Rattle.insertion.proofs.PointsInto.{moves-chain, moves-residue, moves-below}
use Rattle.insertion.proofs.advanced.Goals as goal

pub returns-then-spot-eq0 : goal.returns-then-spot-eq0
returns-then-spot-eq0 c = search (rules, moves-chain)

pub returns-then-spot-eq1 : goal.returns-then-spot-eq1
returns-then-spot-eq1 c = search (rules, moves-residue)

pub returns : goal.returns
returns c = search (rules, moves-below)
