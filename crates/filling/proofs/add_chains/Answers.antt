use Rattle.std.proofs.Common.{rules}
use Rattle.insertion.proofs.PointsInto.{nowhere-known}
use Rattle.filling.proofs.Lines.{rest_lines}
use Rattle.filling.proofs.Chains.{chaining-start, chaining-seen, chaining-ready, chaining-new, chaining-end}
use Rattle.filling.proofs.add_chains.Goals as goal

pub loop-n-init : goal.loop-n-init
loop-n-init c = search (rules, chaining-start, nowhere-known)

pub loop-n-preserved-then-is_seen : goal.loop-n-preserved-then-is_seen
loop-n-preserved-then-is_seen c = search (rules, chaining-seen)

pub add_chain-next-requires : goal.add_chain-next-requires
add_chain-next-requires c = search (rules, rest_lines, chaining-ready)

pub loop-n-preserved : goal.loop-n-preserved
loop-n-preserved c =
    let before = c.loop-n-test.true in
    let new = c.is_seen.ensures in
    (chaining-new _ _ _ _ _ c.loop-n.invariant.0 before _ new _ c.if-is_seen.false c.add_chain-next.ensures.became, c.add_chain-next.ensures.cursor_valid)

pub returns : goal.returns
returns c = search (rules, chaining-end)
