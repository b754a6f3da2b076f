use Rattle.std.proofs.Common.{rules}
use Rattle.filling.proofs.Lines.{slice-length}
use Rattle.filling.proofs.Chains.{adding-start, adding-ready, adding-line, adding_other, adding-end}
use Rattle.filling.proofs.add_chain.Goals as goal

pub loop-at-init : goal.loop-at-init
loop-at-init c = search (rules, adding-start)

pub add_line-next-requires : goal.add_line-next-requires
add_line-next-requires c = search (rules, slice-length, adding-ready)

pub loop-at-preserved-then-chain_at-chain : goal.loop-at-preserved-then-chain_at-chain
loop-at-preserved-then-chain_at-chain c =
    let before = c.loop-at-test.true in
    let one = c.chain_at-chain.ensures in
    let other = c.chain_at.ensures in
    (adding-line _ _ _ _ _ c.loop-at.invariant.0 before _ _ one other _ c.if-chain_at-chain.true c.add_line-next.ensures.became, c.add_line-next.ensures.cursor_valid)

pub loop-at-preserved : goal.loop-at-preserved
loop-at-preserved c = search (rules, adding_other)

pub returns : goal.returns
returns c = search (rules, adding-end)
