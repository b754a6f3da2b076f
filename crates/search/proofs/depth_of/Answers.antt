use Rattle.std.proofs.Common.{arith, length, sym, ◌+◌, ◌∙◌, ◌≤◌}
use Rattle.search.proofs.Depth.{node-small, node-read, node-not-read, all_read}
use Rattle.search.proofs.depth_of.Goals as goal

pub returns-in_err-d : goal.returns-in_err-d
returns-in_err-d c =
    let t = c.args.tree.now in
    let k = c.loop-i in
    let l : k.i + 3 ≤ length t = omega arith in
    c.from_residual.ensures ∙ node-not-read t k.d k.i l k.invariant.3 (sym c.deeper_by.ensures ∙ c.in_err-d.was)

pub loop-i-preserved : goal.loop-i-preserved
loop-i-preserved c =
    let t = c.args.tree.now in
    let k = c.loop-i in
    let l : k.i + 3 ≤ length t = omega arith in
    let e = sym c.deeper_by.ensures ∙ c.in_ok-d.was in
    let b = node-small t k.d k.i l e in
    (l, omega arith, omega arith, node-read t k.d k.i l k.invariant.3 e)

pub returns : goal.returns
returns c = all_read c.args.tree.now c.loop-i.d c.loop-i.i c.loop-i.invariant.3 (omega arith)
