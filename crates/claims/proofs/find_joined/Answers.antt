-- `claims::find_joined` meets its contract: the tree is put together in a buffer, or too long for any. Assumes nothing.
use Rattle.std.proofs.Common.{arith, length-take-le, sym}
use lib.ListN.{length-replicate}
use Rattle.claims.proofs.Laws.{too_long, joined-find}
use Rattle.claims.proofs.find_joined.Goals as goal

pub returns-then-m-gt381 : goal.returns-then-m-gt381
returns-then-m-gt381 c =
    let args = c.args in
    too_long _ _ args.a.now args.b.now _ _ _ _ c.find.ensures (simp length-replicate) (omega arith)

pub returns-then-m-n : goal.returns-then-m-n
returns-then-m-n c =
    let args = c.args in
    too_long _ _ args.a.now args.b.now _ _ _ _ c.find-then-m-n.ensures (simp length-replicate) (omega arith)

pub slice_bounds-find-end-2 : goal.slice_bounds-find-end-2
slice_bounds-find-end-2 c = sym (length-take-le _ _ (omega arith))

pub returns : goal.returns
returns c =
    joined-find _ _ _ _ _ _ _ _ _ _ _ c.write_over.ensures c.write_over-2.ensures c.write_over-3.ensures (simp length-replicate (omega arith)) c.find-2.ensures
