use Rattle.std.proofs.Common.{refl}
use Rattle.walk.proofs.Laws.{least, most, walk-entered, walk-five, walk_inside, walk-settled, write-end, write-deep, write-miss, write-hit}
use Rattle.walk.proofs.find_in.Goals as goal
use Rattle.walk.proofs.find_in.Goals.{then-kind-live+then-live-eq-ATOM, then-kind-live+else-live-eq-ATOM, else-kind-live}

pub enter-requires : goal.enter-requires
enter-requires c =
    let i = c.loop-n.invariant.0.walking in
    (least _ _ _ _ _ _ _ _ _ _ _ _ i c.loop-n-test.true, most _ _ _ _ _ _ _ _ _ _ _ _ i c.loop-n-test.true)

pub turn-next-requires : goal.turn-next-requires
turn-next-requires c =
    let i = c.loop-n.invariant.0.walking in
    let more = c.loop-n-test.true in
    let is = walk-entered _ _ _ _ _ _ _ _ _ _ _ _ i more c.loop-n.at c.loop-n.invariant.1 _ c.enter.ensures refl in (
      c.requires.tree,
      walk_inside _ _ _ _ _ _ _ _ _ _ _ _ i more _ is,
      least _ _ _ _ _ _ _ _ _ _ _ _ i more,
      walk-settled _ _ _ _ _ _ _ _ _ _ _ _ i more _ is,
      c.topmost_kind-topmost.ensures,
    )

pub loop-n-preserved : goal.loop-n-preserved
loop-n-preserved c =
    let more = c.loop-n-test.true in
    let i = c.loop-n.invariant.0.walking in
    elim c.if-kind-live.branch [
      | then-kind-live+then-live-eq-ATOM w ↦
          rw (w.out-is, w.at-is, w.live-is, w.settled-is, w.found-is)
          (let is = walk-entered _ _ _ _ _ _ _ _ _ _ _ _ i more c.loop-n.at c.loop-n.invariant.1 _ w.enter.ensures refl in
          (write-hit _ _ _ _ _ _ _ _ _ _ _ _ _ _ c.loop-n.invariant.0 more _ is w.if-kind-live.true _ w.turn-next.ensures w.if-live-eq-ATOM.true _ w.put.ensures, walk-five _ _ _ _ _ _ _ _ _ _ _ _ i more c.loop-n.at c.loop-n.invariant.1 _ w.enter.ensures))
      | then-kind-live+else-live-eq-ATOM w ↦
          rw (w.out-is, w.at-is, w.live-is, w.settled-is, w.found-is)
          (let is = walk-entered _ _ _ _ _ _ _ _ _ _ _ _ i more c.loop-n.at c.loop-n.invariant.1 _ w.enter.ensures refl in
          (write-miss _ _ _ _ _ _ _ _ _ _ _ _ _ _ c.loop-n.invariant.0 more _ is w.if-kind-live.true _ w.turn-next.ensures w.if-live-eq-ATOM.false, walk-five _ _ _ _ _ _ _ _ _ _ _ _ i more c.loop-n.at c.loop-n.invariant.1 _ w.enter.ensures))
      | else-kind-live w ↦
          rw (w.out-is, w.at-is, w.live-is, w.settled-is, w.found-is)
          (write-deep _ _ _ _ _ _ _ _ _ _ _ _ _ _ c.loop-n.invariant.0 more w.if-kind-live.false, c.loop-n.invariant.1)
    ]

pub returns : goal.returns
returns c = rw c.numbers_of-at.ensures at (write-end _ _ _ _ _ _ _ _ _ _ _ _ _ _ c.loop-n.invariant.0 c.loop-n-test.false)
