-- `replay::replay_case` meets its contract. Assumes nothing.
use Rattle.std.proofs.Common.{arith, refl}
use Rattle.replay.proofs.Laws.{behind-parts}
use Rattle.replay.proofs.replay_case.Goals as goal

pub returns : goal.returns
returns c =
    let list = c.in_ok-list.ensures.cases in
    let answers = c.in_ok-answers.ensures.cases in
    let left = c.in_ok-left.ensures.cases in
    let behind = behind-parts c.args.words.now _ _ _ _ _ _ _ refl list.2 answers.2 left.2 in
    (behind, omega arith, omega arith, omega arith, omega arith)
