-- `seek::locate` meets its contract, by the part that `follow` answers. Assumes nothing.
use Rattle.seek.proofs.Turns.{locate-missing, locate-low, locate-is}
use Rattle.seek.proofs.locate.Goals as goal

pub returns-in_err-part : goal.returns-in_err-part
returns-in_err-part c =
    locate-missing c.args.store.now c.args.position.now c.requires.in_bounds.0 c.requires.in_bounds.1 _ c.follow.ensures
    _ c.ok_or.ensures.value _ c.in_err-part.was _ c.from_residual.ensures.1

pub overflow_sub-result : goal.overflow_sub-result
overflow_sub-result c =
    locate-low c.args.store.now c.args.position.now c.requires.in_bounds.0 c.requires.in_bounds.1 _ c.follow.ensures
    _ c.ok_or.ensures.value _ c.in_ok-part.was

pub returns : goal.returns
returns c =
    locate-is c.args.store.now c.args.position.now c.requires.in_bounds.0 c.requires.in_bounds.1 _ c.follow.ensures
    _ c.ok_or.ensures.value _ c.in_ok-part.was
