-- `dispatch::set_element` meets its contract. Assumes nothing.
use Rattle.std.proofs.Common.{rules}
use Rattle.calls.specs.Format.{rows}
use Rattle.dispatch.proofs.Calls.{there, element-room, element-call}
use Rattle.dispatch.proofs.set_element.Goals as goal

pub slice_bounds-set_element-end : goal.slice_bounds-set_element-end
slice_bounds-set_element-end c = search (rules, element-room)

pub bounds-words-5 : goal.bounds-words-5
unfolding rows
bounds-words-5 c = search (rules, there)

pub returns : goal.returns
returns c = search (rules, element-call)
