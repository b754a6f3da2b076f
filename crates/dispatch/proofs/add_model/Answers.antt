-- `dispatch::add_model` meets its contract. Assumes nothing.
use Rattle.std.proofs.Common.{rules}
use Rattle.calls.specs.Format.{rows}
use Rattle.dispatch.proofs.Calls.{there, model-call}
use Rattle.dispatch.proofs.add_model.Goals as goal

pub bounds-words-0 : goal.bounds-words-0
unfolding rows
bounds-words-0 c = search (rules, there)

pub returns : goal.returns
returns c = search (rules, model-call)
