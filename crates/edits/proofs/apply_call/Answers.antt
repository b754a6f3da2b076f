-- `edits::apply_call` meets its contract: an addition keeps a place, and nothing is known after another call. Assumes nothing.
use Rattle.std.proofs.Common.{rules}
use Rattle.insertion.proofs.PointsInto.{nowhere-known}
use Rattle.dispatch.proofs.Calls.{at_code, of_code}
use Rattle.edits.proofs.apply_call.Goals as goal

pub add_atom-requires : goal.add_atom-requires
add_atom-requires c = search (rules, at_code)

pub returns-then-code-eq2 : goal.returns-then-code-eq2
returns-then-code-eq2 c = search (rules, of_code)

pub returns : goal.returns
returns c = search (rules, nowhere-known)
