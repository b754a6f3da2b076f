-- `store::following` meets its contract. Assumes nothing.
use Rattle.std.proofs.Common.{rules}
use Rattle.store.proofs.Turns.{none_passed, some-passed}
use Rattle.store.proofs.following.Goals as goal

pub returns-then-run-eq0 : goal.returns-then-run-eq0
returns-then-run-eq0 c = search (rules, none_passed)

pub returns : goal.returns
returns c = search (rules, some-passed)
