-- `calls::good_call` meets its contract. Assumes nothing.
use Rattle.std.proofs.Common.{rules}
use Rattle.calls.proofs.Laws.{call-unknown, call-short, call-rest}
use Rattle.calls.proofs.good_call.Goals as goal

pub returns-in_default : goal.returns-in_default
returns-in_default c = search (rules, call-unknown)

pub returns-in_default-split_at_checked : goal.returns-in_default-split_at_checked
returns-in_default-split_at_checked c = search (rules, call-short)

pub returns : goal.returns
returns c = search (rules, call-rest)
