use Rattle.std.proofs.Common.{rules}
use Rattle.calls.proofs.Laws.{calls-end, calls-cut, calls-long, calls-past, calls-bad, calls-next}
use Rattle.calls.proofs.count_calls.Goals as goal

pub returns-then-n-gt1024 : goal.returns-then-n-gt1024
returns-then-n-gt1024 c = search (rules, calls-long)

pub returns-in_err-words : goal.returns-in_err-words
returns-in_err-words c = search (rules, calls-past)

pub returns-then-not-good_call : goal.returns-then-not-good_call
returns-then-not-good_call c = search (rules, calls-bad)

pub loop-rest-preserved : goal.loop-rest-preserved
loop-rest-preserved c = search (rules, calls-next)

pub returns-then-is_empty : goal.returns-then-is_empty
returns-then-is_empty c = search (rules, calls-end)

pub returns-else-is_empty : goal.returns-else-is_empty
returns-else-is_empty c = search (rules, calls-cut)
