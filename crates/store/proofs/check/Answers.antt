-- `store::check` meets its contract: each answer is that of the first test that fails, or of the records. Assumes nothing.
use Rattle.std.proofs.Common.{arith, rules}
use Rattle.store.proofs.Turns.{check-short, check-long, check-past, check-uneven, check-gap, check-all}
use Rattle.store.proofs.check.Goals as goal

pub returns-then-n-lt1 : goal.returns-then-n-lt1
returns-then-n-lt1 c = search (rules, check-short)

pub returns-then-n-gt1200001 : goal.returns-then-n-gt1200001
returns-then-n-gt1200001 c = search (rules, check-long)

pub returns-then-last-end : goal.returns-then-last-end
returns-then-last-end c = check-past c.args.store.now (omega arith) (omega arith) (omega arith)

pub returns-then-end-ne0 : goal.returns-then-end-ne0
returns-then-end-ne0 c = check-uneven c.args.store.now (omega arith) (omega arith) (omega arith) (λ even. c.if-end-ne0.true (omega arith))

pub returns-then-all_zero : goal.returns-then-all_zero
returns-then-all_zero c = search (rules, check-all)

pub returns-else-all_zero : goal.returns-else-all_zero
returns-else-all_zero c = search (rules, check-gap)
