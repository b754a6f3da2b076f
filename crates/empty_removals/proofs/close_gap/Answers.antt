-- `empty_removals::close_gap` meets its contract: the words of whole records go, and the trailer is set. Assumes nothing.
use Rattle.std.proofs.Common.{arith, rules}
use Rattle.empty_removals.proofs.Laws.{count-is, close-none, close-law}
use Rattle.empty_removals.proofs.close_gap.Goals as goal

pub returns-then-to-end : goal.returns-then-to-end
returns-then-to-end c = search (rules, close-none)

pub overflow_mul-count : goal.overflow_mul-count
overflow_mul-count c = omega (arith, count-is c.args.store.now)

pub remove_words-requires : goal.remove_words-requires
remove_words-requires c = omega (arith, count-is c.args.store.now)

pub overflow_sub-store-2 : goal.overflow_sub-store-2
overflow_sub-store-2 c = omega (arith, count-is c.args.store.now)

pub overflow_mul-store : goal.overflow_mul-store
overflow_mul-store c = omega (arith, count-is c.args.store.now)

pub returns : goal.returns
returns c = search (rules, close-law)
