-- `seek::record_count` meets its contract: a good store has a trailer, which ends its records. Assumes nothing.
use Rattle.std.proofs.Common.{rules}
use Rattle.seek.proofs.Turns.{good_length_lem, count-is}
use Rattle.seek.proofs.record_count.Goals as goal

pub overflow_sub-result : goal.overflow_sub-result
overflow_sub-result c = search (rules, good_length_lem)

pub bounds-store-store : goal.bounds-store-store
bounds-store-store c = let l = good_length_lem _ c.requires in search rules

pub returns : goal.returns
returns c = search (rules, count-is)
