-- `additions::add_model` meets its contract: each return is a law's. Assumes nothing.
use Rattle.std.proofs.Common.{arith, rules}
use Rattle.additions.proofs.Laws.{good_length_lem, good-count, model-full, model-done}
use Rattle.additions.proofs.add_model.Goals as goal

pub capacity_of-requires : goal.capacity_of-requires
capacity_of-requires c = search (rules, good_length_lem)

pub overflow_add-count : goal.overflow_add-count
overflow_add-count c = omega (arith, good-count _ c.requires, c.record_count-count.ensures)

pub returns-then-capacity_of-count : goal.returns-then-capacity_of-count
returns-then-capacity_of-count c = search (rules, model-full)

pub returns : goal.returns
returns c = search (rules, model-done)
