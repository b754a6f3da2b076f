-- `additions::put_records` meets its contract: a gap, the trailer, and the new words over the gap. Assumes nothing.
use Rattle.std.proofs.Common.{arith, length-set, rules, ◌∙◌}
use Rattle.additions.proofs.Laws.{put_is}
use Rattle.additions.proofs.put_records.Goals as goal

pub write_over-requires : goal.write_over-requires
write_over-requires c =
    let l = c.insert_gap.auto.s in
    simp length-set (omega arith)

pub shape_of-store : goal.shape_of-store
shape_of-store c =
    c.write_over.auto.s ∙ simp length-set c.insert_gap.auto.s

pub returns : goal.returns
returns c = search (rules, put_is)
