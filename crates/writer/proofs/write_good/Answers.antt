-- `writer::write_good` meets its contract: by what the first pass measured, the text is refused or written. Assumes nothing.
use Rattle.std.proofs.Common.{rules}
use Rattle.writer.proofs.Run.{too_wide_lem, too_short, all_fit, has_room, all-written}
use Rattle.writer.proofs.write_good.Goals as goal

pub write_all-requires : goal.write_all-requires
write_all-requires c = search (rules, all_fit, has_room)

pub returns-in_err-length : goal.returns-in_err-length
returns-in_err-length c = too_wide_lem c.args.store.now c.args.out.now _ c.from_residual.ensures.1 c.requires c.measure.ensures c.in_err-length.was

pub returns-then-length-out : goal.returns-then-length-out
returns-then-length-out c =
    all-written c.args.store.now c.args.out.now c.requires c.measure.ensures c.in_ok-length.was c.if-length-out.true c.write_all.ensures

pub returns-else-length-out : goal.returns-else-length-out
returns-else-length-out c =
    too_short c.args.store.now c.args.out.now c.requires c.measure.ensures c.in_ok-length.was c.if-length-out.false
