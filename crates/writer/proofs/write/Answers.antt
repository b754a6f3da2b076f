-- `writer::write` meets its contract: the store's refusal, or what a good store is answered. Assumes nothing.
use Rattle.std.proofs.Common.{rules}
use Rattle.store.proofs.Steps.{good}
use Rattle.writer.proofs.Run.{no_store}
use Rattle.writer.proofs.write.Goals as goal

pub write_good-requires : goal.write_good-requires
write_good-requires c = search (rules, good)

pub returns-in_err-check : goal.returns-in_err-check
returns-in_err-check c = no_store c.args.store.now c.args.out.now _ c.from_residual.ensures.1 c.check.ensures c.in_err-check.was
