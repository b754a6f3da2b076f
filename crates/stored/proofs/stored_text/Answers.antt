use Rattle.std.proofs.Common.{rules}
use Rattle.stored.proofs.Words.{unit-fits, text-all, text-again, text-not, text-done}
use Rattle.stored.proofs.stored_text.Goals as goal

pub returns-then-rest-eq0 : goal.returns-then-rest-eq0
returns-then-rest-eq0 c = search (rules, text-done)

pub stored_byte-requires : goal.stored_byte-requires
stored_byte-requires c = let u = unit-fits c.loop-n.n c.loop-n.auto.n in (c.requires, u.0, u.1)

pub returns-then-not-stored_byte : goal.returns-then-not-stored_byte
returns-then-not-stored_byte c = search (rules, text-not)

pub loop-n-preserved : goal.loop-n-preserved
loop-n-preserved c = search (rules, text-again)

pub returns : goal.returns
returns c = search (rules, text-all)
