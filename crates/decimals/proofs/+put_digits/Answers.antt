-- `decimals::put_digits` meets its contract: the digits of a tenth of the number, then its last one. Assumes nothing.
use Rattle.std.proofs.Common.{rules}
use Rattle.decimals.proofs.Laws.{digits-none, digits-one, digits_more, digits-room}
use Rattle.decimals.proofs.+put_digits.Goals as goal

pub returns-then-places-eq0 : goal.returns-then-places-eq0
returns-then-places-eq0 t c = search (rules, digits-none)

pub returns-then-n-lt10 : goal.returns-then-n-lt10
returns-then-n-lt10 t c = search (rules, digits-one)

pub put_byte-requires-2 : goal.put_byte-requires-2
put_byte-requires-2 t c = search (rules, digits-room)

pub returns : goal.returns
returns t c = search (rules, digits_more)
