-- `stored::stored_byte` is `stored_byte`. Assumes nothing.
use Rattle.std.proofs.Common.{rules}
use Rattle.stored.proofs.Words.{byte_low, byte-letter, byte_high}
use Rattle.stored.proofs.stored_byte.Goals as goal

pub returns-then-rest-unit : goal.returns-then-rest-unit
returns-then-rest-unit c = search (rules, byte_low)

pub returns-then-rest-unit-2 : goal.returns-then-rest-unit-2
returns-then-rest-unit-2 c = search (rules, byte-letter)

pub returns-else-rest-unit-2 : goal.returns-else-rest-unit-2
returns-else-rest-unit-2 c = search (rules, byte_high)
