-- `rounding::nearest_bits` meets its contract: one division rounds the exact quotient. Assumes nothing.
use Rattle.rounding.proofs.Laws.{bits_of, bits-of-neg, some_bits, some-bits-neg}
use Rattle.rounding.proofs.nearest_bits.Goals as goal

pub float_to_bits-result : goal.float_to_bits-result
float_to_bits-result c = search some-bits-neg

pub returns-then-negative : goal.returns-then-negative
returns-then-negative c = search bits-of-neg

pub float_to_bits-result-else-negative : goal.float_to_bits-result-else-negative
float_to_bits-result-else-negative c = search some_bits

pub returns-else-negative : goal.returns-else-negative
returns-else-negative c = search bits_of
