-- `columns::short_of_three` meets its contract. Assumes nothing.
use Rattle.std.proofs.Common.{arith}
use Rattle.columns.proofs.Words.{short-sum}
use Rattle.columns.proofs.short_of_three.Goals as goal

pub overflow_add-result : goal.overflow_add-result
overflow_add-result c = omega arith

pub overflow_add-result-2 : goal.overflow_add-result-2
overflow_add-result-2 c = omega arith

pub returns : goal.returns
returns c = short-sum _ _ _ _ c.ranges.word.fits c.bit.ensures.0 c.bit-2.ensures.0 c.bit-3.ensures.0
