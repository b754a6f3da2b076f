-- `columns::size_of` meets its contract. Assumes nothing.
use Rattle.std.proofs.Common.{rules}
use Rattle.columns.proofs.Words.{size-plus, size-minus}
use Rattle.columns.proofs.size_of.Goals as goal

pub returns-then-bits-lt9223372036854775808 : goal.returns-then-bits-lt9223372036854775808
returns-then-bits-lt9223372036854775808 c = search (rules, size-plus)

pub returns : goal.returns
returns c = search (rules, size-minus)
