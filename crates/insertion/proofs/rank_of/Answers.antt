-- `insertion::rank_of` goes by the sign. Assumes nothing.
use Rattle.std.proofs.Common.{rules}
use Rattle.insertion.proofs.PointsInto.{rank-low, rank-high}
use Rattle.insertion.proofs.rank_of.Goals as goal

pub returns-then-serial-lt9223372036854775808 : goal.returns-then-serial-lt9223372036854775808
returns-then-serial-lt9223372036854775808 c = search (rules, rank-low)

pub returns : goal.returns
returns c = search (rules, rank-high)
