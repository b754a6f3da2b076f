-- `terms::between_signed` meets its contract: both ends are compared. Assumes nothing.
use Rattle.std.proofs.Common.{to_z-of_z}
use Rattle.terms.proofs.between_signed.Goals as goal

pub returns : goal.returns
returns c = simp (to_z-of_z c.ranges.low, to_z-of_z c.ranges.high, to_z-of_z c.ranges.n)
