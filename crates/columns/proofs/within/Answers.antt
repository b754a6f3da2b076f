-- `columns::within` meets its contract. Assumes nothing.
use Rattle.std.proofs.Common.{rules}
use Rattle.columns.proofs.Fits as fits
use Rattle.columns.proofs.within.Goals as goal

pub returns-then-minus : goal.returns-then-minus
returns-then-minus c = search (rules, fits.within-minus)

pub returns : goal.returns
returns c = search (rules, fits.within-plus)
