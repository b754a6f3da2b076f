-- `columns::fits_decimals` meets its contract. Assumes nothing.
use Rattle.std.proofs.Common.{rules}
use Rattle.columns.proofs.Fits as fits
use Rattle.columns.proofs.fits_decimals.Goals as goal

pub returns : goal.returns
returns c = search (rules, fits.decimals)
