-- `columns::fits_name` meets its contract. Assumes nothing.
use Rattle.std.proofs.Common.{arith}
use Rattle.columns.proofs.Fits as fits
use Rattle.columns.proofs.fits_name.Goals as goal

pub returns : goal.returns
returns c = fits.name c.args.atom.now (omega (arith, c.shared_slice_known-2-1.given 2))
