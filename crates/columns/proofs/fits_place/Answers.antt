-- `columns::fits_place` meets its contract. Assumes nothing.
use Rattle.std.proofs.Common.{arith}
use Rattle.columns.proofs.Fits as fits
use Rattle.columns.proofs.fits_place.Goals as goal

pub returns : goal.returns
returns c = fits.place c.args.above _ _ (omega (arith, c.struct_known-1.given)) (omega (arith, c.struct_known-2-1.given)) (omega (arith, c.struct_known-3-1.given)) (omega (arith, c.struct_known-5-1.given)) c.size_of.ensures c.within.ensures
