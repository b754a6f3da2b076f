-- `columns::fits_atom` meets its contract. Assumes nothing.
use Rattle.std.proofs.Common.{rules}
use Rattle.columns.proofs.Parts.{atom-fits}
use Rattle.columns.proofs.fits_atom.Goals as goal

pub returns : goal.returns
returns c = search (rules, atom-fits)
