-- `columns::indent_of` meets its contract. Assumes nothing.
use Rattle.columns.proofs.Words.{indent-is}
use Rattle.columns.proofs.indent_of.Goals as goal

pub returns : goal.returns
returns c =
    (indent-is c.args.name c.args.element c.two_letters.result c.bit.result c.ranges.name.fits c.two_letters.ensures c.bit.ensures.0, c.bit.ensures.1)
