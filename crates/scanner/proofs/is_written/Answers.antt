-- `scanner::is_written` writes the line again. Assumes nothing.
use Rattle.std.proofs.Common.{rules}
use Rattle.scanner.proofs.Laws.{fits-then, written_same, written-not}
use Rattle.scanner.proofs.is_written.Goals as goal

pub decimal_line-again-requires : goal.decimal_line-again-requires
decimal_line-again-requires c = search (rules, fits-then)

pub returns-then-fits_line : goal.returns-then-fits_line
returns-then-fits_line c = search (rules, written_same)

pub returns : goal.returns
returns c = search (rules, written-not)
