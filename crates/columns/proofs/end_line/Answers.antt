-- `columns::end_line` meets its contract. Assumes nothing.
use Rattle.std.proofs.Common.{rules}
use Rattle.columns.proofs.Parts.{end_whole}
use Rattle.columns.proofs.end_line.Goals as goal

pub returns : goal.returns
returns c = search (rules, end_whole)
