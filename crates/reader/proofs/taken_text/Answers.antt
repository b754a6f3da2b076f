use Rattle.std.proofs.Common.{rules}
use Rattle.reader.proofs.Laws.{ragged, none-taken, slice-length, more-taken, not_taken, all-taken}
use Rattle.reader.proofs.taken_text.Goals as goal

pub returns-then-text-gt0 : goal.returns-then-text-gt0
returns-then-text-gt0 c = search (rules, ragged)

pub loop-n-init : goal.loop-n-init
loop-n-init c = search (rules, none-taken)

pub taken_line-requires : goal.taken_line-requires
taken_line-requires c = search (rules, slice-length)

pub open_after-begun-requires : goal.open_after-begun-requires
open_after-begun-requires c = search (rules, slice-length)

pub loop-n-preserved : goal.loop-n-preserved
loop-n-preserved c = search (rules, more-taken)

pub returns-else-taken_line : goal.returns-else-taken_line
returns-else-taken_line c = search (rules, not_taken)

pub returns : goal.returns
returns c = search (rules, all-taken)
