use Rattle.std.proofs.Common.{rules}
use Rattle.scanner.proofs.Laws.{none-scanned, scanned-small, more-scanned, all-scanned, scanned-minus, scanned-few}
use Rattle.scanner.proofs.number_in.Goals as goal

pub loop-i-init : goal.loop-i-init
loop-i-init c = search (rules, none-scanned)

pub with_figure-n-requires : goal.with_figure-n-requires
with_figure-n-requires c = search (rules, scanned-small)

pub loop-i-preserved : goal.loop-i-preserved
loop-i-preserved c = search (rules, more-scanned)

pub returns : goal.returns
returns c = search (rules, all-scanned, scanned-minus, scanned-few)
