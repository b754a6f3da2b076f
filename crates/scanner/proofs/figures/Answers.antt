use Rattle.std.proofs.Common.{rules}
use Rattle.scanner.proofs.Laws.{none-figured, figures-small, more-figured, all-figured, all_small}
use Rattle.scanner.proofs.figures.Goals as goal

pub loop-i-init : goal.loop-i-init
loop-i-init c = search (rules, none-figured)

pub with_figure-n-requires : goal.with_figure-n-requires
with_figure-n-requires c = search (rules, figures-small)

pub loop-i-preserved : goal.loop-i-preserved
loop-i-preserved c = search (rules, more-figured)

pub returns : goal.returns
returns c = search (rules, all-figured, all_small)
