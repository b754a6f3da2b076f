use Rattle.std.proofs.Common.{arith, rules}
use Rattle.writer.proofs.Turns.{words-good, measure-start, few-next, measure-next, measure-wide, measure-end}
use Rattle.writer.proofs.measure.Goals as goal

pub loop-n-init : goal.loop-n-init
loop-n-init c = search (rules, measure-start)

pub fits_record-requires : goal.fits_record-requires
fits_record-requires c = search (rules, words-good)

pub line_count-lines-requires : goal.line_count-lines-requires
line_count-lines-requires c = search (rules, words-good)

pub overflow_add-lines : goal.overflow_add-lines
overflow_add-lines c = omega (arith, few-next _ _ _ _ _ c.loop-n.invariant c.line_count-lines.ensures)

pub enter-above-requires : goal.enter-above-requires
enter-above-requires c = search (rules, words-good)

pub loop-n-preserved : goal.loop-n-preserved
loop-n-preserved c = search (rules, measure-next)

pub returns-else-fits_record : goal.returns-else-fits_record
returns-else-fits_record c = search (rules, measure-wide)

pub returns : goal.returns
returns c = search (rules, measure-end)
