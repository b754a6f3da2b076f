-- `scanner::with_figure` is `with_figure`. Assumes nothing.
use Rattle.std.proofs.Common.{rules}
use Rattle.scanner.proofs.Laws.{digit_low, digit-high, digit-bound, a-digit, no_digit}
use Rattle.scanner.proofs.with_figure.Goals as goal

pub overflow_sub-result : goal.overflow_sub-result
overflow_sub-result c = search (rules, digit_low)

pub overflow_add-result : goal.overflow_add-result
overflow_add-result c = search (rules, digit-high)

pub returns-then-b : goal.returns-then-b
returns-then-b c = search (rules, a-digit, digit-bound)

pub returns-else-b : goal.returns-else-b
returns-else-b c = search (rules, no_digit)
