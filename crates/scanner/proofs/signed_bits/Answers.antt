-- `scanner::signed_bits` is `signed_bits`. Assumes nothing.
use Rattle.std.proofs.Common.{rules}
use Rattle.scanner.proofs.Laws.{is_zero, is_negative, is_positive}
use Rattle.scanner.proofs.signed_bits.Goals as goal

pub returns-then-number-lt1 : goal.returns-then-number-lt1
returns-then-number-lt1 c = search (rules, is_zero)

pub returns-then-number : goal.returns-then-number
returns-then-number c = search (rules, is_negative)

pub returns : goal.returns
returns c = search (rules, is_positive)
