-- `scanner::decimal_bits` is the nearest f64. Assumes nothing.
use Rattle.std.proofs.Common.{rules}
use Rattle.scanner.proofs.Laws.{decimal-is}
use Rattle.scanner.proofs.decimal_bits.Goals as goal

pub returns : goal.returns
returns c = search (rules, decimal-is)
