-- `scanner::decimals_in` finds those of each decimal. Assumes nothing.
use Rattle.std.proofs.Common.{rules}
use Rattle.scanner.proofs.Laws.{decimals-is}
use Rattle.scanner.proofs.decimals_in.Goals as goal

pub returns : goal.returns
returns c = search (rules, decimals-is)
