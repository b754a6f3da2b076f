-- `columns::find_symbol` finds the first symbol that stands so. Assumes nothing.
use Rattle.std.proofs.Common.{◌-◌}
use Rattle.columns.proofs.Symbols.{NotBefore}
use Rattle.columns.proofs.find_symbol.Given as goal

abbrev pub invariant-loop-i : goal.invariant-loop-i
invariant-loop-i l = NotBefore l.first l.second l.i

abbrev pub decreases-loop-i : goal.decreases-loop-i
decreases-loop-i l = 119 - l.i
