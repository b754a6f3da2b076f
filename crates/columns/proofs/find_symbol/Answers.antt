use Rattle.std.proofs.Common.{rules}
use Rattle.columns.proofs.Symbols.{not-before, found_here, not-here, nowhere}
use Rattle.columns.proofs.find_symbol.Goals as goal

pub loop-i-init : goal.loop-i-init
loop-i-init c = search (rules, not-before)

pub returns-then-first-symbol_byte : goal.returns-then-first-symbol_byte
returns-then-first-symbol_byte c = search (rules, found_here)

pub loop-i-preserved : goal.loop-i-preserved
loop-i-preserved c = search (rules, not-here)

pub returns : goal.returns
returns c = search (rules, nowhere)
