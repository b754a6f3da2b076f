-- `program::put_found` meets its contract: the lines of the hits, then that of the count. Assumes nothing.
use Rattle.std.proofs.Common.{arith, rules}
use Rattle.program.proofs.Bounds.{lines-few}
use Rattle.program.proofs.Laws.{found-law}
use Rattle.program.proofs.put_found.Goals as goal

pub put_bytes-at-requires : goal.put_bytes-at-requires
put_bytes-at-requires c = grind (arith, lines-few)

pub put_number-requires : goal.put_number-requires
put_number-requires c = grind (arith, lines-few)

pub returns : goal.returns
returns c = search (rules, found-law)
