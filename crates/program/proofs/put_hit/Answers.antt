-- `program::put_hit` meets its contract: five numbers, one after another. Assumes nothing.
use Rattle.std.proofs.Common.{arith, rules}
use Rattle.decimals.proofs.Laws.{number-few}
use Rattle.program.proofs.Laws.{hit-law}
use Rattle.program.proofs.put_hit.Goals as goal

pub put_number-residue-requires : goal.put_number-residue-requires
put_number-residue-requires c = grind (arith, number-few)

pub put_number-conformer-requires : goal.put_number-conformer-requires
put_number-conformer-requires c = grind (arith, number-few)

pub put_number-atom-requires : goal.put_number-atom-requires
put_number-atom-requires c = grind (arith, number-few)

pub put_number-requires : goal.put_number-requires
put_number-requires c = grind (arith, number-few)

pub returns : goal.returns
returns c = search (rules, hit-law)
