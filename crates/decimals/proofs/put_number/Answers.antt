-- `decimals::put_number` meets its contract. Assumes nothing.
use Rattle.std.proofs.Common.{rules}
use Rattle.decimals.proofs.Laws.{number-room, number-law}
use Rattle.decimals.proofs.put_number.Goals as goal

pub put_byte-requires : goal.put_byte-requires
put_byte-requires c = search (rules, number-room)

pub returns : goal.returns
returns c = search (rules, number-law)
