-- `decimals::put_byte` meets its contract. Assumes nothing.
use Rattle.std.proofs.Common.{rules}
use Rattle.decimals.proofs.Laws.{put_one}
use Rattle.decimals.proofs.put_byte.Goals as goal

pub returns : goal.returns
returns c = search (rules, put_one)
