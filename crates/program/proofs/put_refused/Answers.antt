-- `program::put_refused` meets its contract. Assumes nothing.
use Rattle.std.proofs.Common.{rules}
use Rattle.program.proofs.Laws.{refused-law}
use Rattle.program.proofs.put_refused.Goals as goal

pub returns : goal.returns
returns c = search (rules, refused-law)
