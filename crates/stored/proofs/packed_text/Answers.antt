-- `stored::packed_text` is `packed_text`. Assumes nothing.
use Rattle.std.proofs.Common.{rules}
use Rattle.stored.proofs.Words.{packed-text}
use Rattle.stored.proofs.packed_text.Goals as goal

pub returns : goal.returns
returns c = search (rules, packed-text)
