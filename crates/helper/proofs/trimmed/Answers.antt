-- `helper::trimmed` is `trim`. Assumes nothing.
use Rattle.std.proofs.Common.{rules}
use Rattle.helper.proofs.Laws.{trim-is}
use Rattle.helper.proofs.trimmed.Goals as goal

pub returns : goal.returns
returns c = search (rules, trim-is)
