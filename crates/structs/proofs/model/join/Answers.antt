-- `structs::model::join` meets its contract. Assumes nothing.
use Rattle.std.proofs.Common.{rules}
use Rattle.structs.proofs.Laws.{models-joined}
use Rattle.structs.proofs.model.join.Goals as goal

pub returns : goal.returns
returns c = search (rules, models-joined)
