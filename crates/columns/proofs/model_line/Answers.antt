-- `columns::model_line` meets its contract. Assumes nothing.
use Rattle.std.proofs.Common.{rules}
use Rattle.columns.proofs.Parts.{model-serial, model-whole}
use Rattle.columns.proofs.model_line.Goals as goal

pub put_number-requires : goal.put_number-requires
put_number-requires c = search (rules, model-serial)

pub returns : goal.returns
returns c = search (rules, model-whole)
