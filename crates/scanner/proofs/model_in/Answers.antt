-- `scanner::model_in` is `model_in`. Assumes nothing.
use Rattle.std.proofs.Common.{rules}
use Rattle.scanner.proofs.Laws.{model_is}
use Rattle.scanner.proofs.model_in.Goals as goal

pub returns : goal.returns
returns c = search (rules, model_is)
