-- `scanner::taken_model` is `taken_model`. Assumes nothing.
use Rattle.std.proofs.Common.{rules}
use Rattle.scanner.proofs.Laws.{fits-then, model-written, model-not}
use Rattle.scanner.proofs.taken_model.Goals as goal

pub model_line-again-requires : goal.model_line-again-requires
model_line-again-requires c = search (rules, fits-then)

pub returns-then-fits_model : goal.returns-then-fits_model
returns-then-fits_model c = search (rules, model-written)

pub returns : goal.returns
returns c = search (rules, model-not)
