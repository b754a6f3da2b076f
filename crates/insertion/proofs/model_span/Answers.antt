-- `insertion::model_span` meets its contract: the place's model, or what `locate` finds. Assumes nothing.
use Rattle.std.proofs.Common.{rules}
use Rattle.insertion.proofs.PointsInto.{model-known}
use Rattle.insertion.proofs.model_span.Goals as goal

pub returns-then-cursor-model : goal.returns-then-cursor-model
returns-then-cursor-model c = search (rules, model-known)
