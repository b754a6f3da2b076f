-- `helper::prepare_chain_id` is `chain_id`. Assumes nothing.
use Rattle.std.proofs.Common.{rules}
use Rattle.helper.proofs.Laws.{chain-good, chain-bad}
use Rattle.helper.proofs.prepare_chain_id.Goals as goal

pub returns-then-valid_text-is_empty : goal.returns-then-valid_text-is_empty
returns-then-valid_text-is_empty c = search (rules, chain-good)

pub returns-else-valid_text-is_empty : goal.returns-else-valid_text-is_empty
returns-else-valid_text-is_empty c = search (rules, chain-bad)
