-- `removals::remove_span` meets its contract. Assumes nothing.
use Rattle.std.proofs.Common.{rules}
use Rattle.removals.proofs.Laws.{span-words}
use Rattle.removals.proofs.remove_span.Goals as goal

pub returns-clause-store_after : goal.returns-clause-store_after
returns-clause-store_after c = search (rules, span-words)
