-- `filling::add_entry` adds a model and its atoms. Assumes nothing.
use Rattle.std.proofs.Common.{rules}
use Rattle.filling.proofs.Models.{entry_ready, entry_done}
use Rattle.filling.proofs.add_entry.Goals as goal

pub add_chains-requires : goal.add_chains-requires
add_chains-requires c = search (rules, entry_ready)

pub returns : goal.returns
returns c = search (rules, entry_done)
