use Rattle.std.proofs.Common.{rules}
use Rattle.store.proofs.Turns.{record-length, led-none, led-next, led-not, led-end}
use Rattle.store.proofs.atoms_start.Goals as goal

pub loop-at-init : goal.loop-at-init
loop-at-init c = search (rules, led-none)

pub good_atom-requires : goal.good_atom-requires
good_atom-requires c = search (rules, record-length)

pub loop-at-preserved : goal.loop-at-preserved
loop-at-preserved c = search (rules, led-next)

pub returns-else-good_atom : goal.returns-else-good_atom
returns-else-good_atom c = search (rules, led-not)

pub returns : goal.returns
returns c = search (rules, led-end)
