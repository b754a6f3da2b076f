use Rattle.std.proofs.Common.{rules}
use Rattle.lookup.proofs.Serials.{left-begin, left_end, left-atom, left_other}
use Rattle.lookup.proofs.last_serial.Goals as goal

pub loop-at-init : goal.loop-at-init
loop-at-init c = search (rules, left-begin)

pub returns-then-store-word-eq-ATOM : goal.returns-then-store-word-eq-ATOM
returns-then-store-word-eq-ATOM c = search (rules, left-atom)

pub loop-at-preserved : goal.loop-at-preserved
loop-at-preserved c = search (rules, left_other)

pub returns : goal.returns
returns c = search (rules, left_end)
