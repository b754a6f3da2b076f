use Rattle.std.proofs.Common.{rules}
use Rattle.lookup.proofs.Serials.{passed-begin, passed-other, spans-end, spans-low, spans-atom}
use Rattle.lookup.proofs.spans_serial.Goals as goal

pub loop-at-init : goal.loop-at-init
loop-at-init c = search (rules, passed-begin)

pub returns-then-serial-first : goal.returns-then-serial-first
returns-then-serial-first c = search (rules, spans-low)

pub returns-then-store-word-eq-ATOM : goal.returns-then-store-word-eq-ATOM
returns-then-store-word-eq-ATOM c = search (rules, spans-atom)

pub loop-at-preserved : goal.loop-at-preserved
loop-at-preserved c = search (rules, passed-other)

pub returns : goal.returns
returns c = search (rules, spans-end)
