use Rattle.std.proofs.Common.{rules}
use Rattle.lookup.proofs.Serials.{passed-begin, passed-other, any-end, any_here, any-pass}
use Rattle.lookup.proofs.has_serial.Goals as goal
use Rattle.lookup.proofs.has_serial.Goals.{else-store-word-eq-ATOM-via-then-store-word-eq-ATOM+else-serial-store, else-store-word-eq-ATOM-via-else-store-word-eq-ATOM}

pub loop-at-init : goal.loop-at-init
loop-at-init c = search (rules, passed-begin)

pub returns-then-serial-store : goal.returns-then-serial-store
returns-then-serial-store c = search (rules, any_here)

pub loop-at-preserved : goal.loop-at-preserved
loop-at-preserved c =
    elim c.else-store-word-eq-ATOM.branch [
      | else-store-word-eq-ATOM-via-then-store-word-eq-ATOM+else-serial-store w ↦ search (rules, any-pass)
      | else-store-word-eq-ATOM-via-else-store-word-eq-ATOM w ↦ search (rules, passed-other)
    ]

pub returns : goal.returns
returns c = search (rules, any-end)
