use Rattle.std.proofs.Common.{rules}
use Rattle.lookup.proofs.Scan.{looked-begin, looked-end, looked-within, looked-here, looked-on, looked-less}
use Rattle.lookup.proofs.first_in.Goals as goal

pub loop-at-init : goal.loop-at-init
loop-at-init c = search (rules, looked-begin)

pub is_wanted-requires : goal.is_wanted-requires
is_wanted-requires c = search (rules, looked-within)

pub returns-then-is_wanted : goal.returns-then-is_wanted
returns-then-is_wanted c = search (rules, looked-here)

pub loop-at-smaller : goal.loop-at-smaller
loop-at-smaller c = search (rules, looked-less)

pub loop-at-preserved : goal.loop-at-preserved
loop-at-preserved c = search (rules, looked-on)

pub returns : goal.returns
returns c = search (rules, looked-end)
