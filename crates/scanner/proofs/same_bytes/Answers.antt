use Rattle.std.proofs.Common.{rules}
use Rattle.scanner.proofs.Laws.{none_alike, more-alike, all_alike}
use Rattle.scanner.proofs.same_bytes.Goals as goal

pub loop-i-init : goal.loop-i-init
loop-i-init c = search (rules, none_alike)

pub loop-i-preserved : goal.loop-i-preserved
loop-i-preserved c = search (rules, more-alike)

pub returns : goal.returns
returns c = search (rules, all_alike)
