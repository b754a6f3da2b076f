use Rattle.std.proofs.Common.{arith, ◌∙◌}
use Rattle.helper.proofs.Laws.{packing-again, packing-end}
use Rattle.helper.proofs.pack_text.Goals as goal

pub loop-i-preserved : goal.loop-i-preserved
loop-i-preserved c = packing-again c.loop-i.invariant c.from.result (omega arith) (c.from.ensures ∙ c.upper_if.ensures)

pub returns : goal.returns
returns c = packing-end c.loop-i.invariant (omega arith)
