-- `helper::pack_text` adds up what its bytes are worth. Assumes nothing.
use Rattle.helper.proofs.Laws.{Packing}
use Rattle.helper.proofs.pack_text.Given as goal

abbrev pub invariant-loop-i : goal.invariant-loop-i
invariant-loop-i l = Packing l.up l.text l.i l.word l.unit
