use Rattle.columns.proofs.Words.{Spelling}
use Rattle.columns.proofs.put_word.Given as goal

abbrev pub invariant-loop-rest : goal.invariant-loop-rest
invariant-loop-rest l = Spelling l.at l.word l.initial.line l.line l.i l.rest l.unit

abbrev pub decreases-loop-rest : goal.decreases-loop-rest
decreases-loop-rest l = l.unit
