-- `program::read_words` meets its contract. The loop's invariant: the words passed stand over the slice. Assumes nothing.
use Rattle.std.proofs.Common.{◌≡◌}
use Rattle.machine.specs.Program.{words_in}
use Rattle.moves.specs.Over.{over}
use Rattle.program.proofs.read_words.Given as goal

abbrev pub invariant-loop-i : goal.invariant-loop-i
invariant-loop-i l = l.words ≡ over 0 (words_in l.i l.input) l.initial.words
