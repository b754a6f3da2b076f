use Rattle.std.proofs.Common.{rules, sym}
use Rattle.moves.proofs.Laws.{over_none}
use Rattle.program.proofs.Laws.{words-turn}
use Rattle.program.proofs.read_words.Goals as goal

pub loop-i-init : goal.loop-i-init
loop-i-init c = sym (over_none 0 c.args.words.now)

pub loop-i-preserved : goal.loop-i-preserved
loop-i-preserved c = search (rules, words-turn)
