use Rattle.std.proofs.Common.{rules}
use Rattle.writer.proofs.Turns.{words-good, write-start, here-fits, here-room, write-next, last-room, write-end}
use Rattle.writer.proofs.write_all.Goals as goal

pub loop-n-init : goal.loop-n-init
loop-n-init c = search (rules, write-start)

pub put_record-at-requires : goal.put_record-at-requires
put_record-at-requires c = search (rules, words-good, here-fits, here-room)

pub enter-above-requires : goal.enter-above-requires
enter-above-requires c = search (rules, words-good)

pub loop-n-preserved : goal.loop-n-preserved
loop-n-preserved c = search (rules, write-next)

pub put_end-requires : goal.put_end-requires
put_end-requires c = search (rules, last-room)

pub returns : goal.returns
returns c = search (rules, write-end)
