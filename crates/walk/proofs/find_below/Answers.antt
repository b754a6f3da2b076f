-- `walk::find_below` meets its contract: the output is written only where there is room for all hits. Assumes nothing.
use Rattle.std.proofs.Common.{rules}
use Rattle.walk.proofs.Laws.{all_fit, counted-fit, found-law}
use Rattle.walk.proofs.find_below.Goals as goal

pub returns-then-takes_all : goal.returns-then-takes_all
returns-then-takes_all c = search (rules, found-law, all_fit)

pub returns-then-find_in-room : goal.returns-then-find_in-room
returns-then-find_in-room c = search (rules, found-law, counted-fit)
