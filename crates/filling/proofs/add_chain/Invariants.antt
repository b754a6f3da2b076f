-- `filling::add_chain` adds the lines of a chain. Assumes nothing.
use Rattle.std.proofs.Common.{◌-◌}
use Rattle.lines.specs.Numbered.{line_count_in}
use Rattle.insertion.specs.Cursor.{Valid}
use Rattle.filling.proofs.Chains.{Adding}
use Rattle.filling.proofs.add_chain.Given as goal

abbrev pub invariant-loop-at : goal.invariant-loop-at
invariant-loop-at l = Adding l.model l.lines l.initial.store l.at l.store × Valid l.place l.store

abbrev pub decreases-loop-at : goal.decreases-loop-at
decreases-loop-at l = line_count_in l.lines - l.at
