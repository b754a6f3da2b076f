-- `filling::add_chains` adds the lines chain by chain. Assumes nothing.
use Rattle.std.proofs.Common.{◌-◌}
use Rattle.lines.specs.Numbered.{line_count_in}
use Rattle.insertion.specs.Cursor.{Valid}
use Rattle.filling.proofs.Chains.{Chaining}
use Rattle.filling.proofs.add_chains.Given as goal

abbrev pub invariant-loop-n : goal.invariant-loop-n
invariant-loop-n l = Chaining l.model l.lines l.initial.store l.n l.store × Valid l.place l.store

abbrev pub decreases-loop-n : goal.decreases-loop-n
decreases-loop-n l = line_count_in l.lines - l.n
