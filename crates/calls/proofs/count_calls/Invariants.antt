-- `calls::count_calls` meets its contract. The calls counted and those left are all, and the words left fall. Assumes nothing.
use Rattle.std.specs.Prelude.{option_map}
use Rattle.std.proofs.Common.{length, ◌≡◌, ◌≤◌, ◌+◌}
use Rattle.calls.specs.Format.{read_calls}
use Rattle.calls.proofs.Laws.{counted_from}
use Rattle.calls.proofs.count_calls.Given as goal

abbrev pub invariant-loop-rest : goal.invariant-loop-rest
invariant-loop-rest l = (l.calls + length l.rest ≤ length l.list) × (counted_from l.calls (read_calls l.rest) ≡ option_map length (read_calls l.list))

abbrev pub decreases-loop-rest : goal.decreases-loop-rest
decreases-loop-rest l = length l.rest
