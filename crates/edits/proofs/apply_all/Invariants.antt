-- `edits::apply_all` meets its contract. The loop's invariant: the calls that are left do what all of them did, no length changes, and
-- the place is that of the store. Assumes nothing.
use Rattle.std.proofs.Common.{length, ◌-◌, ◌≡◌}
use Rattle.insertion.specs.Cursor.{Valid}
use Rattle.edits.proofs.Lists.{Going}
use Rattle.edits.proofs.apply_all.Given as goal

abbrev pub invariant-loop-at : goal.invariant-loop-at
invariant-loop-at l = Going l.initial.store l.initial.out l.list l.store l.out l.at l.written × (length l.store ≡ length l.initial.store) × (length l.bytes ≡ 1024) × Valid l.cursor l.store

abbrev pub decreases-loop-at : goal.decreases-loop-at
decreases-loop-at l = length l.list - l.at
