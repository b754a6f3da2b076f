-- Machines that a store can hold. Assumes nothing.
use Rattle.std.specs.Prelude.{ℕ, zero, suc, ◌≤◌, ◌≡◌, Bool, true, ◌&&◌, length}
use Rattle.machine.specs.Lists.{all}
use Rattle.machine.specs.Record.{good_fields}
use Rattle.machine.specs.Store.{Branch, Machine, records, capacity}

-- every record of a branch has good fields
unfoldable pub good_branch : (k : ℕ) → Branch k → Bool
good_branch zero a = good_fields zero a
good_branch (suc k) t = good_fields (suc k) t.0 && all (good_branch k) t.1

-- a machine that fits into a store of n words
pub record Fit (n : ℕ) (m : Machine) : Type 0 where
  pub good : all (good_branch 4) m ≡ true
  pub room : length (records m) ≤ capacity n
