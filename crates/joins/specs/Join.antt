-- What the contracts of `src/` cite: a join by the length of its positions, and what it does to records. Assumes nothing.
use Rattle.std.specs.Prelude.{ℕ, zero, suc, ◌≤◌, ◌<◌, List, ◌++◌, length, take, drop, Err}
use Rattle.machine.specs.Answer.{Result}
use Rattle.machine.specs.Record.{Words}
use Rattle.machine.specs.Store.{Machine, records}
use Rattle.machine.specs.Edit.{Change, join_at, with_machine}
use Rattle.machine.specs.declared.Refusal.TheVariants.{NoPosition}
use Rattle.moves.specs.Over.{rotated}
use Rattle.seek.specs.Seek.{Good, held}

-- one index joins models, two chains, three residues, four conformers
abbrev pub join_on : ℕ → List ℕ → List ℕ → Machine → Result Machine
join_on zero a b m = Err NoPosition
join_on (suc zero) a b m = join_at 0 3 a b m
join_on (suc (suc zero)) a b m = join_at 1 2 a b m
join_on (suc (suc (suc zero))) a b m = join_at 2 1 a b m
join_on (suc (suc (suc (suc zero)))) a b m = join_at 3 0 a b m
join_on (suc (suc (suc (suc (suc n))))) a b m = Err NoPosition

abbrev pub join : List ℕ → List ℕ → Machine → Result Change
join a b m = with_machine (join_on (length a) a b m)

-- records without the one of number `gone`, and then those from a to m and those from m to b exchanged
unfoldable pub cut_turned : ℕ → ℕ → ℕ → ℕ → List Words → List Words
cut_turned gone a m b rs = rotated a m b (take gone rs ++ drop (suc gone) rs)

-- a good store has that record, and the two blocks after it is gone
pub record Turns (w : List ℕ) (gone a m b : ℕ) : Type 0 where
  pub good : Good w
  pub there : gone < length (records (held w))
  pub low : a ≤ m
  pub high : m ≤ b
  pub room : b < length (records (held w))
