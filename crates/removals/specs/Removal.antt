-- What the contracts of `src/` cite: records taken out of a store's words, and removals by a position of any length. Assumes nothing.
use Rattle.std.specs.Prelude.{ℕ, zero, suc, ◌-◌, ◌*◌, ◌≤◌, ◌<◌, List, length, set, Err}
use Rattle.machine.specs.Answer.{Result}
use Rattle.machine.specs.Store.{Machine, end}
use Rattle.machine.specs.Edit.{Change, remove_at, with_machine}
use Rattle.machine.specs.declared.Refusal.TheVariants.{NoPosition}
use Rattle.moves.specs.Over.{taken_out}

-- ---- words

-- records from number p up to q that stand below the words' trailer
pub record Removable (p q : ℕ) (w : List ℕ) : Type 0 where
  pub order : p ≤ q
  pub room : 12 * q ≤ end w
  pub low : end w < length w
  pub small : length w ≤ 1200001

-- the words without them: zeros fill up, and the trailer is what is left
unfoldable pub without_records : ℕ → ℕ → List ℕ → List ℕ
without_records p q w = set (taken_out (12 * p) (12 * q) (end w) w) (length w - 1) (end w - 12 * (q - p))

-- ---- positions: two indexes for a chain, five for an atom

abbrev pub removal_on : ℕ → List ℕ → Machine → Result Machine
removal_on zero pos m = Err NoPosition
removal_on (suc zero) pos m = Err NoPosition
removal_on (suc (suc zero)) pos m = remove_at 1 3 pos m
removal_on (suc (suc (suc zero))) pos m = remove_at 2 2 pos m
removal_on (suc (suc (suc (suc zero)))) pos m = remove_at 3 1 pos m
removal_on (suc (suc (suc (suc (suc zero))))) pos m = remove_at 4 0 pos m
removal_on (suc (suc (suc (suc (suc (suc n)))))) pos m = Err NoPosition

abbrev pub removal : List ℕ → Machine → Result Change
removal pos m = with_machine (removal_on (length pos) pos m)
