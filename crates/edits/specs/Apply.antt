-- A list of edits applied to a store as one call. Assumes nothing.
use Rattle.std.specs.Prelude.{ℕ, ◌*◌, cond, List, [], ◌++◌, length, drop, leb, Err, None, Ok, Option, Some}
use Rattle.machine.specs.Lists.{concat_map}
use Rattle.machine.specs.Answer.{Result, counted_numbers}
use Rattle.machine.specs.Store.{Machine, read_store}
use Rattle.machine.specs.Edit.{Call, store_after, store_answers}
use Rattle.calls.specs.Format.{read_calls}
use Rattle.machine.specs.declared.Refusal.TheVariants.{BadList, ShortAnswers}

-- the answer's numbers, the store's words and the output's words afterwards
pub record Run : Type 0 where
  pub numbers : List ℕ
  pub store : List ℕ
  pub out : List ℕ

abbrev pub ran : List ℕ → List ℕ → List ℕ → Run
ran numbers store out = record { numbers = numbers; store = store; out = out }

-- three words for each call's answer, from the output's first word on
abbrev pub answered : List (List ℕ) → List ℕ → List ℕ
answered answers out = concat_map (λ (a : List ℕ). a) answers ++ drop (3 * length answers) out

-- the store's words and the output's after a list's calls
abbrev pub applied : List ℕ → List ℕ → List Call → List ℕ × List ℕ
applied w out cs = (store_after w cs, answered (store_answers w cs) out)

abbrev pub run_calls : List ℕ → List ℕ → Option (List Call) → Run
run_calls w out None = ran (counted_numbers (Err BadList)) w out
run_calls w out (Some cs) =
    cond (leb (3 * length cs) (length out))
    (ran (counted_numbers (Ok (length cs))) (applied w out cs).0 (applied w out cs).1)
    (ran (counted_numbers (Err ShortAnswers)) w out)

abbrev pub run_read : List ℕ → List ℕ → List ℕ → Result Machine → Run
run_read w list out (Err r) = ran (counted_numbers (Err r)) w out
run_read w list out (Ok m) = run_calls w out (read_calls list)

-- 1 and 2 by the store, then the list, then the output; a refusal changes nothing
unfoldable pub apply_run : List ℕ → List ℕ → List ℕ → Run
apply_run w list out = run_read w list out (read_store w)

-- ---- what inner contracts cite

-- the calls of a list that is well formed
abbrev pub calls_of : Option (List Call) → List Call
calls_of None = []
calls_of (Some cs) = cs
