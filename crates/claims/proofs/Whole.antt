-- The facts hold of what the whole run leaves: they are those of `demand3`, at the list's calls and the five runs. Assumes nothing.
use Rattle.std.specs.Prelude.{Err, None, Ok, Option, Some}
use Prim.Native.Nat.{ℕ, ◌*◌}
use mathlib.Core.Path.{◌≡◌, refl, sym, ◌∙◌}
use mathlib.Core.Bool.{Bool, true, false, false≢true}
use mathlib.Core.List.{List, [], ◌∷◌, ◌++◌, append_assoc}
use lib.ListN.{length}
use lib.Seq.{take_at, drop_at}
use lib.Dec.{leb}
use Rattle.machine.specs.Lists.{concat_map}
use Rattle.machine.specs.Answer.{Result}
use Rattle.machine.specs.Store.{Machine, read_store, open_run}
use Rattle.machine.specs.Edit.{Call, Change, machine_step, answer, next, machine_answers, store_after, store_answers}
use Rattle.machine.specs.Demand.{accepts}
use Rattle.laws.specs.Steps.{refusal-number}
use Rattle.calls.specs.Format.{read_calls}
use Rattle.edits.specs.Apply.{Run, answered, run_calls, run_read, apply_run}
use Rattle.demands.specs.Demand.{answers}
use Rattle.demands.proofs.Demand.{demand3}
use Rattle.claims.specs.Claim.{threes, Claims, whole_run}

-- ---- the list

-- an accepted list: it stands for calls, and each had its turn
record Ran (w list before : List ℕ) (run : Run) : Type 0 where
  calls : List Call
  read : read_calls list ≡ Some calls
  store : run.store ≡ store_after w calls
  out : run.out ≡ answered (store_answers w calls) before

module _ (w list out : List ℕ) where
  by-room : (cs : List Call) → read_calls list ≡ Some cs → (b : Bool) → leb (3 * length cs) (length out) ≡ b → accepts (run_calls w out (Some cs)).numbers ≡ true → Ran w list out (run_calls w out (Some cs))
  by-room cs e true i a = rw i record { calls = cs; read = e; store = refl; out = refl }
  by-room cs e false i a = absurd (false≢true (rw i at a))

  by-calls : (o : Option (List Call)) → read_calls list ≡ o → accepts (run_calls w out o).numbers ≡ true → Ran w list out (run_calls w out o)
  by-calls None e a = absurd (false≢true a)
  by-calls (Some cs) e a = by-room cs e (leb (3 * length cs) (length out)) refl a

  by-store : (r : Result Machine) → accepts (run_read w list out r).numbers ≡ true → Ran w list out (run_read w list out r)
  by-store (Err c) a = absurd (false≢true (sym (refusal-number c) ∙ a))
  by-store (Ok m) a = by-calls (read_calls list) refl a

  list-ran : accepts (apply_run w list out).numbers ≡ true → Ran w list out (apply_run w list out)
  unfolding apply_run
  list-ran a = by-store (read_store w) a

-- ---- the answers, read off the output

threes-answers : (n : ℕ) (m : Machine) (cs : List Call) (rest : List ℕ) → threes (length cs) (concat_map (λ (a : List ℕ). a) (machine_answers n m cs) ++ rest) ≡ machine_answers n m cs
unfolding machine_answers
threes-answers n m [] rest = refl
threes-answers n m (c ∷ cs) rest =
    let a = answer m (machine_step n m c) in
    let more = concat_map (λ (a : List ℕ). a) (machine_answers n (next m (machine_step n m c)) cs) in
    rw (append_assoc a, take_at a (more ++ rest) 3 (three (machine_step n m c)), drop_at a (more ++ rest) 3 (three (machine_step n m c)), threes-answers n (next m (machine_step n m c)) cs rest)
  where
    three : (r : Result Change) → length (answer m r) ≡ 3
    three (Ok x) = refl
    three (Err e) = refl

-- ---- the whole

module _ (w list out start A B first second both either opposite : List ℕ) where
  pub whole-claims : Claims (length w) list start A B (whole_run w list out start A B first second both either opposite)
  whole-claims opens lists =
      let l = list-ran (open_run w).1 list out lists in
      let cs = l.calls in
      let d = demand3 w cs opens in
      let is : threes (length cs) (apply_run (open_run w).1 list out).out ≡ answers w cs = rw (l.out, d.answered) (threes-answers (length w) [] cs _) in
      record {
        calls = cs;
        read = l.read;
        facts = rw (is, l.store) record {
          held = d.held;
          answered = d.answered;
          counted = d.counted;
          queries = λ atoms u. d.queries start atoms u A B first second both either opposite;
        };
      }
