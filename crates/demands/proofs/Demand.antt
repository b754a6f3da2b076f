-- The third demand, proved: one theorem over any list of edits from a store just opened, and any runs of find after it. Assumes nothing.
use Rattle.std.specs.Prelude.{Err, None, Ok, Option, Some}
use Prim.Native.Nat.{ℕ, ◌+◌}
use mathlib.Core.Path.{◌≡◌, refl, ap}
use mathlib.Core.Bool.{Bool, true, false, cond, false≢true}
use mathlib.Core.List.{List, [], ◌∷◌}
use native.Mathlib.Omega.{arith}
use lib.ListN.{length, replicate}
use Rattle.machine.specs.Answer.{Result}
use Rattle.machine.specs.Store.{Machine, stored, lay_out, good_length, read_store, open_run}
use Rattle.machine.specs.Query.{tables, read_tree, not_tree}
use Rattle.machine.specs.Find.{Site, atoms_of, atoms_from, lowest, hits_from, find_from, find_run}
use Rattle.machine.specs.Edit.{Call, Change, machine_step, answer, next, step_by, store_step, machine_after, machine_answers, store_after, store_answers}
use Rattle.machine.specs.Demand.{added, removed, Accepted, count, undecided}
use Rattle.laws.specs.Good.{Fit}
use Rattle.laws.specs.Layout.{lay_out-length, fit_words, read-lay_out, open-empty}
use Rattle.laws.specs.Numbers.{atoms-stored, whole-start, under-start, under-five, under-rises}
use Rattle.laws.specs.Steps.{step_keeps, step_counts}
use Rattle.demands.specs.Demand.{after, answers, machine, Demand3}
use Rattle.demands.proofs.Queries.{Listed, run-listed, queries}

-- ---- the edits

-- one call on the words of a machine that fits
module _ (n : ℕ) (m : Machine) (c : Call) (g : good_length n ≡ true) (f : Fit n m) where
  step-laid : (step : Machine → Result Change) (r : Result Change) → step m ≡ r → step_by (lay_out n m) step ≡ (answer m r, lay_out n (next m r))
  unfolding step_by
  step-laid step (Ok x) e = rw (read-lay_out n m g f, e, lay_out-length n m (fit_words n m g f))
  step-laid step (Err x) e = rw (read-lay_out n m g f, e)

  pub store_step_lem : store_step (lay_out n m) c ≡ (answer m (machine_step n m c), lay_out n (next m (machine_step n m c)))
  unfolding store_step
  store_step_lem = step-laid (λ x. machine_step (length (lay_out n m)) x c) (machine_step n m c) (rw (lay_out-length n m (fit_words n m g f)))

-- the whole list
pub record Steps (n : ℕ) (m : Machine) (calls : List Call) : Type 0 where
  pub fit : Fit n (machine_after n m calls)
  pub answered : store_answers (lay_out n m) calls ≡ machine_answers n m calls
  pub held : store_after (lay_out n m) calls ≡ lay_out n (machine_after n m calls)
  pub counted : stored (machine_after n m calls) + removed (machine_answers n m calls) ≡ stored m + added calls (machine_answers n m calls)

steps : (n : ℕ) (m : Machine) (calls : List Call) → good_length n ≡ true → Fit n m → Steps n m calls
unfolding store_after store_answers machine_after machine_answers added
steps n m [] g f = record { fit = f; answered = refl; held = refl; counted = refl }
steps n m (c ∷ cs) g f =
    let m' = next m (machine_step n m c) in
    let s = steps n m' cs g (step_keeps n m c f) in
    let e = store_step_lem n m c g f in
    let k = step_counts n m c in
    let l = s.counted in
    record {
      fit = s.fit;
      answered = rw e (ap {B = List (List ℕ)} (λ l. answer m (machine_step n m c) ∷ l) s.answered);
      held = rw e s.held;
      counted = omega arith;
    }

-- ---- find on words that hold a machine

module _ (m : Machine) (w : List ℕ) (e : read_store w ≡ Ok m) (start : List ℕ) where
  pub find-listed : (atoms : List Site) → atoms_from start m ≡ Some atoms → (t out : List ℕ) → Accepted (find_from w start t out) → Listed tables (lowest start) atoms t (find_from w start t out)
  unfolding find_from hits_from
  find-listed atoms u t out a = rw (e, u) (run-listed tables (lowest start) atoms (under-five (stored m) atoms (under-start start m atoms u)) t out (read_tree t) refl (rw (e, u) at a))

  -- an accepted run has a start
  pub start-found : (o : Option (List Site)) → atoms_from start m ≡ o → (t out : List ℕ) → Accepted (find_from w start t out) → (atoms : List Site) × (atoms_from start m ≡ Some atoms)
  unfolding find_from hits_from
  start-found None u t out a = absurd (false≢true (rw (e, u) at a))
  start-found (Some atoms) u t out a = (atoms, u)

-- ---- a store just opened

-- opening accepts what has a good length
pub opened-length : (w : List ℕ) → Accepted (open_run w) → good_length (length w) ≡ true
unfolding open_run
opened-length w a = go (good_length (length w)) a
  where
    go : (b : Bool) → Accepted (cond b (0 ∷ [], replicate (length w) 0) (1 ∷ [], w)) → b ≡ true
    go true h = refl
    go false h = absurd (false≢true h)

pub opened-laid : (w : List ℕ) → good_length (length w) ≡ true → (open_run w).1 ≡ lay_out (length w) []
unfolding open_run
opened-laid w g = rw g (open-empty (length w) g)

pub empty-fits : (n : ℕ) → Fit n []
empty-fits n = record { good = refl; room = omega arith }

module _ (w : List ℕ) (calls : List Call) (opens : Accepted (open_run w)) where
  accepted : good_length (length w) ≡ true
  accepted = opened-length w opens

  opened : (open_run w).1 ≡ lay_out (length w) []
  opened = opened-laid w accepted

  all-steps : Steps (length w) [] calls
  all-steps = steps (length w) [] calls accepted (empty-fits (length w))

  is_held : after w calls ≡ lay_out (length w) (machine w calls)
  is_held = rw opened all-steps.held

  is-answered : answers w calls ≡ machine_answers (length w) [] calls
  is-answered = rw opened all-steps.answered

  is-counted : length (atoms_of (machine w calls)) + removed (answers w calls) ≡ added calls (answers w calls)
  is-counted = rw is-answered (let c = all-steps.counted in omega (arith, atoms-stored (machine w calls)))

  reads : read_store (after w calls) ≡ Ok (machine w calls)
  reads = rw is_held (read-lay_out (length w) (machine w calls) accepted all-steps.fit)

  -- the third demand
  pub demand3 : Demand3 w calls
  demand3 =
      record {
        answered = is-answered;
        held = is_held;
        counted = is-counted;
        queries = λ start atoms u.
            queries tables (lowest start) atoms _ _ (under-rises _ atoms (under-start start (machine w calls) atoms u)) (find_from (after w calls) start) (find-listed (machine w calls) (after w calls) reads start atoms u);
      }

  -- "n(A) + n(not A) = added − removed + undecided", on the whole store
  pub added-removed : (A o p : List ℕ) → Accepted (find_run (after w calls) A o) → Accepted (find_run (after w calls) (not_tree A) p)
      → count (find_run (after w calls) A o) + count (find_run (after w calls) (not_tree A) p) + removed (answers w calls) ≡ added calls (answers w calls) + undecided tables 1 A (atoms_of (machine w calls))
  added-removed A o p x y = omega (arith, (demand3.queries [] (atoms_of (machine w calls)) (whole-start (machine w calls)) A [] o [] [] [] p).not-counts x y, is-counted)
