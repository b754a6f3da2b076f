-- The third demand, of what one call of the code leaves: a store is opened, a list of edits applied to it, and find run from one
-- start for A, B, "A and B", "A or B" and "not A". Each fact has the demand's sentence beside it. Assumes nothing.
use Rattle.std.specs.Prelude.{ℕ, zero, suc, ◌+◌, ◌≡◌, true, List, [], ◌∷◌, length, take, drop, Some}
use Rattle.machine.specs.Answer.{opened_numbers, counted_numbers}
use Rattle.machine.specs.Store.{Machine, lay_out, open_run}
use Rattle.machine.specs.Query.{tables}
use Rattle.machine.specs.Find.{Site, atoms_of, atoms_from, lowest, find_from}
use Rattle.machine.specs.Edit.{Call, machine_after, machine_answers}
use Rattle.machine.specs.Demand.{accepts, added, removed}
use Rattle.calls.specs.Format.{read_calls}
use Rattle.edits.specs.Apply.{apply_run}
use Rattle.demands.specs.Queries.{Runs, runs_of, Queries}
use Rattle.claims.specs.declared.Finds.{Finds}
use Rattle.claims.specs.declared.Answers.{Answers}

-- ---- what the caller sees: numbers and words, and nothing else

abbrev pub runs_seen : Finds → (first second both either opposite : List ℕ) → Runs
runs_seen r first second both either opposite =
    record {
      first = (counted_numbers r.first, first);
      second = (counted_numbers r.second, second);
      both = (counted_numbers r.both, both);
      either = (counted_numbers r.either, either);
      opposite = (counted_numbers r.opposite, opposite);
    }

-- of the whole call: the numbers that opening and the list were answered with, the words of the store and of the edits' answers, the runs
pub record Seen : Type 0 where
  pub opened : List ℕ
  pub applied : List ℕ
  pub store : List ℕ
  pub answers : List ℕ
  pub runs : Runs

abbrev pub seen : Answers → (store answers first second both either opposite : List ℕ) → Seen
seen r store answers first second both either opposite =
    record {
      opened = opened_numbers r.opened;
      applied = counted_numbers r.applied;
      store = store;
      answers = answers;
      runs = runs_seen r.finds first second both either opposite;
    }

-- an edit's answer is three words: result, found, removed
abbrev pub threes : ℕ → List ℕ → List (List ℕ)
threes zero ws = []
threes (suc n) ws = take 3 ws ∷ threes n (drop 3 ws)

-- ---- the facts, of a store of n words, the calls, their answers, and the plain machine m that was fed the calls

pub record Facts (n : ℕ) (calls : List Call) (answers : List (List ℕ)) (m : Machine) (start A B : List ℕ) (store : List ℕ) (r : Runs) : Type 0 where
  -- "after it the store holds exactly the structure of document 01's plain machine, fed the same list"
  pub held : store ≡ lay_out n m
  pub answered : answers ≡ machine_answers n [] calls
  -- "added − removed is the number of stored atoms"
  pub counted : length (atoms_of m) + removed answers ≡ added calls answers
  -- the five runs, among the atoms under the start
  pub queries : (atoms : List Site) → atoms_from start m ≡ Some atoms → Queries tables (lowest start) atoms A B r

-- ---- the claim

-- every list of the edit calls, "refused ones included": the words of the list stand for calls
pub record Claim (n : ℕ) (list start A B : List ℕ) (s : Seen) : Type 0 where
  pub calls : List Call
  pub read : read_calls list ≡ Some calls
  pub facts : Facts n calls (threes (length calls) s.answers) (machine_after n [] calls) start A B s.store s.runs

-- "from a store just opened": opening was accepted, and so was the list, that is, its words are a list and its answers have room
abbrev pub Claims : ℕ → (list start A B : List ℕ) → Seen → Type 0
Claims n list start A B s = accepts s.opened ≡ true → accepts s.applied ≡ true → Claim n list start A B s

-- ---- the same call as one equation, refusals included

abbrev pub whole_run : (w list answers start A B first second both either opposite : List ℕ) → Seen
whole_run w list answers start A B first second both either opposite =
    let run = apply_run (open_run w).1 list answers in
    record {
      opened = (open_run w).0;
      applied = run.numbers;
      store = run.store;
      answers = run.out;
      runs = runs_of (find_from run.store start) A B first second both either opposite;
    }
