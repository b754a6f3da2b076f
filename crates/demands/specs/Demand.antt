-- The third demand: what it says of any list of edits from a store just opened, and of any runs of find after it, from any start. It is proved in
-- proofs/Demand.antt. Assumes nothing.
use Rattle.std.specs.Prelude.{ℕ, ◌+◌, ◌≡◌, List, [], length, Some}
use Rattle.machine.specs.Store.{Machine, lay_out, open_run}
use Rattle.machine.specs.Query.{tables}
use Rattle.machine.specs.Find.{Site, atoms_of, atoms_from, lowest, find_from}
use Rattle.machine.specs.Edit.{Call, machine_after, machine_answers, store_after, store_answers}
use Rattle.machine.specs.Demand.{added, removed}
use Rattle.demands.specs.Queries.{Queries, runs_of}

-- ---- what is claimed: w is any words that opening accepts, and calls any list of edits

module _ (w : List ℕ) (calls : List Call) where
  -- the store after the edits, and their answers
  abbrev pub after : List ℕ
  after = store_after (open_run w).1 calls

  abbrev pub answers : List (List ℕ)
  answers = store_answers (open_run w).1 calls

  -- the plain machine, fed the same list
  abbrev pub machine : Machine
  machine = machine_after (length w) [] calls

  pub record Demand3 : Type 0 where
    -- the edits answer as the machine does, and the store holds exactly its structure
    pub answered : answers ≡ machine_answers (length w) [] calls
    pub held : after ≡ lay_out (length w) machine
    -- "added − removed is the number of stored atoms"
    pub counted : length (atoms_of machine) + removed answers ≡ added calls answers
    -- any runs of find on that store from one start, which with no index is the whole store. Change request §4: "stored atoms are then those under the start,
    -- their number stands for added − removed, and lists that are compared come from one start"
    pub queries : (start : List ℕ) (atoms : List Site) → atoms_from start machine ≡ Some atoms → (A B first second both either opposite : List ℕ)
        → Queries tables (lowest start) atoms A B (runs_of (find_from after start) A B first second both either opposite)
