-- Change request §9, "PDB lines in": what is claimed of the texts that are taken, of the store that is filled, and of the way back. It is proved in
-- proofs/Reading.antt. Assumes nothing.
use Rattle.std.specs.Prelude.{ℕ, ◌<◌, ◌^◌, ◌≡◌, true, false, List, [], ◌∷◌, map, length, Ok}
use Rattle.machine.specs.Lists.{is_some, all}
use Rattle.machine.specs.Store.{Machine, records_of, group, good_length, good_layout, read_store, open_run}
use Rattle.machine.specs.Edit.{store_after, store_answers}
use Rattle.machine.specs.Demand.{accepts}
use Rattle.machine.specs.Lines.{entry_of, writable, machine_text}
use Rattle.machine.specs.LinesIn.{entries_in, read_text}
use Rattle.machine.specs.Read.{calls_from, read_run, tidy_machine}
use Rattle.machine.specs.Write.{store_text}
use Rattle.laws.specs.Lists.{All}

-- words are u64
abbrev pub U64 : List ℕ → Type 0
U64 w = All (λ x. x < 2 ^ 64) w

-- "the text that the writer of §1, with §5, could make from a store of any length, document 01's limit on it aside"
pub record Written (t : List ℕ) : Type 0 where
  pub store : List ℕ
  pub words : U64 store
  pub good : good_layout store ≡ true
  pub fits : writable (map entry_of (group 4 (records_of store))) ≡ true
  pub text : machine_text (group 4 (records_of store)) ≡ t

-- a text that is read into these words, and written again from them
pub record ComesBack (t w : List ℕ) : Type 0 where
  pub taken : accepts (read_run t w).0 ≡ true
  pub again : store_text (read_run t w).1 ≡ Ok t

pub record Reading : Type 0 where
  -- "The reader takes exactly the text that the writer of §1, with §5, could make". A slice has fewer than 2 ^ 64 bytes; the
  -- records of a longer text could end at a word whose index no u64 trailer holds
  pub only-written : (t : List ℕ) → length t < 2 ^ 64 → is_some (read_text t) ≡ true → Written t
  pub all-written : (t : List ℕ) → Written t → is_some (read_text t) ≡ true
  -- "Any other text gives 17"
  pub other : (t w : List ℕ) → good_length (length w) ≡ true → is_some (read_text t) ≡ false → (read_run t w).0 ≡ 17 ∷ []
  -- "it refuses without touching it"
  pub untouched : (t w : List ℕ) → accepts (read_run t w).0 ≡ false → (read_run t w).1 ≡ w
  -- "builds by model and atom additions": a store that is filled is what these calls make of one just opened, and none of them is refused. So the
  -- third demand speaks of it
  pub built : (t w : List ℕ) → accepts (read_run t w).0 ≡ true → (read_run t w).1 ≡ store_after (open_run w).1 (calls_from 0 (entries_in t))
  pub accepted : (t w : List ℕ) → accepts (read_run t w).0 ≡ true → all accepts (store_answers (open_run w).1 (calls_from 0 (entries_in t))) ≡ true
  -- "For a structure in which no two siblings have equal ids, no chain, residue or conformer is empty, and the writer accepts it, reading the text
  -- into a store of equal length and writing again gives the same bytes."
  pub comes_back : (w w₂ : List ℕ) (m : Machine) (t : List ℕ) → U64 w → read_store w ≡ Ok m → tidy_machine m ≡ true → store_text w ≡ Ok t → length w₂ ≡ length w → ComesBack t w₂
