-- Change request §6, "know what happens to saved queries": what is claimed of runs of find before and after a missing element is set. It is proved in
-- proofs/Filling.antt. Assumes nothing.
use Rattle.std.specs.Prelude.{ℕ, suc, ◌≤◌, ◌≡◌, List, [], ◌∷◌, Ok, Some}
use Rattle.machine.specs.Lists.{nth}
use Rattle.machine.specs.Store.{Machine, read_store}
use Rattle.machine.specs.Find.{Site, atoms_from, find_from}
use Rattle.machine.specs.Edit.{SetElement, store_step}
use Rattle.machine.specs.Demand.{Accepted, count, list, StaysOrLoses}

-- a run before and a run after, of one tree from one start
pub record Saved (hit : List ℕ) (before after : List ℕ × List ℕ) : Type 0 where
  -- "the hit list either stays the same or loses exactly that atom"
  pub hits : StaysOrLoses hit (list before) (list after)
  -- "so its length falls by at most one"
  pub falls : (count after ≤ count before) × (count before ≤ suc (count after))

-- ---- what is claimed: w is any words, and a is the atom's index under the conformer at the position i, c, r, f

module _ (w : List ℕ) (i c r f a e : ℕ) where
  abbrev pub filled : List ℕ
  filled = (store_step w (SetElement i c r f a e)).1

  pub record Filling : Type 0 where
    -- that atom, of those that the words hold
    pub machine : Machine
    pub holds : read_store w ≡ Ok machine
    pub atoms : List Site
    pub under : atoms_from (i ∷ c ∷ r ∷ f ∷ []) machine ≡ Some atoms
    pub atom : Site
    pub there : nth a atoms ≡ Some atom
    -- a run that was accepted is accepted again
    pub again : (start t out : List ℕ) → Accepted (find_from w start t out) → Accepted (find_from filled start t out)
    -- "For any tree", from any start, each run with an output of its own
    pub saved : (start t before after : List ℕ) → Accepted (find_from w start t before) → Accepted (find_from filled start t after)
        → Saved atom.numbers (find_from w start t before) (find_from filled start t after)
