-- Document 01, "For demand 3": the words in which the third demand is put. Assumes nothing.
use Rattle.std.specs.Prelude.{ℕ, zero, suc, ◌+◌, ◌<◌, ◌≡◌, Bool, true, false, ◌&&◌, cond, ◌⊎◌, List, [], ◌∷◌, ◌++◌, length, get_or, take, drop, eqb}
use Rattle.machine.specs.Lists.{any, filter, sum, same}
use Rattle.machine.specs.Kleene.{is_undecided}
use Rattle.machine.specs.Query.{Names}
use Rattle.machine.specs.Find.{Site, value_from}
use Rattle.machine.specs.Edit.{Call, AddModel, AddAtom, RemoveChain, RemoveResidue, RemoveConformer, RemoveAtom, RemoveChainById, RemoveResidueById, RemoveConformerById, RemoveAtomBySerialNumber, RemoveAtomsBy, RemoveEmpty, JoinModels, JoinChains, JoinResidues, JoinConformers, SetElement}

-- "a call is accepted when its result is 0"
abbrev pub accepts : List ℕ → Bool
accepts numbers = eqb (get_or numbers 0 1) 0

-- ---- the edits

abbrev pub is_add_atom : Call → Bool
is_add_atom (AddAtom i a) = true
is_add_atom (AddModel s) = false
is_add_atom (RemoveChain i c) = false
is_add_atom (RemoveResidue i c r) = false
is_add_atom (RemoveConformer i c r f) = false
is_add_atom (RemoveAtom i c r f a) = false
is_add_atom (RemoveChainById i t) = false
is_add_atom (RemoveResidueById i c s o) = false
is_add_atom (RemoveConformerById i c r t o) = false
is_add_atom (RemoveAtomBySerialNumber i c r f s) = false
is_add_atom (RemoveAtomsBy i t) = false
is_add_atom (RemoveEmpty i) = false
is_add_atom (JoinModels i i') = false
is_add_atom (JoinChains i c i' c') = false
is_add_atom (JoinResidues i c r i' c' r') = false
is_add_atom (JoinConformers i c r f i' c' r' f') = false
is_add_atom (SetElement i c r f a e) = false

abbrev pub added_by : Call → List ℕ → ℕ
added_by c numbers = cond (is_add_atom c && accepts numbers) 1 0

-- "Added is the number of accepted calls of add atom among the edits."
unfoldable pub added : List Call → List (List ℕ) → ℕ
added [] answers = 0
added (c ∷ cs) [] = 0
added (c ∷ cs) (a ∷ answers) = added_by c a + added cs answers

-- the field removed of one result
abbrev pub removed_by : List ℕ → ℕ
removed_by numbers = get_or numbers 2 0

-- "Removed is the sum of that field over the edits' results"
abbrev pub removed : List (List ℕ) → ℕ
removed answers = sum removed_by answers

-- ---- the runs of find: a run is the answer's numbers and the output's words afterwards

abbrev pub Accepted : List ℕ × List ℕ → Type 0
Accepted run = accepts run.0 ≡ true

-- "n is the count that find gives"
abbrev pub count : List ℕ × List ℕ → ℕ
count run = get_or run.0 1 0

abbrev pub fives : ℕ → List ℕ → List (List ℕ)
fives zero ws = []
fives (suc n) ws = take 5 ws ∷ fives n (drop 5 ws)

-- "A tree's list is the hits that find writes."
unfoldable pub list : List ℕ × List ℕ → List (List ℕ)
list run = fives (count run) run.1

-- whether a hit stands in a list: "all five numbers agree"
abbrev pub listed : List (List ℕ) → List ℕ → Bool
listed hs h = any (same h) hs

-- "Two lists share a hit if all five numbers agree; the shared ones, in their order"
unfoldable pub shared : List (List ℕ) → List (List ℕ) → List (List ℕ)
shared gs hs = filter (listed hs) gs

-- change request §6, of a list of hits: "loses exactly that atom"
pub record Loses (hit : List ℕ) (before after : List (List ℕ)) : Type 0 where
  pub ahead : List (List ℕ)
  pub behind : List (List ℕ)
  pub was : before ≡ ahead ++ (hit ∷ behind)
  pub is : after ≡ ahead ++ behind

-- "the hit list either stays the same or loses exactly that atom"
abbrev pub StaysOrLoses : List ℕ → List (List ℕ) → List (List ℕ) → Type 0
StaysOrLoses hit before after = (after ≡ before) ⊎ Loses hit before after

abbrev pub atom_number : List ℕ → ℕ
atom_number hit = get_or hit 4 0

abbrev pub Rising : List ℕ → Type 0
Rising [] = Unit {0}
Rising (x ∷ []) = Unit {0}
Rising (x ∷ y ∷ ys) = (x < y) × Rising (y ∷ ys)

-- "Undecided is the number of stored atoms at which A is undecided."
unfoldable pub undecided : Names → ℕ → List ℕ → List Site → ℕ
undecided names low t atoms = length (filter (λ s. is_undecided (value_from names low t s)) atoms)
