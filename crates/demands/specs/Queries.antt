-- What is claimed of queries, once: of runs of find for A, B, "A and B", "A or B" and "not A" among some atoms, by two lists of names, with the kinds from
-- the first known one on. Each fact has the demand's sentence beside it. It is proved in proofs/Queries.antt. Assumes nothing.
use Rattle.std.specs.Prelude.{ℕ, ◌+◌, ◌≡◌, ◌||◌, List, map, length}
use Rattle.machine.specs.Lists.{filter}
use Rattle.machine.specs.Kleene.{is_undecided}
use Rattle.machine.specs.Query.{Names, and_tree, or_tree, not_tree}
use Rattle.machine.specs.Find.{Site, value_from, hits_among}
use Rattle.machine.specs.Demand.{Accepted, count, list, listed, shared, atom_number, Rising, undecided}

-- of a run of find its answer's numbers and its output's words; A is asked first and B second
pub record Runs : Type 0 where
  pub first : List ℕ × List ℕ
  pub second : List ℕ × List ℕ
  pub both : List ℕ × List ℕ
  pub either : List ℕ × List ℕ
  pub opposite : List ℕ × List ℕ

-- the five runs, each with an output of its own
abbrev pub runs_of : (List ℕ → List ℕ → List ℕ × List ℕ) → (A B first second both either opposite : List ℕ) → Runs
runs_of find A B first second both either opposite =
    record {
      first = find A first;
      second = find B second;
      both = find (and_tree A B) both;
      either = find (or_tree A B) either;
      opposite = find (not_tree A) opposite;
    }

-- "Every accepted run of find then lists, in hierarchy order and each once, exactly the stored atoms where its tree isn't false."
pub record Lists (names : Names) (low : ℕ) (atoms : List Site) (tree : List ℕ) (run : List ℕ × List ℕ) : Type 0 where
  pub hits : list run ≡ hits_among names low tree atoms
  pub rises : Rising (map atom_number (list run))
  -- "n is the count that find gives, the number of hits in the list."
  pub number : count run ≡ length (list run)

pub record Queries (names : Names) (low : ℕ) (atoms : List Site) (A B : List ℕ) (r : Runs) : Type 0 where
  -- the five runs, each where it was accepted
  pub for-first : Accepted r.first → Lists names low atoms A r.first
  pub for-second : Accepted r.second → Lists names low atoms B r.second
  pub for-both : Accepted r.both → Lists names low atoms (and_tree A B) r.both
  pub for-either : Accepted r.either → Lists names low atoms (or_tree A B) r.either
  pub for-opposite : Accepted r.opposite → Lists names low atoms (not_tree A) r.opposite
  -- "the lists of A and B share exactly the list of "A and B""
  pub and-shares : Accepted r.first → Accepted r.second → Accepted r.both
      → list r.both ≡ shared (list r.first) (list r.second)
  -- "an atom is in at least one exactly when it is listed for "A or B""
  pub or-joins : Accepted r.first → Accepted r.second → Accepted r.either
      → (hit : List ℕ) → listed (list r.either) hit ≡ (listed (list r.first) hit || listed (list r.second) hit)
  -- "n(A) + n(B) = n(A and B) + n(A or B)"
  pub and-or-counts : Accepted r.first → Accepted r.second → Accepted r.both → Accepted r.either
      → count r.first + count r.second ≡ count r.both + count r.either
  -- "Where A and "not A" are accepted, they share exactly the atoms where A is undecided"
  pub not-shares : Accepted r.first → Accepted r.opposite
      → shared (list r.first) (list r.opposite) ≡ map (λ s. s.numbers) (filter (λ s. is_undecided (value_from names low A s)) atoms)
  -- "n(A) + n(not A) = added − removed + undecided", the number of atoms standing for added − removed
  pub not-counts : Accepted r.first → Accepted r.opposite
      → count r.first + count r.opposite ≡ length atoms + undecided names low A atoms
