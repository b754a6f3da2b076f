-- The lookup on one level: what it asks of a branch, over the machine and over the records. Assumes nothing.
use Rattle.std.specs.Prelude.{ℕ, zero, suc, ◌+◌, ◌≤◌, ◌≡◌, Bool, ◌&&◌, cond, List, [], ◌∷◌, get_or, eqb, Ok, Option, Some}
use Rattle.machine.specs.Lists.{any, concat_map, and_then}
use Rattle.machine.specs.Answer.{◌>>◌, need, bad_name, looked_up_numbers}
use Rattle.machine.specs.Text.{Optional, good_flag, matches_optional}
use Rattle.machine.specs.Record.{Words, kind}
use Rattle.machine.specs.Store.{Branch, Machine, flat, group}
use Rattle.machine.specs.Find.{size, numbered}
use Rattle.machine.specs.Lookup.{first_of, serials, spans, has_atom, in_first}
use Rattle.machine.specs.declared.Name.TheVariants.{AlternativeLocation}
use Rattle.seek.specs.Seek.{Within, records_in}

-- ---- over the machine

-- chains and residues are asked for a span, a conformer for its location and an atom too, an atom for its serial
unfoldable pub wanted : (k : ℕ) → ℕ → Optional → Branch k → Bool
wanted zero serial o a = eqb serial a.serial
wanted (suc zero) serial o f = has_atom serial o f
wanted (suc (suc k)) serial o t = spans serial (serials (suc (suc k)) t)

-- the answer's numbers for a store that holds m
abbrev pub lookup_numbers : ℕ → Optional → Machine → List ℕ
lookup_numbers serial o m = looked_up_numbers (need (good_flag o) (bad_name AlternativeLocation) >> Ok (in_first serial o m))

-- the first branch that is wanted, of those numbered from n on
abbrev pub first_wanted : (k : ℕ) → ℕ → Optional → ℕ → List (Branch k) → Option (ℕ × Branch k)
first_wanted k serial o n ts = first_of (λ u. wanted k serial o u.1) (numbered k n ts)

-- the records from number `from` up to `end` are those of branches of level k
pub record Level (k from end : ℕ) (w : List ℕ) : Type 0 where
  pub level : k ≤ 3
  pub within : Within from end w
  pub whole : records_in from end w ≡ concat_map (flat k) (group k (records_in from end w))

-- the span of the first that is wanted
abbrev pub span_wanted : (k : ℕ) → ℕ → Optional → ℕ → ℕ → List ℕ → Option (ℕ × ℕ)
span_wanted k serial o from end w =
    and_then (first_wanted k serial o from (group k (records_in from end w))) (λ t. Some (t.0, t.0 + size k t.1))

-- ---- over the records

-- the serials of the atoms among them
unfoldable pub atom_serials : List Words → List ℕ
atom_serials [] = []
atom_serials (r ∷ rs) = cond (eqb (kind r) 5) (get_or r 1 0 ∷ atom_serials rs) (atom_serials rs)

-- what is asked, by a branch's own record and those below it
unfoldable pub wanted_records : (k : ℕ) → ℕ → Optional → Words → List Words → Bool
wanted_records zero serial o r rs = eqb serial (get_or r 1 0)
wanted_records (suc zero) serial o r rs =
    matches_optional o (get_or r 2 0) && (spans serial (atom_serials rs) && any (eqb serial) (atom_serials rs))
wanted_records (suc (suc k)) serial o r rs = spans serial (atom_serials rs)
