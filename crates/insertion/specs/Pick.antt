-- The record below a parent that an addition looks for, and where its new records go. Assumes nothing.
use Rattle.std.specs.Prelude.{ℕ, suc, ◌+◌, Bool, true, false, ◌&&◌, List, [], ◌∷◌, get_or, drop, eqb, None, Option, Some}
use Rattle.machine.specs.Lists.{and_then}
use Rattle.machine.specs.Record.{Words, kind}
use Rattle.machine.specs.Edit.{Which, first, last, pick}
use Rattle.seek.specs.Seek.{records_in, to_end}
use Rattle.machine.specs.declared.PreparedAddition.{PreparedAddition}
use Rattle.insertion.specs.declared.Key.{Key}
use Rattle.insertion.specs.declared.Spot as Spot

abbrev pub which_by : Bool → Which
which_by true = last
which_by false = first

-- a record that the key finds: by its kind and its words 1 and 2
abbrev pub marks : Key → Words → Bool
marks key r = eqb (kind r) key.kind && (eqb (get_or r 1 0) key.first && eqb (get_or r 2 0) key.second)

-- what f makes of the number of the record that is found, where the records are numbered from n on, and of those after it
abbrev pub at_pick : {A : Type 0} → Key → (ℕ → List Words → Option A) → ℕ → List Words → Option A
at_pick key f n rs = and_then (pick (which_by key.from_back) (marks key) rs) (λ o. f (n + o) (drop (suc o) rs))

abbrev pub pick_start : Key → ℕ → List Words → Option ℕ
pick_start key n rs = at_pick key (λ m after. Some m) n rs

abbrev pub pick_span : Key → ℕ → List Words → Option (ℕ × ℕ)
pick_span key n rs = at_pick key (to_end key.kind) n rs

-- "the FIRST chain with the trimmed id"; a chain's word 2 is 0
abbrev pub chain_key : ℕ → Key
chain_key id = record { kind = 2; first = id; second = 0; from_back = false }

-- "the LAST residue whose serial and code equal the arguments"
abbrev pub residue_key : ℕ → ℕ → Key
residue_key serial code = record { kind = 3; first = serial; second = code; from_back = true }

-- "the FIRST conformer with the raised name and equal alternative location"
abbrev pub conformer_key : ℕ → ℕ → Key
conformer_key name location = record { kind = 4; first = name; second = location; from_back = false }

abbrev pub keys_of : PreparedAddition → List Key
keys_of p = chain_key p.chain ∷ residue_key p.residue p.code ∷ conformer_key p.conformer p.location ∷ []

-- a record number, and how many of the records above a new atom stand already
abbrev pub Found : Type 0
Found = ℕ × ℕ

abbrev pub spot_step : Option (ℕ × ℕ) → Found → (ℕ × ℕ → Found) → Found
spot_step None s f = s
spot_step (Some p) s f = ((f p).0, suc (f p).1)

-- "What is missing is appended": below the records from `from` up to `end`, one level for each key
unfoldable pub spot_in : List Key → ℕ → ℕ → List ℕ → Found
spot_in [] from end w = (end, 0)
spot_in (key ∷ keys) from end w =
    spot_step (pick_span key from (records_in from end w)) (end, 0) (λ s. spot_in keys (s.0 + 1) s.1 w)

abbrev pub found_of : Spot.Spot → Found
found_of s = (s.at, s.depth)
