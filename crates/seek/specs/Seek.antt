-- Where a position's records stand, over the records and over the machine. Assumes nothing.
use Rattle.std.specs.Prelude.{ℕ, zero, suc, ◌+◌, ◌*◌, ◌≤◌, ◌≡◌, cond, List, [], ◌∷◌, length, take, drop, get_or, set, replicate, ltb, eqb, None, Ok, Option, Some, option_map}
use Rattle.machine.specs.Lists.{sum, nth, and_then}
use Rattle.machine.specs.Record.{Words, kind}
use Rattle.machine.specs.Store.{Branch, Machine, records, chunks, records_of, group, read_store}
use Rattle.machine.specs.Find.{size, numbered}
use Rattle.machine.specs.Edit.{up}
use Rattle.machine.specs.declared.RecordNumbers.{RecordNumbers}
use Rattle.seek.specs.declared.Part.{Part}

-- ---- a store known to be good

-- the machine that its words hold
abbrev pub held : List ℕ → Machine
held w = group 4 (records_of w)

abbrev pub Good : List ℕ → Type 0
Good w = read_store w ≡ Ok (held w)

-- the record of a number
abbrev pub record_at : ℕ → List ℕ → Words
record_at n w = take 12 (drop (n * 12) w)

-- the records from number `from` up to `end`, and that the words have them
abbrev pub records_in : ℕ → ℕ → List ℕ → List Words
records_in from end w = drop from (chunks end w)

pub record Within (from end : ℕ) (w : List ℕ) : Type 0 where
  pub order : from ≤ end
  pub room : end * 12 ≤ length w

-- five record numbers, from the model's down
abbrev pub five_numbers : List ℕ → RecordNumbers
five_numbers l = record { model = get_or l 0 0; chain = get_or l 1 0; residue = get_or l 2 0; conformer = get_or l 3 0; atom = get_or l 4 0 }

-- ---- over the records

-- how many records at the front have a kind above h
unfoldable pub descendants : ℕ → List Words → ℕ
descendants h [] = 0
descendants h (r ∷ rs) = cond (ltb h (kind r)) (suc (descendants h rs)) 0

-- the offset of the i-th record of kind h, before any record of a lower kind
unfoldable pub child : ℕ → ℕ → List Words → Option ℕ
child h i [] = None
child h zero (r ∷ rs) = cond (ltb (kind r) h) None (cond (eqb (kind r) h) (Some 0) (option_map suc (child h zero rs)))
child h (suc i) (r ∷ rs) = cond (ltb (kind r) h) None (option_map suc (cond (eqb (kind r) h) (child h i rs) (child h (suc i) rs)))

-- what f makes of that record's number, where the records are numbered from n on, and of the records after it
abbrev pub at_child : {A : Type 0} → ℕ → ℕ → (ℕ → List Words → Option A) → ℕ → List Words → Option A
at_child h i f n rs = and_then (child h i rs) (λ o. f (n + o) (drop (suc o) rs))

abbrev pub child_start : ℕ → ℕ → ℕ → List Words → Option ℕ
child_start h i n rs = at_child h i (λ m after. Some m) n rs

-- a record of kind h and the number at which its descendants end
abbrev pub to_end : ℕ → ℕ → List Words → Option (ℕ × ℕ)
to_end h m after = Some (m, suc m + descendants h after)

abbrev pub child_span : ℕ → ℕ → ℕ → List Words → Option (ℕ × ℕ)
child_span h i n rs = at_child h i (to_end h) n rs

-- the records below a position among those below a record of kind g, which are numbered from n on: each index leads to a child, whose number is noted
unfoldable pub part_in : ℕ → List ℕ → List ℕ → ℕ → List Words → Option Part
part_in g path [] n rs = Some (record { from = n; end = n + descendants g rs; depth = g; path = five_numbers path })
part_in g path (i ∷ is) n rs = at_child (suc g) i (λ m after. part_in (suc g) (set path g m) is (suc m) after) n rs

-- those of a machine
abbrev pub part_of : List ℕ → Machine → Option Part
part_of pos m = part_in 0 (replicate {A = ℕ} 5 0) pos 0 (records m)

-- how many records are atoms
abbrev pub is_atom : Words → ℕ
is_atom r = cond (eqb (kind r) 5) 1 0

unfoldable pub atom_records : List Words → ℕ
atom_records rs = sum is_atom rs

-- ---- over the machine

-- the record numbers at which the branch of level j at a position starts and ends, where records are numbered from n on
unfoldable pub span_at : (d j : ℕ) → List ℕ → ℕ → List (Branch (up d j)) → Option (ℕ × ℕ)
span_at d j [] n ts = None
span_at zero j (i ∷ is) n ts = and_then (nth i (numbered j n ts)) (λ t. Some (t.0, t.0 + size j t.1))
span_at (suc d) j (i ∷ is) n ts = and_then (nth i (numbered (suc (up d j)) n ts)) (λ t. span_at d j is (suc t.0) t.1.1)

-- a position's length gives its level: one index for a model, five for an atom
abbrev pub span_on : ℕ → List ℕ → Machine → Option (ℕ × ℕ)
span_on zero pos m = None
span_on (suc zero) pos m = span_at 0 4 pos 0 m
span_on (suc (suc zero)) pos m = span_at 1 3 pos 0 m
span_on (suc (suc (suc zero))) pos m = span_at 2 2 pos 0 m
span_on (suc (suc (suc (suc zero)))) pos m = span_at 3 1 pos 0 m
span_on (suc (suc (suc (suc (suc zero))))) pos m = span_at 4 0 pos 0 m
span_on (suc (suc (suc (suc (suc (suc n)))))) pos m = None

abbrev pub span : List ℕ → Machine → Option (ℕ × ℕ)
span pos m = span_on (length pos) pos m
