-- Document 01, "Store", and the structure of "Edits": the plain machine, its words, and what a store's words hold.
-- Assumes nothing.
use Rattle.std.specs.Prelude.{ℕ, zero, suc, ◌+◌, ◌-◌, ◌/◌, ◌%◌, Bool, true, false, ◌&&◌, cond, List, [], ◌∷◌, ◌++◌, map, length, get_or, take, drop, replicate, leb, eqb, Ok, Err}
use Rattle.machine.specs.Lists.{all, sum, concat_map}
use Rattle.machine.specs.Answer.{Result, ◌>>◌, need, opened_numbers}
use Rattle.machine.specs.Record.{Fields, Words, words, kind, fields_of, good_record}
use Rattle.machine.specs.declared.Refusal.TheVariants.{BadLength, BrokenLayout}

-- ---- the structure

-- an atom's fields, or the fields of a record of a higher level with the list of its children
abbrev pub Branch : ℕ → Type 0
Branch zero = Fields zero
Branch (suc k) = Fields (suc k) × List (Branch k)

-- "The plain machine is a list of models, each with its list of chains, and so on down."
abbrev pub Machine : Type 0
Machine = List (Branch 4)

-- "Records stand in hierarchy order: parent, then its children."
unfoldable pub flat : (k : ℕ) → Branch k → List Words
flat zero a = words zero a ∷ []
flat (suc k) t = words (suc k) t.0 ∷ concat_map (flat k) t.1

abbrev pub records : Machine → List Words
records m = concat_map (flat 4) m

unfoldable pub atom_count : (k : ℕ) → Branch k → ℕ
atom_count zero a = 1
atom_count (suc k) t = sum (atom_count k) t.1

-- how many atoms the machine holds
abbrev pub stored : Machine → ℕ
stored m = sum (atom_count 4) m

-- ---- its words

-- "Capacity is (length − 1) / 12 rounded down."
abbrev pub capacity : ℕ → ℕ
capacity n = (n - 1) / 12

-- n words: those of b, then zeros, then E, the word index at which b ends
unfoldable pub laid : ℕ → List ℕ → List ℕ
laid n b = b ++ (replicate (n - 1 - length b) 0 ++ (length b ∷ []))

-- "the machine's records, in hierarchy order from record 0 and laid out as above, then zeros, then E"
unfoldable pub lay_out : ℕ → Machine → List ℕ
lay_out n m = laid n (concat_map (λ (r : Words). r) (records m))

-- ---- what a store's words hold

-- "a lent u64 slice of 1 to 1,200,001 words"
abbrev pub good_length : ℕ → Bool
good_length n = leb 1 n && leb n 1200001

-- "Its last word, the trailer, holds E"
abbrev pub end : List ℕ → ℕ
end w = get_or w (length w - 1) 0

-- "All words between E and the trailer"
abbrev pub gap : List ℕ → List ℕ
gap w = take (length w - 1 - end w) (drop (end w) w)

abbrev pub chunks : ℕ → List ℕ → List Words
chunks zero w = []
chunks (suc n) w = take 12 w ∷ chunks n (drop 12 w)

abbrev pub records_of : List ℕ → List Words
records_of w = chunks (end w / 12) w

-- good records after one of a kind, or after kind 0 at the start:
-- "The first kind is 1; each later kind is 1 to 5 and at most the previous plus 1."
unfoldable pub in_order : ℕ → List Words → Bool
in_order previous [] = true
in_order previous (r ∷ rs) =
    (leb 1 (kind r) && leb (kind r) 5 && leb (kind r) (previous + 1)) && (good_record (5 - kind r) r && in_order (kind r) rs)

-- "E is a multiple of 12 and at most length − 1. All words between E and the trailer are 0."
unfoldable pub good_layout : List ℕ → Bool
good_layout w = (eqb (end w % 12) 0 && leb (end w) (length w - 1)) && (all (eqb 0) (gap w) && in_order 0 (records_of w))

-- what stands before the first record that p marks, and each marked record with what follows it up to the next
abbrev pub Sections : Type 0
Sections = List Words × List (Words × List Words)

abbrev pub add_to_sections : Bool → Words → Sections → Sections
add_to_sections true r c = ([], (r, c.0) ∷ c.1)
add_to_sections false r c = (r ∷ c.0, c.1)

unfoldable pub sections : (Words → Bool) → List Words → Sections
sections p [] = ([], [])
sections p (r ∷ rs) = add_to_sections (p r) r (sections p rs)

-- the branches of level k that records in hierarchy order hold
unfoldable pub group : (k : ℕ) → List Words → List (Branch k)
group zero rs = map (fields_of zero) rs
group (suc k) rs = map (λ g. (fields_of (suc k) g.0, group k g.1)) (sections (λ r. eqb (kind r) (4 - k)) rs).1

-- the machine that a store holds: "1 bad length; 2 layout broken"
unfoldable pub read_store : List ℕ → Result Machine
read_store w = do
  need (good_length (length w)) BadLength
  need (good_layout w) BrokenLayout
  Ok (group 4 (records_of w))

-- ---- opening

-- "Opening sets every word to 0", "Opening refuses only with 1": the answer's numbers, and the words afterwards
unfoldable pub open_run : List ℕ → List ℕ × List ℕ
open_run w =
    cond (good_length (length w)) (opened_numbers (Ok tt), replicate (length w) 0)
    (opened_numbers (Err BadLength), w)
