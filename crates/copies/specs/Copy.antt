-- A store copied into other words. Assumes nothing.
use Rattle.std.specs.Prelude.{ℕ, List, length, leb, Err, Ok}
use Rattle.machine.specs.Answer.{Result, ◌>>=◌, ◌>>◌, need, opened_numbers}
use Rattle.machine.specs.Store.{Machine, records, capacity, lay_out, good_length, read_store}
use Rattle.machine.specs.declared.Refusal.TheVariants.{BadLength, NoCapacity}

-- the machine, where n words are a store with room for it: "1 bad length", "8 records needed exceed capacity"
abbrev pub room : ℕ → Machine → Result Machine
room n m = do
  need (good_length n) BadLength
  need (leb (length (records m)) (capacity n)) NoCapacity
  Ok m

-- the answer's numbers, and the words afterwards
abbrev pub copied_into : List ℕ → Result Machine → List ℕ × List ℕ
copied_into to (Ok m) = (opened_numbers (Ok tt), lay_out (length to) m)
copied_into to (Err r) = (opened_numbers (Err r), to)

-- 1 and 2 by the store that is copied, then 1 and 8 by the words that it is to stand in, which hold exactly the same structure afterwards;
-- a refusal changes nothing
unfoldable pub copy_run : List ℕ → List ℕ → List ℕ × List ℕ
copy_run from to = copied_into to (read_store from >>= room (length to))
