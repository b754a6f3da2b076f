-- What the contracts of `src/` cite: the layout check's answer, and its records' part. Assumes nothing.
use Rattle.std.specs.Prelude.{ℕ, zero, suc, cond, List, Err, Ok}
use Rattle.machine.specs.Answer.{Result}
use Rattle.machine.specs.Record.{Words, good_record}
use Rattle.machine.specs.Store.{Machine, stored, in_order}
use Rattle.machine.specs.declared.Refusal.TheVariants.{BrokenLayout}
use Rattle.seek.specs.Seek.{record_at, atom_records}

-- the atoms of the machine that a store holds, or why it holds none
abbrev pub checked_by : Result Machine → Result ℕ
checked_by (Ok m) = Ok (stored m)
checked_by (Err c) = Err c

-- how many of the records are atoms, where they stand in order
unfoldable pub counted : List Words → Result ℕ
counted rs = cond (in_order 0 rs) (Ok (atom_records rs)) (Err BrokenLayout)

-- how many of the first n records of a store are good atoms that stand last among them
unfoldable pub trailing_atoms : ℕ → List ℕ → ℕ
trailing_atoms zero w = 0
trailing_atoms (suc n) w = cond (good_record 0 (record_at n w)) (suc (trailing_atoms n w)) 0
