-- What the contracts of `src/` cite. Assumes nothing.
use Rattle.std.specs.Prelude.{ℕ, ◌-◌, ◌≡◌, true, cond, List, length, Ok, Err}
use Rattle.machine.specs.Answer.{Result}
use Rattle.machine.specs.declared.Refusal.TheVariants.{TooWide}
use Rattle.machine.specs.Record.{Words, kind, good_record}
use Rattle.machine.specs.Lines.{Entry, writable, text_of_entries}
use Rattle.laws.specs.Flat.{Parents}
use Rattle.columns.specs.declared.Above.{Above}

-- the chain, the residue and the conformer of which these are the words
abbrev pub parents : Above → Parents
parents a =
    record {
      chain = record { id = a.chain };
      residue = record { serial = a.serial; code = a.code };
      conformer = record { name = a.name; location = a.location };
    }

-- a record that a good store has
pub record GoodWords (r : Words) : Type 0 where
  pub twelve : length r ≡ 12
  pub good : good_record (5 - kind r) r ≡ true

-- how long the text is: "12" where a field doesn't fit
abbrev pub measured : List Entry → Result ℕ
measured es = cond (writable es) (Ok (length (text_of_entries es))) (Err TooWide)
