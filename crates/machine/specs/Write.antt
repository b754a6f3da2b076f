-- Change request §1, "PDB lines out": the writer. Assumes nothing.
use Rattle.std.specs.Prelude.{ℕ, cond, List, ◌++◌, map, length, drop, leb, Err, Ok}
use Rattle.machine.specs.Answer.{Result, ◌>>=◌, ◌>>◌, need, counted_numbers}
use Rattle.machine.specs.Store.{read_store}
use Rattle.machine.specs.Lines.{entry_of, writable, machine_text}
use Rattle.machine.specs.declared.Refusal.TheVariants.{TooWide, ShortText}

-- "new numbers come after the store's checks"; "A field too wide for its columns, on a line that is written, gives 12"
unfoldable pub store_text : List ℕ → Result (List ℕ)
store_text w = do
  m ← read_store w
  need (writable (map entry_of m)) TooWide
  Ok (machine_text m)

-- "an output too short gives 13, in that order; both leave the output as found. The result holds the text's length in bytes, and bytes
-- past it stay."
abbrev pub put_text : List ℕ → Result (List ℕ) → List ℕ × List ℕ
put_text out (Err r) = (counted_numbers (Err r), out)
put_text out (Ok t) =
    cond (leb (length t) (length out))
    (counted_numbers (Ok (length t)), t ++ drop (length t) out)
    (counted_numbers (Err ShortText), out)

-- write_pdb: the answer's numbers, and the output's bytes afterwards
unfoldable pub write_run : List ℕ → List ℕ → List ℕ × List ℕ
write_run w out = put_text out (store_text w)
