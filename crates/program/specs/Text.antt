-- What the contracts of `src/` cite: the parts of the program's text. Assumes nothing.
use Rattle.std.specs.Prelude.{ℕ, ◌≤◌, ◌≡◌, List, ◌++◌, length, take}
use Rattle.machine.specs.Lists.{concat_map, bytes}
use Rattle.machine.specs.Answer.{Result, ◌>>=◌}
use Rattle.machine.specs.Find.{hits_of}
use Rattle.machine.specs.Program.{Input, decimal, newline, spaced, printed}
use Rattle.machine.specs.Demand.{fives}

-- n counts elements at the start of s; the second part follows from the first, and both are what lending `&s[..n]` asks
abbrev pub Counts : ℕ → List ℕ → Type 0
Counts n s = (n ≤ length s) × (n ≡ length (take n s))

-- a hit's line
abbrev pub line : List ℕ → List ℕ
line h = spaced h ++ newline

-- the lines of the first n hits, which stand in ws as five words each
abbrev pub lines : ℕ → List ℕ → List ℕ
lines n ws = concat_map line (fives n ws)

-- the line of the count
abbrev pub last_line : ℕ → List ℕ
last_line n = bytes "found " ++ decimal n ++ newline

-- what is printed of an input, once it is read or refused
abbrev pub answer_text : Result Input → List ℕ
answer_text x = printed (x >>= (λ i. hits_of i.store i.tree))
