-- What the contracts of `src/` cite: a text written into lent bytes. Assumes nothing.
use Rattle.std.specs.Prelude.{ℕ, ◌+◌, List, length}
use Rattle.moves.specs.Over.{over}

-- b written over s from index `at` on: the index where it ends, and s afterwards
abbrev pub put_at : List ℕ → ℕ → List ℕ → ℕ × List ℕ
put_at b at s = (at + length b, over at b s)
