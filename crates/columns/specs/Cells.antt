-- What the contracts of `src/` cite: the bytes of a number at the right of its columns, from the last to the first, and the
-- element symbols as one text. Assumes nothing.
use Rattle.std.specs.Prelude.{ℕ, ◌%◌, Bool, ◌&&◌, ◌||◌, cond, List, [], ◌∷◌, ltb}
use Rattle.machine.specs.Lists.{concat_map}
use Rattle.machine.specs.Program.{digit}
use Rattle.machine.specs.Lines.{at_right, column_text, symbols}

-- the last digit of n; where n is used up, the minus or a blank. The first digit that is written is shown even if it is 0
abbrev pub cell : Bool → Bool → ℕ → ℕ
cell shown minus n = cond (shown || ltb 0 n) (digit (n % 10)) (cond minus 45 32)

-- whether the minus is still to come after that byte
abbrev pub to_come : Bool → Bool → ℕ → Bool
to_come shown minus n = minus && (shown || ltb 0 n)

-- no symbol, and those of elements 1 to 118, each at the right of two columns
unfoldable pub symbol_columns : List ℕ
symbol_columns = concat_map (λ (t : List ℕ). column_text (at_right 2 t)) ([] ∷ symbols)
