-- The least number of records that the lines of a text may need. Assumes nothing.
use Rattle.std.specs.Prelude.{ℕ, suc, cond, List, [], ◌∷◌, get_or, eqb}

-- the lines that aren't E lines: each has a record of its own
unfoldable pub adding_lines : List (List ℕ) → ℕ
adding_lines [] = 0
adding_lines (l ∷ ls) = cond (eqb (get_or l 0 0) 69) (adding_lines ls) (suc (adding_lines ls))
