-- A text from its first line to its last: which lines are taken. Assumes nothing.
use Rattle.std.specs.Prelude.{ℕ, ◌/◌, ◌%◌, Bool, true, false, not, ◌&&◌, cond, List, [], ◌∷◌, length, get_or, eqb}
use Rattle.machine.specs.Lists.{all, same}
use Rattle.machine.specs.Lines.{fitting, line_of, atom_columns, model_columns, end_columns}
use Rattle.machine.specs.LinesIn.{atom_in, model_in, good_line, lines_in}

-- what an atom's line is read as could stand in a store, it fits, and it is written as this line
unfoldable pub taken_atom : List ℕ → Bool
taken_atom l = good_line (atom_in l) && (all fitting (atom_columns (atom_in l)) && same (line_of (atom_columns (atom_in l))) l)

unfoldable pub taken_model : List ℕ → Bool
taken_model l = all fitting (model_columns (model_in l)) && same (line_of (model_columns (model_in l))) l

unfoldable pub taken_end : List ℕ → Bool
taken_end l = same (line_of end_columns) l

-- whether a model is open after a line, given whether one is open before it and that the line is taken there
abbrev pub opens : Bool → List ℕ → Bool
opens begun l = cond (eqb (get_or l 0 0) 77) true (cond (eqb (get_or l 0 0) 69) false begun)

-- "MODEL and ENDMDL around each model and nothing else": MODEL where no model is open, ENDMDL and atoms where one is
unfoldable pub taken_line : Bool → List ℕ → Bool
taken_line begun l =
    cond (eqb (get_or l 0 0) 77) (not begun && taken_model l) (begun && cond (eqb (get_or l 0 0) 69) (taken_end l) (taken_atom l))

unfoldable pub taken_from : Bool → List (List ℕ) → Bool
taken_from begun [] = not begun
taken_from begun (l ∷ ls) = taken_line begun l && taken_from (opens begun l) ls

unfoldable pub taken_text : List ℕ → Bool
taken_text t = eqb (length t % 81) 0 && taken_from false (lines_in (length t / 81) t)
