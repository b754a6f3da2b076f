-- What the contracts of `src/` cite: the atoms of some lines, and a store that takes them. Assumes nothing.
use Rattle.std.specs.Prelude.{ℕ, suc, ◌≤◌, ◌<◌, ◌≡◌, true, cond, List, [], ◌∷◌, map, length, get_or, eqb}
use Rattle.machine.specs.Lists.{all, filter}
use Rattle.machine.specs.Store.{Branch, Machine, records, capacity}
use Rattle.machine.specs.Lines.{AtomLine}
use Rattle.machine.specs.LinesIn.{atom_in, model_in, good_line}
use Rattle.machine.specs.Read.{same_id}
use Rattle.lines.specs.Numbered.{line_at, lines_from}
use Rattle.building.specs.Picks.{change}
use Rattle.building.specs.Build.{into_all}
use Rattle.seek.specs.Seek.{Good, held}

-- ---- lines

-- the atoms of all lines
abbrev pub atoms_in : List ℕ → List AtomLine
atoms_in t = map atom_in (lines_from 0 t)

-- those of the first line's chain
abbrev pub first_chain : List ℕ → List AtomLine
first_chain t = filter (λ a. same_id 2 (atom_in (line_at 0 t)).chain a.chain) (atoms_in t)

-- the atoms of a model whose MODEL line comes first, and the model that they build
abbrev pub model_atoms : List ℕ → List AtomLine
model_atoms t = map atom_in (lines_from 1 t)

abbrev pub model_of : List ℕ → Branch 4
model_of t = (model_in (line_at 0 t), into_all (model_atoms t) [])

-- how many lines stand before the first E
unfoldable pub atom_lines : List (List ℕ) → ℕ
atom_lines [] = 0
atom_lines (l ∷ ls) = cond (eqb (get_or l 0 0) 69) 0 (suc (atom_lines ls))

-- ---- stores

-- lines added to the model at an index
abbrev pub in_model : ℕ → List AtomLine → Machine → Machine
in_model i ls m = change i (λ t. (t.0, into_all ls t.1)) m

-- a store with that model, good lines, and room for them
pub record Ready (i : ℕ) (ls : List AtomLine) (w : List ℕ) : Type 0 where
  pub good : Good w
  pub there : i < length (held w)
  pub lines : all good_line ls ≡ true
  pub room : length (records (in_model i ls (held w))) ≤ capacity (length w)

-- a store's words give way to others, which hold this machine
pub record Became (m : Machine) (w w' : List ℕ) : Type 0 where
  pub good : Good w'
  pub long : length w' ≡ length w
  pub holds : held w' ≡ m
