-- What the contracts of `src/` cite. Assumes nothing.
use Rattle.std.specs.Prelude.{ℕ, List}
use Rattle.machine.specs.Answer.{Result}
use Rattle.machine.specs.Store.{Machine}
use Rattle.machine.specs.Edit.{Change, with_found, set_at, fill_in}

-- at a position of five indexes
abbrev pub element_set : List ℕ → ℕ → Machine → Result Change
element_set pos e m = with_found (set_at 4 0 pos (fill_in e) m)
