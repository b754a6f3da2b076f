-- What the inner functions go by: half of a trimming, and a text in its case. Assumes nothing.
use Rattle.std.specs.Prelude.{ℕ, Bool, cond, List, map, reverse}
use Rattle.machine.specs.Text.{trim_start, to_upper}

-- without the blanks at the end
unfoldable pub trim_end : List ℕ → List ℕ
trim_end t = reverse (trim_start (reverse t))

-- a to z raised where `up`
abbrev pub upper_if : Bool → List ℕ → List ℕ
upper_if up t = cond up (map to_upper t) t
