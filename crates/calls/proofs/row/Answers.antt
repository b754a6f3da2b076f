-- `calls::row` meets its contract: the two tables are one. Assumes nothing.
use Rattle.std.proofs.Common.{◌≡◌, ℕ, suc, true, false, List, map, length, Option, Some, None, Bor, MatchOption, ap, ◌∙◌, arith, le-leb}
use mathlib.Core.Bool.{and-false}
use borrow.Author.Tests.{lt-leb}
use Rattle.std.specs.Option.{option_copied}
use Rattle.std.specs.Slice.{IsItemAt}
use Rattle.std.proofs.lemmas.List.{get_or-map}
use Rattle.calls.specs.Format.{rows, no_row, row_of, shape_of, is_code}
use Rattle.calls.proofs.row.Goals as goal

row_is : (code k : ℕ) → suc k ≡ code → (r : Option (Bor (List ℕ))) → IsItemAt (map shape_of rows) k r
    → MatchOption (option_copied r) (is_code code ≡ false) (λ x. (is_code code ≡ true) × (x ≡ shape_of (row_of code)))
unfolding rows
row_is code k e None h = rw (lt-leb code (length rows) (omega (arith, h.3)), and-false)
row_is code k e (Some x) h =
    (rw (le-leb 1 code (omega arith), le-leb code (length rows) (omega (arith, h.3.0))), h.3.1 (shape_of no_row) ∙ get_or-map shape_of rows k no_row _ h.3.0 ∙ ap (λ (j : ℕ). shape_of (row_of j)) e)

pub returns : goal.returns
unfolding rows
returns c =
    rw c.copied.ensures (row_is c.args.code c.in_ok-checked_sub.field-0 (omega (arith, c.in_ok-checked_sub.ensures)) c.get.result c.get.ensures.lookup)
