-- The element that a number stands for. Assumes nothing.
use Rattle.elements.specs.declared.Element.{Element}
use Rattle.std.specs.Prelude.{ℕ, cond, None, Option, Some}
use Rattle.machine.specs.Record.{is_element}

unfoldable pub element_of : ℕ → Option Element
element_of n = cond (is_element n) (Some (record { number = n })) None
