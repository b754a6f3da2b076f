-- What `from_number` answers tells whether a number is an element's. Assumes nothing.
use Rattle.elements.specs.declared.Element.{Element}
use Rattle.std.specs.Prelude.{None, Option, Some, is_some}
use Prim.Native.Nat.{ℕ}
use mathlib.Core.Path.{◌≡◌, refl, sym, ap, ◌∙◌}
use mathlib.Core.Bool.{Bool, true, false, cond}
use Rattle.machine.specs.Record.{is_element}
use Rattle.elements.specs.Element.{element_of}

pub element-good : (w : ℕ) (m : Option Element) → m ≡ element_of w → is_element w ≡ is_some m
unfolding element_of
element-good w m e = sym (ap is_some e ∙ go (is_element w))
  where
    go : (b : Bool) → is_some {T = Element} (cond b (Some (record { number = w })) None) ≡ b
    go true = refl
    go false = refl
