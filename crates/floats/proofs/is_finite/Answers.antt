-- `floats::is_finite` meets its contract by the law `finite-classes`. Assumes nothing.
use Rattle.std.proofs.Common.{Bool, ap, rules, sym, ℕ, ◌∙◌, ◌≡◌}
use Rattle.machine.specs.Classes.{class_of, finite_class}
use Rattle.machine.specs.Record.{finite}
use Rattle.machine.specs.declared.FloatClass.{FloatClass}
use Rattle.laws.specs.Floats.{finite-classes}
use Rattle.floats.proofs.is_finite.Goals as goal

by-class : (b : ℕ) (k v : FloatClass) (r : Bool) → k ≡ class_of b → k ≡ v → r ≡ finite_class v → r ≡ finite b
by-class b k v r e f g = g ∙ ap finite_class (sym f ∙ e) ∙ sym (finite-classes b)

pub returns-in-Zero : goal.returns-in-Zero
returns-in-Zero c = search (rules, by-class)

pub returns-in-Subnormal : goal.returns-in-Subnormal
returns-in-Subnormal c = search (rules, by-class)

pub returns-in-Normal : goal.returns-in-Normal
returns-in-Normal c = search (rules, by-class)

pub returns-in-Infinite : goal.returns-in-Infinite
returns-in-Infinite c = search (rules, by-class)

pub returns-in-NotANumber : goal.returns-in-NotANumber
returns-in-NotANumber c = search (rules, by-class)
