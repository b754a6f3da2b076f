-- An edit after the layout check: the store is good, and stays good. Assumes nothing.
use Rattle.std.specs.Prelude.{Err, Ok}
use Prim.Native.Nat.{ℕ}
use mathlib.Core.Path.{◌≡◌, refl, sym, ◌∙◌}
use mathlib.Core.Bool.{true}
use mathlib.Core.List.{List}
use native.Mathlib.Omega.{arith}
use lib.ListN.{length}
use Rattle.machine.specs.Answer.{Result}
use Rattle.machine.specs.Store.{Machine, lay_out, good_length, read_store}
use Rattle.machine.specs.Edit.{Call, Change, next, machine_step, step_by, store_step}
use Rattle.laws.specs.Good.{Fit}
use Rattle.laws.specs.Layout.{read-lay_out, fit_words, read_length, read-fit, records_of-lay_out}
use Rattle.laws.specs.Grouped.{group-flats}
use Rattle.laws.specs.Steps.{step_keeps}
use Rattle.store.specs.Store.{checked_by}
use Rattle.store.proofs.Laws.{good-store}
use Rattle.seek.specs.Seek.{held, Good}

-- what the layout check found good
pub good : {c : Result ℕ} (w : List ℕ) → c ≡ checked_by (read_store w) → {n : ℕ} → c ≡ Ok n → Good w
good w h e = (good-store w (sym e ∙ h)).read

-- ---- the store stays good

pub laid-good : (n : ℕ) (m : Machine) → good_length n ≡ true → Fit n m → Good (lay_out n m)
laid-good n m g f =
    rw (records_of-lay_out n m (fit_words n m g f), group-flats 4 (omega arith) m) (read-lay_out n m g f)

stays-good : (w : List ℕ) → Good w → (step : Machine → Result Change) (r : Result Change) → step (held w) ≡ r → Fit (length w) (next (held w) r) → Good (step_by w step).1
unfolding step_by
stays-good w g step (Ok c) e f = rw (g, e) (laid-good (length w) c.after (read_length w (held w) g) f)
stays-good w g step (Err x) e f = rw (g, e) g

pub step-good : (w : List ℕ) → Good w → (call : Call) → Good (store_step w call).1
unfolding store_step
step-good w g call = stays-good w g (λ m. machine_step (length w) m call) _ refl (step_keeps (length w) (held w) call (read-fit w (held w) g))
