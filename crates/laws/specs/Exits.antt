-- What a function returns where a `?` ends it. Assumes nothing.
use Rattle.std.specs.Prelude.{ℕ, Err, IsErrAnd, None, Ok, Option, Some, ok_or}
use Rattle.std.proofs.Common.{◌≡◌, refl, ap, ◌∙◌, arith}
use Rattle.std.proofs.lemmas.Result.{err_from_is_err_and}
use Rattle.machine.specs.Answer.{Result, position}
use Rattle.machine.specs.declared.Refusal.{Refusal}
use Rattle.machine.specs.declared.Refusal.TheVariants.{NoPosition}

pub exit-err : {A : Type 0} (r : Result A) (x : Refusal) → IsErrAnd r (λ y. y ≡ x) → r ≡ Err x
exit-err r x h = let e = err_from_is_err_and r h in e.1 ∙ ap Err e.2

-- a value that `ok_or` passes on, and the refusal that it puts in the place of none
pub ok-some : {A : Type 0} (o : Option A) (q : Result A) (e : Refusal) (x : A) → q ≡ ok_or o e → q ≡ Ok x → o ≡ Some x
ok-some None q e x h k = let z : ◌≡◌ {A = ℕ} 0 1 = cc in absurd (omega arith)
ok-some (Some y) q e x h k = cc

pub exit-none : {A B : Type 0} (o : Option A) (q : Result A) (e y : Refusal) (r : Result B)
    → q ≡ ok_or o e → q ≡ Err y → IsErrAnd r (λ z. z ≡ y) → (o ≡ None) × (r ≡ Err e)
exit-none None q e y r h k m = let f : e ≡ y = cc in (refl, rw f (exit-err r y m))
exit-none (Some x) q e y r h k m = let z : ◌≡◌ {A = ℕ} 0 1 = cc in absurd (omega arith)

-- the same of a position
pub placed : {A : Type 0} (o : Option A) (q : Result A) (x : A) → q ≡ position o → q ≡ Ok x → o ≡ Some x
placed None q x h k = let z : ◌≡◌ {A = ℕ} 0 1 = cc in absurd (omega arith)
placed (Some y) q x h k = cc

pub exit-nowhere : {A B : Type 0} (o : Option A) (q : Result A) (y : Refusal) (r : Result B)
    → q ≡ position o → q ≡ Err y → IsErrAnd r (λ z. z ≡ y) → (o ≡ None) × (r ≡ Err NoPosition)
exit-nowhere None q y r h k m = let f : NoPosition ≡ y = cc in (refl, rw f (exit-err r y m))
exit-nowhere (Some x) q y r h k m = let z : ◌≡◌ {A = ℕ} 0 1 = cc in absurd (omega arith)

pub nowhere : {A : Type 0} (o : Option A) (q : Result A) → q ≡ position o → ((x : A) → q ≡ Ok x → ⊥) → o ≡ None
nowhere None q h f = refl
nowhere (Some x) q h f = absurd (f x h)

-- the error that `ok_or` and a `?` pass on
pub exit-or : {A B : Type 0} (o : Option A) {r : Result B} {d e : Refusal} → Err d ≡ ok_or o e → IsErrAnd r (λ y. y ≡ d) → r ≡ Err e
exit-or None h p = let q = exit-err _ _ p in cc
exit-or (Some x) h p = let z : ◌≡◌ {A = ℕ} 0 1 = cc in absurd (omega arith)
