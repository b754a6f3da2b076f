-- The writer's answers are those of its definition. Assumes nothing.
use Rattle.std.specs.Prelude.{Err, Ok, IsErrAnd}
use Rattle.machine.specs.declared.Refusal.TheVariants.{TooWide, ShortText}
use Rattle.laws.specs.Exits.{exit-err}
use Prim.Native.Nat.{ℕ, ◌+◌, ◌≤◌, ◌<◌}
use mathlib.Core.Path.{◌≡◌, refl, sym, ap, ◌∙◌}
use mathlib.Core.Bool.{Bool, true, false, cond}
use mathlib.Core.List.{List, ◌++◌, map}
use native.Mathlib.Omega.{arith}
use lib.ListN.{length, drop}
use borrow.Author.Tests.{le-leb, lt-leb}
use Rattle.machine.specs.Answer.{Result, counted_numbers}
use Rattle.machine.specs.Store.{read_store}
use Rattle.machine.specs.Lines.{entry_of, writable, machine_text}
use Rattle.machine.specs.Write.{store_text, write_run}
use Rattle.machine.specs.declared.Refusal.{Refusal}
use Rattle.moves.specs.Over.{over}
use Rattle.decimals.specs.Put.{put_at}
use Rattle.seek.specs.Seek.{held, Good}
use Rattle.store.specs.Store.{checked_by}
use Rattle.store.proofs.Laws.{refused-store}
use Rattle.writer.specs.Writer.{measured}

is_wide : (b : Bool) (n : ℕ) (x : Refusal) → cond b (Ok n) (Err TooWide) ≡ Err x → (b ≡ false) × (x ≡ TooWide)
is_wide true n x h = let z : ◌≡◌ {A = ℕ} 0 1 = cc in absurd (omega arith)
is_wide false n x h = (refl, cc)

is-long : (b : Bool) (n k : ℕ) → cond b (Ok n) (Err TooWide) ≡ Ok k → (b ≡ true) × (k ≡ n)
is-long true n k h = (refl, cc)
is-long false n k h = let z : ◌≡◌ {A = ℕ} 0 1 = cc in absurd (omega arith)

put_front : (t out : List ℕ) → put_at t 0 out ≡ (length t, t ++ drop (length t) out)
unfolding over
put_front t out = let e : 0 + length t ≡ length t = omega arith in rw e

module _ (w out : List ℕ) where
  -- where a `?` ends the call
  module _ {x : Refusal} (a : Result ℕ) (o : IsErrAnd a (λ y. y ≡ x)) where
    pub no_store : {c : Result ℕ} → c ≡ checked_by (read_store w) → c ≡ Err x → (counted_numbers a, out) ≡ write_run w out
    unfolding write_run store_text
    no_store h e = rw (exit-err a x o, refused-store w (sym e ∙ h))

    pub too_wide_lem : Good w → {r : Result ℕ} → r ≡ measured (map entry_of (held w)) → r ≡ Err x → (counted_numbers a, out) ≡ write_run w out
    unfolding write_run store_text
    too_wide_lem g h e =
        let q = is_wide (writable (map entry_of (held w))) _ x (sym h ∙ e) in
        rw (exit-err a x o, q.1, g, q.0)

  module _ (g : Good w) {r : Result ℕ} (h : r ≡ measured (map entry_of (held w))) where
    module _ {n : ℕ} (e : r ≡ Ok n) where
      long : (writable (map entry_of (held w)) ≡ true) × (n ≡ length (machine_text (held w)))
      long = is-long (writable (map entry_of (held w))) _ n (sym h ∙ e)

      pub all_fit : writable (map entry_of (held w)) ≡ true
      all_fit = long.0

      pub has_room : n ≤ length out → length (machine_text (held w)) ≤ length out
      has_room l = let q = long.1 in omega arith

      pub too_short : length out < n → (counted_numbers (Err ShortText), out) ≡ write_run w out
      unfolding write_run store_text
      too_short l =
          let q = long.1 in
          let s : length out < length (machine_text (held w)) = omega arith in
          rw (g, all_fit, lt-leb (length (machine_text (held w))) (length out) s)

      pub all-written : {end : ℕ} {o : List ℕ} → n ≤ length out → (end, o) ≡ put_at (machine_text (held w)) 0 out → (counted_numbers (Ok end), o) ≡ write_run w out
      unfolding write_run store_text
      all-written l p =
          let q = p ∙ put_front (machine_text (held w)) out in
          rw (g, all_fit, le-leb (length (machine_text (held w))) (length out) (has_room l), ap (λ x. x.0) q, ap (λ x. x.1) q)
