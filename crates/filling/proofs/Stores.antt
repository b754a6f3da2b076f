-- A store that takes lines: one addition, then some lines before others. Assumes nothing.
use Rattle.std.specs.Prelude.{Ok, Option, Some}
use Prim.Native.Nat.{ℕ, zero, suc, ◌*◌, ◌≤◌, ◌<◌}
use mathlib.Core.Path.{◌≡◌, refl, sym, ap, ◌∙◌, subst}
use mathlib.Core.Bool.{Bool, true}
use mathlib.Core.List.{List, [], ◌∷◌, ◌++◌}
use native.Mathlib.Nat.{le_refl}
use native.Mathlib.Omega.{arith}
use lib.ListN.{length, length-append}
use borrow.Author.Tests.{le-leb}
use Rattle.machine.specs.Lists.{all, nth, splice}
use Rattle.machine.specs.Answer.{Result, ◌>>=◌, ◌>>◌, need, position}
use Rattle.machine.specs.Record.{good_values}
use Rattle.machine.specs.Store.{Branch, Machine, flat, records, capacity, lay_out}
use Rattle.machine.specs.Edit.{Change, changed, next, Call, AddModel, AddAtom, machine_step, add_model, add_prepared, fits, branch_at, replace_at, new_atom, into_chains, step_by}
use Rattle.machine.specs.Lines.{AtomLine}
use Rattle.machine.specs.LinesIn.{good_line}
use Rattle.machine.specs.Read.{addition_of}
use Rattle.machine.specs.declared.PreparedAddition.{PreparedAddition}
use Rattle.machine.specs.declared.Refusal.TheVariants.{BadValue, NoCapacity}
use Rattle.laws.specs.Lists.{and_both, all_split}
use Rattle.laws.specs.Good.{Fit}
use Rattle.laws.specs.Layout.{read_length, read-fit, fit_words, lay_out-length, records_of-lay_out}
use Rattle.laws.specs.Grouped.{group-flats}
use Rattle.laws.specs.Steps.{step_keeps}
use Rattle.building.specs.Prepared.{prepared_of, prepared}
use Rattle.building.specs.Picks.{change}
use Rattle.building.specs.Build.{into_all}
use Rattle.building.specs.Count.{size_of, adds-grow}
use Rattle.building.specs.Run.{values}
use Rattle.building.specs.Chains.{into_all-append}
use Rattle.seek.specs.Seek.{Good, held}
use Rattle.store.proofs.Steps.{laid-good}
use Rattle.filling.specs.Fill.{in_model, Ready, Became}

-- ---- one call that is accepted

pub held-lay_out : (n : ℕ) (m : Machine) → 12 * length (records m) < n → held (lay_out n m) ≡ m
held-lay_out n m h = rw (records_of-lay_out n m h) (group-flats 4 (omega arith) m)

module _ (w w' numbers : List ℕ) (step : Machine → Result Change) (call : Call) (m : Machine) (g : Good w) where
  written : step (held w) ≡ Ok (changed m) → (numbers, w') ≡ step_by w step → w' ≡ lay_out (length w) m
  unfolding step_by
  written e q = ap (λ (p : List ℕ × List ℕ). p.1) q ∙ rw (g, e)

  fit-after : machine_step (length w) (held w) call ≡ Ok (changed m) → Fit (length w) m
  fit-after e = subst (λ (r : Result Change). Fit (length w) (next (held w) r)) e (step_keeps (length w) (held w) call (read-fit w (held w) g))

  accepted : step (held w) ≡ Ok (changed m) → machine_step (length w) (held w) call ≡ Ok (changed m) → (numbers, w') ≡ step_by w step → Became m w w'
  accepted e f q =
      let n = length w in
      let long = read_length w (held w) g in
      let fit = fit-after f in
      let is = written e q in
      let less = fit_words n m long fit in
      record {
        good = subst Good (sym is) (laid-good n m long fit);
        long = ap length is ∙ lay_out-length n m less;
        holds = ap held is ∙ held-lay_out n m less;
      }

has_room : (n : ℕ) (m : Machine) → length (records m) ≤ capacity n → fits n m ≡ Ok (changed m)
has_room n m h = ap (λ (b : Bool). need b NoCapacity >> Ok (changed m)) (le-leb (length (records m)) (capacity n) h)

pub model-added : (w w' numbers : List ℕ) (serial : ℕ) → Good w → length (records (held w ++ ((record { serial = serial }, []) ∷ []))) ≤ capacity (length w)
    → (numbers, w') ≡ step_by w (add_model (length w) serial) → Became (held w ++ ((record { serial = serial }, []) ∷ [])) w w'
unfolding machine_step add_model
model-added w w' numbers serial g h q =
    let m : Machine = held w ++ ((record { serial = serial }, []) ∷ []) in
    accepted w w' numbers (add_model (length w) serial) (AddModel serial) m g (has_room (length w) m h) (has_room (length w) m h) q

-- ---- the model at an index

module _ {A : Type 0} where
  nth-some : (i : ℕ) (xs : List A) → i < length xs → (x : A) × (nth i xs ≡ Some x)
  nth-some i [] h = absurd (omega arith)
  nth-some zero (x ∷ xs) h = (x, refl)
  nth-some (suc i) (x ∷ xs) h = nth-some i xs (omega arith)

  change-at : (i : ℕ) (f : A → A) (xs : List A) (x : A) → nth i xs ≡ Some x → splice i (λ y. f x ∷ []) xs ≡ change i f xs
  change-at i f [] x e = refl
  change-at zero f (y ∷ xs) x e = let q : y ≡ x = cc in rw q
  change-at (suc i) f (y ∷ xs) x e = ap (λ (l : List A). y ∷ l) (change-at i f xs x e)

in-length : (i : ℕ) (ls : List AtomLine) (m : Machine) → length (in_model i ls m) ≡ length m
in-length i ls [] = refl
in-length zero ls (t ∷ m) = refl
in-length (suc i) ls (t ∷ m) = ap suc (in-length i ls m)

in-none : (i : ℕ) (m : Machine) → in_model i [] m ≡ m
in-none i [] = refl
in-none zero (t ∷ m) = refl
in-none (suc i) (t ∷ m) = ap (λ (l : Machine). t ∷ l) (in-none i m)

in_both : (i : ℕ) (xs ys : List AtomLine) (m : Machine) → in_model i ys (in_model i xs m) ≡ in_model i (xs ++ ys) m
in_both i xs ys [] = refl
in_both zero xs ys (t ∷ m) = ap (λ (us : List (Branch 3)). (t.0, us) ∷ m) (sym (into_all-append xs ys t.1))
in_both (suc i) xs ys (t ∷ m) = ap (λ (l : Machine). t ∷ l) (in_both i xs ys m)

pub in-grows : (i : ℕ) (ls : List AtomLine) (m : Machine) → length (records m) ≤ length (records (in_model i ls m))
in-grows i ls [] = le_refl 0
in-grows zero ls (t ∷ m) =
    let u : Branch 4 = (t.0, into_all ls t.1) in
    omega (arith, length-append (flat 4 t) (records m), length-append (flat 4 u) (records m), size_of 3 t, size_of 3 u, adds-grow ls t.1)
in-grows (suc i) ls (t ∷ m) = omega (arith, length-append (flat 4 t) (records m), length-append (flat 4 t) (records (in_model i ls m)), in-grows i ls m)

-- ---- one line

module _ (n i : ℕ) (l : AtomLine) (m : Machine) (g : good_line l ≡ true) (there : i < length m) (room : length (records (in_model i (l ∷ []) m)) ≤ capacity n) where
  atom-step : add_prepared n i (Ok (prepared_of l)) m ≡ Ok (changed (in_model i (l ∷ []) m))
  unfolding add_prepared branch_at replace_at
  atom-step =
      let t = nth-some i m there in
      ap (λ (o : Option (Branch 4)). position o >>= λ u. need (good_values (new_atom (prepared_of l))) BadValue >> fits n (splice i (λ v. (u.0, into_chains (prepared_of l) u.1) ∷ []) m)) t.1
      ∙ ap (λ (b : Bool). need b BadValue >> fits n (splice i (λ v. (t.0.0, into_all (l ∷ []) t.0.1) ∷ []) m)) (values l g)
      ∙ ap (fits n) (change-at i (λ v. (v.0, into_all (l ∷ []) v.1)) m t.0 t.1)
      ∙ has_room n (in_model i (l ∷ []) m) room

  atom-call : machine_step n m (AddAtom i (addition_of l)) ≡ Ok (changed (in_model i (l ∷ []) m))
  unfolding machine_step
  atom-call = ap (λ (r : Result PreparedAddition). add_prepared n i r m) (prepared l g) ∙ atom-step

pub line-added : (w w' numbers : List ℕ) (i : ℕ) (l : AtomLine) (new : PreparedAddition) → Ready i (l ∷ []) w → new ≡ prepared_of l
    → (numbers, w') ≡ step_by w (add_prepared (length w) i (Ok new)) → Became (in_model i (l ∷ []) (held w)) w w'
line-added w w' numbers i l new r e q =
    let g = (and_both (good_line l) true r.lines).0 in
    accepted w w' numbers (add_prepared (length w) i (Ok (prepared_of l))) (AddAtom i (addition_of l)) (in_model i (l ∷ []) (held w)) r.good
    (atom-step (length w) i l (held w) g r.there r.room)
    (atom-call (length w) i l (held w) g r.there r.room)
    (q ∙ ap (λ (p : PreparedAddition). step_by w (add_prepared (length w) i (Ok p))) e)

-- ---- some lines before others

module _ (i : ℕ) (xs ys : List AtomLine) (w : List ℕ) (r : Ready i (xs ++ ys) w) where
  both-good : (all good_line xs ≡ true) × (all good_line ys ≡ true)
  both-good = and_both (all good_line xs) (all good_line ys) (sym (all_split good_line xs ys) ∙ r.lines)

  first-ready : Ready i xs w
  first-ready =
      let e = ap (λ (m : Machine). length (records m)) (in_both i xs ys (held w)) in
      let k = in-grows i ys (in_model i xs (held w)) in
      let h = r.room in
      record { good = r.good; there = r.there; lines = both-good.0; room = omega arith }

  then_ready : (w' : List ℕ) → Became (in_model i xs (held w)) w w' → Ready i ys w'
  then_ready w' b =
      let e = ap (λ (m : Machine). length (records (in_model i ys m))) b.holds ∙ ap (λ (m : Machine). length (records m)) (in_both i xs ys (held w)) in
      let k = ap length b.holds ∙ in-length i xs (held w) in
      let l = b.long in
      let c = ap capacity l in
      let h = r.room in
      let t = r.there in
      record { good = b.good; there = omega arith; lines = both-good.1; room = omega arith }

-- lines that are still to be added to a store, of those that were to be added at first
pub record Going (i : ℕ) (ls₀ : List AtomLine) (w₀ : List ℕ) (ls : List AtomLine) (w : List ℕ) : Type 0 where
  pub ready : Ready i ls w
  pub long : length w ≡ length w₀
  pub same : in_model i ls (held w) ≡ in_model i ls₀ (held w₀)

pub going_start : (i : ℕ) (ls : List AtomLine) (w : List ℕ) → Ready i ls w → Going i ls w ls w
going_start i ls w r = record { ready = r; long = refl; same = refl }

module _ {i : ℕ} {ls₀ : List AtomLine} {w₀ : List ℕ} {ls : List AtomLine} {w : List ℕ} (g : Going i ls₀ w₀ ls w) where
  pub going-as : (ls' : List AtomLine) → ls ≡ ls' → Going i ls₀ w₀ ls' w
  going-as ls' e = subst (λ (z : List AtomLine). Going i ls₀ w₀ z w) e g

  pub going_end : ls ≡ [] → Became (in_model i ls₀ (held w₀)) w₀ w
  going_end e =
      record { good = g.ready.good; long = g.long; holds = sym (in-none i (held w)) ∙ ap (λ (z : List AtomLine). in_model i z (held w)) (sym e) ∙ g.same }

  module _ (xs ys : List AtomLine) (e : ls ≡ xs ++ ys) where
    pub going-ready : Ready i xs w
    going-ready = first-ready i xs ys w (going-as (xs ++ ys) e).ready

    pub going-turn : (w' : List ℕ) → Became (in_model i xs (held w)) w w' → Going i ls₀ w₀ ys w'
    going-turn w' b =
        record {
          ready = then_ready i xs ys w (going-as (xs ++ ys) e).ready w' b;
          long = b.long ∙ g.long;
          same = ap (in_model i ys) b.holds ∙ in_both i xs ys (held w) ∙ ap (λ (z : List AtomLine). in_model i z (held w)) (sym e) ∙ g.same;
        }
