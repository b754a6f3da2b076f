-- Change request §9: read_pdb's answer and words from what a text gives, and a store after calls of which none is refused. Assumes nothing.
use Rattle.std.specs.Prelude.{Err, None, Ok, Option, Some}
use Prim.Native.Nat.{ℕ}
use mathlib.Core.Path.{◌≡◌, refl, sym, ap, ◌∙◌, subst}
use mathlib.Core.Bool.{Bool, true, false, false≢true}
use mathlib.Core.List.{List, [], ◌∷◌}
use native.Mathlib.Omega.{arith}
use lib.ListN.{length}
use Rattle.machine.specs.Lists.{is_some, all}
use Rattle.machine.specs.Answer.{Result, ◌>>=◌, ◌>>◌, need, if_refused, opened_numbers}
use Rattle.machine.specs.Store.{Machine, lay_out, good_length}
use Rattle.machine.specs.Edit.{Call, Change, machine_step, answer, next, store_step, store_after, store_answers}
use Rattle.machine.specs.Demand.{accepts}
use Rattle.machine.specs.Lines.{Entry}
use Rattle.machine.specs.LinesIn.{entries_in, read_text}
use Rattle.machine.specs.Read.{calls_from, run_calls, or_bad_text, text_machine, read_run}
use Rattle.machine.specs.declared.Refusal.TheVariants.{BadLength, BadText}
use Rattle.laws.specs.Good.{Fit}
use Rattle.laws.specs.Steps.{step_keeps, refusal-number}
use Rattle.lines.proofs.Scan.{taken-text, taken-entries}
use Rattle.demands.proofs.Demand.{store_step_lem}

-- ---- the answer and the words

abbrev pub outcome : List ℕ → Result Machine → List ℕ × List ℕ
outcome w z = if_refused (λ r. (opened_numbers (Err r), w)) (z >>= λ m. Ok (opened_numbers (Ok tt), lay_out (length w) m))

pub run_is : (t w : List ℕ) → read_run t w ≡ outcome w (text_machine (length w) t)
unfolding read_run
run_is t w = refl

pub outcome-untouched : (w : List ℕ) (z : Result Machine) → accepts (outcome w z).0 ≡ false → (outcome w z).1 ≡ w
outcome-untouched w (Ok m) h = absurd (false≢true (sym h))
outcome-untouched w (Err r) h = refl

pub outcome-machine : (w : List ℕ) (z : Result Machine) → accepts (outcome w z).0 ≡ true → (m : Machine) × (z ≡ Ok m)
outcome-machine w (Ok m) h = (m, refl)
outcome-machine w (Err r) h = absurd (false≢true (sym (refusal-number r) ∙ h))

-- ---- what a text gives

pub read-entries : (t : List ℕ) → is_some (read_text t) ≡ true → read_text t ≡ Some (entries_in t)
read-entries t h = taken-entries t (sym (taken-text t) ∙ h)

-- in a store of n words, given whether their number is good and what the text is read as
abbrev pub gives : ℕ → Bool → Option (List Entry) → Result Machine
gives n b o = need b BadLength >> (or_bad_text o >>= λ es. run_calls n [] (calls_from 0 es))

pub gives-is : (n : ℕ) (t : List ℕ) → text_machine n t ≡ gives n (good_length n) (read_text t)
unfolding text_machine
gives-is n t = refl

pub gives_none : (n : ℕ) (t : List ℕ) → good_length n ≡ true → is_some (read_text t) ≡ false → text_machine n t ≡ Err BadText
gives_none n t g h = gives-is n t ∙ ap (λ (b : Bool). gives n b (read_text t)) g ∙ go (read_text t) h
  where
    go : (o : Option (List Entry)) → is_some o ≡ false → gives n true o ≡ Err BadText
    go None e = refl
    go (Some es) e = absurd (false≢true (sym e))

pub record Gives (n : ℕ) (t : List ℕ) (m : Machine) : Type 0 where
  pub good : good_length n ≡ true
  pub run : run_calls n [] (calls_from 0 (entries_in t)) ≡ Ok m

pub gives-parts : (n : ℕ) (t : List ℕ) (m : Machine) → text_machine n t ≡ Ok m → Gives n t m
gives-parts n t m e = go (good_length n) (read_text t) refl refl (sym (gives-is n t) ∙ e)
  where
    go : (b : Bool) (o : Option (List Entry)) → good_length n ≡ b → read_text t ≡ o → gives n b o ≡ Ok m → Gives n t m
    go true (Some es) g r p =
        let s : Some es ≡ Some (entries_in t) = sym r ∙ read-entries t (ap is_some r) in
        let q : es ≡ entries_in t = cc in
        record { good = g; run = ap (λ (z : List Entry). run_calls n [] (calls_from 0 z)) (sym q) ∙ p }
    go true None g r p = let z : ◌≡◌ {A = ℕ} 0 1 = cc in absurd (omega arith)
    go false o g r p = let z : ◌≡◌ {A = ℕ} 0 1 = cc in absurd (omega arith)

-- ---- a store after calls of which none is refused

pub record Ran (n : ℕ) (m after : Machine) (cs : List Call) : Type 0 where
  pub held : store_after (lay_out n m) cs ≡ lay_out n after
  pub accepted : all accepts (store_answers (lay_out n m) cs) ≡ true

ran-one : (n : ℕ) (m m' after : Machine) (c : Call) (cs : List Call) (a : List ℕ) → store_step (lay_out n m) c ≡ (a, lay_out n m') → accepts a ≡ true
    → Ran n m' after cs → Ran n m after (c ∷ cs)
unfolding store_after store_answers
ran-one n m m' after c cs a e h r =
    record {
      held = ap (λ (z : List ℕ × List ℕ). store_after z.1 cs) e ∙ r.held;
      accepted = ap (λ (z : List ℕ × List ℕ). all accepts (z.0 ∷ store_answers z.1 cs)) e ∙ rw h r.accepted;
    }

pub ran : (n : ℕ) (m after : Machine) (cs : List Call) → good_length n ≡ true → Fit n m → run_calls n m cs ≡ Ok after → Ran n m after cs
unfolding run_calls store_after store_answers
ran n m after [] g f e = let q : m ≡ after = cc in record { held = ap (lay_out n) q; accepted = refl }
ran n m after (c ∷ cs) g f e = go (machine_step n m c) refl e (λ m'. ran n m' after cs g)
  where
    go : (r : Result Change) → machine_step n m c ≡ r → (r >>= λ x. run_calls n x.after cs) ≡ Ok after
        → ((m' : Machine) → Fit n m' → run_calls n m' cs ≡ Ok after → Ran n m' after cs) → Ran n m after (c ∷ cs)
    go (Ok x) s p rest =
        ran-one n m x.after after c cs (answer m (Ok x)) (store_step_lem n m c g f ∙ ap (λ (r : Result Change). (answer m r, lay_out n (next m r))) s) refl
        (rest x.after (subst (λ (r : Result Change). Fit n (next m r)) s (step_keeps n m c f)) p)
    go (Err r) s p rest = let z : ◌≡◌ {A = ℕ} 0 1 = cc in absurd (omega arith)
