-- Laws of the reader, one for each place of the code. Assumes nothing.
use Rattle.std.specs.Prelude.{None, Ok, Option, Some, Err}
use Prim.Native.Nat.{ℕ, ◌+◌, ◌-◌, ◌*◌, ◌/◌, ◌%◌, ◌≤◌, ◌<◌}
use mathlib.Core.Path.{◌≡◌, refl, sym, ap, ◌∙◌, subst}
use mathlib.Core.Bool.{Bool, true, false, not, ◌&&◌, false≢true}
use mathlib.Core.List.{List, [], ◌∷◌}
use lib.Dec.{leb}
use lib.ListN.{length, get_or, take, drop, length-drop}
use lib.Seq.{length-take-le}
use native.Mathlib.Nat.{lt_irrefl}
use borrow.Author.Tests.{leb-true, le-leb, lt-leb, eq-eqb, ne_eqb}
use native.Mathlib.Omega.{arith}
use Rattle.machine.specs.Lists.{is_some}
use Rattle.machine.specs.Answer.{Result, ◌>>=◌, ◌>>◌, need, if_refused, opened_numbers}
use Rattle.machine.specs.Store.{Machine, records, capacity, lay_out, good_length}
use Rattle.machine.specs.Lines.{Entry}
use Rattle.machine.specs.LinesIn.{lines_in, entries_in, read_text}
use Rattle.machine.specs.Read.{calls_from, run_calls, or_bad_text, text_machine, read_run}
use Rattle.machine.specs.declared.Refusal.{Refusal}
use Rattle.machine.specs.declared.Refusal.TheVariants.{BadLength, NoCapacity, BadText}
use Rattle.laws.specs.Lists.{and-true}
use Rattle.lines.specs.Taken.{taken_atom, taken_model, taken_end, opens, taken_line, taken_from, taken_text}
use Rattle.lines.proofs.Scan.{taken-text, taken-entries, taken-good, taken-closed}
use Rattle.lines.specs.Numbered.{line_at, lines_from, lines-all, lines_next, lines_none}
use Rattle.building.specs.Lacks.{records_from}
use Rattle.building.specs.Build.{build}
use Rattle.building.specs.Run.{text-run}
use Rattle.building.proofs.Bounds.{text-size}

-- ---- one line

module _ (begun : Bool) (l : List ℕ) where
  abbrev first : ℕ
  first = get_or l 0 0

  pub second-model : first ≡ 77 → begun ≡ true → false ≡ taken_line begun l
  unfolding taken_line
  second-model h b = rw (eq-eqb first 77 h, b)

  pub model-line : (r : Bool) → first ≡ 77 → begun ≡ false → r ≡ taken_model l → r ≡ taken_line begun l
  unfolding taken_line
  model-line r h b e = rw (eq-eqb first 77 h, b, e)

  pub end_line : (r : Bool) → (first ≡ 77 → ⊥) → begun ≡ true → first ≡ 69 → r ≡ taken_end l → r ≡ taken_line begun l
  unfolding taken_line
  end_line r h b k e = rw (ne_eqb first 77 h, b, eq-eqb first 69 k, e)

  pub atom-line : (r : Bool) → (first ≡ 77 → ⊥) → begun ≡ true → (first ≡ 69 → ⊥) → r ≡ taken_atom l → r ≡ taken_line begun l
  unfolding taken_line
  atom-line r h b k e = rw (ne_eqb first 77 h, b, ne_eqb first 69 k, e)

  pub outside-line : (first ≡ 77 → ⊥) → begun ≡ false → false ≡ taken_line begun l
  unfolding taken_line
  outside-line h b = rw (ne_eqb first 77 h, b)

  pub model-opens : first ≡ 77 → true ≡ opens begun l
  model-opens h = rw (eq-eqb first 77 h)

  pub end-closes : (first ≡ 77 → ⊥) → first ≡ 69 → false ≡ opens begun l
  end-closes h k = rw (ne_eqb first 77 h, eq-eqb first 69 k)

  pub atom-keeps : (first ≡ 77 → ⊥) → (first ≡ 69 → ⊥) → begun ≡ opens begun l
  atom-keeps h k = rw (ne_eqb first 77 h, ne_eqb first 69 k)

-- ---- the whole text

-- the slice of the code is a line
abbrev slice : ℕ → List ℕ → List ℕ
slice n t = take (n * 81 + 81 - n * 81) (drop (n * 81) t)

slice_is : (n : ℕ) (t : List ℕ) → slice n t ≡ line_at n t
slice_is n t = ap (λ (k : ℕ). take k (drop (n * 81) t)) (let e : n * 81 + 81 - n * 81 ≡ 81 = omega arith in e)

pub slice-length : (n count : ℕ) (t : List ℕ) → count ≡ length t / 81 → n < count → length (slice n t) ≡ 81
slice-length n count t e h = ap length (slice_is n t) ∙ length-take-le 81 (drop (n * 81) t) (rw length-drop (omega arith))

pub ragged : (t : List ℕ) → 0 < length t % 81 → false ≡ taken_text t
unfolding taken_text
ragged t h = rw (ne_eqb (length t % 81) 0 (λ e. lt_irrefl 0 (subst (λ (z : ℕ). 0 < z) e h)))

-- the lines before n are taken
pub record TakenTo (t : List ℕ) (count n : ℕ) (begun : Bool) : Type 0 where
  pub all : count ≡ length t / 81
  pub within : n ≤ count
  pub is : taken_text t ≡ taken_from begun (lines_from n t)

pub none-taken : (t : List ℕ) → length t % 81 ≤ 0 → TakenTo t (length t / 81) 0 false
unfolding taken_text
none-taken t h =
    record {
      all = refl;
      within = omega arith;
      is = ap (λ (b : Bool). b && taken_from false (lines_in (length t / 81) t)) (eq-eqb (length t % 81) 0 (omega arith)) ∙ ap (taken_from false) (sym (lines-all t));
    }

module _ (t : List ℕ) (count n : ℕ) (begun r : Bool) (h : TakenTo t count n begun) (k : n < count) (e : r ≡ taken_line begun (slice n t)) where
  abbrev rest : Bool
  rest = taken_from (opens begun (slice n t)) (lines_from (n + 1) t)

  step : taken_text t ≡ r && rest
  unfolding taken_from
  step =
      h.is
      ∙ ap (taken_from begun) (lines_next t n (subst (λ (z : ℕ). n < z) h.all k) ∙ ap (λ (l : List ℕ). l ∷ lines_from (n + 1) t) (sym (slice_is n t)))
      ∙ ap (λ (b : Bool). b && rest) (sym e)

  pub more-taken : (next : Bool) → next ≡ opens begun (slice n t) → r ≡ true → TakenTo t count (n + 1) next
  more-taken next o y =
      record {
        all = h.all;
        within = omega arith;
        is = step ∙ ap (λ (b : Bool). b && rest) y ∙ ap (λ (b : Bool). taken_from b (lines_from (n + 1) t)) (sym o);
      }

  pub not_taken : r ≡ false → false ≡ taken_text t
  not_taken y = sym (step ∙ ap (λ (b : Bool). b && rest) y)

pub all-taken : (t : List ℕ) (count n : ℕ) (begun : Bool) → TakenTo t count n begun → count ≤ n → not begun ≡ taken_text t
unfolding taken_from
all-taken t count n begun h k = sym (h.is ∙ ap (taken_from begun) (lines_none t n (subst (λ (z : ℕ). z ≤ n) h.all k)))

-- ---- the call

module _ (t w : List ℕ) where
  abbrev refuses : Refusal → List ℕ × List ℕ
  refuses r = (opened_numbers (Err r), w)

  abbrev answered : Result Machine → List ℕ × List ℕ
  answered m = if_refused refuses (m >>= λ x. Ok (opened_numbers (Ok tt), lay_out (length w) x))

  run_is : read_run t w ≡ answered (text_machine (length w) t)
  unfolding read_run
  run_is = refl

  bad-length : good_length (length w) ≡ false → refuses BadLength ≡ read_run t w
  unfolding text_machine
  bad-length h = sym (run_is ∙ ap (λ (b : Bool). answered (need b BadLength >> (or_bad_text (read_text t) >>= λ es. run_calls (length w) [] (calls_from 0 es)))) h)

  pub too_short : length w < 1 → refuses BadLength ≡ read_run t w
  too_short h = bad-length (rw (lt-leb 1 (length w) h))

  pub too_long : 1200001 < length w → refuses BadLength ≡ read_run t w
  too_long h = bad-length (rw (le-leb 1 (length w) (omega arith), lt-leb (length w) 1200001 h))

  module _ (low : 1 ≤ length w) (high : length w ≤ 1200001) (r : Bool) (e : r ≡ taken_text t) where
    pub length-good : good_length (length w) ≡ true
    length-good = and-true (le-leb 1 (length w) low) (le-leb (length w) 1200001 high)

    by-text : (o : Option (List Entry)) → read_text t ≡ o → read_run t w ≡ answered (or_bad_text o >>= λ es. run_calls (length w) [] (calls_from 0 es))
    unfolding text_machine
    by-text o f = run_is ∙ (λ i. answered (need (length-good i) BadLength >> (or_bad_text (f i) >>= λ es. run_calls (length w) [] (calls_from 0 es))))

    pub bad-text : r ≡ false → refuses BadText ≡ read_run t w
    bad-text h = sym (by-text None (is_none (read_text t) (taken-text t ∙ sym e ∙ h)))
      where
        is_none : (o : Option (List Entry)) → is_some o ≡ false → o ≡ None
        is_none None h = refl
        is_none (Some es) h = absurd (false≢true (sym h))

    module _ (h : r ≡ true) where
      pub was-taken : taken_text t ≡ true
      was-taken = sym e ∙ h

      by_size : (f : Bool) → f ≡ leb (records_from false [] (lines_in (length t / 81) t)) (capacity (length w))
          → read_run t w ≡ answered (need f NoCapacity >> Ok (build (entries_in t)))
      by_size f g =
          by-text (Some (entries_in t)) (taken-entries t was-taken)
          ∙ ap answered (text-run (length w) (entries_in t) (taken-good t was-taken))
          ∙ ap (λ (b : Bool). answered (need b NoCapacity >> Ok (build (entries_in t))))
          (ap (λ (n : ℕ). leb n (capacity (length w))) (sym (text-size (lines_in (length t / 81) t) (taken-closed t was-taken))) ∙ sym g)

      module _ (f : Bool) (g : f ≡ leb (records_from false [] (lines_in (length t / 81) t)) ((length w - 1) / 12)) where
        pub no_room : f ≡ false → refuses NoCapacity ≡ read_run t w
        no_room k = sym (by_size f g ∙ ap (λ (b : Bool). answered (need b NoCapacity >> Ok (build (entries_in t)))) k)

        pub has_room : f ≡ true → length (records (build (entries_in t))) ≤ capacity (length w)
        has_room k =
            subst (λ (n : ℕ). n ≤ capacity (length w)) (text-size (lines_in (length t / 81) t) (taken-closed t was-taken))
            (leb-true (records_from false [] (lines_in (length t / 81) t)) (capacity (length w)) (sym g ∙ k))

        pub read_done : (after : List ℕ) → f ≡ true → after ≡ lay_out (length w) (build (entries_in t)) → (opened_numbers (Ok tt), after) ≡ read_run t w
        read_done after k a =
            ap (λ (v : List ℕ). (opened_numbers (Ok tt), v)) a
            ∙ sym (by_size f g ∙ ap (λ (b : Bool). answered (need b NoCapacity >> Ok (build (entries_in t)))) k)
