-- The list: an answer written, a turn, its start and its end; then the whole call. Assumes nothing.
use Rattle.machine.specs.declared.Edited.{Edited}
use Rattle.std.specs.Prelude.{Err, None, Ok, Option, Some, option_map, IsErrAnd, ok_or}
use Rattle.laws.specs.Exits.{exit-err, ok-some, exit-none}
use Prim.Native.Nat.{ℕ, suc, ◌+◌, ◌-◌, ◌*◌, ◌/◌, ◌≤◌, ◌<◌}
use mathlib.Core.Path.{◌≡◌, refl, sym, ap, ◌∙◌}
use mathlib.Core.Bool.{true}
use mathlib.Core.List.{List, [], ◌∷◌, ◌++◌}
use native.Mathlib.Nat.{add-zero}
use native.Mathlib.Omega.{arith}
use lib.ListN.{length, get_or, take, drop, length-append, length-take, length-drop}
use lib.Seq.{drop-drop, drop-length, get_or-drop}
use borrow.Author.Tests.{le-leb, lt-leb}
use Rattle.machine.specs.Lists.{is_some, concat_map}
use Rattle.machine.specs.Answer.{Result, edited_numbers, counted_numbers, edit_fields}
use Rattle.machine.specs.Store.{Machine, read_store}
use Rattle.machine.specs.Edit.{Call, Change, step_by, store_step, store_after, store_answers}
use Rattle.machine.specs.declared.Refusal.{Refusal}
use Rattle.machine.specs.declared.Refusal.TheVariants.{BadList, ShortAnswers}
use Rattle.machine.specs.declared.EditAnswer.{EditAnswer}
use Rattle.moves.specs.Over.{over}
use Rattle.moves.proofs.Laws.{over_none, over-over, over-length}
use Rattle.seek.specs.Seek.{Good}
use Rattle.store.specs.Store.{checked_by}
use Rattle.store.proofs.Laws.{refused-store}
use Rattle.store.proofs.Steps.{step-good}
use Rattle.calls.specs.Format.{read_call, read_calls}
use Rattle.calls.proofs.Reading.{calls-none, calls-step}
use Rattle.dispatch.proofs.Texts.{some_of}
use Rattle.edits.specs.Apply.{Run, ran, answered, applied, run_calls, apply_run, calls_of}

-- ---- the answers

pub answer-put : (out out₀ : List ℕ) (at : ℕ) (e : EditAnswer) (d : Result Edited) → edit_fields e ≡ edited_numbers d → out ≡ over at (edit_fields e) out₀ → out ≡ over at (edited_numbers d) out₀
answer-put out out₀ at e d q r = r ∙ ap (λ (l : List ℕ). over at l out₀) q

module _ (w : List ℕ) (step : Machine → Result Change) where
  three-of : (m : Machine) → read_store w ≡ Ok m → (r : Result Change) → step m ≡ r → length (step_by w step).0 ≡ 3
  unfolding step_by
  three-of m g (Ok x) e = rw (g, e)
  three-of m g (Err x) e = rw (g, e)

  three-by : (r : Result Machine) → read_store w ≡ r → length (step_by w step).0 ≡ 3
  unfolding step_by
  three-by (Ok m) g = three-of m g (step m) refl
  three-by (Err x) g = rw g

step-three : (w : List ℕ) (c : Call) → length (store_step w c).0 ≡ 3
unfolding store_step
step-three w c = three-by w _ (read_store w) refl

abbrev words_of : List (List ℕ) → List ℕ
words_of answers = concat_map (λ (a : List ℕ). a) answers

answers-three : (w : List ℕ) (cs : List Call) → length (words_of (store_answers w cs)) ≡ 3 * length (store_answers w cs)
unfolding store_answers
answers-three w [] = refl
answers-three w (c ∷ cs) =
    let rest = store_answers (store_step w c).1 cs in
    omega (arith, step-three w c, answers-three (store_step w c).1 cs, length-append (store_step w c).0 (words_of rest))

over-answered : (w : List ℕ) (cs : List Call) (out : List ℕ) → over 0 (words_of (store_answers w cs)) out ≡ answered (store_answers w cs) out
unfolding over
over-answered w cs out =
    let e : 0 + length (words_of (store_answers w cs)) ≡ 3 * length (store_answers w cs) = omega (arith, answers-three w cs) in
    ap (λ (n : ℕ). words_of (store_answers w cs) ++ drop n out) e

-- ---- the loop

-- the calls from a word on do to the store and the output what all of them did
pub record Going (w₀ out₀ list w out : List ℕ) (at done : ℕ) : Type 0 where
  pub low : at ≤ length list
  pub good : Good w
  pub calls : List Call
  pub reads : read_calls (drop at list) ≡ Some calls
  pub room : done + 3 * length calls ≤ length out
  pub same : length out ≡ length out₀
  pub stores : store_after w calls ≡ store_after w₀ (calls_of (read_calls list))
  pub answers : over done (words_of (store_answers w calls)) out ≡ over 0 (words_of (store_answers w₀ (calls_of (read_calls list)))) out₀

pub going_start : (w out list : List ℕ) → Good w → is_some (read_calls list) ≡ true → 3 * length (calls_of (read_calls list)) ≤ length out → Going w out list w out 0 0
going_start w out list g h r =
    let s = some_of (read_calls list) h in
    let e : calls_of (read_calls list) ≡ s.0 = ap calls_of s.1 in
    record {
      low = omega arith;
      good = g;
      calls = calls_of (read_calls list);
      reads = s.1 ∙ ap Some (sym e);
      room = omega arith;
      same = refl;
      stores = refl;
      answers = refl;
    }

-- the call at a word
pub record Next (list : List ℕ) (at : ℕ) (calls : List Call) : Type 0 where
  pub room : at + 2 + get_or list (at + 1) 0 ≤ length list
  pub short : get_or list (at + 1) 0 ≤ 1024
  pub call : Call
  pub reads : read_call (get_or list at 0) (take (at + 2 + get_or list (at + 1) 0 - (at + 2)) (drop (at + 2) list)) ≡ Some call
  pub later : List Call
  pub rest : read_calls (drop (at + 2 + get_or list (at + 1) 0) list) ≡ Some later
  pub is : calls ≡ call ∷ later

next-call : (list : List ℕ) (at : ℕ) (calls : List Call) → at < length list → read_calls (drop at list) ≡ Some calls → Next list at calls
next-call list at calls h e =
    let f = calls-step (drop at list) calls e (omega (arith, length-drop at list)) in
    let code : get_or (drop at list) 0 0 ≡ get_or list at 0 = get_or-drop at list 0 0 ∙ ap (λ (i : ℕ). get_or list i 0) (add-zero at) in
    let n : get_or (drop at list) 1 0 ≡ get_or list (at + 1) 0 = get_or-drop at list 1 0 in
    let m : at + 2 + get_or list (at + 1) 0 - (at + 2) ≡ get_or (drop at list) 1 0 = omega arith in
    let sum : at + (2 + get_or (drop at list) 1 0) ≡ at + 2 + get_or list (at + 1) 0 = omega arith in
    let after : drop (2 + get_or (drop at list) 1 0) (drop at list) ≡ drop (at + 2 + get_or list (at + 1) 0) list = drop-drop (2 + get_or (drop at list) 1 0) at list ∙ ap (λ (i : ℕ). drop i list) sum in
    record {
      room = omega (arith, f.room, length-drop at list);
      short = omega (arith, f.short);
      call = f.call;
      reads = rw (m, ← code, ← drop-drop 2 at list) f.reads;
      later = f.later;
      rest = ap read_calls (sym after) ∙ f.rest;
      is = f.is;
    }

module _ {w₀ out₀ list w out : List ℕ} {at done : ℕ} (g : Going w₀ out₀ list w out at done) where
  module _ (t : at < length list) where
    pub next_of : Next list at g.calls
    next_of = next-call list at g.calls t g.reads

    pub next-reads : is_some (read_call (get_or list at 0) (take (at + 2 + get_or list (at + 1) 0 - (at + 2)) (drop (at + 2) list))) ≡ true
    next-reads = rw next_of.reads

    pub next-short : (bytes : List ℕ) → length bytes ≡ 1024 → length (take (at + 2 + get_or list (at + 1) 0 - (at + 2)) (drop (at + 2) list)) ≤ length bytes
    next-short bytes e = omega (arith, length-take (at + 2 + get_or list (at + 1) 0 - (at + 2)) (drop (at + 2) list), next_of.short)

    count-calls : length g.calls ≡ suc (length next_of.later)
    count-calls = ap length next_of.is

    pub answer-room : done + 3 ≤ length out
    answer-room = omega (arith, count-calls, g.room)

    pub going-turn : (w' out' : List ℕ) (r : Result Edited)
        → Some (edited_numbers r, w') ≡ option_map (store_step w) (read_call (get_or list at 0) (take (at + 2 + get_or list (at + 1) 0 - (at + 2)) (drop (at + 2) list)))
        → out' ≡ over done (edited_numbers r) out → Going w₀ out₀ list w' out' (at + 2 + get_or list (at + 1) 0) (done + 3)
    unfolding store_after store_answers
    going-turn w' out' r e o =
        let n = next_of in
        let q = n.reads in
        let s : (edited_numbers r, w') ≡ store_step w n.call = cc in
        let a : edited_numbers r ≡ (store_step w n.call).0 = ap (λ p. p.0) s in
        let b : w' ≡ (store_step w n.call).1 = ap (λ p. p.1) s in
        let three : length (edited_numbers r) ≡ 3 = ap length a ∙ step-three w n.call in
        let fits = answer-room in
        let l : length out' ≡ length out = ap length o ∙ over-length done (edited_numbers r) out (omega arith) in
        let rest = words_of (store_answers (store_step w n.call).1 n.later) in
        let two : over (done + 3) rest out' ≡ over done (edited_numbers r ++ rest) out =
        ap (λ (v : List ℕ). over (done + 3) rest v) o ∙ ap (λ (k : ℕ). over (done + k) rest (over done (edited_numbers r) out)) (sym three) ∙ over-over done (edited_numbers r) rest out (omega arith) in
        let whole : words_of (store_answers w g.calls) ≡ edited_numbers r ++ rest = ap (λ (cs : List Call). words_of (store_answers w cs)) n.is ∙ ap (λ (v : List ℕ). v ++ rest) (sym a) in
        record {
          low = n.room;
          good = rw b (step-good w g.good n.call);
          calls = n.later;
          reads = n.rest;
          room = omega (arith, count-calls, g.room);
          same = l ∙ g.same;
          stores = rw b (ap (store_after w) (sym n.is) ∙ g.stores);
          answers = rw b (two ∙ ap (λ (v : List ℕ). over done v out) (sym whole) ∙ g.answers);
        }

  pub going_end : length list ≤ at → (w, out) ≡ applied w₀ out₀ (calls_of (read_calls list))
  unfolding store_after store_answers
  going_end h =
      let q : at ≡ length list = omega (arith, g.low) in
      let z : drop at list ≡ [] = ap (λ (i : ℕ). drop i list) q ∙ drop-length list in
      let s : Some g.calls ≡ Some [] = sym g.reads ∙ ap read_calls z ∙ calls-none in
      let e : g.calls ≡ [] = cc in
      let a : w ≡ store_after w₀ (calls_of (read_calls list)) = ap (store_after w) (sym e) ∙ g.stores in
      let b : out ≡ answered (store_answers w₀ (calls_of (read_calls list))) out₀ =
      sym (over_none done out) ∙ ap (λ (cs : List Call). over done (words_of (store_answers w cs)) out) (sym e) ∙ g.answers ∙ over-answered w₀ (calls_of (read_calls list)) out₀ in
      ap (λ (v : List ℕ). (v, out)) a ∙ ap (λ (v : List ℕ). (store_after w₀ (calls_of (read_calls list)), v)) b

-- ---- the whole call

module _ (w out : List ℕ) where
  bad-run : (o : Option (List Call)) → None ≡ option_map length o → ran (counted_numbers (Err BadList)) w out ≡ run_calls w out o
  bad-run None q = refl
  bad-run (Some cs) q = let z : ◌≡◌ {A = ℕ} 0 1 = cc in absurd (omega arith)

  module _ {n : ℕ} where
    counted : (o : Option (List Call)) → Some n ≡ option_map length o → (is_some o ≡ true) × (length (calls_of o) ≡ n)
    counted None q = let z : ◌≡◌ {A = ℕ} 0 1 = cc in absurd (omega arith)
    counted (Some cs) q = (refl, cc)

    short-run : (o : Option (List Call)) → Some n ≡ option_map length o → length out / 3 < n → ran (counted_numbers (Err ShortAnswers)) w out ≡ run_calls w out o
    short-run None q l = let z : ◌≡◌ {A = ℕ} 0 1 = cc in absurd (omega arith)
    short-run (Some cs) q l = let e : n ≡ length cs = cc in rw (lt-leb (3 * length cs) (length out) (omega arith))

    done-run : (w' out' : List ℕ) (o : Option (List Call)) → Some n ≡ option_map length o → n ≤ length out / 3 → (w', out') ≡ applied w out (calls_of o)
        → ran (counted_numbers (Ok n)) w' out' ≡ run_calls w out o
    done-run w' out' None q l p = let z : ◌≡◌ {A = ℕ} 0 1 = cc in absurd (omega arith)
    done-run w' out' (Some cs) q l p =
        let e : n ≡ length cs = cc in
        let a : w' ≡ store_after w cs = ap (λ x. x.0) p in
        let b : out' ≡ answered (store_answers w cs) out = ap (λ x. x.1) p in
        rw (le-leb (3 * length cs) (length out) (omega arith), a, b, e)

module _ {c : Option ℕ} (list : List ℕ) (h : c ≡ option_map length (read_calls list)) {q : Result ℕ} (k : q ≡ ok_or c BadList) where
  pub bad-list : (w out : List ℕ) {x : Refusal} → q ≡ Err x → (a : Result ℕ) → IsErrAnd a (λ y. y ≡ x) → ran (counted_numbers a) w out ≡ run_calls w out (read_calls list)
  bad-list w out {x} e a o =
      let n = exit-none c q BadList x a k e o in
      rw n.1 (bad-run w out (read_calls list) (sym n.0 ∙ h))

  module _ {n : ℕ} (e : q ≡ Ok n) where
    some : Some n ≡ option_map length (read_calls list)
    some = sym (ok-some c q BadList n k e) ∙ h

    pub list-reads : is_some (read_calls list) ≡ true
    list-reads = (counted [] [] (read_calls list) some).0

    pub short-answers : (w out : List ℕ) → length out / 3 < n → ran (counted_numbers (Err ShortAnswers)) w out ≡ run_calls w out (read_calls list)
    short-answers w out l = short-run w out (read_calls list) some l

    pub answers-room : (out : List ℕ) → n ≤ length out / 3 → 3 * length (calls_of (read_calls list)) ≤ length out
    answers-room out l = omega (arith, (counted [] [] (read_calls list) some).1)

    pub list_done : (w out w' out' : List ℕ) → n ≤ length out / 3 → (w', out') ≡ applied w out (calls_of (read_calls list))
        → ran (counted_numbers (Ok n)) w' out' ≡ run_calls w out (read_calls list)
    list_done w out w' out' l p = done-run w out w' out' (read_calls list) some l p

pub applied-good : {x : Run} (w list out : List ℕ) → Good w → x ≡ run_calls w out (read_calls list) → x ≡ apply_run w list out
unfolding apply_run
applied-good w list out g e = rw g e

pub applied-refused : {c : Result ℕ} {r : Refusal} (w list out : List ℕ) → c ≡ checked_by (read_store w) → c ≡ Err r
    → (a : Result ℕ) → IsErrAnd a (λ y. y ≡ r) → ran (counted_numbers a) w out ≡ apply_run w list out
unfolding apply_run
applied-refused {r = r} w list out h e a o = rw (exit-err a r o, refused-store w (sym e ∙ h))
