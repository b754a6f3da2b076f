-- What `cut_turn` and each return of `join_at` give in the words of a good store. Assumes nothing.
use Rattle.std.specs.Prelude.{Err, Ok, Some, IsErrAnd}
use Prim.Native.Nat.{ℕ, ◌+◌, ◌-◌, ◌*◌, ◌≤◌, ◌<◌}
use mathlib.Core.Path.{◌≡◌, sym, ap, ◌∙◌}
use mathlib.Core.List.{List, ◌++◌}
use native.Mathlib.Numerals.{add-one}
use native.Mathlib.Omega.{arith}
use lib.ListN.{length, take, drop, set, length-append, length-take, length-drop}
use Rattle.machine.specs.Answer.{Result, edited_numbers, position}
use Rattle.machine.specs.Record.{Words}
use Rattle.machine.specs.Store.{records, stored, laid, lay_out}
use Rattle.machine.specs.Edit.{step_by}
use Rattle.machine.specs.declared.Edited.{Edited}
use Rattle.machine.specs.declared.Refusal.{Refusal}
use Rattle.machine.specs.declared.Refusal.TheVariants.{NoPosition, JoinWithItself}
use Rattle.laws.specs.Exits.{placed, exit-nowhere}
use Rattle.laws.specs.Lists.{All-append}
use Rattle.laws.specs.Grouped.{concat, twelve-words}
use Rattle.laws.specs.Layout.{read_length, read-fit, fit_words, length-parts, lay_out-read}
use Rattle.moves.specs.Over.{taken_out, rotated, Twelve}
use Rattle.moves.proofs.Records.{twelve-take, twelve-drop, remove-laid, rotate-laid}
use Rattle.seek.specs.Seek.{Good, held, span}
use Rattle.joins.specs.Join.{join_on, join, cut_turned, Turns}
use Rattle.joins.proofs.Laws.{Joined, join-rules}

-- ---- `cut_turn`

-- a good store has a word more than its records take
pub record Room (w : List ℕ) : Type 0 where
  pub trailer : 12 * length (records (held w)) < length w
  pub small : length w ≤ 1200001

pub room : (w : List ℕ) → Good w → Room w
room w g =
    let h = read_length w (held w) g in
    record { trailer = fit_words (length w) (held w) h (read-fit w (held w) g); small = (length-parts (length w) h).1 }

module _ (n : ℕ) (rs : List Words) (t : Twelve rs) (gone a m b : ℕ) where
  turned-words : 12 * length rs < n → gone < length rs → a ≤ m → m ≤ b → b < length rs
      → rotated (12 * a) (12 * m) (12 * b) (set (taken_out (12 * gone) (12 * (gone + 1)) (12 * length rs) (laid n (concat rs))) (n - 1) (12 * (length rs - 1)))
      ≡ laid n (concat (cut_turned gone a m b rs))
  unfolding cut_turned
  turned-words f g l k h =
      let left : List Words = take gone rs ++ drop (gone + 1) rs in
      let e : length rs - (gone + 1 - gone) ≡ length rs - 1 = omega arith in
      let c = remove-laid n rs t gone (gone + 1) (omega arith) (omega arith) f in
      let o : b ≤ length left = simp (length-append, length-take, length-drop) (omega arith) in
      let q : Twelve left = All-append _ (take gone rs) (drop (gone + 1) rs) (twelve-take gone rs t) (twelve-drop (gone + 1) rs t) in
      ap (rotated (12 * a) (12 * m) (12 * b)) (ap (set (taken_out (12 * gone) (12 * (gone + 1)) (12 * length rs) (laid n (concat rs))) (n - 1)) (ap (λ (x : ℕ). 12 * x) (sym e)) ∙ c)
      ∙ rotate-laid n left q a m b l k o
      ∙ rw add-one

pub turn-law : (w w₁ w₂ : List ℕ) (gone a m b count : ℕ) → Turns w gone a m b → count ≡ length (records (held w))
    → w₁ ≡ taken_out (12 * gone) (12 * (gone + 1)) (12 * count) w → w₂ ≡ rotated (12 * a) (12 * m) (12 * b) (set w₁ (length w - 1) (12 * (count - 1)))
    → w₂ ≡ laid (length w) (concat (cut_turned gone a m b (records (held w))))
unfolding lay_out
turn-law w w₁ w₂ gone a m b count t c e f =
    let rs = records (held w) in
    let r = room w t.good in
    let g = turned-words (length w) rs (twelve-words (held w)) gone a m b r.trailer t.there t.low t.high t.room in
    let l : laid (length w) (concat rs) ≡ w = lay_out-read w (held w) t.good in
    f ∙ rw (e, c) (ap (λ (x : List ℕ). rotated (12 * a) (12 * m) (12 * b) (set (taken_out (12 * gone) (12 * (gone + 1)) (12 * length rs) x) (length w - 1) (12 * (length rs - 1)))) (sym l) ∙ g)

-- ---- the returns of `join_at`

answer-refused : (w a b : List ℕ) → Good w → (r : Refusal) → join_on (length a) a b (held w) ≡ Err r
    → (edited_numbers (Err r), w) ≡ step_by w (join a b)
unfolding step_by
answer-refused w a b g r e = rw (g, e)

answer-joined : (w w' a b : List ℕ) → Good w → (p q p' q' : ℕ) (rs : List Words) → Joined records stored (held w) p q p' q' rs (join_on (length a) a b (held w))
    → w' ≡ laid (length w) (concat rs) → (edited_numbers (Ok (record { found = 1; removed = 0 })), w') ≡ step_by w (join a b)
unfolding step_by lay_out
answer-joined w w' a b g p q p' q' rs j e =
    let z : stored (held w) - stored j.after ≡ 0 = omega (arith, j.atoms) in
    rw (g, j.done, z, j.joined, e)

-- a position that isn't there ends the call
module _ (w a b : List ℕ) (g : Good w) (q : Result (ℕ × ℕ)) (y : Refusal) (r : Result Edited) (lo : 1 ≤ length a) (hi : length a ≤ 4) (e : length a ≡ length b)
    (no : q ≡ Err y) (out : IsErrAnd r (λ x. x ≡ y)) where
  pub no-first : q ≡ position (span a (held w)) → (edited_numbers r, w) ≡ step_by w (join a b)
  no-first f =
      let x = exit-nowhere (span a (held w)) q y r f no out in
      rw x.1 (answer-refused w a b g NoPosition ((join-rules a b (held w) lo hi e).no-first x.0))

  pub no_second : q ≡ position (span b (held w)) → (edited_numbers r, w) ≡ step_by w (join a b)
  no_second f =
      let x = exit-nowhere (span b (held w)) q y r f no out in
      rw x.1 (answer-refused w a b g NoPosition ((join-rules a b (held w) lo hi e).no_second x.0))

-- both are there
module _ (w a b : List ℕ) (g : Good w) (s t : Result (ℕ × ℕ)) (pa qa pb qb : ℕ) (lo : 1 ≤ length a) (hi : length a ≤ 4) (e : length a ≡ length b)
    (sa : s ≡ position (span a (held w))) (sb : t ≡ position (span b (held w))) (ta : s ≡ Ok (pa, qa)) (tb : t ≡ Ok (pb, qb)) where
  first-there : span a (held w) ≡ Some (pa, qa)
  first-there = placed (span a (held w)) s (pa, qa) sa ta

  second-there : span b (held w) ≡ Some (pb, qb)
  second-there = placed (span b (held w)) t (pb, qb) sb tb

  pub itself : pa ≡ pb → (edited_numbers (Err JoinWithItself), w) ≡ step_by w (join a b)
  itself o = answer-refused w a b g JoinWithItself ((join-rules a b (held w) lo hi e).itself pa qa pb qb first-there second-there o)

  module _ (o : pa < pb) where
    behind : Joined records stored (held w) pa qa pb qb (cut_turned pb qa pb (qb - 1) (records (held w))) (join_on (length a) a b (held w))
    behind = (join-rules a b (held w) lo hi e).behind pa qa pb qb first-there second-there o

    pub behind-second : 1 ≤ qb
    behind-second = omega (arith, behind.ordered.second)

    pub behind-turns : Turns w pb qa pb (qb - 1)
    behind-turns =
        let r = behind.ordered in
        record { good = g; there = omega (arith, r.second, r.room); low = r.order; high = omega (arith, r.second); room = omega (arith, r.second, r.room) }

    pub behind-done : (w' : List ℕ) → w' ≡ laid (length w) (concat (cut_turned pb qa pb (qb - 1) (records (held w))))
        → (edited_numbers (Ok (record { found = 1; removed = 0 })), w') ≡ step_by w (join a b)
    behind-done w' f = answer-joined w w' a b g pa qa pb qb _ behind f

  module _ (o : pa ≡ pb → ⊥) (l : pb ≤ pa) where
    ahead : Joined records stored (held w) pb qb pa qa (cut_turned pb pb (qb - 1) (qa - 1) (records (held w))) (join_on (length a) a b (held w))
    ahead = (join-rules a b (held w) lo hi e).ahead pa qa pb qb first-there second-there (omega arith)

    pub ahead-second : 1 ≤ qb
    ahead-second = omega (arith, ahead.ordered.first)

    pub ahead-first : 1 ≤ qa
    ahead-first = omega (arith, ahead.ordered.second)

    pub ahead-turns : Turns w pb pb (qb - 1) (qa - 1)
    ahead-turns =
        let r = ahead.ordered in
        record {
          good = g;
          there = omega (arith, r.order, r.second, r.room, r.first);
          low = omega (arith, r.first);
          high = omega (arith, r.order, r.second);
          room = omega (arith, r.second, r.room);
        }

    pub ahead-done : (w' : List ℕ) → w' ≡ laid (length w) (concat (cut_turned pb pb (qb - 1) (qa - 1) (records (held w))))
        → (edited_numbers (Ok (record { found = 1; removed = 0 })), w') ≡ step_by w (join a b)
    ahead-done w' f = answer-joined w w' a b g pb qb pa qa _ ahead f
