-- What each place of the code has to show, over words and records. Assumes nothing.
use Rattle.std.specs.Prelude.{Err, None, Ok, Option, Some}
use Prim.Native.Nat.{ℕ, ◌+◌, ◌-◌, ◌*◌, ◌/◌, ◌≤◌, ◌<◌}
use mathlib.Core.Path.{◌≡◌, refl, sym, ap, ◌∙◌}
use mathlib.Core.Bool.{Bool, true, false}
use mathlib.Core.List.{List, [], ◌∷◌, ◌++◌}
use native.Mathlib.Omega.{arith}
use lib.ListN.{length, take, drop, get_or, set, length-append, length-drop, take-append-drop}
use lib.Seq.{drop_at, length-take-le}
use lib.Dec.{ltb}
use borrow.Author.Tests.{eq-eqb, ne_eqb}
use Rattle.machine.specs.Lists.{keep}
use Rattle.machine.specs.Answer.{edited_numbers}
use Rattle.machine.specs.Record.{Words}
use Rattle.machine.specs.Store.{stored, laid, lay_out, records_of}
use Rattle.machine.specs.Edit.{with_children, non_empty, remove_empty, step_by}
use Rattle.machine.specs.declared.Refusal.TheVariants.{NoPosition}
use Rattle.laws.specs.Lists.{All}
use Rattle.laws.specs.Grouped.{concat, concat-length, chunks-length}
use Rattle.moves.specs.Over.{over, taken_out, Twelve}
use Rattle.moves.proofs.Laws.{over_none, over-length, over-under, take-over, between-below}
use Rattle.moves.proofs.Records.{remove-laid}
use Rattle.seek.specs.Seek.{held, Good, Within, record_at, records_in, span}
use Rattle.seek.proofs.Below.{record-kind, records_in-cons, records_in-nil}
use Rattle.seek.proofs.Laws.{Stands, stands, missing}
use Rattle.empty_removals.specs.Prune.{Laid, stays, full, Gathered}
use Rattle.empty_removals.proofs.Branches.{full-chains, non_empty-atoms}
use Rattle.empty_removals.proofs.Words.{instead, good-laid, records_in-twelve, records_in-over, Rewritten, rewritten, below-within, below-high, below-records, below-laid, below-stored}

-- ---- `close_gap`

pub count-is : (w : List ℕ) → length (records_of w) ≡ get_or w (length w - 1) 0 / 12
count-is w = chunks-length _ w

pub close-none : (w : List ℕ) (to end : ℕ) → Laid w → to ≡ end → w ≡ laid (length w) (concat (take to (records_of w) ++ drop end (records_of w)))
close-none w to end l e = rw (e, take-append-drop end (records_of w)) l.is

pub close-law : (w s : List ℕ) (to end : ℕ) → Laid w → to ≤ end → end ≤ length (records_of w)
    → s ≡ taken_out (to * 12) (end * 12) (get_or w (length w - 1) 0 / 12 * 12) w
    → set s (length w - 1) ((get_or w (length w - 1) 0 / 12 - (end - to)) * 12) ≡ laid (length w) (concat (take to (records_of w) ++ drop end (records_of w)))
close-law w s to end l o h e =
    let rs = records_of w in
    let n = length w in
    let c = count-is w in
    let a : to * 12 ≡ 12 * to = omega arith in
    let b : end * 12 ≡ 12 * end = omega arith in
    let d : get_or w (length w - 1) 0 / 12 * 12 ≡ 12 * length rs = omega arith in
    let f : (get_or w (length w - 1) 0 / 12 - (end - to)) * 12 ≡ 12 * (length rs - (end - to)) = omega arith in
    let g : s ≡ taken_out (12 * to) (12 * end) (12 * length rs) (laid n (concat rs)) = e ∙ rw (a, b, d) (ap (taken_out (12 * to) (12 * end) (12 * length rs)) l.is) in
    rw (f, g) (remove-laid n rs l.twelve to end o h l.room)

-- ---- `stays`

module _ (w : List ℕ) (at to end : ℕ) where
  pub stays-atom : get_or w (at * 12) 0 ≡ 5 → true ≡ stays (record_at at w) (records_in to end w)
  stays-atom e = rw (record-kind w at, eq-eqb (get_or w (at * 12) 0) 5 e)

  pub stays-none : (get_or w (at * 12) 0 ≡ 5 → ⊥) → to ≡ end → false ≡ stays (record_at at w) (records_in to end w)
  stays-none n e = rw (record-kind w at, ne_eqb (get_or w (at * 12) 0) 5 n, records_in-nil w end to (omega arith))

  pub stays-below : (get_or w (at * 12) 0 ≡ 5 → ⊥) → (to ≡ end → ⊥) → to ≤ end → ltb (get_or w (at * 12) 0) (get_or w (to * 12) 0) ≡ stays (record_at at w) (records_in to end w)
  stays-below n e l = rw (record-kind w at, ne_eqb (get_or w (at * 12) 0) 5 n, records_in-cons w end to (omega arith), record-kind w to)

-- ---- `gather`

full-all : (P : Words → Type 0) (rs : List Words) → All P rs → All P (full rs)
unfolding full
full-all P [] h = tt
full-all P (r ∷ rs) h = go (stays r (full rs)) (full-all P rs h.1)
  where
    go : (b : Bool) → All P (full rs) → All P (keep b r (full rs))
    go true g = (h.0, g)
    go false g = g

-- a turn of the loop: the records from `at` on are done
pub record Passed (from end : ℕ) (w : List ℕ) (at to : ℕ) (s : List ℕ) : Type 0 where
  pub low : from ≤ at
  pub high : at ≤ end
  pub size : length s ≡ length w
  pub done : Gathered at end w to s

pub gather-start : (from end : ℕ) (w : List ℕ) → from ≤ end → Passed from end w end end w
unfolding full
gather-start from end w h =
    let e = records_in-nil w end end (omega arith) in
    record {
      low = h;
      high = omega arith;
      size = refl;
      done = record { low = omega arith; count = rw e (omega arith); is = rw e (sym (over_none (end * 12) w)) };
    }

module _ (from end : ℕ) (w : List ℕ) (at to : ℕ) (s : List ℕ) (h : Within from end w) (i : Passed from end w at to s) where
  pub gather-within : Within to end s
  gather-within =
      let r = h.room in
      let z = i.size in
      let n = i.done.count in
      record { order = omega arith; room = omega arith }

  rest : Within at end w
  rest = record { order = i.high; room = h.room }

  below_twelve : Twelve (full (records_in at end w))
  below_twelve = full-all _ (records_in at end w) (records_in-twelve w at end rest)

  kept : records_in to end s ≡ full (records_in at end w)
  kept =
      let n = i.done.count in
      let b : Within to end w = record { order = omega arith; room = h.room } in
      ap (records_in to end) i.done.is ∙ records_in-over w to end b (full (records_in at end w)) below_twelve n

  module _ (l : from < at) where
    -- the next record is still as it was
    unmoved : record_at (at - 1) s ≡ record_at (at - 1) w
    unmoved =
        let o = i.done.low in
        let n = i.done.count in
        let r = h.room in
        let e : (at - 1) * 12 + 12 - (at - 1) * 12 ≡ 12 = omega arith in
        let p = between-below (to * 12) (concat (full (records_in at end w))) w ((at - 1) * 12) ((at - 1) * 12 + 12) (omega arith) (omega arith) (omega arith) in
        ap (record_at (at - 1)) i.done.is ∙ (rw e at p)

    next : (b : Bool) → b ≡ stays (record_at (at - 1) s) (records_in to end s)
        → full (records_in (at - 1) end w) ≡ keep b (record_at (at - 1) w) (full (records_in at end w))
    unfolding full
    next b e =
        let o = i.high in
        let f : at - 1 + 1 ≡ at = omega arith in
        let t : b ≡ stays (record_at (at - 1) w) (full (records_in at end w)) = e ∙ rw (unmoved, kept) in
        rw (records_in-cons w end (at - 1) (omega arith), f, ← t)

    pub gather-skip : (b : Bool) → b ≡ stays (record_at (at - 1) s) (records_in to end s) → b ≡ false → Passed from end w (at - 1) to s
    gather-skip b e f =
        let q : full (records_in (at - 1) end w) ≡ full (records_in at end w) = next b e ∙ rw f in
        let o = i.high in
        let u = i.done.low in
        record {
          low = omega arith;
          high = omega arith;
          size = i.size;
          done = record { low = omega arith; count = rw q i.done.count; is = rw q i.done.is };
        }

    pub gather-keep : (b : Bool) (s' : List ℕ) → b ≡ stays (record_at (at - 1) s) (records_in to end s) → b ≡ true
        → s' ≡ over ((to - 1) * 12) (take 12 (drop ((at - 1) * 12) s)) s → Passed from end w (at - 1) (to - 1) s'
    gather-keep b s' e f g =
        let r : Words = record_at (at - 1) w in
        let b' : List Words = full (records_in at end w) in
        let q : full (records_in (at - 1) end w) ≡ r ∷ b' = next b e ∙ rw f in
        let o = i.high in
        let u = i.done.low in
        let n = i.done.count in
        let m = h.room in
        let z = i.size in
        let c : length r ≡ 12 = length-take-le 12 (drop ((at - 1) * 12) w) (rw length-drop (omega arith)) in
        let x : to * 12 ≡ (to - 1) * 12 + length r = omega arith in
        let v : s' ≡ over ((to - 1) * 12) (r ++ concat b') w =
        g ∙ rw (unmoved, i.done.is, x) (over-under ((to - 1) * 12) r (concat b') w (omega arith)) in
        let len : length s' ≡ length w =
        ap length v ∙ over-length ((to - 1) * 12) (r ++ concat b') w (rw length-append (omega (arith, concat-length b' below_twelve))) in
        record {
          low = omega arith;
          high = omega arith;
          size = len;
          done = record { low = omega arith; count = rw q (omega arith); is = rw q v };
        }

pub gather-end : (from end : ℕ) (w : List ℕ) (at to : ℕ) (s : List ℕ) → at ≤ from → Passed from end w at to s → Gathered from end w to s
gather-end from end w at to s h i = let l = i.low in let e : at ≡ from = omega arith in rw e at i.done

-- ---- `remove_empty`

-- words of which `close_gap` may take out records below `first`
pub record Gap (first : ℕ) (s : List ℕ) : Type 0 where
  pub laid : Laid s
  pub high : first ≤ length (records_of s)

module _ (w : List ℕ) (i : ℕ) (g : Good w) (r : Option (ℕ × ℕ)) (e : r ≡ span (i ∷ []) (held w)) where
  pub empty-missing : r ≡ None → (edited_numbers (Err NoPosition), w) ≡ step_by w (remove_empty i)
  unfolding step_by remove_empty
  empty-missing f = let b = missing 0 4 (i ∷ []) 0 (held w) (sym e ∙ f) in rw (g, b)

  module _ (start stop : ℕ) (f : r ≡ Some (start, stop)) where
    there : Stands 0 4 (i ∷ []) 0 (held w) start stop
    there = stands 0 4 (i ∷ []) 0 (held w) start stop (sym e ∙ f)

    -- the records below the model's own
    pub model-within : Within (start + 1) stop w
    model-within = below-within w g 0 3 (i ∷ []) (held w) start stop refl there

    module _ (first : ℕ) (s : List ℕ) (h : Gathered (start + 1) stop w first s) where
      high : first + length (full (records_in (start + 1) stop w)) ≤ length (records_of w)
      high = let c = h.count in omega (arith, below-high w g 0 3 (i ∷ []) (held w) start stop refl there)

      moved : Rewritten w (over first (full (records_in (start + 1) stop w)) (records_of w)) s
      moved = rewritten w s _ first (good-laid w g) (full-all _ _ (records_in-twelve w (start + 1) stop model-within)) high h.is

      pub gap-moved : Gap first s
      gap-moved =
          let l = over-length first (full (records_in (start + 1) stop w)) (records_of w) high in
          record { laid = moved.laid; high = rw (moved.records, l) (omega (arith, high)) }

      module _ (v : List ℕ) (q : v ≡ laid (length s) (concat (take (start + 1) (records_of s) ++ drop first (records_of s)))) where
        closed : v ≡ laid (length w) (concat (instead (start + 1) stop (full (records_in (start + 1) stop w)) (records_of w)))
        unfolding over
        closed =
            let rs = records_of w in
            let c = h.count in
            let l = h.low in
            let o = high in
            let t = take-over first (full (records_in (start + 1) stop w)) rs (start + 1) (omega arith) l in
            let d : drop first (over first (full (records_in (start + 1) stop w)) rs) ≡ full (records_in (start + 1) stop w) ++ drop stop rs =
            drop_at (take first rs) _ first (length-take-le first rs (omega arith)) ∙ rw c in
            q ∙ rw (moved.records, moved.size, t, d)

        after : v ≡ lay_out (length w) (with_children 0 3 (i ∷ []) there.branch (non_empty 3 there.branch.1) (held w))
        after =
            closed
            ∙ rw (below-records w g 0 3 (i ∷ []) (held w) start stop refl there, full-chains there.branch.1)
            (below-laid w g i start stop there (non_empty 3 there.branch.1))

        none-removed : stored (held w) - stored (with_children 0 3 (i ∷ []) there.branch (non_empty 3 there.branch.1) (held w)) ≡ 0
        none-removed =
            let us = there.branch.1 in
            omega (arith, below-stored i start stop (held w) there (non_empty 3 us), non_empty-atoms 3 us)

        pub empty-done : (edited_numbers (Ok (record { found = 1; removed = 0 })), v) ≡ step_by w (remove_empty i)
        unfolding step_by remove_empty
        empty-done = let n = none-removed in let a = after in rw (g, there.there, n, a)
