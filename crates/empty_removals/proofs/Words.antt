-- Compaction in a store's words: records that are laid out, written over, moved down, and closed up. Assumes nothing.
use Prim.Native.Nat.{ℕ, zero, suc, ◌+◌, ◌-◌, ◌*◌, ◌/◌, ◌≤◌, ◌<◌}
use mathlib.Core.Path.{◌≡◌, refl, sym, ap, ◌∙◌}
use mathlib.Core.Bool.{Bool, true, false}
use mathlib.Core.List.{List, [], ◌∷◌, ◌++◌, append_assoc, append-nil}
use native.Mathlib.Numerals.{add-one}
use native.Mathlib.Omega.{arith}
use lib.ListN.{length, take, drop, length-append, length-drop}
use lib.Seq.{take_at, drop_at, drop-drop, drop-append-le, length-take-le}
use Rattle.machine.specs.Lists.{filter, sum, concat_map}
use Rattle.machine.specs.Record.{Words, Atom, words}
use Rattle.machine.specs.Store.{Branch, Machine, flat, atom_count, records, stored, laid, lay_out, chunks, records_of, end}
use Rattle.machine.specs.Edit.{up, with_children, keep_atoms}
use Rattle.laws.specs.Counting.{filter-append, filter-All}
use Rattle.laws.specs.Places.{atoms, replace-sum}
use Rattle.laws.specs.Grouped.{concat, concat-length, chunks-concat, chunks-length, twelve-words}
use Rattle.laws.specs.Layout.{laid-length, laid_end, lay_out-read, records-read, read_length, read-fit, fit_words}
use Rattle.moves.specs.Over.{over, Twelve}
use Rattle.moves.proofs.Laws.{over_none, over-over, over-length, drop-over}
use Rattle.moves.proofs.Records.{twelve-drop, twelve-over, concat-append, write-laid}
use Rattle.seek.specs.Seek.{held, Good, Within, record_at, records_in}
use Rattle.seek.proofs.Below.{chunks-snoc, records_in-nil}
use Rattle.seek.proofs.Laws.{Stands, spot-length, stands-within, stands_records}
use Rattle.empty_removals.specs.Prune.{Laid, Compacted, kept}
use Rattle.empty_removals.proofs.Branches.{filter-length, kept-atoms, kept-count}

-- others in the place of the records from `from` up to `end`
abbrev pub instead : ℕ → ℕ → List Words → List Words → List Words
instead from end new rs = take from rs ++ (new ++ drop end rs)

-- ---- records laid out

-- the records of words that are some records laid out
module _ (n : ℕ) (rs : List Words) (t : Twelve rs) (h : 12 * length rs < n) where
  fits : length (concat rs) < n
  fits = omega (arith, concat-length rs t)

  pub laid-records : records_of (laid n (concat rs)) ≡ rs
  unfolding laid
  laid-records =
      let e : end (laid n (concat rs)) / 12 ≡ length rs = omega (arith, laid_end n (concat rs) fits, concat-length rs t) in
      ap (λ (c : ℕ). chunks c (laid n (concat rs))) e ∙ chunks-concat rs _ t

  pub laid-laid : Laid (laid n (concat rs))
  laid-laid =
      let e = laid-records in
      let l = laid-length n (concat rs) fits in
      record { twelve = rw e t; room = rw (e, l) h; is = rw (e, l) }

module _ (w : List ℕ) (g : Good w) where
  pub good-records : records_of w ≡ records (held w)
  good-records = sym (records-read w (held w) g)

  pub good-laid : Laid w
  unfolding lay_out
  good-laid =
      let e = good-records in
      record {
        twelve = rw e (twelve-words (held w));
        room = rw e (fit_words (length w) (held w) (read_length w (held w) g) (read-fit w (held w) g));
        is = rw e (sym (lay_out-read w (held w) g));
      }

-- ---- parts of the records

twelve-chunks : (n : ℕ) (w : List ℕ) → n * 12 ≤ length w → Twelve (chunks n w)
twelve-chunks zero w h = tt
twelve-chunks (suc n) w h = (length-take-le 12 w (omega arith), twelve-chunks n (drop 12 w) (rw length-drop (omega arith)))

drop-chunks : (n c : ℕ) (w : List ℕ) → n ≤ c → drop n (chunks c w) ≡ chunks (c - n) (drop (n * 12) w)
drop-chunks zero c w h = let e : c ≡ c - 0 = omega arith in ap (λ (x : ℕ). chunks x w) e
drop-chunks (suc n) zero w h = absurd (omega arith)
drop-chunks (suc n) (suc c) w h =
    let e : 12 + n * 12 ≡ suc n * 12 = omega arith in
    let f : c - n ≡ suc c - suc n = omega arith in
    drop-chunks n c (drop 12 w) (omega arith) ∙ rw (drop-drop (n * 12) 12 w, e, f)

module _ (w : List ℕ) (from end : ℕ) (h : Within from end w) where
  pub records_in-twelve : Twelve (records_in from end w)
  records_in-twelve = twelve-drop from (chunks end w) (twelve-chunks end w h.room)

  pub records_in-length : from + length (records_in from end w) ≡ end
  records_in-length = let o = h.order in omega (arith, length-drop from (chunks end w), chunks-length end w)

  records_in-snoc : records_in from (end + 1) w ≡ records_in from end w ++ (record_at end w ∷ [])
  records_in-snoc =
      let o = h.order in
      rw (add-one, chunks-snoc) (drop-append-le from (chunks end w) (record_at end w ∷ []) (omega (arith, chunks-length end w)))

  -- records written over those are what is read there
  pub records_in-over : (rs : List Words) → Twelve rs → from + length rs ≡ end → records_in from end (over (from * 12) (concat rs) w) ≡ rs
  unfolding over
  records_in-over rs t e =
      let r = h.room in
      let s = over (from * 12) (concat rs) w in
      let c : end - from ≡ length rs = omega arith in
      let d : drop (from * 12) s ≡ concat rs ++ drop (from * 12 + length (concat rs)) w = drop_at (take (from * 12) w) _ (from * 12) (length-take-le (from * 12) w (omega arith)) in
      drop-chunks from end s (omega arith) ∙ rw (c, d) (chunks-concat rs _ t)

-- ---- records written over others of a store

pub record Rewritten (w : List ℕ) (rs : List Words) (s : List ℕ) : Type 0 where
  pub laid : Laid s
  pub records : records_of s ≡ rs
  pub size : length s ≡ length w

pub rewritten : (w s : List ℕ) (rs : List Words) (x : ℕ) → Laid w → Twelve rs → x + length rs ≤ length (records_of w) → s ≡ over (x * 12) (concat rs) w
    → Rewritten w (over x rs (records_of w)) s
rewritten w s rs x l t h e =
    let all = records_of w in
    let n = length w in
    let o : List Words = over x rs all in
    let f : x * 12 ≡ 12 * x = omega arith in
    let q : s ≡ laid n (concat o) = e ∙ rw f (ap (over (12 * x) (concat rs)) l.is ∙ write-laid n all l.twelve rs x t h) in
    let u : Twelve o = twelve-over x rs all t l.twelve in
    let r : 12 * length o < n = rw (over-length x rs all h) l.room in
    record { laid = rw q (laid-laid n o u r); records = rw q (laid-records n o u r); size = rw q (laid-length n (concat o) (omega (arith, concat-length o u))) }

-- ---- a pass that keeps the records at which p holds

module _ (p : Words → Bool) (from : ℕ) (w : List ℕ) where
  pub compact-start : Compacted p from from w from w
  compact-start =
      let e = records_in-nil w from from (omega arith) in
      record { count = rw e (omega arith); is = rw e (sym (over_none (from * 12) w)) }

  module _ (at to : ℕ) (s : List ℕ) (h : Within from at w) (c : Compacted p from at w to s) where
    written : length (concat (filter p (records_in from at w))) ≡ 12 * length (filter p (records_in from at w))
    written = concat-length (filter p (records_in from at w)) (filter-All _ p (records_in from at w) (records_in-twelve w from at h))

    pub compact-low : to ≤ at
    compact-low = let n = c.count in omega (arith, filter-length p (records_in from at w), records_in-length w from at h)

    -- the next record is still as it was
    pub compact-next : record_at at s ≡ record_at at w
    compact-next =
        let n = c.count in
        let r = h.room in
        let o = h.order in
        let l = compact-low in
        ap (record_at at) c.is ∙ ap (take 12) (drop-over (from * 12) (concat (filter p (records_in from at w))) w (at * 12) (omega arith) (omega (arith, written)))

    pub compact-skip : p (record_at at s) ≡ false → Compacted p from (at + 1) w to s
    compact-skip e =
        let q : filter p (records_in from (at + 1) w) ≡ filter p (records_in from at w) =
        rw (records_in-snoc w from at h, filter-append p, ← compact-next, e) (append-nil (filter p (records_in from at w))) in
        record { count = rw q c.count; is = rw q c.is }

    pub compact-keep : (s' : List ℕ) → p (record_at at s) ≡ true → s' ≡ over (to * 12) (record_at at s) s → Compacted p from (at + 1) w (to + 1) s'
    compact-keep s' e f =
        let b : List Words = filter p (records_in from at w) in
        let q : filter p (records_in from (at + 1) w) ≡ b ++ (record_at at w ∷ []) =
        rw (records_in-snoc w from at h, filter-append p, ← compact-next, e) in
        let n = c.count in
        let r = h.room in
        let o = h.order in
        let m : to * 12 ≡ from * 12 + length (concat b) = omega (arith, written) in
        let g : concat (b ++ (record_at at w ∷ [])) ≡ concat b ++ record_at at w = concat-append b (record_at at w ∷ []) ∙ rw append-nil in
        record {
          count = rw (q, length-append) (omega arith);
          is = rw (q, g) (f ∙ rw (compact-next, c.is, m) (over-over (from * 12) (concat b) (record_at at w) w (omega arith)));
        }

    -- then `close_gap`, from `to` up to `at`, leaves them alone
    module _ (l : Laid w) (b : at ≤ length (records_of w)) where
      room : from + length (filter p (records_in from at w)) ≤ length (records_of w)
      room = let n = c.count in let m = compact-low in omega arith

      moved : Rewritten w (over from (filter p (records_in from at w)) (records_of w)) s
      moved = rewritten w s (filter p (records_in from at w)) from l (filter-All _ p (records_in from at w) (records_in-twelve w from at h)) room c.is

      pub compact-laid : Laid s
      compact-laid = moved.laid

      pub compact-high : at ≤ length (records_of s)
      compact-high = rw (moved.records, over-length from (filter p (records_in from at w)) (records_of w) room) b

      pub compact-close : (v : List ℕ) → v ≡ laid (length s) (concat (take to (records_of s) ++ drop at (records_of s)))
          → v ≡ laid (length w) (concat (instead from at (filter p (records_in from at w)) (records_of w)))
      unfolding over
      compact-close v e =
          let rs = records_of w in
          let new : List Words = filter p (records_in from at w) in
          let n = c.count in
          let m = compact-low in
          let k = room in
          let f : length (take from rs ++ new) ≡ to = rw (length-append, length-take-le from rs (omega arith)) n in
          let t : take to (over from new rs) ≡ take from rs ++ new = rw (← append_assoc (take from rs) new) (take_at (take from rs ++ new) _ to f) in
          let d : drop at (over from new rs) ≡ drop at rs = drop-over from new rs at (omega arith) (omega arith) in
          e ∙ rw (moved.records, moved.size, t, d, append_assoc)

-- ---- the records below a branch's own, in a good store

module _ (w : List ℕ) (g : Good w) (d j : ℕ) (pos : List ℕ) (ts : List (Branch (up d (suc j)))) (start stop : ℕ)
    (whole : records (held w) ≡ concat_map (flat (up d (suc j))) ts) (s : Stands d (suc j) pos 0 ts start stop) where
  pub below-within : Within (start + 1) stop w
  unfolding flat
  below-within =
      let l = s.last in
      record { order = omega arith; room = (stands-within w g d (suc j) pos ts start stop whole s).room }

  pub below-high : stop ≤ length (records_of w)
  below-high =
      let a = s.first in
      let b = s.last in
      let c = ap length (good-records w g ∙ whole) in
      omega (arith, spot-length d (suc j) pos ts s.branch s.spot)

  pub below-records : records_in (start + 1) stop w ≡ concat_map (flat j) s.branch.1
  unfolding flat
  below-records = sym (drop-drop 1 start (chunks stop w)) ∙ ap (drop 1) (stands_records w g d (suc j) pos ts start stop whole s)

  -- other records there are those of the machine whose branch has other children
  pub below-instead : (us : List (Branch j)) → instead (start + 1) stop (concat_map (flat j) us) (records_of w) ≡ concat_map (flat (up d (suc j))) (with_children d j pos s.branch us ts)
  unfolding flat
  below-instead us =
      let t = s.branch in
      let sp = s.spot in
      let own : List Words = words (suc j) t.0 ∷ [] in
      let a = s.first in
      let b = s.last in
      let f : length (sp.pre ++ own) ≡ start + 1 = rw length-append (omega arith) in
      let h : length (sp.pre ++ flat (suc j) t) ≡ stop = rw length-append (omega arith) in
      let e : records_of w ≡ sp.pre ++ (flat (suc j) t ++ sp.post) = good-records w g ∙ whole ∙ sp.was in
      let front : take (start + 1) (records_of w) ≡ sp.pre ++ own =
      rw e (ap (take (start + 1)) (sym (append_assoc sp.pre own (concat_map (flat j) t.1 ++ sp.post))) ∙ take_at (sp.pre ++ own) _ (start + 1) f) in
      let back : drop stop (records_of w) ≡ sp.post =
      rw (e, ← append_assoc sp.pre (flat (suc j) t)) (drop_at (sp.pre ++ flat (suc j) t) sp.post stop h) in
      rw (front, back, sp.is ((t.0, us) ∷ [])) (simp append_assoc)

-- the same laid out, below a model
pub below-laid : (w : List ℕ) (g : Good w) (i start stop : ℕ) (s : Stands 0 4 (i ∷ []) 0 (held w) start stop) (us : List (Branch 3))
    → laid (length w) (concat (instead (start + 1) stop (concat_map (flat 3) us) (records_of w))) ≡ lay_out (length w) (with_children 0 3 (i ∷ []) s.branch us (held w))
unfolding lay_out
below-laid w g i start stop s us = ap (λ (rs : List Words). laid (length w) (concat rs)) (below-instead w g 0 3 (i ∷ []) (held w) start stop refl s us)

-- the atoms that the machine then has
pub below-stored : (i start stop : ℕ) (m : Machine) (s : Stands 0 4 (i ∷ []) 0 m start stop) (us : List (Branch 3))
    → stored (with_children 0 3 (i ∷ []) s.branch us m) + sum (atom_count 3) s.branch.1 ≡ stored m + sum (atom_count 3) us
unfolding atom_count
below-stored i start stop m s us =
    let t = s.branch in
    let e = replace-sum atoms 0 4 (i ∷ []) ((t.0, us) ∷ []) m t s.there in
    omega arith

-- ---- a model without the atoms at which p is false: what a pass over its records and `close_gap` leave, and how many go

module _ (w : List ℕ) (g : Good w) (i start stop : ℕ) (s : Stands 0 4 (i ∷ []) 0 (held w) start stop) (p : Atom → Bool) (to : ℕ) (v : List ℕ)
    (c : Compacted (kept p) (start + 1) stop w to v) where
  within : Within (start + 1) stop w
  within = below-within w g 0 3 (i ∷ []) (held w) start stop refl s

  high : stop ≤ length (records_of w)
  high = below-high w g 0 3 (i ∷ []) (held w) start stop refl s

  left : filter (kept p) (records_in (start + 1) stop w) ≡ concat_map (flat 3) (keep_atoms 3 p s.branch.1)
  left = rw (below-records w g 0 3 (i ∷ []) (held w) start stop refl s) (sym (kept-atoms 3 (omega arith) p s.branch.1))

  pub atoms-gap : Laid v × (to ≤ stop) × (stop ≤ length (records_of v))
  atoms-gap = (
    compact-laid (kept p) (start + 1) w stop to v within c (good-laid w g) high,
    compact-low (kept p) (start + 1) w stop to v within c,
    compact-high (kept p) (start + 1) w stop to v within c (good-laid w g) high,
  )

  pub atoms-laid : (u : List ℕ) → u ≡ laid (length v) (concat (take to (records_of v) ++ drop stop (records_of v)))
      → u ≡ lay_out (length w) (with_children 0 3 (i ∷ []) s.branch (keep_atoms 3 p s.branch.1) (held w))
  atoms-laid u e =
      compact-close (kept p) (start + 1) w stop to v within c (good-laid w g) high u e
      ∙ rw left (below-laid w g i start stop s (keep_atoms 3 p s.branch.1))

  pub atoms-removed : stored (held w) - stored (with_children 0 3 (i ∷ []) s.branch (keep_atoms 3 p s.branch.1) (held w)) ≡ stop - to
  atoms-removed =
      let us = s.branch.1 in
      let n = c.count in
      let all : start + 1 + length (concat_map (flat 3) us) ≡ stop =
      ap (λ (rs : List Words). start + 1 + length rs) (sym (below-records w g 0 3 (i ∷ []) (held w) start stop refl s)) ∙ records_in-length w (start + 1) stop within in
      omega (arith, below-stored i start stop (held w) s (keep_atoms 3 p us), kept-count 3 p us, ap length left)
