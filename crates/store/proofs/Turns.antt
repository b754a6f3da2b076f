-- One turn of each loop, and each answer of a function over a store's words. Assumes nothing.
use Rattle.std.specs.Prelude.{Err, Ok}
use Prim.Native.Nat.{ℕ, zero, suc, ◌+◌, ◌-◌, ◌*◌, ◌/◌, ◌%◌, ◌≤◌, ◌<◌}
use mathlib.Core.Path.{◌≡◌, refl, sym, ap, ◌∙◌}
use mathlib.Core.Bool.{Bool, true, false, ◌&&◌, cond, and-false, and-true}
use mathlib.Core.List.{List, [], ◌∷◌, ◌++◌, append-nil}
use native.Mathlib.Omega.{arith}
use native.Mathlib.Numerals.{add-one}
use native.Mathlib.Nat.{add-zero, zero-add, add_comm}
use lib.ListN.{length, get_or, take, drop, replicate, drop_of_length-le, length-take, length-drop, length-replicate}
use lib.Seq.{drop-cons, drop-drop, get_or-take, get_or-drop}
use lib.Dec.{leb, eqb}
use borrow.Author.Tests.{eq-eqb, ne_eqb, eqb-true, eqb-false, le-leb, lt-leb, leb-true, leb-false}
use Rattle.machine.specs.Lists.{all}
use Rattle.machine.specs.Answer.{Result, opened_numbers}
use Rattle.machine.specs.Record.{Words, kind, good_record}
use Rattle.machine.specs.Store.{good_length, end, gap, chunks, records_of, in_order, good_layout, stored, group, read_store, open_run}
use Rattle.machine.specs.declared.Refusal.TheVariants.{BadLength, BrokenLayout}
use Rattle.laws.specs.Layout.{parts-store}
use Rattle.records.proofs.Laws.{atom-kind, good-low}
use Rattle.moves.specs.Over.{over}
use Rattle.seek.specs.Seek.{atom_records}
use Rattle.seek.proofs.Below.{chunks-add}
use Rattle.store.specs.Store.{checked_by, counted, trailing_atoms}
use Rattle.store.proofs.Laws.{atoms-grouped}

-- ---- zeros

module _ (s : List ℕ) (i : ℕ) (e : all (eqb 0) (drop i s) ≡ all (eqb 0) s) where
  at-zeros : i < length s → all (eqb 0) s ≡ eqb 0 (get_or s i 0) && all (eqb 0) (drop (i + 1) s)
  at-zeros h = sym e ∙ rw (add-one, drop-cons s i 0)

  pub zero-next : i < length s → get_or s i 0 ≡ 0 → all (eqb 0) (drop (i + 1) s) ≡ all (eqb 0) s
  zero-next h z = rw (at-zeros h, z)

  pub zero-not : i < length s → (get_or s i 0 ≡ 0 → ⊥) → false ≡ all (eqb 0) s
  zero-not h z = rw (at-zeros h, ne_eqb 0 (get_or s i 0) (λ q. z (sym q)))

  pub zero-end : length s ≤ i → true ≡ all (eqb 0) s
  zero-end h = rw (drop_of_length-le s h) at e

-- ---- the records

-- those from word `at` up to word `last`
abbrev records_behind : List ℕ → ℕ → ℕ → List Words
records_behind s at last = chunks ((last - at) / 12) (drop at s)

-- the twelve words before word `to`, as the code takes them
abbrev pub record_before : List ℕ → ℕ → Words
record_before s to = take (to - (to - 12)) (drop (to - 12) s)

module _ (s : List ℕ) (to : ℕ) (some : 0 < to) (starts : to % 12 ≡ 0) where
  pub record-length : to ≤ length s → length (record_before s to) ≡ 12
  record-length h = simp (length-take, length-drop) (omega arith)

  record-kind : kind (record_before s to) ≡ get_or s (to - 12) 0
  record-kind =
      let e : to - 12 + 0 ≡ to - 12 = omega arith in
      get_or-take (to - (to - 12)) (drop (to - 12) s) 0 0 (omega arith) ∙ get_or-drop (to - 12) s 0 0 ∙ ap (λ (n : ℕ). get_or s n 0) e

  records_behind-back : {last : ℕ} → to ≤ last → records_behind s (to - 12) last ≡ record_before s to ∷ records_behind s to last
  records_behind-back {last} l =
      let i : (last - (to - 12)) / 12 ≡ suc ((last - to) / 12) = omega arith in
      let t : to - (to - 12) ≡ 12 = omega arith in
      let d : to - 12 + 12 ≡ to = omega arith in
      rw (i, drop-drop 12 (to - 12) s, t, d)

  trailing-back : trailing_atoms (to / 12) s ≡ cond (good_record 0 (record_before s to)) (suc (trailing_atoms ((to - 12) / 12) s)) 0
  unfolding trailing_atoms
  trailing-back =
      let i : to / 12 ≡ suc ((to - 12) / 12) = omega arith in
      let d : (to - 12) / 12 * 12 ≡ to - 12 = omega arith in
      let t : to - (to - 12) ≡ 12 = omega arith in
      rw (i, d, t)

-- where some atom stands last, it stands before word `to`, and the others before it
trailing-suc : (s : List ℕ) (to j : ℕ) → to % 12 ≡ 0 → trailing_atoms (to / 12) s ≡ suc j → (0 < to) × (good_record 0 (record_before s to) ≡ true) × (trailing_atoms ((to - 12) / 12) s ≡ j)
unfolding trailing_atoms
trailing-suc s to j starts e = go (leb to 0) refl
  where
    good : (b : Bool) {t : ℕ} → cond b (suc t) 0 ≡ suc j → (b ≡ true) × (t ≡ j)
    good true f = (refl, omega arith)
    good false f = absurd (omega arith)

    go : (b : Bool) → leb to 0 ≡ b → (0 < to) × (good_record 0 (record_before s to) ≡ true) × (trailing_atoms ((to - 12) / 12) s ≡ j)
    go true f =
        let z : to / 12 ≡ 0 = omega (arith, leb-true to 0 f) in
        let y : 0 ≡ suc j = rw z at e in
        absurd (omega arith)
    go false f =
        let l = leb-false to 0 f in
        let g = good (good_record 0 (record_before s to)) (sym (trailing-back s to l starts) ∙ e) in
        (l, g.0, g.1)

-- ---- a run of atoms

-- `following`
module _ (next trailing : ℕ) where
  pub none_passed : trailing ≡ 0 → next ≡ cond (eqb trailing 0) next 5
  none_passed h = rw (eq-eqb trailing 0 h)

  pub some-passed : (trailing ≡ 0 → ⊥) → 5 ≡ cond (eqb trailing 0) next 5
  some-passed h = rw (ne_eqb trailing 0 h)

-- those from word `at` up to `to` are good atoms
pub record Led (s : List ℕ) (to at : ℕ) : Type 0 where
  pub low : at ≤ to
  pub fits : to ≤ length s
  pub starts : at % 12 ≡ 0
  pub same : at + 12 * trailing_atoms (to / 12) s ≡ to + 12 * trailing_atoms (at / 12) s

pub led-none : (s : List ℕ) (to : ℕ) → to ≤ length s → to % 12 ≡ 0 → Led s to to
led-none s to l e = record { low = omega arith; fits = l; starts = e; same = refl }

module _ {s : List ℕ} {to at : ℕ} (p : Led s to at) where
  pub led-end : at ≤ 0 → at + 12 * trailing_atoms (to / 12) s ≡ to
  unfolding trailing_atoms
  led-end h = let z : at / 12 ≡ 0 = omega arith in p.same ∙ rw (z, add-zero to)

  module _ (l : 0 < at) {b : Bool} (e : b ≡ good_record 0 (record_before s at)) where
    pub led-not : b ≡ false → at + 12 * trailing_atoms (to / 12) s ≡ to
    led-not f = p.same ∙ rw (trailing-back s at l p.starts, ← e, f, add-zero to)

    pub led-next : b ≡ true → Led s to (at - 12)
    led-next f =
        let a = p.starts in
        let h = p.low in
        let t : trailing_atoms (at / 12) s ≡ suc (trailing_atoms ((at - 12) / 12) s) = rw (trailing-back s at l p.starts, ← e, f) in
        record { low = omega arith; fits = p.fits; starts = omega arith; same = omega (arith, p.same) }

-- ---- the records behind

-- Those from word `at` on are in order after any record that the kind `next` may follow, which is 0 where none is left; n of them are atoms.
pub record Behind (s : List ℕ) (last at next n : ℕ) : Type 0 where
  pub low : at ≤ last
  pub fits : last ≤ length s
  pub starts : at % 12 ≡ 0
  pub ends : last % 12 ≡ 0
  pub most : next ≤ 5
  pub few : n * 12 + at ≤ last
  pub order : (q : ℕ) → in_order q (records_behind s at last) ≡ leb next (q + 1)
  pub atoms : atom_records (records_behind s at last) ≡ n

pub behind-none : (s : List ℕ) (last : ℕ) → last ≤ length s → last % 12 ≡ 0 → Behind s last last 0 0
unfolding in_order atom_records
behind-none s last l e =
    let z : (last - last) / 12 ≡ 0 = omega arith in
    record {
      low = omega arith;
      fits = l;
      starts = e;
      ends = e;
      most = omega arith;
      few = omega arith;
      order = λ q. rw (z, le-leb 0 (q + 1) (omega arith));
      atoms = rw z;
    }

order-bad : (before rs : List Words) → ((q : ℕ) → in_order q rs ≡ false) → (q : ℕ) → in_order q (before ++ rs) ≡ false
unfolding in_order
order-bad [] rs h q = h q
order-bad (r ∷ before) rs h q = rw (order-bad before rs h (kind r), and-false, and-false)

-- no record may stand before those from `at` on
bad : (s : List ℕ) (last at : ℕ) → at ≤ last → at % 12 ≡ 0 → last % 12 ≡ 0 → ((q : ℕ) → in_order q (records_behind s at last) ≡ false) → Err BrokenLayout ≡ counted (chunks (last / 12) s)
unfolding counted
bad s last at l a b h =
    let i : last / 12 ≡ at / 12 + (last - at) / 12 = omega arith in
    let d : at / 12 * 12 ≡ at = omega arith in
    rw (i, chunks-add (at / 12) ((last - at) / 12) s, d, order-bad (chunks (at / 12) s) (records_behind s at last) h 0)

module _ {s : List ℕ} {last at next n : ℕ} (p : Behind s last at next n) where
  all-behind : at ≤ 0 → records_behind s at last ≡ chunks (last / 12) s
  all-behind h =
      let z : at ≡ 0 = omega arith in
      let i : last - 0 ≡ last = omega arith in
      rw (z, i)

  pub first_kind : at ≤ 0 → 1 < next → Err BrokenLayout ≡ counted (chunks (last / 12) s)
  unfolding counted
  first_kind h l = rw (← all-behind h, p.order 0, lt-leb next 1 l)

  pub all-good : at ≤ 0 → next ≤ 1 → Ok n ≡ counted (chunks (last / 12) s)
  unfolding counted
  all-good h l = rw (← all-behind h, p.order 0, le-leb next 1 l, p.atoms)

  -- one record more
  module _ (l : 0 < at) where
    abbrev r : Words
    r = record_before s at

    order-back : (q : ℕ) → in_order q (records_behind s (at - 12) last) ≡ ((leb 1 (kind r) && leb (kind r) 5 && leb (kind r) (q + 1)) && (good_record (5 - kind r) r && leb next (kind r + 1)))
    unfolding in_order
    order-back q = rw (records_behind-back s at l p.starts p.low, p.order (kind r))

    atoms-back : atom_records (records_behind s (at - 12) last) ≡ cond (eqb (kind r) 5) 1 0 + n
    unfolding atom_records
    atoms-back = rw (records_behind-back s at l p.starts p.low, p.atoms)

    bad-back : ((q : ℕ) → in_order q (records_behind s (at - 12) last) ≡ false) → Err BrokenLayout ≡ counted (chunks (last / 12) s)
    bad-back h =
        let a = p.starts in
        let k = p.low in
        bad s last (at - 12) (omega arith) (omega arith) p.ends h

    record-bad : good_record (5 - kind r) r ≡ false → Err BrokenLayout ≡ counted (chunks (last / 12) s)
    record-bad g = bad-back (λ q. order-back q ∙ rw (g, and-false))

    kind-bad : kind r + 1 < next → Err BrokenLayout ≡ counted (chunks (last / 12) s)
    kind-bad h = bad-back (λ q. order-back q ∙ rw (lt-leb next (kind r + 1) h, and-false, and-false))

    behind-record : kind r ≤ 4 → good_record (5 - kind r) r ≡ true → next ≤ kind r + 1 → Behind s last (at - 12) (kind r) n
    behind-record k g m =
        let low = good-low r k g in
        let a = p.starts in
        let h = p.low in
        let f = p.few in
        record {
          low = omega arith;
          fits = p.fits;
          starts = omega arith;
          ends = p.ends;
          most = omega arith;
          few = omega arith;
          order = λ q. order-back q ∙ rw (le-leb 1 (kind r) low, le-leb (kind r) 5 (omega arith), g, le-leb next (kind r + 1) m, and-true);
          atoms = atoms-back ∙ rw (ne_eqb (kind r) 5 (λ z. omega arith), zero-add n);
        }

    behind-atom : good_record 0 r ≡ true → Behind s last (at - 12) 5 (n + 1)
    behind-atom g =
        let k = atom-kind r g in
        let a = p.starts in
        let h = p.low in
        let f = p.few in
        let m = p.most in
        record {
          low = omega arith;
          fits = p.fits;
          starts = omega arith;
          ends = p.ends;
          most = omega arith;
          few = omega arith;
          order = λ q. order-back q ∙ rw (k, g, le-leb next 6 (omega arith), and-true);
          atoms = atoms-back ∙ rw (k, add_comm n 1);
        }

-- the run of atoms before `at`, and what it leaves: past it stands no good atom
record Trailing (s : List ℕ) (last at next n j : ℕ) : Type 0 where
  behind : Behind s last (at - 12 * j) (cond (eqb j 0) next 5) (n + j)
  past : trailing_atoms ((at - 12 * j) / 12) s ≡ 0

trailing : (j : ℕ) {s : List ℕ} {last at next n : ℕ} → Behind s last at next n → trailing_atoms (at / 12) s ≡ j → Trailing s last at next n j
trailing zero {s} {last} {at} {next} {n} p e = let i : at - 12 * 0 ≡ at = omega arith in record { behind = rw (i, add-zero n) p; past = rw i e }
trailing (suc j) {s} {last} {at} {next} {n} p e =
    let t = trailing-suc s at j p.starts e in
    let more = trailing j (behind-atom p t.0 t.1) t.2 in
    let i : at - 12 - 12 * j ≡ at - 12 * suc j = omega arith in
    let m : n + 1 + j ≡ n + suc j = omega arith in
    record { behind = rw (← i, ← m, ne_eqb (suc j) 0 (λ y. omega arith)) (rw (same (eqb j 0)) at more.behind); past = rw (← i) more.past }
  where
    same : (b : Bool) → ◌≡◌ {A = ℕ} (cond b 5 5) 5
    same true = refl
    same false = refl

-- a turn: from `at` past a run of atoms to word `from`, and the record before that
module _ {s : List ℕ} {last at next n : ℕ} (p : Behind s last at next n) (l : 0 < at) (from : ℕ) (e : from + 12 * trailing_atoms (at / 12) s ≡ at) where
  abbrev j : ℕ
  j = trailing_atoms (at / 12) s

  behind-run : Behind s last from (cond (eqb (at - from) 0) next 5) (n + (at - from) / 12)
  behind-run =
      let i : at - 12 * j ≡ from = omega arith in
      let m : (at - from) / 12 ≡ j = omega arith in
      rw (m, ← i, zero-run) (trailing j p refl).behind
    where
      zero-run : eqb (at - (at - 12 * j)) 0 ≡ eqb j 0
      zero-run = go (eqb j 0) refl
        where
          go : (b : Bool) → eqb j 0 ≡ b → eqb (at - (at - 12 * j)) 0 ≡ b
          go true f = let z = eqb-true j 0 f in eq-eqb (at - (at - 12 * j)) 0 (omega arith)
          go false f = let z = eqb-false j 0 f in ne_eqb (at - (at - 12 * j)) 0 (λ y. omega arith)

  pub first-atom : from ≡ 0 → Err BrokenLayout ≡ counted (chunks (last / 12) s)
  first-atom z = first_kind behind-run (omega arith) (rw (ne_eqb (at - from) 0 (λ y. omega arith)) (omega arith))

  module _ (some : from ≡ 0 → ⊥) where
    more : 0 < from
    more = omega arith

    abbrev above : Words
    above = record_before s from

    kind-read : kind above ≡ get_or s (from - 12) 0
    kind-read = record-kind s from more behind-run.starts

    pub record-above : get_or s (from - 12) 0 ≤ 4 → (length above ≡ 12) × (kind above ≤ 4)
    record-above m =
        let k = kind-read in
        let b = behind-run.low in
        let f = p.fits in
        (record-length s from more behind-run.starts (omega arith), omega arith)

    -- an atom that was not passed is a bad one
    pub atom-bad : 4 < get_or s (from - 12) 0 → Err BrokenLayout ≡ counted (chunks (last / 12) s)
    atom-bad m =
        let k = kind-read in
        let i : at - 12 * j ≡ from = omega arith in
        let z : 5 - kind above ≡ 0 = omega arith in
        record-bad behind-run more (rw z (go (good_record 0 above) (sym (trailing-back s from more behind-run.starts) ∙ rw i at (trailing j p refl).past)))
      where
        go : (b : Bool) → cond b (suc (trailing_atoms ((from - 12) / 12) s)) 0 ≡ 0 → b ≡ false
        go true h = absurd (omega arith)
        go false h = refl

    pub kind-jumps : {f : ℕ} → f ≡ cond (eqb (at - from) 0) next 5 → get_or s (from - 12) 0 + 1 < f → Err BrokenLayout ≡ counted (chunks (last / 12) s)
    kind-jumps {f} g h = let k = kind-read in kind-bad behind-run more (omega (arith, g))

    module _ {t : Bool} (good : t ≡ good_record (5 - kind above) above) where
      pub record-not : t ≡ false → Err BrokenLayout ≡ counted (chunks (last / 12) s)
      record-not h = record-bad behind-run more (sym good ∙ h)

      pub behind-next : {f : ℕ} → get_or s (from - 12) 0 ≤ 4 → f ≡ cond (eqb (at - from) 0) next 5 → f ≤ get_or s (from - 12) 0 + 1 → t ≡ true → Behind s last (from - 12) (get_or s (from - 12) 0) (n + (at - from) / 12)
      behind-next {f} m g h o = let k = kind-read in rw (← k) (behind-record behind-run more (omega arith) (sym good ∙ o) (omega (arith, g)))

-- ---- the whole store

short-length : (n : ℕ) → n < 1 → good_length n ≡ false
short-length n h = rw (lt-leb 1 n h)

long-length : (n : ℕ) → 1200001 < n → good_length n ≡ false
long-length n h = rw (lt-leb n 1200001 h, and-false)

fair-length : (n : ℕ) → 1 ≤ n → n ≤ 1200001 → good_length n ≡ true
fair-length n h g = rw (le-leb 1 n h, le-leb n 1200001 g)

counted-good : (rs : List Words) → in_order 0 rs ≡ true → counted rs ≡ Ok (stored (group 4 rs))
unfolding counted
counted-good rs o = rw (o, atoms-grouped rs o)

counted-bad : (rs : List Words) → in_order 0 rs ≡ false → counted rs ≡ Err BrokenLayout
unfolding counted
counted-bad rs o = rw o

pub check-short : (w : List ℕ) → length w < 1 → Err BadLength ≡ checked_by (read_store w)
unfolding read_store
check-short w h = rw (short-length (length w) h)

pub check-long : (w : List ℕ) → 1200001 < length w → Err BadLength ≡ checked_by (read_store w)
unfolding read_store
check-long w h = rw (long-length (length w) h)

module _ (w : List ℕ) (some : 1 ≤ length w) (room : length w ≤ 1200001) where
  broken : good_layout w ≡ false → Err BrokenLayout ≡ checked_by (read_store w)
  unfolding read_store
  broken h = rw (fair-length (length w) some room, h)

  held : good_layout w ≡ true → Ok (stored (group 4 (records_of w))) ≡ checked_by (read_store w)
  unfolding read_store
  held h = rw (fair-length (length w) some room, h)

  unordered : in_order 0 (records_of w) ≡ false → Err BrokenLayout ≡ checked_by (read_store w)
  unfolding good_layout
  unordered h = broken (rw (h, and-false, and-false))

  pub check-past : length w - 1 < end w → Err BrokenLayout ≡ checked_by (read_store w)
  unfolding good_layout
  check-past h = broken (rw (lt-leb (end w) (length w - 1) h, and-false))

  module _ (low : end w ≤ length w - 1) where
    pub check-uneven : (end w % 12 ≡ 0 → ⊥) → Err BrokenLayout ≡ checked_by (read_store w)
    unfolding good_layout
    check-uneven h = broken (rw (ne_eqb (end w % 12) 0 h))

    module _ (even : end w % 12 ≡ 0) where
      pub check-gap : {t : Bool} → t ≡ all (eqb 0) (gap w) → t ≡ false → Err BrokenLayout ≡ checked_by (read_store w)
      unfolding good_layout
      check-gap e h = broken (rw (← e, h, and-false))

      pub check-all : {t : Bool} {r : Result ℕ} → t ≡ all (eqb 0) (gap w) → t ≡ true → r ≡ counted (records_of w) → r ≡ checked_by (read_store w)
      check-all e h q = q ∙ go (in_order 0 (records_of w)) refl
        where
          go : (b : Bool) → in_order 0 (records_of w) ≡ b → counted (records_of w) ≡ checked_by (read_store w)
          go true o = counted-good (records_of w) o ∙ held (parts-store w record { multiple = even; low = low; zeros = sym e ∙ h; order = o })
          go false o = counted-bad (records_of w) o ∙ unordered o

-- ---- opening

pub open-short : (w : List ℕ) → length w < 1 → (opened_numbers (Err BadLength), w) ≡ open_run w
unfolding open_run
open-short w h = rw (short-length (length w) h)

pub open-long : (w : List ℕ) → 1200001 < length w → (opened_numbers (Err BadLength), w) ≡ open_run w
unfolding open_run
open-long w h = rw (long-length (length w) h)

over-whole : (w b : List ℕ) → length b ≡ length w → over 0 b w ≡ b
unfolding over
over-whole w b h = let l : length w ≤ 0 + length b = omega arith in rw (drop_of_length-le w l) (append-nil b)

pub open_done : (w s : List ℕ) → 1 ≤ length w → length w ≤ 1200001 → s ≡ over 0 (replicate (length w) 0) w → (opened_numbers (Ok tt), s) ≡ open_run w
unfolding open_run
open_done w s h g e =
    rw (fair-length (length w) h g, e, over-whole w (replicate (length w) 0) (length-replicate (length w) 0))
