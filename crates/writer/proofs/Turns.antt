-- What each pass keeps, and what it gives where it is left. Assumes nothing.
use Rattle.std.specs.Prelude.{Ok, Err}
use Rattle.machine.specs.declared.Refusal.TheVariants.{TooWide}
use Prim.Native.Nat.{ℕ, ◌+◌, ◌-◌, ◌*◌, ◌≤◌, ◌<◌}
use mathlib.Core.Path.{◌≡◌, refl, sym, ap, ◌∙◌}
use mathlib.Core.Bool.{Bool, true, false, ◌&&◌, cond}
use mathlib.Core.List.{List, [], ◌∷◌, ◌++◌, map}
use native.Mathlib.Nat.{zero-add}
use native.Mathlib.Omega.{arith}
use lib.ListN.{length, take, drop, length-append, length-drop}
use lib.Seq.{length-take-le}
use lib.Dec.{ltb, eqb}
use borrow.Author.Tests.{lt-ltb}
use Rattle.machine.specs.Lists.{all, sum, concat_map}
use Rattle.machine.specs.Record.{Words, kind, fields_of, good_record}
use Rattle.machine.specs.Store.{records, stored, in_order}
use Rattle.machine.specs.Lines.{Column, fitting, line_of, atom_columns, model_columns, end_columns, entry_of, lines_of, writable, machine_text}
use Rattle.laws.specs.Lists.{and_both, All, all_split, concat_map-append}
use Rattle.laws.specs.Ordered.{head-parts}
use Rattle.laws.specs.Layout.{read-parts, read_length, length-parts, records-read}
use Rattle.laws.specs.Flat.{Parents, entered, line_under, ended, record_lines, flat_lines, lines-flat, line_count, lines_stored, text-length}
use Rattle.decimals.specs.Put.{put_at}
use Rattle.decimals.proofs.Laws.{put_then}
use Rattle.moves.proofs.Laws.{over-length}
use Rattle.seek.specs.Seek.{held, Good, record_at, records_in}
use Rattle.seek.proofs.Below.{records_in-cons, records_in-nil}
use Rattle.seek.proofs.Laws.{whole-within, whole-records}
use Rattle.columns.specs.declared.Above.{Above}
use Rattle.writer.specs.Writer.{parents, GoodWords, measured}

-- ---- a pass

-- a pass over `count` records stands before record n
pub record Pass (w : List ℕ) (count n : ℕ) : Type 0 where
  pub order : n ≤ count
  pub room : count * 12 ≤ length w
  pub good : All (λ r. good_record (5 - kind r) r ≡ true) (records_in n count w)

-- the lines still to come
abbrev pub rest : List ℕ → ℕ → ℕ → Parents → List (List Column)
rest w count n p = flat_lines (ltb 0 n) p (records_in n count w)

-- the words of record n, as the code takes them
abbrev pub taken : List ℕ → ℕ → Words
taken w n = take (n * 12 + 12 - n * 12) (drop (n * 12) w)

all-good : (q : ℕ) (rs : List Words) → in_order q rs ≡ true → All (λ r. good_record (5 - kind r) r ≡ true) rs
all-good q [] o = tt
all-good q (r ∷ rs) o = let h = head-parts q r rs o in (h.good, all-good (kind r) rs h.rest)

module _ (w : List ℕ) (count : ℕ) (g : Good w) (is : count ≡ length (records (held w))) where
  pub pass-start : Pass w count 0
  pass-start =
      let in_order_lem = rw (← records-read w (held w) g) at (read-parts w (held w) g).order in
      record {
        order = omega arith;
        room = rw is (whole-within w g).room;
        good = rw (is, whole-records w g) (all-good 0 (records (held w)) in_order_lem);
      }

  pub rest-start : (p : Parents) → rest w count 0 p ≡ lines_of (map entry_of (held w))
  rest-start p = rw (is, whole-records w g) (lines-flat p (held w))

module _ (w : List ℕ) (count n : ℕ) (i : Pass w count n) where
  pub rest_end : (p : Parents) → count ≤ n → rest w count n p ≡ ended (ltb 0 n)
  unfolding flat_lines
  rest_end p h = rw (records_in-nil w count n h)

  module _ (more : n < count) where
    taken_is : taken w n ≡ record_at n w
    taken_is = let e : n * 12 + 12 - n * 12 ≡ 12 = omega arith in rw e

    next : records_in n count w ≡ taken w n ∷ records_in (n + 1) count w
    next = rw taken_is (records_in-cons w count n more)

    pub words-good : GoodWords (taken w n)
    words-good =
        let r = i.room in
        record { twelve = rw taken_is (length-take-le 12 (drop (n * 12) w) (rw length-drop (omega arith))); good = (rw next at i.good).0 }

    pub pass-next : Pass w count (n + 1)
    pass-next = record { order = omega arith; room = i.room; good = (rw next at i.good).1 }

    pub rest-next : (p : Parents) → rest w count n p ≡ record_lines (ltb 0 n) p (taken w n) ++ rest w count (n + 1) (entered (taken w n) p)
    unfolding flat_lines
    rest-next p = rw (next, lt-ltb 0 (n + 1) (omega arith))

-- ---- whether all fits

-- ENDMDL fits
end_fits : (b : Bool) → all (all fitting) (ended b) ≡ true
end_fits true = refl
end_fits false = refl

ended-fits : (b : Bool) (p : Parents) (r : Words) → all (all fitting) (record_lines b p r) ≡ all (all fitting) (record_lines true p r)
unfolding record_lines
ended-fits true p r = refl
ended-fits false p r = go (eqb (kind r) 5) (eqb (kind r) 1)
  where
    go : (x y : Bool) → all (all fitting) (cond x (atom_columns (line_under p (fields_of 0 r)) ∷ []) (cond y (model_columns (fields_of 4 r) ∷ []) []))
        ≡ all (all fitting) (cond x (atom_columns (line_under p (fields_of 0 r)) ∷ []) (cond y (end_columns ∷ (model_columns (fields_of 4 r) ∷ [])) []))
    go true y = refl
    go false true = refl
    go false false = refl

count_most : (r : Words) → line_count r ≤ 2
unfolding line_count
count_most r = go (eqb (kind r) 5) (eqb (kind r) 1)
  where
    go : (x y : Bool) → cond x 1 (cond y 2 0) ≤ 2
    go true y = omega arith
    go false true = omega arith
    go false false = omega arith

pub record Measuring (w : List ℕ) (count n : ℕ) (a : Above) (lines : ℕ) : Type 0 where
  pub pass : Pass w count n
  pub long : length w ≤ 1200001
  pub few : lines ≤ 2 * n
  pub fits : all (all fitting) (rest w count n (parents a)) ≡ writable (map entry_of (held w))
  pub all_lines : lines + sum line_count (records_in n count w) ≡ 2 * length (held w) + stored (held w)

pub measure-start : (w : List ℕ) (count : ℕ) (a : Above) → Good w → count ≡ length (records (held w)) → Measuring w count 0 a 0
measure-start w count a g is =
    record {
      pass = pass-start w count g is;
      long = (length-parts (length w) (read_length w (held w) g)).1;
      few = omega arith;
      fits = rw (rest-start w count g is (parents a));
      all_lines = rw (is, whole-records w g, lines_stored, zero-add);
    }

module _ (w : List ℕ) (count n : ℕ) (a : Above) (lines : ℕ) (i : Measuring w count n a lines) where
  pub measure-end : count ≤ n → Ok (81 * lines) ≡ measured (map entry_of (held w))
  measure-end h =
      let e : lines ≡ 2 * length (held w) + stored (held w) = omega (arith, i.all_lines, ap (sum line_count) (records_in-nil w count n h)) in
      let t : writable (map entry_of (held w)) ≡ true = sym i.fits ∙ rw (rest_end w count n i.pass (parents a) h) (end_fits (ltb 0 n)) in
      rw (t, text-length (held w) t, e)

  pub few-next : {l : ℕ} → l ≡ line_count (taken w n) → lines + l ≤ 2 * (n + 1)
  few-next e = omega (arith, i.few, count_most (taken w n))

  module _ (more : n < count) {b : Bool} (is : b ≡ all (all fitting) (record_lines true (parents a) (taken w n))) where
    split : writable (map entry_of (held w)) ≡ (b && all (all fitting) (rest w count (n + 1) (entered (taken w n) (parents a))))
    split = sym i.fits ∙ rw (rest-next w count n i.pass more (parents a), all_split (all fitting), ended-fits, ← is)

    pub measure-wide : b ≡ false → Err TooWide ≡ measured (map entry_of (held w))
    measure-wide f = rw (split, f)

    pub measure-next : b ≡ true → {l : ℕ} {a' : Above} → l ≡ line_count (taken w n) → parents a' ≡ entered (taken w n) (parents a) → Measuring w count (n + 1) a' (lines + l)
    measure-next t {l} {a'} q e =
        record {
          pass = pass-next w count n i.pass more;
          long = i.long;
          few = few-next q;
          fits = ap (λ (p : Parents). all (all fitting) (rest w count (n + 1) p)) e ∙ sym (split ∙ rw t);
          all_lines = omega (arith, i.all_lines, ap (sum line_count) (next w count n i.pass more));
        }

-- ---- what is written

-- the text of what is still to come, put where it goes, makes the output whole
pub record Writing (w out₀ : List ℕ) (count n : ℕ) (a : Above) (at : ℕ) (out : List ℕ) : Type 0 where
  pub pass : Pass w count n
  pub fits : all (all fitting) (rest w count n (parents a)) ≡ true
  pub text : put_at (concat_map line_of (rest w count n (parents a))) at out ≡ put_at (machine_text (held w)) 0 out₀
  pub size : length out ≡ length out₀
  pub room : length (machine_text (held w)) ≤ length out₀

pub write-start : (w out : List ℕ) (count : ℕ) (a : Above) → Good w → writable (map entry_of (held w)) ≡ true → length (machine_text (held w)) ≤ length out
    → count ≡ length (records (held w)) → Writing w out count 0 a 0 out
write-start w out count a g f room is =
    record { pass = pass-start w count g is; fits = rw (rest-start w count g is (parents a)) f; text = rw (rest-start w count g is (parents a)); size = refl; room = room }

module _ (w out₀ : List ℕ) (count n : ℕ) (a : Above) (at : ℕ) (out : List ℕ) (i : Writing w out₀ count n a at out) where
  -- the room that is left
  left : at + length (concat_map line_of (rest w count n (parents a))) ≤ length out
  left = omega (arith, ap (λ (x : ℕ × List ℕ). x.0) i.text, i.size, i.room)

  module _ (done : count ≤ n) where
    last : concat_map line_of (rest w count n (parents a)) ≡ concat_map line_of (ended (ltb 0 n))
    last = ap (concat_map line_of) (rest_end w count n i.pass (parents a) done)

    pub last-room : at + length (concat_map line_of (ended (ltb 0 n))) ≤ length out
    last-room = omega (arith, left, ap length last)

    pub write-end : {x : ℕ × List ℕ} → x ≡ put_at (concat_map line_of (ended (ltb 0 n))) at out → x ≡ put_at (machine_text (held w)) 0 out₀
    write-end e = e ∙ ap (λ (t : List ℕ). put_at t at out) (sym last) ∙ i.text

  module _ (more : n < count) where
    abbrev here : List (List Column)
    here = record_lines (ltb 0 n) (parents a) (taken w n)

    abbrev others : List (List Column)
    others = rest w count (n + 1) (entered (taken w n) (parents a))

    both : rest w count n (parents a) ≡ here ++ others
    both = rest-next w count n i.pass more (parents a)

    texts : concat_map line_of (rest w count n (parents a)) ≡ concat_map line_of here ++ concat_map line_of others
    texts = ap (concat_map line_of) both ∙ concat_map-append line_of here others

    fit : (all (all fitting) here ≡ true) × (all (all fitting) others ≡ true)
    fit = and_both _ _ (sym (all_split (all fitting) here others) ∙ ap (all (all fitting)) (sym both) ∙ i.fits)

    pub here-fits : all (all fitting) (record_lines true (parents a) (taken w n)) ≡ true
    here-fits = sym (ended-fits (ltb 0 n) (parents a) (taken w n)) ∙ fit.0

    pub here-room : at + length (concat_map line_of here) ≤ length out
    here-room = omega (arith, left, ap length texts, length-append (concat_map line_of here) (concat_map line_of others))

    pub write-next : {at' : ℕ} {out' : List ℕ} {a' : Above} → (at', out') ≡ put_at (concat_map line_of here) at out → parents a' ≡ entered (taken w n) (parents a) → Writing w out₀ count (n + 1) a' at' out'
    write-next {at'} {out'} {a'} e q =
        let h = here-room in
        record {
          pass = pass-next w count n i.pass more;
          fits = ap (λ (p : Parents). all (all fitting) (rest w count (n + 1) p)) q ∙ fit.1;
          text =
              ap (λ (p : Parents). put_at (concat_map line_of (rest w count (n + 1) p)) at' out') q
              ∙ put_then at at' _ (concat_map line_of here) (concat_map line_of others) out out' _ (omega arith) e refl
              ∙ ap (λ (t : List ℕ). put_at t at out) (sym texts)
              ∙ i.text;
          size = ap (λ (x : ℕ × List ℕ). length x.1) e ∙ over-length at (concat_map line_of here) out h ∙ i.size;
          room = i.room;
        }
