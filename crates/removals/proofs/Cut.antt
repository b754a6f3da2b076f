-- Records taken out of a good store leave the words of the machine without them. Assumes nothing.
use Rattle.std.specs.Prelude.{Ok}
use Prim.Native.Nat.{ℕ, ◌+◌, ◌-◌, ◌*◌, ◌≤◌, ◌<◌}
use mathlib.Core.Path.{◌≡◌, sym, ap, ◌∙◌}
use mathlib.Core.List.{List, [], ◌++◌, append_assoc}
use native.Mathlib.Omega.{arith}
use lib.ListN.{length, set, drop, take, length-append}
use lib.Seq.{take_at, drop_at}
use Rattle.machine.specs.Answer.{Result, edited_numbers}
use Rattle.machine.specs.Record.{Words}
use Rattle.machine.specs.Store.{Branch, Machine, flat, records, stored, lay_out, laid, end}
use Rattle.machine.specs.Lists.{concat_map}
use Rattle.machine.specs.Edit.{Change, changed, step_by, up, replace_at}
use Rattle.laws.specs.Lists.{sum-append}
use Rattle.laws.specs.Grouped.{concat, twelve-words}
use Rattle.laws.specs.Layout.{lay_out-read, read-parts, read_length, length-parts}
use Rattle.moves.specs.Over.{taken_out, Twelve}
use Rattle.moves.proofs.Records.{remove-laid}
use Rattle.seek.specs.Seek.{Good, held, records_in, atom_records}
use Rattle.seek.proofs.Below.{chunks-take}
use Rattle.seek.proofs.Laws.{Stands, records-count, whole-records, atom_records-stored}
use Rattle.removals.specs.Removal.{Removable, without_records}

-- what stands before and after the records from number p up to q, which the second list has not
pub record CutOut (rs rs' : List Words) (p q : ℕ) : Type 0 where
  pub pre : List Words
  pub mid : List Words
  pub post : List Words
  pub was : rs ≡ pre ++ (mid ++ post)
  pub is : rs' ≡ pre ++ post
  pub first : p ≡ length pre
  pub last : q ≡ p + length mid

module _ (rs rs' : List Words) (p q : ℕ) (c : CutOut rs rs' p q) where
  pub cut_high : q ≤ length rs
  cut_high =
      let e = ap length c.was ∙ length-append c.pre (c.mid ++ c.post) in
      omega (arith, length-append c.mid c.post, c.first, c.last)

  cut-joined : rs ≡ (c.pre ++ c.mid) ++ c.post
  cut-joined = c.was ∙ sym (append_assoc c.pre c.mid c.post)

  cut-front : length (c.pre ++ c.mid) ≡ q
  cut-front = omega (arith, length-append c.pre c.mid, c.first, c.last)

  cut-taken : drop p (take q rs) ≡ c.mid
  cut-taken = rw (cut-joined, take_at (c.pre ++ c.mid) c.post q cut-front) (drop_at c.pre c.mid p (sym c.first))

  cut_left : take p rs ++ drop q rs ≡ rs'
  cut_left =
      let t : take p rs ≡ c.pre = rw c.was (take_at c.pre (c.mid ++ c.post) p (sym c.first)) in
      let d : drop q rs ≡ c.post = rw cut-joined (drop_at (c.pre ++ c.mid) c.post q cut-front) in
      rw (t, d) (sym c.is)

  cut-counts : atom_records c.mid ≡ atom_records rs - atom_records rs'
  unfolding atom_records
  cut-counts = rw (c.was, c.is) (simp sum-append (omega arith))

lay_out-words : (w : List ℕ) → Good w → laid (length w) (concat (records (held w))) ≡ w
unfolding lay_out
lay_out-words w g = lay_out-read w (held w) g

-- in the words of any records laid out
pub words-cut : (w : List ℕ) (rs : List Words) → Twelve rs → (p q : ℕ) → p ≤ q → q ≤ length rs → end w ≡ 12 * length rs → end w < length w → laid (length w) (concat rs) ≡ w
    → without_records p q w ≡ laid (length w) (concat (take p rs ++ drop q rs))
unfolding without_records
words-cut w rs t p q o h e l f =
    let s : end w - 12 * (q - p) ≡ 12 * (length rs - (q - p)) = omega arith in
    ap (λ (x : ℕ). set (taken_out (12 * p) (12 * q) (end w) w) (length w - 1) x) s
    ∙ ap (λ (x : ℕ). set (taken_out (12 * p) (12 * q) x w) (length w - 1) (12 * (length rs - (q - p)))) e
    ∙ ap (λ (x : List ℕ). set (taken_out (12 * p) (12 * q) (12 * length rs) x) (length w - 1) (12 * (length rs - (q - p)))) (sym f)
    ∙ remove-laid (length w) rs t p q o h (omega arith)

module _ (w : List ℕ) (g : Good w) (m' : Machine) (p q : ℕ) (c : CutOut (records (held w)) (records m') p q) where
  ends : end w ≡ 12 * length (records (held w))
  ends = omega (arith, records-count w (held w) g, (read-parts w (held w) g).multiple)

  pub cut-removable : Removable p q w
  cut-removable =
      let e = ends in
      let h = cut_high _ _ p q c in
      let n = length-parts (length w) (read_length w (held w) g) in
      record { order = omega (arith, c.last); room = omega arith; low = omega (arith, (read-parts w (held w) g).low); small = n.1 }

  cut-words : without_records p q w ≡ lay_out (length w) m'
  unfolding lay_out
  cut-words =
      words-cut w (records (held w)) (twelve-words (held w)) p q (omega (arith, c.last)) (cut_high _ _ p q c) ends cut-removable.low (lay_out-words w g)
      ∙ ap (λ (x : List Words). laid (length w) (concat x)) (cut_left _ _ p q c)

  cut-atoms : atom_records (records_in p q w) ≡ stored (held w) - stored m'
  cut-atoms =
      let rs = records (held w) in
      rw (chunks-take q (length rs) w (cut_high _ _ p q c), whole-records w g, cut-taken _ _ p q c, ← atom_records-stored (held w), ← atom_records-stored m') (cut-counts _ _ p q c)

  -- "removed, the atom records before minus those after"
  pub cut_step : (step : Machine → Result Change) → step (held w) ≡ Ok (changed m') → (r : ℕ) (s : List ℕ) → r ≡ atom_records (records_in p q w) → s ≡ without_records p q w
      → (edited_numbers (Ok (record { found = 1; removed = r })), s) ≡ step_by w step
  unfolding step_by
  cut_step step a r s e f = rw (g, a, e, f, cut-atoms, cut-words)

-- the records of a branch that gives way to none
pub cut-branch : (d j : ℕ) (pos : List ℕ) (ts : List (Branch (up d j))) (p q : ℕ) → Stands d j pos 0 ts p q
    → CutOut (concat_map (flat (up d j)) ts) (concat_map (flat (up d j)) (replace_at d j pos [] ts)) p q
cut-branch d j pos ts p q s =
    record {
      pre = s.spot.pre;
      mid = flat j s.branch;
      post = s.spot.post;
      was = s.spot.was;
      is = s.spot.is [];
      first = omega (arith, s.first);
      last = s.last;
    }
