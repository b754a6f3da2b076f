-- Laws of counting a text's records by the numbers of its lines, one for each place of the code. Assumes nothing.
use Prim.Native.Nat.{ℕ, suc, ◌+◌, ◌-◌, ◌*◌, ◌/◌, ◌%◌, ◌≤◌, ◌<◌, min}
use mathlib.Core.Path.{◌≡◌, refl, sym, ap, ◌∙◌}
use mathlib.Core.Bool.{Bool, true, false, not, ◌&&◌, cond, false≢true}
use mathlib.Core.List.{List, [], ◌∷◌}
use native.Mathlib.Omega.{arith}
use native.Mathlib.Nat.{add-zero}
use lib.Dec.{eqb, leb}
use lib.ListN.{length, get_or, take, drop}
use lib.Seq.{get_or-take, get_or-drop}
use borrow.Author.Tests.{le-leb, lt-leb, eq-eqb, ne_eqb, eqb-true}
use Rattle.machine.specs.Lines.{AtomLine}
use Rattle.machine.specs.LinesIn.{atom_in, lines_in}
use Rattle.machine.specs.Read.{same_id}
use Rattle.laws.specs.Lists.{and_both}
use Rattle.lines.specs.Numbered.{line_count_in, line_at, lines_from, atoms_back, lines-all, lines_next, lines_none}
use Rattle.lines.specs.Taken.{taken_atom, taken_model, taken_end, opens, taken_line, taken_from, taken_text}
use Rattle.building.specs.Lacks.{lacks, ends, looked, records_from}
use Rattle.building.specs.Bounds.{adding_lines}
use Rattle.building.proofs.Bounds.{records-above, records-least}

-- ---- one line

pub first_byte : (t : List ℕ) (n : ℕ) → get_or t (n * 81) 0 ≡ get_or (line_at n t) 0 0
first_byte t n = ap (λ (i : ℕ). get_or t i 0) (sym (add-zero (n * 81))) ∙ sym (get_or-take 81 (drop (n * 81) t) 0 0 (omega arith) ∙ get_or-drop (n * 81) t 0 0)

-- what `&text[at..at + 81]` gives
pub lacks-there : (t : List ℕ) (i j r : ℕ)
    → r ≡ lacks (atom_in (take (i * 81 + 81 - i * 81) (drop (i * 81) t))) (atom_in (take (j * 81 + 81 - j * 81) (drop (j * 81) t)))
    → r ≡ lacks (atom_in (line_at i t)) (atom_in (line_at j t))
lacks-there t i j r h = h ∙ (λ z. lacks (atom_in (take (width i z) (drop (i * 81) t))) (atom_in (take (width j z) (drop (j * 81) t))))
  where
    width : (n : ℕ) → n * 81 + 81 - n * 81 ≡ 81
    width n = omega arith

-- ---- looking back

lacks-high : (b a : AtomLine) → lacks b a ≤ 4
unfolding lacks
lacks-high b a = go (same_id 2 b.chain a.chain) (same_id 1 b.residue a.residue) (same_id 0 b.conformer a.conformer)
  where
    go : (x y z : Bool) → cond x (cond y (cond z 1 2) 3) 4 ≤ 4
    go true true true = omega arith
    go true true false = omega arith
    go true false z = omega arith
    go false y z = omega arith

looked-high : (near : Bool) (a : AtomLine) (bs : List AtomLine) → looked near a bs ≤ 4
unfolding looked
looked-high near a [] = omega arith
looked-high near a (b ∷ bs) = go (ends near (lacks b a)) (lacks-high b a)
  where
    go : (t : Bool) → lacks b a ≤ 4 → cond t (lacks b a) (min (lacks b a) (looked near a bs)) ≤ 4
    go true h = h
    go false h = omega arith

looked-by : (near : Bool) (a b : AtomLine) (bs : List AtomLine) (p : Bool) → ends near (lacks b a) ≡ p
    → looked near a (b ∷ bs) ≡ cond p (lacks b a) (min (lacks b a) (looked near a bs))
unfolding looked
looked-by near a b bs p h = ap (λ (t : Bool). cond t (lacks b a) (min (lacks b a) (looked near a bs))) h

back-next : (t : List ℕ) (from i : ℕ) → from < i → atoms_back (i - from) i t ≡ atom_in (line_at (i - 1) t) ∷ atoms_back (i - 1 - from) (i - 1) t
unfolding atoms_back
back-next t from i h = ap (λ (k : ℕ). atoms_back k i t) (let e : i - from ≡ suc (i - 1 - from) = omega arith in e)

-- what line n's atom still needs after those from number `from` to i
abbrev pub looked_to : List ℕ → ℕ → ℕ → Bool → ℕ → ℕ
looked_to t from n near i = looked near (atom_in (line_at n t)) (atoms_back (i - from) i t)

-- the lines from number i on are seen, and leave `least`
pub record Seen (t : List ℕ) (from n : ℕ) (near : Bool) (least i : ℕ) : Type 0 where
  pub above : from ≤ i
  pub within : i ≤ n
  pub small : least ≤ 4
  pub is : looked_to t from n near n ≡ min least (looked_to t from n near i)

pub none_seen : (t : List ℕ) (from n : ℕ) (near : Bool) → from ≤ n → Seen t from n near 4 n
none_seen t from n near h =
    let k = looked-high near (atom_in (line_at n t)) (atoms_back (n - from) n t) in
    record { above = h; within = omega arith; small = omega arith; is = omega arith }

module _ (t : List ℕ) (from n : ℕ) (near : Bool) (least i : ℕ) (h : Seen t from n near least i) where
  module _ (l : from < i) (k m : ℕ) (e : k ≡ lacks (atom_in (line_at (i - 1) t)) (atom_in (line_at n t))) (s : m ≡ min k least) where
    abbrev atom : AtomLine
    atom = atom_in (line_at n t)

    abbrev last : AtomLine
    last = atom_in (line_at (i - 1) t)

    abbrev others : List AtomLine
    others = atoms_back (i - 1 - from) (i - 1) t

    step : looked_to t from n near n ≡ min least (looked near atom (last ∷ others))
    step = h.is ∙ ap (λ (z : List AtomLine). min least (looked near atom z)) (back-next t from i l)

    pub seen-small : m ≤ 4
    seen-small = let o = h.small in omega arith

    module _ (f : Bool) (g : f ≡ ends near k) where
      turn : (p : Bool) → f ≡ p → looked near atom (last ∷ others) ≡ cond p (lacks last atom) (min (lacks last atom) (looked near atom others))
      turn p x = looked-by near atom last others p (ap (ends near) (sym e) ∙ sym g ∙ x)

      pub seen-ended : f ≡ true → m ≡ looked_to t from n near n
      seen-ended x = let o = step in let p = turn true x in omega arith

      pub more-seen : f ≡ false → Seen t from n near m (i - 1)
      more-seen x =
          let o = step in
          let p = turn false x in
          let w = h.within in
          record { above = omega arith; within = omega arith; small = seen-small; is = omega arith }

  pub all_seen : i ≤ from → least ≡ looked_to t from n near n
  unfolding atoms_back looked
  all_seen l =
      let p = h.small in
      let o = h.is ∙ ap (λ (z : ℕ). min least (looked near (atom_in (line_at n t)) (atoms_back z i t))) (let e : i - from ≡ 0 = omega arith in e) in
      omega arith

-- ---- all lines

-- some lines are counted, and the open model's atoms before number n are those from number `from` on
pub record Counted (t : List ℕ) (near : Bool) (count from n : ℕ) : Type 0 where
  pub start : from ≤ n
  pub within : n ≤ line_count_in t
  pub small : count ≤ 4 * n
  pub begun : Bool
  pub taken : taken_from begun (lines_from n t) ≡ true
  pub is : records_from near [] (lines_in (line_count_in t) t) ≡ count + records_from near (atoms_back (n - from) n t) (lines_from n t)

pub none-counted : (t : List ℕ) (near : Bool) → taken_text t ≡ true → Counted t near 0 0 0
unfolding taken_text atoms_back
none-counted t near h =
    record {
      start = omega arith;
      within = omega arith;
      small = omega arith;
      begun = false;
      taken = ap (taken_from false) (lines-all t) ∙ (and_both (eqb (length t % 81) 0) (taken_from false (lines_in (length t / 81) t)) h).1;
      is = let e = ap (records_from near []) (sym (lines-all t)) in omega arith;
    }

module _ (near : Bool) (before : List AtomLine) (l : List ℕ) (ls : List (List ℕ)) where
  of-model : get_or l 0 0 ≡ 77 → records_from near before (l ∷ ls) ≡ suc (records_from near [] ls)
  unfolding records_from
  of-model h = rw (eq-eqb (get_or l 0 0) 77 h)

  of_end : get_or l 0 0 ≡ 69 → records_from near before (l ∷ ls) ≡ records_from near before ls
  unfolding records_from
  of_end h = rw h

  of-atom : (get_or l 0 0 ≡ 77 → ⊥) → (get_or l 0 0 ≡ 69 → ⊥)
      → records_from near before (l ∷ ls) ≡ looked near (atom_in l) before + records_from near (atom_in l ∷ before) ls
  unfolding records_from
  of-atom h k = rw (ne_eqb (get_or l 0 0) 77 h, ne_eqb (get_or l 0 0) 69 k)

taken-first : (l : List ℕ) → taken_line false l ≡ true → get_or l 0 0 ≡ 77
unfolding taken_line
taken-first l h = eqb-true (get_or l 0 0) 77 (go (eqb (get_or l 0 0) 77) h)
  where
    go : (m : Bool) → cond m (not false && taken_model l) (false && cond (eqb (get_or l 0 0) 69) (taken_end l) (taken_atom l)) ≡ true → m ≡ true
    go true x = refl
    go false x = absurd (false≢true x)

-- after ENDMDL comes MODEL or nothing, so nothing looks back
from-there : (near : Bool) (before : List AtomLine) (ls : List (List ℕ)) → taken_from false ls ≡ true → records_from near before ls ≡ records_from near [] ls
unfolding taken_from records_from
from-there near before [] h = refl
from-there near before (l ∷ ls) h =
    let k = taken-first l (and_both (taken_line false l) (taken_from (opens false l) ls) h).0 in
    of-model near before l ls k ∙ sym (of-model near [] l ls k)

taken_next : (begun : Bool) (l : List ℕ) (ls : List (List ℕ)) → taken_from begun (l ∷ ls) ≡ true → taken_from (opens begun l) ls ≡ true
unfolding taken_from
taken_next begun l ls h = (and_both (taken_line begun l) (taken_from (opens begun l) ls) h).1

taken-closed : (begun : Bool) (l : List ℕ) (ls : List (List ℕ)) → get_or l 0 0 ≡ 69 → taken_from begun (l ∷ ls) ≡ true → taken_from false ls ≡ true
taken-closed begun l ls e h = ap (λ (k : ℕ). taken_from (cond (eqb k 77) true (cond (eqb k 69) false begun)) ls) (sym e) ∙ taken_next begun l ls h

module _ (t : List ℕ) (near : Bool) (count from n kind : ℕ) (h : Counted t near count from n) (l : n < length t / 81) (e : kind ≡ get_or (line_at n t) 0 0) where
  abbrev before : List AtomLine
  before = atoms_back (n - from) n t

  abbrev rest : List (List ℕ)
  rest = lines_from (n + 1) t

  next-taken : taken_from h.begun (line_at n t ∷ rest) ≡ true
  next-taken = ap (taken_from h.begun) (sym (lines_next t n l)) ∙ h.taken

  next-is : records_from near [] (lines_in (line_count_in t) t) ≡ count + records_from near before (line_at n t ∷ rest)
  next-is = h.is ∙ ap (λ (ls : List (List ℕ)). count + records_from near before ls) (lines_next t n l)

  none-back : atoms_back (n + 1 - (n + 1)) (n + 1) t ≡ []
  unfolding atoms_back
  none-back = ap (λ (k : ℕ). atoms_back k (n + 1) t) (let z : n + 1 - (n + 1) ≡ 0 = omega arith in z)

  one-back : from ≤ n → atoms_back (n + 1 - from) (n + 1) t ≡ atom_in (line_at n t) ∷ before
  one-back s =
      back-next t from (n + 1) (omega arith)
      ∙ ap (λ (k : ℕ). atom_in (line_at k t) ∷ atoms_back (k - from) k t) (let z : n + 1 - 1 ≡ n = omega arith in z)

  pub model-counted : kind ≡ 77 → Counted t near (count + 1) (n + 1) (n + 1)
  model-counted k =
      let s = h.small in
      let o = next-is ∙ ap (λ (z : ℕ). count + z) (of-model near before (line_at n t) rest (sym e ∙ k)) in
      let p = ap (λ (bs : List AtomLine). records_from near bs rest) none-back in
      record {
        start = omega arith;
        within = omega arith;
        small = omega arith;
        begun = opens h.begun (line_at n t);
        taken = taken_next h.begun (line_at n t) rest next-taken;
        is = omega arith;
      }

  pub end-counted : kind ≡ 69 → Counted t near count (n + 1) (n + 1)
  end-counted k =
      let s = h.small in
      let g = taken-closed h.begun (line_at n t) rest (sym e ∙ k) next-taken in
      let o = next-is ∙ ap (λ (z : ℕ). count + z) (of_end near before (line_at n t) rest (sym e ∙ k) ∙ from-there near before rest g) in
      let p = ap (λ (bs : List AtomLine). records_from near bs rest) none-back in
      record { start = omega arith; within = omega arith; small = omega arith; begun = false; taken = g; is = omega arith }

  module _ (r : ℕ) (x : r ≡ looked near (atom_in (line_at n t)) (atoms_back (n - from) n t)) (y : r ≤ 4) where
    pub atom-counted : (kind ≡ 77 → ⊥) → (kind ≡ 69 → ⊥) → Counted t near (count + r) from (n + 1)
    atom-counted k m =
        let s = h.small in
        let f = h.start in
        let o = next-is ∙ ap (λ (z : ℕ). count + z) (of-atom near before (line_at n t) rest (λ u. k (e ∙ u)) (λ u. m (e ∙ u))) in
        let p = ap (λ (bs : List AtomLine). records_from near bs rest) (one-back f) in
        record {
          start = omega arith;
          within = omega arith;
          small = omega arith;
          begun = opens h.begun (line_at n t);
          taken = taken_next h.begun (line_at n t) rest next-taken;
          is = omega arith;
        }

pub all-counted : (t : List ℕ) (near : Bool) (count from n : ℕ) → Counted t near count from n → length t / 81 ≤ n
    → count ≡ records_from near [] (lines_in (length t / 81) t)
unfolding records_from
all-counted t near count from n h l =
    let o = h.is ∙ ap (λ (ls : List (List ℕ)). count + records_from near (atoms_back (n - from) n t) ls) (lines_none t n l) in
    omega arith

-- ---- the lines that add

-- the lines before number n add `count`
pub record Added (t : List ℕ) (count n : ℕ) : Type 0 where
  pub within : n ≤ line_count_in t
  pub small : count ≤ n
  pub is : adding_lines (lines_in (line_count_in t) t) ≡ count + adding_lines (lines_from n t)

pub none-added : (t : List ℕ) → Added t 0 0
none-added t = let e = ap adding_lines (sym (lines-all t)) in record { within = omega arith; small = omega arith; is = omega arith }

module _ (t : List ℕ) (count n kind : ℕ) (h : Added t count n) (l : n < length t / 81) (e : kind ≡ get_or (line_at n t) 0 0) where
  abbrev by_kind : Bool → ℕ
  by_kind b = count + cond b (adding_lines (lines_from (n + 1) t)) (suc (adding_lines (lines_from (n + 1) t)))

  next-added : (b : Bool) → eqb kind 69 ≡ b → adding_lines (lines_in (line_count_in t) t) ≡ by_kind b
  unfolding adding_lines
  next-added b k = h.is ∙ ap (λ (ls : List (List ℕ)). count + adding_lines ls) (lines_next t n l) ∙ ap by_kind (ap (λ (z : ℕ). eqb z 69) (sym e) ∙ k)

  pub end-added : kind ≡ 69 → Added t count (n + 1)
  end-added k = let s = h.small in let o = next-added true (eq-eqb kind 69 k) in record { within = omega arith; small = omega arith; is = o }

  pub line-added : (kind ≡ 69 → ⊥) → Added t (count + 1) (n + 1)
  line-added k = let s = h.small in let o = next-added false (ne_eqb kind 69 k) in record { within = omega arith; small = omega arith; is = omega arith }

pub all-added : (t : List ℕ) (count n : ℕ) → Added t count n → length t / 81 ≤ n → count ≡ adding_lines (lines_in (length t / 81) t)
unfolding adding_lines
all-added t count n h l =
    let o = h.is ∙ ap (λ (ls : List (List ℕ)). count + adding_lines ls) (lines_none t n l) in
    omega arith

-- ---- the answer, by a bound from above, by one from below, or exactly

module _ (ls : List (List ℕ)) (capacity : ℕ) where
  pub fits-near : (r : ℕ) → r ≡ records_from true [] ls → r ≤ capacity → true ≡ leb (records_from false [] ls) capacity
  fits-near r e h = let k = records-above [] ls in sym (le-leb (records_from false [] ls) capacity (omega arith))

  pub fits-never : (r : ℕ) → r ≡ adding_lines ls → capacity < r → false ≡ leb (records_from false [] ls) capacity
  fits-never r e h = let k = records-least false [] ls in sym (lt-leb (records_from false [] ls) capacity (omega arith))

  pub fits-exactly : (r : ℕ) → r ≡ records_from false [] ls → leb r capacity ≡ leb (records_from false [] ls) capacity
  fits-exactly r e = ap (λ (n : ℕ). leb n capacity) e
