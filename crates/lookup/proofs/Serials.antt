-- The serials of the atoms among records: the loops over them, and what is_wanted asks by them. Assumes nothing.
use Prim.Native.Nat.{ℕ, zero, suc, ◌+◌, ◌-◌, ◌*◌, ◌≤◌, ◌<◌}
use mathlib.Core.Path.{◌≡◌, refl, sym, ap, ◌∙◌}
use mathlib.Core.Bool.{Bool, true, false, cond}
use mathlib.Core.List.{List, [], ◌∷◌, ◌++◌}
use native.Mathlib.Omega.{arith}
use lib.ListN.{length, get_or, drop}
use lib.Seq.{drop-append-le}
use lib.Dec.{leb, eqb}
use borrow.Author.Tests.{le-leb, lt-leb, eq-eqb, ne_eqb}
use Rattle.machine.specs.Lists.{any, last_of}
use Rattle.machine.specs.Text.{matches_optional, optional_of}
use Rattle.machine.specs.Record.{Words, kind}
use Rattle.machine.specs.Store.{chunks}
use Rattle.machine.specs.Lookup.{spans}
use Rattle.laws.specs.Grouped.{chunks-length}
use Rattle.seek.specs.Seek.{Within, record_at, records_in}
use Rattle.seek.proofs.Below.{chunks-snoc, record-word, record-kind, records_in-cons, records_in-nil}
use Rattle.lookup.specs.Level.{atom_serials, wanted_records}

pub atoms-append : (rs ss : List Words) → atom_serials (rs ++ ss) ≡ atom_serials rs ++ atom_serials ss
unfolding atom_serials
atoms-append [] ss = refl
atoms-append (r ∷ rs) ss = go (eqb (kind r) 5) (atoms-append rs ss)
  where
    go : (b : Bool) → atom_serials (rs ++ ss) ≡ atom_serials rs ++ atom_serials ss
        → cond b (get_or r 1 0 ∷ atom_serials (rs ++ ss)) (atom_serials (rs ++ ss)) ≡ cond b (get_or r 1 0 ∷ atom_serials rs) (atom_serials rs) ++ atom_serials ss
    go true e = ap (λ (l : List ℕ). get_or r 1 0 ∷ l) e
    go false e = e

-- by the record at the front
module _ (w : List ℕ) (at end : ℕ) (l : at < end) where
  pub atoms-atom : get_or w (at * 12) 0 ≡ 5 → atom_serials (records_in at end w) ≡ get_or w (at * 12 + 1) 0 ∷ atom_serials (records_in (at + 1) end w)
  unfolding atom_serials
  atoms-atom k = rw (records_in-cons w end at l, record-kind w at, eq-eqb (get_or w (at * 12) 0) 5 k, record-word w at 1 (omega arith))

  pub atoms-other : (get_or w (at * 12) 0 ≡ 5 → ⊥) → atom_serials (records_in at end w) ≡ atom_serials (records_in (at + 1) end w)
  unfolding atom_serials
  atoms-other k = rw (records_in-cons w end at l, record-kind w at, ne_eqb (get_or w (at * 12) 0) 5 k)

pub atoms-nil : (w : List ℕ) (at end : ℕ) → end ≤ at → atom_serials (records_in at end w) ≡ []
unfolding atom_serials
atoms-nil w at end l = rw (records_in-nil w end at l)

-- by the record at the back
records_in-snoc : (w : List ℕ) (from at : ℕ) → from < at → records_in from at w ≡ records_in from (at - 1) w ++ (record_at (at - 1) w ∷ [])
records_in-snoc w from at l =
    let e : at ≡ suc (at - 1) = omega arith in
    let b : from ≤ length (chunks (at - 1) w) = rw chunks-length (omega arith) in
    ap (λ (n : ℕ). drop from (chunks n w)) e ∙ ap (drop from) (chunks-snoc (at - 1) w) ∙ drop-append-le from (chunks (at - 1) w) (record_at (at - 1) w ∷ []) b

-- ---- forward: spans_serial and has_serial

-- what a test says of the serials left, it says of all
pub record Passed (f : List ℕ → Bool) (w : List ℕ) (from end at : ℕ) : Type 0 where
  pub high : at ≤ end
  pub same : f (atom_serials (records_in from end w)) ≡ f (atom_serials (records_in at end w))

pub passed-begin : (f : List ℕ → Bool) (w : List ℕ) (from end : ℕ) → Within from end w → Passed f w from end from
passed-begin f w from end b = record { high = b.order; same = refl }

pub passed-other : (f : List ℕ → Bool) (w : List ℕ) (from end at : ℕ) → Passed f w from end at → at < end → (get_or w (at * 12) 0 ≡ 5 → ⊥) → Passed f w from end (at + 1)
passed-other f w from end at s l k = record { high = omega arith; same = s.same ∙ ap f (atoms-other w at end l k) }

passed-atom : (f : List ℕ → Bool) (w : List ℕ) (from end at : ℕ) → Passed f w from end at → at < end → get_or w (at * 12) 0 ≡ 5
    → f (atom_serials (records_in from end w)) ≡ f (get_or w (at * 12 + 1) 0 ∷ atom_serials (records_in (at + 1) end w))
passed-atom f w from end at s l k = s.same ∙ ap f (atoms-atom w at end l k)

module _ (w : List ℕ) (from end serial at : ℕ) where
  module _ (s : Passed (spans serial) w from end at) where
    pub spans-end : end ≤ at → false ≡ spans serial (atom_serials (records_in from end w))
    spans-end l = sym (s.same ∙ ap (spans serial) (atoms-nil w at end l))

    module _ (l : at < end) (k : get_or w (at * 12) 0 ≡ 5) where
      pub spans-low : serial < get_or w (at * 12 + 1) 0 → false ≡ spans serial (atom_serials (records_in from end w))
      spans-low h = sym (passed-atom (spans serial) w from end at s l k ∙ rw (lt-leb (get_or w (at * 12 + 1) 0) serial h))

      pub spans-atom : (last : ℕ) → get_or w (at * 12 + 1) 0 ≤ serial → last ≡ last_of (get_or w (at * 12 + 1) 0) (atom_serials (records_in (at + 1) end w))
          → leb serial last ≡ spans serial (atom_serials (records_in from end w))
      spans-atom last h e = sym (passed-atom (spans serial) w from end at s l k ∙ rw (le-leb (get_or w (at * 12 + 1) 0) serial h, e))

  module _ (s : Passed (any (eqb serial)) w from end at) where
    pub any-end : end ≤ at → false ≡ any (eqb serial) (atom_serials (records_in from end w))
    any-end l = sym (s.same ∙ ap (any (eqb serial)) (atoms-nil w at end l))

    module _ (l : at < end) (k : get_or w (at * 12) 0 ≡ 5) where
      pub any_here : serial ≡ get_or w (at * 12 + 1) 0 → true ≡ any (eqb serial) (atom_serials (records_in from end w))
      any_here h = sym (passed-atom (any (eqb serial)) w from end at s l k ∙ rw (eq-eqb serial (get_or w (at * 12 + 1) 0) h))

      pub any-pass : (serial ≡ get_or w (at * 12 + 1) 0 → ⊥) → Passed (any (eqb serial)) w from end (at + 1)
      any-pass h = record { high = omega arith; same = passed-atom (any (eqb serial)) w from end at s l k ∙ rw (ne_eqb serial (get_or w (at * 12 + 1) 0) h) }

-- ---- backward: last_serial

pub record Left (w : List ℕ) (from end first at : ℕ) : Type 0 where
  pub low : from ≤ at
  pub room : at * 12 ≤ length w
  pub same : last_of first (atom_serials (records_in from end w)) ≡ last_of first (atom_serials (records_in from at w))

last_snoc : (first : ℕ) (xs : List ℕ) (x : ℕ) → last_of first (xs ++ (x ∷ [])) ≡ x
last_snoc first [] x = refl
last_snoc first (y ∷ ys) x = last_snoc y ys x

last_none : (first : ℕ) (xs : List ℕ) → last_of first (xs ++ []) ≡ last_of first xs
last_none first [] = refl
last_none first (y ∷ ys) = last_none y ys

pub left-begin : (w : List ℕ) (from end first : ℕ) → Within from end w → Left w from end first end
left-begin w from end first b = record { low = b.order; room = b.room; same = refl }

module _ (w : List ℕ) (from end first at : ℕ) (s : Left w from end first at) where
  pub left_end : at ≤ from → first ≡ last_of first (atom_serials (records_in from end w))
  left_end l = sym (s.same ∙ ap (last_of first) (atoms-nil w from at l))

  module _ (l : from < at) where
    split : last_of first (atom_serials (records_in from end w)) ≡ last_of first (atom_serials (records_in from (at - 1) w) ++ atom_serials (record_at (at - 1) w ∷ []))
    split = s.same ∙ ap (λ (rs : List Words). last_of first (atom_serials rs)) (records_in-snoc w from at l) ∙ ap (last_of first) (atoms-append (records_in from (at - 1) w) (record_at (at - 1) w ∷ []))

    pub left-atom : get_or w ((at - 1) * 12) 0 ≡ 5 → get_or w ((at - 1) * 12 + 1) 0 ≡ last_of first (atom_serials (records_in from end w))
    unfolding atom_serials
    left-atom k =
        sym
        (split ∙ rw (record-kind w (at - 1), eq-eqb (get_or w ((at - 1) * 12) 0) 5 k, record-word w (at - 1) 1 (omega arith)) (last_snoc first (atom_serials (records_in from (at - 1) w)) (get_or w ((at - 1) * 12 + 1) 0)))

    pub left_other : (get_or w ((at - 1) * 12) 0 ≡ 5 → ⊥) → Left w from end first (at - 1)
    unfolding atom_serials
    left_other k =
        let r = s.room in
        record {
          low = omega arith;
          room = omega arith;
          same = split ∙ rw (record-kind w (at - 1), ne_eqb (get_or w ((at - 1) * 12) 0) 5 k) (last_none first (atom_serials (records_in from (at - 1) w)));
        }

-- ---- is_wanted

module _ (w : List ℕ) (at stop serial flag : ℕ) (text : List ℕ) where
  abbrev asked : ℕ → Bool → Type 0
  asked level r = r ≡ wanted_records level serial (optional_of flag text) (record_at at w) (records_in (at + 1) stop w)

  pub wanted-atom : (level : ℕ) → level ≡ 0 → asked level (eqb serial (get_or w (at * 12 + 1) 0))
  unfolding wanted_records
  wanted-atom level e = rw (e, record-word w at 1 (omega arith))

  module _ (level : ℕ) (e : level ≡ 1) (a : Bool) (f : a ≡ matches_optional (optional_of flag text) (get_or w (at * 12 + 2) 0)) where
    pub wanted-elsewhere : a ≡ false → asked level false
    unfolding wanted_records
    wanted-elsewhere x = rw (e, record-word w at 2 (omega arith), ← f, x)

    module _ (x : a ≡ true) (b : Bool) (g : b ≡ spans serial (atom_serials (records_in (at + 1) stop w))) where
      pub wanted-outside : b ≡ false → asked level false
      unfolding wanted_records
      wanted-outside y = rw (e, record-word w at 2 (omega arith), ← f, x, ← g, y)

      pub wanted-inside : b ≡ true → (r : Bool) → r ≡ any (eqb serial) (atom_serials (records_in (at + 1) stop w)) → asked level r
      unfolding wanted_records
      wanted-inside y r h = rw (e, record-word w at 2 (omega arith), ← f, x, ← g, y) h

  pub wanted-span : (level : ℕ) (r : Bool) → (level ≡ 0 → ⊥) → (level ≡ 1 → ⊥) → r ≡ spans serial (atom_serials (records_in (at + 1) stop w)) → asked level r
  unfolding wanted_records
  wanted-span zero r m n e = absurd (m refl)
  wanted-span (suc zero) r m n e = absurd (n refl)
  wanted-span (suc (suc level)) r m n e = e
