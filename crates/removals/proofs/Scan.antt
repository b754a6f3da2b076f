-- The scan for the first record that an id names. Assumes nothing.
use Prim.Native.Nat.{ℕ, ◌+◌, ◌*◌, ◌≤◌, ◌<◌}
use mathlib.Core.Path.{◌≡◌, refl, sym, ap, ◌∙◌}
use mathlib.Core.Bool.{Bool, true, false}
use mathlib.Core.List.{List, ◌∷◌}
use native.Mathlib.Nat.{add-zero}
use native.Mathlib.Omega.{arith}
use lib.ListN.{get_or}
use borrow.Author.Tests.{eq-eqb, ne_eqb}
use Rattle.machine.specs.Text.{matches, matches_optional}
use Rattle.machine.specs.Record.{Words}
use Rattle.seek.specs.Seek.{Within, record_at, records_in}
use Rattle.seek.proofs.Below.{record-word, record-kind, records_in-cons, records_in-nil}
use Rattle.removals.specs.Named.{Id, id_of, is_named, sought, count_before}

-- ---- is_named

module _ (kind one two serial : ℕ) (name : List ℕ) (flag : ℕ) (text : List ℕ) where
  abbrev goal : Bool → Type 0
  goal r = r ≡ is_named kind (id_of serial name flag text) one two

  pub named-chain : (r : Bool) → kind ≡ 2 → r ≡ matches name one → goal r
  unfolding is_named
  named-chain r k e = rw (eq-eqb kind 2 k) e

  -- by its name
  pub named-conformer : (x r : Bool) → (kind ≡ 2 → ⊥) → kind ≡ 4 → x ≡ matches name one → x ≡ true → r ≡ matches_optional (record { flag = flag; text = text }) two → goal r
  unfolding is_named
  named-conformer x r n k e t f = rw (ne_eqb kind 2 n, eq-eqb kind 4 k, ← e, t) f

  pub other-conformer : (x : Bool) → (kind ≡ 2 → ⊥) → kind ≡ 4 → x ≡ matches name one → x ≡ false → goal false
  unfolding is_named
  other-conformer x n k e t = rw (ne_eqb kind 2 n, eq-eqb kind 4 k, ← e, t)

  -- by its serial number
  pub named-residue : (r : Bool) → (kind ≡ 2 → ⊥) → (kind ≡ 4 → ⊥) → one ≡ serial → kind ≡ 3 → r ≡ matches_optional (record { flag = flag; text = text }) two → goal r
  unfolding is_named
  named-residue r n o s k f = rw (ne_eqb kind 2 n, ne_eqb kind 4 o, eq-eqb one serial s, eq-eqb kind 3 k) f

  pub named-atom : (kind ≡ 2 → ⊥) → (kind ≡ 4 → ⊥) → one ≡ serial → (kind ≡ 3 → ⊥) → goal true
  unfolding is_named
  named-atom n o s k = rw (ne_eqb kind 2 n, ne_eqb kind 4 o, eq-eqb one serial s, ne_eqb kind 3 k)

  pub other-serial : (kind ≡ 2 → ⊥) → (kind ≡ 4 → ⊥) → (one ≡ serial → ⊥) → goal false
  unfolding is_named
  other-serial n o s = rw (ne_eqb kind 2 n, ne_eqb kind 4 o, ne_eqb one serial s)

-- ---- first_named

-- no record that was passed is the one sought
pub record Passed (w : List ℕ) (from end h : ℕ) (id : Id) (at : ℕ) : Type 0 where
  pub high : at ≤ end
  pub same : from + count_before (sought h id) (records_in from end w) ≡ at + count_before (sought h id) (records_in at end w)

count_before-miss : (p : Words → Bool) (at : ℕ) (r : Words) (rs : List Words) → p r ≡ false → at + count_before p (r ∷ rs) ≡ at + 1 + count_before p rs
unfolding count_before
count_before-miss p at r rs e = rw e (omega arith)

count_before-hit : (p : Words → Bool) (at : ℕ) (r : Words) (rs : List Words) → p r ≡ true → at + count_before p (r ∷ rs) ≡ at
unfolding count_before
count_before-hit p at r rs e = rw e (add-zero at)

module _ (w : List ℕ) (from end h : ℕ) (id : Id) where
  pub passed-begin : Within from end w → Passed w from end h id from
  passed-begin b = record { high = b.order; same = refl }

  module _ (at : ℕ) (s : Passed w from end h id at) where
    pub passed-end : end ≤ at → at ≡ from + count_before (sought h id) (records_in from end w)
    unfolding count_before
    passed-end l = sym (s.same ∙ rw (records_in-nil w end at l, add-zero))

    passed-record : at < end → sought h id (record_at at w) ≡ false → Passed w from end h id (at + 1)
    passed-record l e =
        record {
          high = omega arith;
          same = s.same ∙ ap (λ (rs : List Words). at + count_before (sought h id) rs) (records_in-cons w end at l) ∙ count_before-miss (sought h id) at _ _ e;
        }

    pub passed-kind : at < end → (get_or w (at * 12) 0 ≡ h → ⊥) → Passed w from end h id (at + 1)
    passed-kind l n = passed-record l (rw (record-kind w at, ne_eqb (get_or w (at * 12) 0) h n))

    module _ (l : at < end) (k : get_or w (at * 12) 0 ≡ h) (x : Bool) (e : x ≡ is_named h id (get_or w (at * 12 + 1) 0) (get_or w (at * 12 + 2) 0)) where
      is-sought : sought h id (record_at at w) ≡ x
      is-sought =
          rw (record-kind w at, eq-eqb (get_or w (at * 12) 0) h k, record-word w at 1 (omega arith), record-word w at 2 (omega arith)) (sym e)

      pub passed-other : x ≡ false → Passed w from end h id (at + 1)
      passed-other f = passed-record l (is-sought ∙ f)

      pub passed_here : x ≡ true → at ≡ from + count_before (sought h id) (records_in from end w)
      passed_here t =
          sym (s.same ∙ ap (λ (rs : List Words). at + count_before (sought h id) rs) (records_in-cons w end at l) ∙ count_before-hit (sought h id) at _ _ (is-sought ∙ t))
