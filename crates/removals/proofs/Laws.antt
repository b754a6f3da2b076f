-- What each return gives, by the position's length. Assumes nothing.
use Rattle.machine.specs.declared.Edited.{Edited}
use Rattle.std.specs.Prelude.{Err, None, Ok, Option, Some}
use Prim.Native.Nat.{ℕ, suc, ◌+◌, ◌-◌, ◌*◌, ◌≤◌, ◌<◌}
use mathlib.Core.Path.{◌≡◌, refl, sym, ap, ◌∙◌}
use mathlib.Core.Bool.{Bool, and-true}
use mathlib.Core.List.{List, [], ◌∷◌}
use native.Mathlib.Omega.{arith}
use lib.ListN.{length, drop, set}
use lib.Seq.{drop-drop}
use borrow.Author.Tests.{eq-eqb, le-leb, lt-leb, ne_eqb}
use Rattle.machine.specs.Lists.{concat_map, first_where, splice}
use Rattle.machine.specs.Answer.{Result, bad_name, edited_numbers}
use Rattle.machine.specs.Record.{Fields, words, kind}
use Rattle.machine.specs.Store.{Branch, Machine, flat, records, stored, end, chunks}
use Rattle.machine.specs.Edit.{up, branch_at, remove_at, replace_at, root, with_children, remove_first, with_machine, with_found, step_by}
use Rattle.machine.specs.declared.Refusal.{Refusal}
use Rattle.machine.specs.declared.Refusal.TheVariants.{NoPosition}
use Rattle.machine.specs.declared.Name.TheVariants.{InsertionCode, AlternativeLocation}
use Rattle.laws.specs.Layout.{lay_out-read}
use Rattle.moves.specs.Over.{taken_out}
use Rattle.seek.specs.Seek.{Good, Within, held, records_in, descendants, atom_records, span_at, span}
use Rattle.seek.proofs.Below.{records_in-cons}
use Rattle.seek.proofs.Laws.{Stands, missing, stands, stands-within, stands_records}
use Rattle.removals.specs.Removal.{Removable, without_records, removal_on, removal}
use Rattle.removals.specs.Named.{Id, id_of, is_named, sought, count_before, names, bad_flag, flag_of, first_on, first_removal}
use Rattle.removals.proofs.Cut.{CutOut, cut-removable, cut_step, cut-branch}
use Rattle.removals.proofs.First.{child-low, child-stop, cut-child, Picked, picked}

-- ---- remove_span

pub span-words : (w x : List ℕ) (p q : ℕ) → x ≡ taken_out (12 * p) (12 * q) (end w) w → set x (length w - 1) (end w - 12 * (q - p)) ≡ without_records p q w
unfolding without_records
span-words w x p q e = rw e

-- ---- positions

-- a call by a position: where the position stands nowhere it is refused
record ByPosition {A : Type 0} (s : Option (ℕ × ℕ)) (r : Result A) (Found : ℕ → ℕ → Type 0) : Type 0 where
  missing : s ≡ None → r ≡ Err NoPosition
  found : (p q : ℕ) → s ≡ Some (p, q) → Found p q

-- ---- remove_at

-- an accepted removal, by the records that go
record Removes (k : ℕ) (ts : List (Branch k)) (r : Result (List (Branch k))) (p q : ℕ) : Type 0 where
  after : List (Branch k)
  accepted : r ≡ Ok after
  cut : CutOut (concat_map (flat k) ts) (concat_map (flat k) after) p q

removes : (d j : ℕ) (pos : List ℕ) (ts : List (Branch (up d j))) → ByPosition (span_at d j pos 0 ts) (remove_at d j pos ts) (Removes (up d j) ts (remove_at d j pos ts))
unfolding remove_at
removes d j pos ts =
    record {
      missing = λ e. rw (missing d j pos 0 ts e);
      found = λ p q e.
          let s = stands d j pos 0 ts p q e in
          record { after = replace_at d j pos [] ts; accepted = rw s.there; cut = cut-branch d j pos ts p q s };
    }

removed-at : (pos : List ℕ) (m : Machine) → 2 ≤ length pos → length pos ≤ 5 → ByPosition (span pos m) (removal_on (length pos) pos m) (Removes 4 m (removal_on (length pos) pos m))
removed-at [] m lo hi = absurd (omega arith)
removed-at (i ∷ []) m lo hi = absurd (omega arith)
removed-at (i ∷ (c ∷ [])) m lo hi = removes 1 3 _ m
removed-at (i ∷ (c ∷ (r ∷ []))) m lo hi = removes 2 2 _ m
removed-at (i ∷ (c ∷ (r ∷ (f ∷ [])))) m lo hi = removes 3 1 _ m
removed-at (i ∷ (c ∷ (r ∷ (f ∷ (a ∷ []))))) m lo hi = removes 4 0 _ m
removed-at (i ∷ (c ∷ (r ∷ (f ∷ (a ∷ (x ∷ is)))))) m lo hi = absurd (omega arith)

module _ (w pos : List ℕ) (g : Good w) (lo : 2 ≤ length pos) (hi : length pos ≤ 5) (r : Option (ℕ × ℕ)) (e : r ≡ span pos (held w)) where
  pub at-missing : r ≡ None → (edited_numbers (Err NoPosition), w) ≡ step_by w (removal pos)
  unfolding step_by
  at-missing f = rw (g, (removed-at pos (held w) lo hi).missing (sym e ∙ f))

  module _ (p q : ℕ) (f : r ≡ Some (p, q)) where
    pub at-removable : Removable p q w
    at-removable = let s = (removed-at pos (held w) lo hi).found p q (sym e ∙ f) in cut-removable w g s.after p q s.cut

    pub at-removed : (n : ℕ) (v : List ℕ) → n ≡ atom_records (records_in p q w) → v ≡ without_records p q w
        → (edited_numbers (Ok (record { found = 1; removed = n })), v) ≡ step_by w (removal pos)
    at-removed n v a b =
        let s = (removed-at pos (held w) lo hi).found p q (sym e ∙ f) in
        cut_step w g s.after p q s.cut (removal pos) (ap with_machine s.accepted) n v a b

-- ---- remove_first

pub code-flag : (h : ℕ) (r : Refusal) → h ≡ 3 → r ≡ bad_name InsertionCode → r ≡ bad_flag h
code-flag h r k e = rw (eq-eqb h 3 k) e

pub location-flag : (h : ℕ) (r : Refusal) → (h ≡ 3 → ⊥) → r ≡ bad_name AlternativeLocation → r ≡ bad_flag h
location-flag h r k e = rw (ne_eqb h 3 k) e

-- the child that goes, by the records from number at up to stop
record Loses (k : ℕ) (ts : List (Branch k)) (r : Result (ℕ × List (Branch k))) (at stop : ℕ) : Type 0 where
  after : List (Branch k)
  accepted : r ≡ Ok (1, after)
  cut : CutOut (concat_map (flat k) ts) (concat_map (flat k) after) at stop

-- below the parent's record p and up to q
record BelowParent (w : List ℕ) (h : ℕ) (id : Id) (k : ℕ) (ts : List (Branch k)) (r : Result (ℕ × List (Branch k))) (p q : ℕ) : Type 0 where
  within : Within (p + 1) q w
  flagged : (x : Refusal) → flag_of h id ≡ Err x → r ≡ Err x
  unfound : (at : ℕ) → flag_of h id ≡ Ok tt → at ≡ p + 1 + count_before (sought h id) (records_in (p + 1) q w) → q ≤ at → r ≡ Ok (0, ts)
  lost : (at stop : ℕ) → flag_of h id ≡ Ok tt → at ≡ p + 1 + count_before (sought h id) (records_in (p + 1) q w) → at < q → stop ≡ at + 1 + descendants h (records_in (at + 1) q w)
      → Loses k ts r at stop

module _ (d j : ℕ) (pos : List ℕ) (flag : Result (Unit {0})) (f : Fields j → Bool) (ts : List (Branch (up d (suc j)))) (t : Branch (suc j)) (there : branch_at d (suc j) pos ts ≡ Some t) where
  first-refused : (x : Refusal) → flag ≡ Err x → remove_first d j pos flag f ts ≡ Err x
  unfolding remove_first
  first-refused x e = rw (there, e)

  first-none : flag ≡ Ok tt → first_where (λ u. f (root j u)) t.1 ≡ None → remove_first d j pos flag f ts ≡ Ok (0, ts)
  unfolding remove_first
  first-none e n = rw (there, e, n)

  first_some : (i : ℕ) → flag ≡ Ok tt → first_where (λ u. f (root j u)) t.1 ≡ Some i → remove_first d j pos flag f ts ≡ Ok (1, with_children d j pos t (splice i (λ u. []) t.1) ts)
  unfolding remove_first
  first_some i e n = rw (there, e, n)

module _ (w : List ℕ) (g : Good w) (d j : ℕ) (pos : List ℕ) (ts : List (Branch (up d (suc j)))) (whole : records (held w) ≡ concat_map (flat (up d (suc j))) ts)
    (h : ℕ) (level : h + j ≡ 5) (one : 1 ≤ h) (id : Id) (f : Fields j → Bool) (agree : (x : Fields j) → sought h id (words j x) ≡ f x) where
  abbrev result : Result (ℕ × List (Branch (up d (suc j))))
  result = remove_first d j pos (flag_of h id) f ts

  module _ (p q : ℕ) (s : Stands d (suc j) pos 0 ts p q) where
    abbrev kids : List (Branch j)
    kids = s.branch.1

    ends : q ≡ p + 1 + length (concat_map (flat j) kids)
    unfolding flat
    ends = omega (arith, s.last)

    kids-records : records_in (p + 1) q w ≡ concat_map (flat j) kids
    unfolding flat
    kids-records =
        let e = sym (records_in-cons w q p (omega (arith, ends))) ∙ stands_records w g d (suc j) pos ts p q whole s in
        ap (drop 1) e

    pick : Picked j (first_where (λ u. f (root j u)) kids) kids (count_before (sought h id) (records_in (p + 1) q w))
    pick = rw kids-records (picked h j level f (sought h id) agree (λ r l. rw (ne_eqb (kind r) h (λ e. omega arith))) kids)

    not_found : (o : Option ℕ) (at : ℕ) → first_where (λ u. f (root j u)) kids ≡ o → Picked j o kids (count_before (sought h id) (records_in (p + 1) q w)) → flag_of h id ≡ Ok tt
        → at ≡ p + 1 + count_before (sought h id) (records_in (p + 1) q w) → q ≤ at → result ≡ Ok (0, ts)
    not_found None at e x fl a l = first-none d j pos (flag_of h id) f ts s.branch s.there fl e
    not_found (Some i) at e x fl a l = absurd (omega (arith, ends, child-low j kids i _ x))

    loses : (o : Option ℕ) (at stop : ℕ) → first_where (λ u. f (root j u)) kids ≡ o → Picked j o kids (count_before (sought h id) (records_in (p + 1) q w)) → flag_of h id ≡ Ok tt
        → at ≡ p + 1 + count_before (sought h id) (records_in (p + 1) q w) → at < q → stop ≡ at + 1 + descendants h (records_in (at + 1) q w) → Loses (up d (suc j)) ts result at stop
    loses None at stop e x fl a l b = absurd (omega (arith, ends, x))
    loses (Some i) at stop e x fl a l b =
        let o = count_before (sought h id) (records_in (p + 1) q w) in
        let n : p + 1 + suc o ≡ at + 1 = omega arith in
        let c : records_in (at + 1) q w ≡ drop (suc o) (concat_map (flat j) kids) = rw (← n, ← kids-records) (sym (drop-drop (suc o) (p + 1) (chunks q w))) in
        let z : descendants h (records_in (at + 1) q w) ≡ descendants h (drop (suc o) (concat_map (flat j) kids)) = ap (descendants h) c in
        record {
          after = _;
          accepted = first_some d j pos (flag_of h id) f ts s.branch s.there i fl e;
          cut = cut-child d j pos ts p q s i o x at stop a (omega (arith, child-stop j kids i o x h level one));
        }

    below-parent : BelowParent w h id (up d (suc j)) ts result p q
    below-parent =
        record {
          within = record { order = omega (arith, ends); room = (stands-within w g d (suc j) pos ts p q whole s).room };
          flagged = first-refused d j pos (flag_of h id) f ts s.branch s.there;
          unfound = λ at. not_found _ at refl pick;
          lost = λ at stop. loses _ at stop refl pick;
        }

  first_by : ByPosition (span_at d (suc j) pos 0 ts) result (BelowParent w h id (up d (suc j)) ts result)
  unfolding remove_first
  first_by =
      record {
        missing = λ e. rw (missing d (suc j) pos 0 ts e);
        found = λ p q e. below-parent p q (stands d (suc j) pos 0 ts p q e);
      }

-- a record of each kind, by its words
first-at : (w pos : List ℕ) (id : Id) → Good w → 1 ≤ length pos → length pos ≤ 4
    → ByPosition (span pos (held w)) (first_on (length pos) pos id (held w)) (BelowParent w (length pos + 1) id 4 (held w) (first_on (length pos) pos id (held w)))
unfolding is_named words
first-at w [] id g lo hi = absurd (omega arith)
first-at w (i ∷ []) id g lo hi = first_by w g 0 3 _ (held w) refl 2 refl (omega arith) id (names 3 id) (λ x. refl)
first-at w (i ∷ (c ∷ [])) id g lo hi = first_by w g 1 2 _ (held w) refl 3 refl (omega arith) id (names 2 id) (λ x. refl)
first-at w (i ∷ (c ∷ (r ∷ []))) id g lo hi = first_by w g 2 1 _ (held w) refl 4 refl (omega arith) id (names 1 id) (λ x. refl)
first-at w (i ∷ (c ∷ (r ∷ (f ∷ [])))) id g lo hi = first_by w g 3 0 _ (held w) refl 5 refl (omega arith) id (names 0 id) (λ x. and-true _)
first-at w (i ∷ (c ∷ (r ∷ (f ∷ (x ∷ is))))) id g lo hi = absurd (omega arith)

abbrev Outcome : List ℕ → List ℕ → Id → Result Edited → List ℕ → Type 0
Outcome w pos id r v = (edited_numbers r, v) ≡ step_by w (first_removal pos id)

pub first-missing : (w pos : List ℕ) (serial : ℕ) (name : List ℕ) (flag : ℕ) (text : List ℕ) → Good w → 1 ≤ length pos → length pos ≤ 4 → (r : Option (ℕ × ℕ)) → r ≡ span pos (held w)
    → r ≡ None → Outcome w pos (id_of serial name flag text) (Err NoPosition) w
unfolding step_by
first-missing w pos serial name flag text g lo hi r e f = rw (g, (first-at w pos (id_of serial name flag text) g lo hi).missing (sym e ∙ f))

-- the parent's records
pub record Parent (w pos : List ℕ) (p q : ℕ) : Type 0 where
  pub good : Good w
  pub low : 1 ≤ length pos
  pub high : length pos ≤ 4
  pub there : (span pos (held w)) ≡ Some (p, q)

pub parent : (w pos : List ℕ) → Good w → 1 ≤ length pos → length pos ≤ 4 → (r : Option (ℕ × ℕ)) → r ≡ span pos (held w) → (p q : ℕ) → r ≡ Some (p, q) → Parent w pos p q
parent w pos g lo hi r e p q f = record { good = g; low = lo; high = hi; there = sym e ∙ f }

module _ {w pos : List ℕ} {p q : ℕ} (s : Parent w pos p q) (serial : ℕ) (name : List ℕ) (flag : ℕ) (text : List ℕ) where
  abbrev given : Id
  given = id_of serial name flag text

  below : BelowParent w (length pos + 1) given 4 (held w) (first_on (length pos) pos given (held w)) p q
  below = (first-at w pos given s.good s.low s.high).found p q s.there

  pub first-within : Within (p + 1) q w
  first-within = below.within

  pub first-flag : (x : Refusal) → 1 < flag → x ≡ bad_flag (length pos + 1) → Outcome w pos given (Err x) w
  unfolding step_by
  first-flag x l e = rw (s.good, below.flagged x (rw (lt-leb flag 1 l, e)))

  module _ (l : flag ≤ 1) (at : ℕ) (a : at ≡ p + 1 + count_before (sought (length pos + 1) given) (records_in (p + 1) q w)) where
    good-flag : flag_of (length pos + 1) given ≡ Ok tt
    good-flag = rw (le-leb flag 1 l)

    -- "None found: found 0"
    pub first-unfound : q ≤ at → Outcome w pos given (Ok (record { found = 0; removed = 0 })) w
    unfolding step_by
    first-unfound b =
        let z : stored (held w) - stored (held w) ≡ 0 = omega arith in
        rw (s.good, below.unfound at good-flag a b, lay_out-read w (held w) s.good, z)

    module _ (b : at < q) (stop : ℕ) (c : stop ≡ at + 1 + descendants (length pos + 1) (records_in (at + 1) q w)) where
      lost-child : Loses 4 (held w) (first_on (length pos) pos given (held w)) at stop
      lost-child = below.lost at stop good-flag a b c

      pub first-removable : Removable at stop w
      first-removable = let t = lost-child in cut-removable w s.good t.after at stop t.cut

      pub first-removed : (n : ℕ) (v : List ℕ) → n ≡ atom_records (records_in at stop w) → v ≡ without_records at stop w → Outcome w pos given (Ok (record { found = 1; removed = n })) v
      first-removed n v x y = let t = lost-child in cut_step w s.good t.after at stop t.cut (first_removal pos given) (ap with_found t.accepted) n v x y
