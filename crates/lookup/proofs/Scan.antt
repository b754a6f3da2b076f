-- The scan of a level: each turn takes the next branch's records. Assumes nothing.
use Rattle.std.specs.Prelude.{Some, None}
use Prim.Native.Nat.{ℕ, zero, suc, ◌+◌, ◌-◌, ◌≤◌, ◌<◌}
use mathlib.Core.Path.{◌≡◌, refl, sym, ap, ◌∙◌}
use mathlib.Core.Bool.{Bool, true, false}
use mathlib.Core.List.{List, [], ◌∷◌, ◌++◌, append-nil}
use native.Mathlib.Omega.{arith}
use lib.ListN.{length, take, drop, length-append, length-drop}
use lib.Seq.{length-take-le, take-append_seam, drop-append_seam, drop_at, drop-drop, take-add}
use borrow.Author.Tests.{ne_eqb}
use Rattle.machine.specs.Lists.{concat_map}
use Rattle.machine.specs.Text.{Optional}
use Rattle.machine.specs.Record.{Words, words, kind}
use Rattle.machine.specs.Store.{Branch, flat, group, chunks}
use Rattle.machine.specs.Find.{size, numbered}
use Rattle.machine.specs.Edit.{root}
use Rattle.machine.specs.Lookup.{serials}
use Rattle.laws.specs.Grouped.{words-kind, chunks-length}
use Rattle.seek.specs.Seek.{Within, record_at, records_in, descendants, at_child, to_end, span_at}
use Rattle.seek.proofs.Below.{chunks-take, records_in-cons, records_in-nil, child-here, child-span, under, flat-root}
use Rattle.lookup.specs.Level.{wanted, first_wanted, Level, span_wanted, atom_serials, wanted_records}
use Rattle.lookup.proofs.Serials.{atoms-append}

-- ---- a branch's records

atoms-concat_map : {A : Type 0} (f : A → List Words) (g : A → List ℕ) → ((x : A) → atom_serials (f x) ≡ g x) → (xs : List A) → atom_serials (concat_map f xs) ≡ concat_map g xs
unfolding atom_serials
atoms-concat_map f g e [] = refl
atoms-concat_map f g e (x ∷ xs) = atoms-append (f x) (concat_map f xs) ∙ rw (e x, atoms-concat_map f g e xs)

atoms-flat : (k : ℕ) → k ≤ 4 → (t : Branch k) → atom_serials (flat k t) ≡ serials k t
unfolding atom_serials flat serials words
atoms-flat zero l t = refl
atoms-flat (suc k) l t = rw (ne_eqb (kind (words (suc k) t.0)) 5 (λ q. omega (arith, words-kind (suc k) l t.0))) (atoms-concat_map (flat k) (serials k) (atoms-flat k (omega arith)) t.1)

atoms-under : (k : ℕ) → k ≤ 3 → (t : Branch (suc k)) → atom_serials (under (suc k) t) ≡ serials (suc k) t
unfolding serials
atoms-under k l t = atoms-concat_map (flat k) (serials k) (atoms-flat k (omega arith)) t.1

-- what is asked of a branch is asked of its records
wanted-records : (k : ℕ) → k ≤ 3 → (serial : ℕ) (o : Optional) (t : Branch k) → wanted_records k serial o (words k (root k t)) (under k t) ≡ wanted k serial o t
unfolding wanted wanted_records words
wanted-records zero l serial o t = refl
wanted-records (suc zero) l serial o t = rw (atoms-under 0 (omega arith) t)
wanted-records (suc (suc k)) l serial o t = rw (atoms-under (suc k) (omega arith) t)

-- ---- the next branch

-- from number `at` on, up to `stop`, stand the records of the first of the branches left
pub record Next (k : ℕ) (w : List ℕ) (end at stop : ℕ) (left : List (Branch k)) : Type 0 where
  pub branch : Branch k
  pub more : List (Branch k)
  pub left_is : left ≡ branch ∷ more
  pub stop_is : stop ≡ at + size k branch
  pub past : at < stop
  pub high : stop ≤ end
  pub own : record_at at w ≡ words k (root k branch)
  pub below : records_in (at + 1) stop w ≡ under k branch
  pub rest : records_in stop end w ≡ concat_map (flat k) more

-- a part of the records, by what stands before and after it
pub record Part (w : List ℕ) (from end stop : ℕ) (b rest : List Words) : Type 0 where
  pub high : stop ≤ end
  pub is : records_in from stop w ≡ b
  pub after : records_in stop end w ≡ rest

pub part_of : (w : List ℕ) (from end stop : ℕ) (b rest : List Words) → from ≤ end → records_in from end w ≡ b ++ rest → stop ≡ from + length b → Part w from end stop b rest
part_of w from end stop b rest o e s =
    let c = chunks end w in
    let m = chunks-length end w in
    let n : stop ≤ end = omega (arith, ap length e, length-append b rest, length-drop from c) in
    let f : length (take from c) ≡ from = length-take-le from c (omega arith) in
    let t : take stop c ≡ take from c ++ b = ap (λ (x : ℕ). take x c) s ∙ take-add from (length b) c ∙ ap (λ (l : List Words). take from c ++ take (length b) l) e ∙ ap (λ (l : List Words). take from c ++ l) (take-append_seam b rest) in
    record {
      high = n;
      is = ap (drop from) (chunks-take stop end w n ∙ t) ∙ drop_at (take from c) b from f;
      after = ap (λ (x : ℕ). drop x c) s ∙ sym (drop-drop (length b) from c) ∙ ap (drop (length b)) e ∙ drop-append_seam b rest;
    }

-- where a branch's records end
stop-at : (g k : ℕ) → g + k ≡ 4 → (at : ℕ) (t : Branch k) (more : List (Branch k)) → suc at + descendants (suc g) (under k t ++ concat_map (flat k) more) ≡ at + size k t
unfolding numbered span_at
stop-at g k l at t more =
    let rs = under k t ++ concat_map (flat k) more in
    let a : at_child (suc g) 0 (to_end (suc g)) at (words k (root k t) ∷ rs) ≡ Some (at, suc at + descendants (suc g) rs) = child-here (suc g) (to_end (suc g)) at (words k (root k t)) rs (omega (arith, words-kind k (omega arith) (root k t))) in
    let b : at_child (suc g) 0 (to_end (suc g)) at (words k (root k t) ∷ rs) ≡ Some (at, at + suc (length (under k t))) = rw (append-nil, flat-root k t) at (child-span g k l 0 at (t ∷ more) [] tt) in
    let c : ◌≡◌ {A = ℕ × ℕ} (at, suc at + descendants (suc g) rs) (at, at + suc (length (under k t))) = cc in
    ap (λ (z : ℕ × ℕ). z.1) c ∙ rw (flat-root k t)

pub next-branch : (k : ℕ) → k ≤ 4 → (w : List ℕ) (end at stop : ℕ) (left : List (Branch k)) → at < end → records_in at end w ≡ concat_map (flat k) left
    → stop ≡ at + 1 + descendants (5 - k) (records_in (at + 1) end w) → Next k w end at stop left
next-branch k l w end at stop [] h e s = let z = ap length (sym (records_in-cons w end at h) ∙ e) in absurd (omega arith)
next-branch k l w end at stop (t ∷ more) h e s =
    let rs = under k t ++ concat_map (flat k) more in
    let q : record_at at w ∷ records_in (at + 1) end w ≡ words k (root k t) ∷ rs = sym (records_in-cons w end at h) ∙ e ∙ rw (flat-root k t) in
    let a : record_at at w ≡ words k (root k t) = cc in
    let b : records_in (at + 1) end w ≡ rs = cc in
    let g : 5 - k ≡ suc (4 - k) = omega arith in
    let z : suc at + descendants (suc (4 - k)) rs ≡ at + size k t = stop-at (4 - k) k (omega arith) at t more in
    let n : stop ≡ at + size k t = s ∙ rw (b, g) (omega arith) in
    let u : size k t ≡ suc (length (under k t)) = ap length (flat-root k t) in
    let p = part_of w (at + 1) end stop (under k t) (concat_map (flat k) more) (omega arith) b (omega arith) in
    record { branch = t; more = more; left_is = refl; stop_is = n; past = omega arith; high = p.high; own = a; below = p.is; rest = p.after }

-- ---- first_in

-- no branch that was passed is wanted
pub record Looked (k serial : ℕ) (o : Optional) (w : List ℕ) (from end at : ℕ) : Type 0 where
  pub high : at ≤ end
  pub left : List (Branch k)
  pub rest : records_in at end w ≡ concat_map (flat k) left
  pub same : first_wanted k serial o from (group k (records_in from end w)) ≡ first_wanted k serial o at left

first-hit : (k serial : ℕ) (o : Optional) (n : ℕ) (t : Branch k) (ts : List (Branch k)) → wanted k serial o t ≡ true → first_wanted k serial o n (t ∷ ts) ≡ Some (n, t)
unfolding numbered
first-hit k serial o n t ts e = rw e

first-miss : (k serial : ℕ) (o : Optional) (n : ℕ) (t : Branch k) (ts : List (Branch k)) → wanted k serial o t ≡ false → first_wanted k serial o n (t ∷ ts) ≡ first_wanted k serial o (n + size k t) ts
unfolding numbered
first-miss k serial o n t ts e = rw e

pub none_left : (k : ℕ) (ts : List (Branch k)) → [] ≡ concat_map (flat k) ts → ts ≡ []
none_left k [] e = refl
none_left k (t ∷ ts) e = absurd (omega (arith, ap length e, length-append (flat k t) (concat_map (flat k) ts), ap length (flat-root k t)))

module _ (k serial : ℕ) (o : Optional) (w : List ℕ) (from end : ℕ) (p : Level k from end w) where
  pub looked-begin : Looked k serial o w from end from
  looked-begin = record { high = p.within.order; left = group k (records_in from end w); rest = p.whole; same = refl }

  module _ (at : ℕ) (s : Looked k serial o w from end at) where
    pub looked-end : end ≤ at → None ≡ span_wanted k serial o from end w
    unfolding numbered
    looked-end l = rw (s.same ∙ ap (first_wanted k serial o at) (none_left k s.left (sym (records_in-nil w end at l) ∙ s.rest)))

    module _ (l : at < end) (stop : ℕ) (e : stop ≡ at + 1 + descendants (5 - k) (records_in (at + 1) end w)) where
      here : Next k w end at stop s.left
      here = next-branch k (omega (arith, p.level)) w end at stop s.left l s.rest e

      pub looked-within : Within (at + 1) stop w
      looked-within =
          let h = here in
          let b = p.within.room in
          record { order = omega (arith, h.past); room = omega (arith, h.high) }

      asked : (r : Bool) → r ≡ wanted_records k serial o (record_at at w) (records_in (at + 1) stop w) → r ≡ wanted k serial o here.branch
      asked r f = f ∙ rw (here.own, here.below) (wanted-records k p.level serial o here.branch)

      pub looked-here : (r : Bool) → r ≡ wanted_records k serial o (record_at at w) (records_in (at + 1) stop w) → r ≡ true → (Some (at, stop)) ≡ span_wanted k serial o from end w
      looked-here r f t =
          let h = here in
          let q : first_wanted k serial o from (group k (records_in from end w)) ≡ Some (at, h.branch) = s.same ∙ ap (first_wanted k serial o at) h.left_is ∙ first-hit k serial o at h.branch h.more (sym (asked r f) ∙ t) in
          ap (λ (n : ℕ). (Some (at, n))) h.stop_is ∙ rw q

      pub looked-on : (r : Bool) → r ≡ wanted_records k serial o (record_at at w) (records_in (at + 1) stop w) → r ≡ false → Looked k serial o w from end stop
      looked-on r f t =
          let h = here in
          record {
            high = h.high;
            left = h.more;
            rest = h.rest;
            same = s.same ∙ ap (first_wanted k serial o at) h.left_is ∙ first-miss k serial o at h.branch h.more (sym (asked r f) ∙ t) ∙ ap (λ (n : ℕ). first_wanted k serial o n h.more) (sym h.stop_is);
          }

      pub looked-less : end - stop < end - at
      looked-less = omega (arith, here.past, here.high)
