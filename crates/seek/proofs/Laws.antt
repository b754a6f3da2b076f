-- Laws of where records stand in a good store, for the crates that ask. Assumes nothing.
use Rattle.std.specs.Prelude.{None, Ok, Option, Some}
use Prim.Native.Nat.{ℕ, zero, suc, ◌+◌, ◌/◌, ◌≤◌, ◌<◌}
use mathlib.Core.Path.{◌≡◌, refl, sym, ap, ◌∙◌}
use mathlib.Core.Bool.{false}
use mathlib.Core.List.{List, [], ◌∷◌, ◌++◌, append_assoc}
use native.Mathlib.Nat.{zero-add}
use native.Mathlib.Omega.{arith}
use lib.ListN.{length, length-append}
use lib.Seq.{take_at, drop_at}
use lib.Dec.{eqb}
use borrow.Author.Tests.{ne_eqb}
use Rattle.machine.specs.Lists.{concat_map, nth, and_then}
use Rattle.machine.specs.Record.{Words, words, kind}
use Rattle.machine.specs.Store.{Branch, Machine, flat, records, atom_count, stored, end, group, read_store}
use Rattle.machine.specs.Find.{size, numbered}
use Rattle.machine.specs.Edit.{up, branch_at, replace_at}
use Rattle.laws.specs.Lists.{and-then, concat_map-append, sum-concat_map}
use Rattle.laws.specs.Grouped.{words-kind, group-flats, chunks-length}
use Rattle.laws.specs.Layout.{records-read, read-parts}
use Rattle.laws.specs.Numbers.{nth-numbered, no-numbered}
use Rattle.laws.specs.Places.{around, Spot}
use Rattle.seek.specs.Seek.{held, Good, Within, records_in, is_atom, atom_records, span_at}
use Rattle.seek.proofs.Below.{chunks-take, flat-root}

-- ---- a good store

-- a store that is read holds what it is read to, and has as many records as its trailer says
module _ (w : List ℕ) (m : Machine) (h : read_store w ≡ Ok m) where
  pub held-is : held w ≡ m
  held-is = ap (group 4) (sym (records-read w m h)) ∙ group-flats 4 (omega arith) m

  pub good-store : Good w
  good-store = rw held-is h

  pub records-count : length (records m) ≡ end w / 12
  records-count = ap length (records-read w m h) ∙ chunks-length (end w / 12) w

-- ---- the branch at a position

-- how many records there are, with those of the branch at a position
pub spot-length : (d j : ℕ) (pos : List ℕ) (ts : List (Branch (up d j))) (t : Branch j) (s : Spot d j pos ts t)
    → length (concat_map (flat (up d j)) ts) ≡ length s.pre + (size j t + length s.post)
spot-length d j pos ts t s =
    ap length s.was ∙ length-append s.pre (flat j t ++ s.post) ∙ ap (λ (z : ℕ). length s.pre + z) (length-append (flat j t) s.post)

-- the branch at a position: its records among all, and the numbers from start up to stop that they have
pub record Stands (d j : ℕ) (pos : List ℕ) (n : ℕ) (ts : List (Branch (up d j))) (start stop : ℕ) : Type 0 where
  pub branch : Branch j
  pub there : branch_at d j pos ts ≡ Some branch
  pub spot : Spot d j pos ts branch
  pub first : start ≡ n + length spot.pre
  pub last : stop ≡ start + size j branch

-- where it is found, its span is that of its records
pub record Stood (d j : ℕ) (pos : List ℕ) (n : ℕ) (ts : List (Branch (up d j))) (t : Branch j) : Type 0 where
  pub spot : Spot d j pos ts t
  pub span : span_at d j pos n ts ≡ Some (n + length spot.pre, n + length spot.pre + size j t)

-- the records around one branch's child
flats-below : (k : ℕ) (before after : List (Branch (suc k))) (u : Branch (suc k)) (ts : List (Branch (suc k))) (pre mid post : List Words)
    → ts ≡ before ++ (u ∷ after) → concat_map (flat k) u.1 ≡ pre ++ (mid ++ post)
    → concat_map (flat (suc k)) ts ≡ (concat_map (flat (suc k)) before ++ (words (suc k) u.0 ∷ pre)) ++ (mid ++ (post ++ concat_map (flat (suc k)) after))
unfolding flat
flats-below k before after u ts pre mid post e f = rw (e, concat_map-append (flat (suc k)) before (u ∷ after), f) (simp append_assoc)

-- a child's span is that of the whole position
span-down : (d j i : ℕ) (is : List ℕ) (n : ℕ) (ts : List (Branch (suc (up d j)))) (u : ℕ × Branch (suc (up d j))) (a b c : ℕ)
    → nth i (numbered (suc (up d j)) n ts) ≡ Some u → span_at d j is (suc u.0) u.1.1 ≡ Some (a, a + c) → a ≡ b → span_at (suc d) j (i ∷ is) n ts ≡ Some (b, b + c)
unfolding span_at
span-down d j i is n ts u a b c e f q = rw (e, f, q)

pub span-some : (d j : ℕ) (pos : List ℕ) (n : ℕ) (ts : List (Branch (up d j))) (t : Branch j) → branch_at d j pos ts ≡ Some t → Stood d j pos n ts t
unfolding branch_at replace_at span_at flat
span-some d j [] n ts t e = let z : ◌≡◌ {A = ℕ} 0 1 = cc in absurd (omega arith)
span-some zero j (i ∷ is) n ts t e =
    let a = around i ts t e in
    record {
      spot = record {
        pre = concat_map (flat j) a.before;
        post = concat_map (flat j) a.after;
        was = ap (concat_map (flat j)) a.was ∙ concat_map-append (flat j) a.before (t ∷ a.after);
        is = λ new. ap (concat_map (flat j)) (a.is (λ u. new)) ∙ simp concat_map-append;
      };
      span = rw (nth-numbered j i n ts t e);
    }
span-some (suc d) j (i ∷ is) n ts t e =
    let k = suc (up d j) in
    let s = and-then (nth i ts) (λ u. branch_at d j is u.1) t e in
    let u = s.0 in
    let a = around i ts u s.1 in
    let lead = concat_map (flat k) a.before in
    let below = span-some d j is (suc (n + length lead)) u.1 t s.2 in
    let b = below.spot in
    let p : suc (n + length lead) + length b.pre ≡ n + length (lead ++ (words k u.0 ∷ b.pre)) = omega (arith, length-append lead (words k u.0 ∷ b.pre)) in
    record {
      spot = record {
        pre = lead ++ (words k u.0 ∷ b.pre);
        post = b.post ++ concat_map (flat k) a.after;
        was = flats-below (up d j) a.before a.after u ts b.pre (flat j t) b.post a.was b.was;
        is = λ new. flats-below (up d j) a.before a.after (u.0, replace_at d j is new u.1) _ b.pre (concat_map (flat j) new) b.post (a.is (λ v. (v.0, replace_at d j is new v.1) ∷ [])) (b.is new);
      };
      span = span-down d j i is n ts _ _ _ (size j t) (nth-numbered k i n ts u s.1) below.span p;
    }

-- "5 no such position" is where there is no span
pub span_none : (d j : ℕ) (pos : List ℕ) (n : ℕ) (ts : List (Branch (up d j))) → branch_at d j pos ts ≡ None → span_at d j pos n ts ≡ None
unfolding branch_at span_at
span_none d j [] n ts e = refl
span_none zero j (i ∷ is) n ts e = rw (no-numbered j i n ts e)
span_none (suc d) j (i ∷ is) n ts e = go (λ m us. span_none d j is m us) (nth i ts) refl e
  where
    go : ((m : ℕ) (us : List (Branch (up d j))) → branch_at d j is us ≡ None → span_at d j is m us ≡ None)
        → (o : Option (Branch (suc (up d j)))) → nth i ts ≡ o → and_then o (λ t. branch_at d j is t.1) ≡ None
        → and_then (nth i (numbered (suc (up d j)) n ts)) (λ t. span_at d j is (suc t.0) t.1.1) ≡ None
    go below None q p = rw (no-numbered (suc (up d j)) i n ts q)
    go below (Some t) q p = rw (nth-numbered (suc (up d j)) i n ts t q) (below _ t.1 p)

-- what the answers tell
module _ (d j : ℕ) (pos : List ℕ) (n : ℕ) (ts : List (Branch (up d j))) where
  pub missing : span_at d j pos n ts ≡ None → branch_at d j pos ts ≡ None
  missing e = go (branch_at d j pos ts) refl
    where
      go : (o : Option (Branch j)) → branch_at d j pos ts ≡ o → branch_at d j pos ts ≡ None
      go None q = q
      go (Some t) q = let s = (span-some d j pos n ts t q).span in let z : ◌≡◌ {A = ℕ} 0 1 = cc in absurd (omega arith)

  pub stands : (start stop : ℕ) → span_at d j pos n ts ≡ Some (start, stop) → Stands d j pos n ts start stop
  stands start stop e = go (branch_at d j pos ts) refl
    where
      go : (o : Option (Branch j)) → branch_at d j pos ts ≡ o → Stands d j pos n ts start stop
      go None q = let s = span_none d j pos n ts q in let z : ◌≡◌ {A = ℕ} 0 1 = cc in absurd (omega arith)
      go (Some t) q =
          let s = span-some d j pos n ts t q in
          let f = s.span in
          let p : ◌≡◌ {A = ℕ × ℕ} (start, stop) (n + length s.spot.pre, n + length s.spot.pre + size j t) = cc in
          let x : start ≡ n + length s.spot.pre = ap (λ (z : ℕ × ℕ). z.0) p in
          let y : stop ≡ n + length s.spot.pre + size j t = ap (λ (z : ℕ × ℕ). z.1) p in
          record { branch = t; there = q; spot = s.spot; first = x; last = y ∙ rw x }

-- ---- two positions

numbered-low : (k i n : ℕ) (ts : List (Branch k)) (u : ℕ × Branch k) → nth i (numbered k n ts) ≡ Some u → n ≤ u.0
unfolding numbered
numbered-low k i n [] u e = let z : ◌≡◌ {A = ℕ} 0 1 = cc in absurd (omega arith)
numbered-low k zero n (t ∷ ts) u e =
    let p : ◌≡◌ {A = ℕ × Branch k} (n, t) u = cc in
    let q : n ≡ u.0 = ap (λ (z : ℕ × Branch k). z.0) p in
    omega arith
numbered-low k (suc i) n (t ∷ ts) u e = omega (arith, numbered-low k i (n + size k t) ts u e)

-- a record's number stands in one branch only
record Holds (k : ℕ) (u : ℕ × Branch k) (a : ℕ) : Type 0 where
  low : u.0 ≤ a
  high : a < u.0 + size k u.1

past_first : (k i n : ℕ) (t : Branch k) (ts : List (Branch k)) (u v : ℕ × Branch k) (a : ℕ) → ◌≡◌ {A = Option (ℕ × Branch k)} (Some (n, t)) (Some u)
    → nth i (numbered k (n + size k t) ts) ≡ Some v → Holds k u a → Holds k v a → ⊥
past_first k i n t ts u v a e f g h =
    let p : ◌≡◌ {A = ℕ × Branch k} (n, t) u = cc in
    let q : n + size k t ≡ u.0 + size k u.1 = ap (λ (z : ℕ × Branch k). z.0 + size k z.1) p in
    let o = numbered-low k i (n + size k t) ts v f in
    omega (arith, g.high, h.low)

one-branch : (k i l n : ℕ) (ts : List (Branch k)) (u v : ℕ × Branch k) (a : ℕ) → nth i (numbered k n ts) ≡ Some u → nth l (numbered k n ts) ≡ Some v
    → Holds k u a → Holds k v a → i ≡ l
unfolding numbered
one-branch k i l n [] u v a e f g h = let z : ◌≡◌ {A = ℕ} 0 1 = cc in absurd (omega arith)
one-branch k zero zero n (t ∷ ts) u v a e f g h = refl
one-branch k zero (suc l) n (t ∷ ts) u v a e f g h = absurd (past_first k l n t ts u v a e f g h)
one-branch k (suc i) zero n (t ∷ ts) u v a e f g h = absurd (past_first k i n t ts v u a f e h g)
one-branch k (suc i) (suc l) n (t ∷ ts) u v a e f g h = ap suc (one-branch k i l (n + size k t) ts u v a e f g h)

-- the first index's branch holds the record
record Inside (d j i n : ℕ) (ts : List (Branch (up d j))) (a : ℕ) : Type 0 where
  outer : ℕ × Branch (up d j)
  there : nth i (numbered (up d j) n ts) ≡ Some outer
  holds : Holds (up d j) outer a

inside : (d j i : ℕ) (is : List ℕ) (n : ℕ) (ts : List (Branch (up d j))) (a b : ℕ) → span_at d j (i ∷ is) n ts ≡ Some (a, b) → Inside d j i n ts a
unfolding span_at flat
inside zero j i is n ts a b e =
    let s = and-then (nth i (numbered j n ts)) (λ t. Some (t.0, t.0 + size j t.1)) (a, b) e in
    let p : ◌≡◌ {A = ℕ × ℕ} (s.0.0, s.0.0 + size j s.0.1) (a, b) = let q = s.2 in cc in
    let x : s.0.0 ≡ a = ap (λ (z : ℕ × ℕ). z.0) p in
    record { outer = s.0; there = s.1; holds = record { low = omega arith; high = omega (arith, ap length (flat-root j s.0.1)) } }
inside (suc d) j i is n ts a b e =
    let s = and-then (nth i (numbered (suc (up d j)) n ts)) (λ t. span_at d j is (suc t.0) t.1.1) (a, b) e in
    let u = s.0 in
    let t = stands d j is (suc u.0) u.1.1 a b s.2 in
    let x = t.first in
    let y = spot-length d j is u.1.1 t.branch t.spot in
    record { outer = u; there = s.1; holds = record { low = omega arith; high = omega (arith, ap length (flat-root j t.branch)) } }

span_below : (d j i : ℕ) (is : List ℕ) (n : ℕ) (ts : List (Branch (suc (up d j)))) (u : ℕ × Branch (suc (up d j))) (s : Option (ℕ × ℕ))
    → nth i (numbered (suc (up d j)) n ts) ≡ Some u → span_at (suc d) j (i ∷ is) n ts ≡ s → span_at d j is (suc u.0) u.1.1 ≡ s
unfolding span_at
span_below d j i is n ts u s e f = rw e at f

-- two positions of one length at which the same record starts are the same
pub span-inj : (d j : ℕ) (p q : List ℕ) (n : ℕ) (ts : List (Branch (up d j))) (a b c : ℕ) → length p ≡ suc d → length q ≡ suc d
    → span_at d j p n ts ≡ Some (a, b) → span_at d j q n ts ≡ Some (a, c) → p ≡ q
span-inj d j [] q n ts a b c lp lq e f = absurd (omega arith)
span-inj d j (i ∷ is) [] n ts a b c lp lq e f = absurd (omega arith)
span-inj zero j (i ∷ (x ∷ is)) (l ∷ ls) n ts a b c lp lq e f = absurd (omega arith)
span-inj zero j (i ∷ []) (l ∷ (x ∷ ls)) n ts a b c lp lq e f = absurd (omega arith)
span-inj zero j (i ∷ []) (l ∷ []) n ts a b c lp lq e f =
    let g = inside zero j i [] n ts a b e in
    let h = inside zero j l [] n ts a c f in
    ap (λ (x : ℕ). x ∷ []) (one-branch j i l n ts g.outer h.outer a g.there h.there g.holds h.holds)
span-inj (suc d) j (i ∷ is) (l ∷ ls) n ts a b c lp lq e f =
    let g = inside (suc d) j i is n ts a b e in
    let h = inside (suc d) j l ls n ts a c f in
    let x = one-branch (suc (up d j)) i l n ts g.outer h.outer a g.there h.there g.holds h.holds in
    let f' : span_at (suc d) j (i ∷ ls) n ts ≡ Some (a, c) = ap (λ (y : ℕ). span_at (suc d) j (y ∷ ls) n ts) x ∙ f in
    let u = g.outer in
    let y = span-inj d j is ls (suc u.0) u.1.1 a b c (omega arith) (omega arith) (span_below d j i is n ts u _ g.there e) (span_below d j i ls n ts u _ g.there f') in
    λ k. x k ∷ y k

-- ---- atoms

pub atoms-branch : (k : ℕ) → k ≤ 4 → (t : Branch k) → atom_records (flat k t) ≡ atom_count k t
unfolding atom_records flat atom_count
atoms-branch zero l t = rw (words-kind zero l t)
atoms-branch (suc k) l t =
    let e : eqb (kind (words (suc k) t.0)) 5 ≡ false = ne_eqb (kind (words (suc k) t.0)) 5 (λ q. omega (arith, words-kind (suc k) l t.0)) in
    rw (e, zero-add) (sum-concat_map is_atom (flat k) (atom_count k) (atoms-branch k (omega arith)) t.1)

pub atom_records-stored : (m : Machine) → atom_records (records m) ≡ stored m
unfolding atom_records
atom_records-stored m = sum-concat_map is_atom (flat 4) (atom_count 4) (atoms-branch 4 (omega arith)) m

-- ---- the words of a good store

module _ (w : List ℕ) (g : Good w) where
  -- all its records
  pub whole-within : Within 0 (length (records (held w))) w
  whole-within =
      let c = records-count w (held w) g in
      let l = (read-parts w (held w) g).low in
      record { order = omega arith; room = omega arith }

  pub whole-records : records_in 0 (length (records (held w))) w ≡ records (held w)
  whole-records = rw (records-count w (held w) g) (sym (records-read w (held w) g))

  pub whole-atoms : atom_records (records_in 0 (length (records (held w))) w) ≡ stored (held w)
  whole-atoms = rw whole-records (atom_records-stored (held w))

  -- those of the branch at a position
  module _ (d j : ℕ) (pos : List ℕ) (ts : List (Branch (up d j))) (start stop : ℕ) (whole : records (held w) ≡ concat_map (flat (up d j)) ts) (s : Stands d j pos 0 ts start stop) where
    stop-low : stop ≤ length (records (held w))
    stop-low =
        let f = s.first in
        let l = s.last in
        let y = ap length whole ∙ spot-length d j pos ts s.branch s.spot in
        omega arith

    pub stands-within : Within start stop w
    stands-within =
        let l = s.last in
        let r = whole-within.room in
        let o = stop-low in
        record { order = omega arith; room = omega arith }

    pub stands_records : records_in start stop w ≡ flat j s.branch
    stands_records =
        let t = s.spot in
        let o = stop-low in
        let c = chunks-take stop (length (records (held w))) w o in
        let f : start ≡ length t.pre = s.first ∙ zero-add _ in
        let l : length (t.pre ++ flat j s.branch) ≡ stop = omega (arith, length-append t.pre (flat j s.branch), s.last) in
        rw (c, whole-records, whole, t.was, ← append_assoc t.pre, take_at (t.pre ++ flat j s.branch) t.post stop l) (drop_at t.pre (flat j s.branch) start (sym f))

    pub stands-atoms : j ≤ 4 → atom_records (records_in start stop w) ≡ atom_count j s.branch
    stands-atoms l = rw stands_records (atoms-branch j l s.branch)
