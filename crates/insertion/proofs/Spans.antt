-- Spans among records: how they change where records are put in, and their bounds. Assumes nothing.
use Rattle.std.specs.Prelude.{None, Option, Some, option_map}
use Prim.Native.Nat.{ℕ, zero, suc, ◌+◌, ◌-◌, ◌/◌, ◌≤◌, ◌<◌}
use mathlib.Core.Path.{◌≡◌, refl, sym, ap, ◌∙◌}
use mathlib.Core.Bool.{Bool, true, false, cond}
use mathlib.Core.List.{List, [], ◌∷◌, ◌++◌, append-nil}
use native.Mathlib.Omega.{arith}
use lib.ListN.{length, take, drop, length-drop, take-append-drop}
use lib.Seq.{drop-append-le, drop-drop, length-take-le}
use lib.Dec.{ltb, eqb}
use borrow.Author.Tests.{lt-ltb}
use Rattle.machine.specs.Lists.{and_then}
use Rattle.machine.specs.Record.{Words, kind}
use Rattle.machine.specs.Store.{end, records_of, chunks}
use Rattle.machine.specs.Edit.{first, last, pick}
use Rattle.laws.specs.Lists.{All}
use Rattle.laws.specs.Grouped.{chunks-length}
use Rattle.laws.specs.Layout.{records-read, read-parts}
use Rattle.seek.specs.Seek.{held, Good, Within, record_at, records_in, descendants, child, child_span, to_end, span}
use Rattle.seek.proofs.Below.{records_in-cons, descendants-over, end-within, child-below, child-span}
use Rattle.insertion.specs.Pick.{which_by, marks, pick_span}
use Rattle.insertion.specs.declared.Key.{Key}
use Rattle.insertion.proofs.Picks.{pick-over, pick-within}

-- ---- a record that is found, and where its descendants end

module _ (h n : ℕ) where
  abbrev pub to_span : Option ℕ → List Words → Option (ℕ × ℕ)
  to_span c rs = and_then c (λ o. to_end h (n + o) (drop (suc o) rs))

  pub record Ended (c : Option ℕ) (rs : List Words) (start stop : ℕ) : Type 0 where
    pub offset : ℕ
    pub there : c ≡ Some offset
    pub number : n + offset ≡ start
    pub ends : suc start + descendants h (drop (suc offset) rs) ≡ stop

  pub ended : (c : Option ℕ) (rs : List Words) (start stop : ℕ) → to_span c rs ≡ Some (start, stop) → Ended c rs start stop
  ended None rs start stop e = let z : ◌≡◌ {A = ℕ} 0 1 = cc in absurd (omega arith)
  ended (Some o) rs start stop e =
      let p : ◌≡◌ {A = ℕ × ℕ} (n + o, suc (n + o) + descendants h (drop (suc o) rs)) (start, stop) = cc in
      let x : n + o ≡ start = ap (λ (z : ℕ × ℕ). z.0) p in
      let y : suc (n + o) + descendants h (drop (suc o) rs) ≡ stop = ap (λ (z : ℕ × ℕ). z.1) p in
      record { offset = o; there = refl; number = x; ends = omega arith }

  pub to-span : (c : Option ℕ) (rs : List Words) (start stop : ℕ) → Ended c rs start stop → to_span c rs ≡ Some (start, stop)
  to-span c rs start stop e = rw (e.there, e.number, e.ends)

  pub not_found : (c : Option ℕ) (rs : List Words) → to_span c rs ≡ None → c ≡ None
  not_found None rs e = refl
  not_found (Some o) rs e = let z : ◌≡◌ {A = ℕ} 0 1 = cc in absurd (omega arith)

-- ---- records put in among others

mapped : (c : Option ℕ) (o : ℕ) → option_map suc c ≡ Some o → (q : ℕ) × (c ≡ Some q) × (suc q ≡ o)
mapped None o e = let z : ◌≡◌ {A = ℕ} 0 1 = cc in absurd (omega arith)
mapped (Some q) o e = (q, refl, cc)

descendants-new : (h : ℕ) (new rest : List Words) → All (λ r. h < kind r) new → descendants h (new ++ rest) ≡ descendants h rest + length new
unfolding descendants
descendants-new h [] rest a = omega arith
descendants-new h (r ∷ new) rest a = rw (lt-ltb h (kind r) a.0) (omega (arith, descendants-new h new rest a.1))

descendants-put : (h : ℕ) (a new b : List Words) → All (λ r. h < kind r) new → length a ≤ descendants h (a ++ b) → descendants h (a ++ (new ++ b)) ≡ descendants h (a ++ b) + length new
unfolding descendants
descendants-put h [] new b k l = descendants-new h new b k
descendants-put h (r ∷ a) new b k l = go (ltb h (kind r)) l (descendants-put h a new b k)
  where
    go : (t : Bool) → suc (length a) ≤ cond t (suc (descendants h (a ++ b))) 0 → (length a ≤ descendants h (a ++ b) → descendants h (a ++ (new ++ b)) ≡ descendants h (a ++ b) + length new)
        → cond t (suc (descendants h (a ++ (new ++ b)))) 0 ≡ cond t (suc (descendants h (a ++ b))) 0 + length new
    go true l f = omega (arith, f (omega arith))
    go false l f = absurd (omega arith)

-- a search that finds a record looks at none after it
abbrev pub Fronted : (List Words → Option ℕ) → Type 0
Fronted find = (a b c : List Words) (o : ℕ) → find (a ++ b) ≡ Some o → o < length a → find (a ++ c) ≡ Some o

pub child-front : (h i : ℕ) → Fronted (child h i)
unfolding child
child-front h i [] b c o e l = absurd (omega arith)
child-front h zero (r ∷ a) b c o e l = go (ltb (kind r) h) (eqb (kind r) h) e (child-front h zero a b c)
  where
    go : (x y : Bool) → cond x None (cond y (Some 0) (option_map suc (child h zero (a ++ b)))) ≡ Some o
        → ((q : ℕ) → child h zero (a ++ b) ≡ Some q → q < length a → child h zero (a ++ c) ≡ Some q)
        → cond x None (cond y (Some 0) (option_map suc (child h zero (a ++ c)))) ≡ Some o
    go true y e f = let z : ◌≡◌ {A = ℕ} 0 1 = cc in absurd (omega arith)
    go false true e f = e
    go false false e f = let m = mapped (child h zero (a ++ b)) o e in let s = m.2 in rw (f m.0 m.1 (omega arith)) (ap Some m.2)
child-front h (suc i) (r ∷ a) b c o e l = go (ltb (kind r) h) (eqb (kind r) h) e (child-front h i a b c) (child-front h (suc i) a b c)
  where
    go : (x y : Bool) → cond x None (option_map suc (cond y (child h i (a ++ b)) (child h (suc i) (a ++ b)))) ≡ Some o
        → ((q : ℕ) → child h i (a ++ b) ≡ Some q → q < length a → child h i (a ++ c) ≡ Some q)
        → ((q : ℕ) → child h (suc i) (a ++ b) ≡ Some q → q < length a → child h (suc i) (a ++ c) ≡ Some q)
        → cond x None (option_map suc (cond y (child h i (a ++ c)) (child h (suc i) (a ++ c)))) ≡ Some o
    go true y e f g = let z : ◌≡◌ {A = ℕ} 0 1 = cc in absurd (omega arith)
    go false true e f g = let m = mapped (child h i (a ++ b)) o e in let s = m.2 in rw (f m.0 m.1 (omega arith)) (ap Some m.2)
    go false false e f g = let m = mapped (child h (suc i) (a ++ b)) o e in let s = m.2 in rw (g m.0 m.1 (omega arith)) (ap Some m.2)

module _ (p : Words → Bool) where
  pub pick-front : Fronted (pick first p)
  pick-front [] b c o e l = absurd (omega arith)
  pick-front (r ∷ a) b c o e l = go (p r) e (pick-front a b c)
    where
      go : (x : Bool) → cond x (Some 0) (option_map suc (pick first p (a ++ b))) ≡ Some o
          → ((q : ℕ) → pick first p (a ++ b) ≡ Some q → q < length a → pick first p (a ++ c) ≡ Some q)
          → cond x (Some 0) (option_map suc (pick first p (a ++ c))) ≡ Some o
      go true e f = e
      go false e f = let m = mapped (pick first p (a ++ b)) o e in let s = m.2 in rw (f m.0 m.1 (omega arith)) (ap Some m.2)

  -- the first after those of which none is marked
  pub pick-fresh : (a : List Words) (r : Words) (rest : List Words) → pick first p a ≡ None → p r ≡ true → pick first p (a ++ (r ∷ rest)) ≡ Some (length a)
  pick-fresh [] r rest e m = rw m
  pick-fresh (x ∷ a) r rest e m = go (p x) e (pick-fresh a r rest)
    where
      go : (b : Bool) → cond b (Some 0) (option_map suc (pick first p a)) ≡ None → (pick first p a ≡ None → p r ≡ true → pick first p (a ++ (r ∷ rest)) ≡ Some (length a))
          → cond b (Some 0) (option_map suc (pick first p (a ++ (r ∷ rest)))) ≡ Some (suc (length a))
      go true e f = let z : ◌≡◌ {A = ℕ} 0 1 = cc in absurd (omega arith)
      go false e f = rw (f (unmapped (pick first p a) e) m)
        where
          unmapped : (c : Option ℕ) → option_map suc c ≡ None → c ≡ None
          unmapped None e = refl
          unmapped (Some q) e = let z : ◌≡◌ {A = ℕ} 0 1 = cc in absurd (omega arith)

  -- none of them is marked
  pub pick-none : (a : List Words) → All (λ r. p r ≡ false) a → pick last p a ≡ None
  pick-none a k = ap (pick last p) (sym (append-nil a)) ∙ pick-over p last a [] k

  -- the last, after which none is marked
  pub pick-last : (a : List Words) (r : Words) (rest : List Words) → p r ≡ true → All (λ x. p x ≡ false) rest → pick last p (a ++ (r ∷ rest)) ≡ Some (length a)
  pick-last [] r rest m k = rw (pick-none rest k, m)
  pick-last (x ∷ a) r rest m k = rw (pick-last a r rest m k)

module _ (h n : ℕ) (find : List Words → Option ℕ) (front : Fronted find) where
  -- records of a higher kind put in between a record and its descendants' end
  pub span-put : (a new b : List Words) (start stop : ℕ) → All (λ r. h < kind r) new → to_span h n (find (a ++ b)) (a ++ b) ≡ Some (start, stop)
      → start < n + length a → n + length a ≤ stop → to_span h n (find (a ++ (new ++ b))) (a ++ (new ++ b)) ≡ Some (start, stop + length new)
  span-put a new b start stop k e l u =
      let d = ended h n (find (a ++ b)) (a ++ b) start stop e in
      let o = d.offset in
      let x = d.number in
      let i : suc o ≤ length a = omega arith in
      let was : drop (suc o) (a ++ b) ≡ drop (suc o) a ++ b = drop-append-le (suc o) a b i in
      let is : drop (suc o) (a ++ (new ++ b)) ≡ drop (suc o) a ++ (new ++ b) = drop-append-le (suc o) a (new ++ b) i in
      let y : suc start + descendants h (drop (suc o) a ++ b) ≡ stop = ap (λ (rs : List Words). suc start + descendants h rs) (sym was) ∙ d.ends in
      let q = descendants-put h (drop (suc o) a) new b k (omega (arith, length-drop (suc o) a)) in
      to-span h n (find (a ++ (new ++ b))) (a ++ (new ++ b)) start (stop + length new)
      (record { offset = o; there = front a b (new ++ b) o d.there (omega arith); number = x; ends = rw (is, q) (omega arith) })

-- ---- a span's bounds

pub record SpanInside (from end start stop : ℕ) : Type 0 where
  pub low : from ≤ start
  pub order : start < stop
  pub high : stop ≤ end

module _ (w : List ℕ) (from end : ℕ) (b : Within from end w) where
  ended-inside : (h : ℕ) (c : Option ℕ) (start stop : ℕ) → ((o : ℕ) → c ≡ Some o → from + o < end) → to_span h from c (records_in from end w) ≡ Some (start, stop) → SpanInside from end start stop
  ended-inside h c start stop f e =
      let d = ended h from c (records_in from end w) start stop e in
      let x = d.number in
      let y = d.ends in
      let i = f d.offset d.there in
      let z = drop-drop (suc d.offset) from (chunks end w) in
      let q : suc start + descendants h (records_in (from + suc d.offset) end w) ≡ stop = ap (λ (rs : List Words). suc start + descendants h rs) (sym z) ∙ y in
      let t = end-within w (from + suc d.offset) end h (record { order = omega arith; room = b.room }) in
      record { low = omega arith; order = omega arith; high = omega arith }

  pub picked-inside : (key : Key) (start stop : ℕ) → pick_span key from (records_in from end w) ≡ Some (start, stop) → SpanInside from end start stop
  picked-inside key start stop e =
      ended-inside key.kind (pick (which_by key.from_back) (marks key) (records_in from end w)) start stop
      (λ o q. omega (arith, b.order, pick-within (marks key) (which_by key.from_back) (records_in from end w) o q, length-drop from (chunks end w), chunks-length end w))
      e

pub model-inside : (w : List ℕ) → Good w → (i start stop : ℕ) → child_span 1 i 0 (records_of w) ≡ Some (start, stop) → SpanInside 0 (length (records_of w)) start stop
model-inside w g i start stop e =
    let c = chunks-length (end w / 12) w in
    let l = (read-parts w (held w) g).low in
    let b : Within 0 (end w / 12) w = record { order = omega arith; room = omega arith } in
    let d = ended-inside w 0 (end w / 12) b 1 (child 1 i (records_of w)) start stop (λ o q. child-below w 1 i 0 (end w / 12) o b q) e in
    record { low = d.low; order = d.order; high = omega (arith, d.high) }

pub model-span : (w : List ℕ) → Good w → (i : ℕ) → child_span 1 i 0 (records_of w) ≡ span (i ∷ []) (held w)
model-span w g i =
    ap (child_span 1 i 0) (sym (records-read w (held w) g)) ∙ rw append-nil at (child-span 0 4 refl i 0 (held w) [] tt)

-- the records around one
pub records_in-split : (w : List ℕ) (from end at : ℕ) → from ≤ at → at < end
    → (a : List Words) × (length a ≡ at - from) × (records_in from end w ≡ a ++ (record_at at w ∷ records_in (at + 1) end w))
records_in-split w from end at l h =
    let x : List Words = chunks end w in
    let n : length (take at x) ≡ at = length-take-le at x (omega (arith, chunks-length end w)) in
    let s : drop from (take at x ++ drop at x) ≡ drop from (take at x) ++ drop at x = drop-append-le from (take at x) (drop at x) (omega arith) in (
      drop from (take at x),
      omega (arith, length-drop from (take at x)),
      ap (drop from) (sym (take-append-drop at x)) ∙ s ∙ ap (λ (rs : List Words). drop from (take at x) ++ rs) (records_in-cons w end at h),
    )

pub descendants-whole : (h : ℕ) (rs : List Words) → All (λ r. h < kind r) rs → descendants h rs ≡ length rs
descendants-whole h rs k = ap (descendants h) (sym (append-nil rs)) ∙ descendants-over h rs [] k tt
