-- Where a branch stands after another branch of its level has grown. Assumes nothing.
use Rattle.std.specs.Prelude.{None, Option, Some}
use Prim.Native.Nat.{ℕ, zero, suc, ◌+◌, ◌≤◌}
use mathlib.Core.Path.{◌≡◌, refl, sym, ap}
use mathlib.Core.Bool.{Bool, true, false, false≢true}
use mathlib.Core.List.{List, [], ◌∷◌}
use native.Mathlib.Omega.{arith}
use lib.ListN.{length}
use lib.Dec.{eqb}
use borrow.Author.Tests.{eqb-true, eqb-false, eq-eqb}
use Rattle.machine.specs.Lists.{nth, splice, same}
use Rattle.machine.specs.Store.{Branch, flat}
use Rattle.machine.specs.Find.{size, numbered}
use Rattle.machine.specs.Edit.{up, replace_at}
use Rattle.laws.specs.Lists.{and-then}
use Rattle.laws.specs.Places.{replace-sum, flat-splits}
use Rattle.laws.specs.Places as places
use Rattle.seek.specs.Seek.{span_at}
use Rattle.seek.proofs.Laws.{Stands, stands, spot-length}

impossible : {A B : Type 0} {x : B} → ◌≡◌ {A = Option B} None (Some x) → A
impossible e = let z : ◌≡◌ {A = ℕ} 0 1 = cc in absurd (omega arith)

-- ---- one index

-- numbered from further on
record Moved (k l n g : ℕ) (ts : List (Branch k)) (w : ℕ × Branch k) : Type 0 where
  low : n ≤ w.0
  number : nth l (numbered k (n + g) ts) ≡ Some (w.0 + g, w.1)

moved : (k l n g : ℕ) (ts : List (Branch k)) (w : ℕ × Branch k) → nth l (numbered k n ts) ≡ Some w → Moved k l n g ts w
unfolding numbered
moved k l n g [] w e = impossible e
moved k zero n g (t ∷ ts) w e =
    let q : ◌≡◌ {A = ℕ × Branch k} (n, t) w = cc in
    let f : n ≡ w.0 = ap (λ (z : ℕ × Branch k). z.0) q in
    record { low = omega arith; number = ap (λ (z : ℕ × Branch k). Some (z.0 + g, z.1)) q }
moved k (suc l) n g (t ∷ ts) w e =
    let r = moved k l (n + size k t) g ts w e in
    let f : n + g + size k t ≡ n + size k t + g = omega arith in
    record { low = omega (arith, r.low); number = rw f r.number }

-- the branch at l, with its number, where the one at i has g records more
data Beside (k l n g : ℕ) (ts : List (Branch k)) (v w : ℕ × Branch k) : Type 0 where
  behind : v.0 + size k v.1 ≤ w.0 → nth l (numbered k n ts) ≡ Some (w.0 + g, w.1) → Beside k l n g ts v w
  ahead : w.0 + size k w.1 ≤ v.0 → nth l (numbered k n ts) ≡ Some w → Beside k l n g ts v w

module _ (k g : ℕ) (f : Branch k → Branch k) where
  beside : (i l n : ℕ) (ts : List (Branch k)) (v w : ℕ × Branch k) → (i ≡ l → ⊥) → size k (f v.1) ≡ size k v.1 + g
      → nth i (numbered k n ts) ≡ Some v → nth l (numbered k n ts) ≡ Some w → Beside k l n g (splice i (λ t. f t ∷ []) ts) v w
  unfolding numbered
  beside i l n [] v w h s p q = impossible p
  beside zero zero n (t ∷ ts) v w h s p q = absurd (h refl)
  beside zero (suc l) n (t ∷ ts) v w h s p q =
      let x : ◌≡◌ {A = ℕ × Branch k} (n, t) v = cc in
      let y : n + size k t ≡ v.0 + size k v.1 = ap (λ (z : ℕ × Branch k). z.0 + size k z.1) x in
      let z : n + size k (f t) ≡ v.0 + size k (f v.1) = ap (λ (z : ℕ × Branch k). z.0 + size k (f z.1)) x in
      let u : n + size k (f t) ≡ n + size k t + g = omega arith in
      let r = moved k l (n + size k t) g ts w q in
      behind (omega (arith, r.low)) (rw u r.number)
  beside (suc i) zero n (t ∷ ts) v w h s p q =
      let x : ◌≡◌ {A = ℕ × Branch k} (n, t) w = cc in
      let y : n + size k t ≡ w.0 + size k w.1 = ap (λ (z : ℕ × Branch k). z.0 + size k z.1) x in
      ahead (omega (arith, (moved k i (n + size k t) g ts v p).low)) q
  beside (suc i) (suc l) n (t ∷ ts) v w h s p q = again (beside i l (n + size k t) ts v w (λ e. h (ap suc e)) s p q)
    where
      again : Beside k l (n + size k t) g (splice i (λ t. f t ∷ []) ts) v w → Beside k (suc l) n g (t ∷ splice i (λ t. f t ∷ []) ts) v w
      again (behind a b) = behind a b
      again (ahead a b) = ahead a b

  -- the grown branch itself keeps its number
  grown : (i n : ℕ) (ts : List (Branch k)) (v : ℕ × Branch k) → nth i (numbered k n ts) ≡ Some v → nth i (numbered k n (splice i (λ t. f t ∷ []) ts)) ≡ Some (v.0, f v.1)
  unfolding numbered
  grown i n [] v e = impossible e
  grown zero n (t ∷ ts) v e =
      let q : ◌≡◌ {A = ℕ × Branch k} (n, t) v = cc in
      ap (λ (z : ℕ × Branch k). Some (z.0, f z.1)) q
  grown (suc i) n (t ∷ ts) v e = grown i (n + size k t) ts v e

-- ---- a position

pair : (a b c d : ℕ) → ◌≡◌ {A = Option (ℕ × ℕ)} (Some (a, b)) (Some (c, d)) → (a ≡ c) × (b ≡ d)
pair a b c d e =
    let p : ◌≡◌ {A = ℕ × ℕ} (a, b) (c, d) = cc in
    (ap (λ (z : ℕ × ℕ). z.0) p, ap (λ (z : ℕ × ℕ). z.1) p)

-- a position of one index is that index's branch
record Here (j i n : ℕ) (ts : List (Branch j)) (a b : ℕ) : Type 0 where
  outer : ℕ × Branch j
  there : nth i (numbered j n ts) ≡ Some outer
  first : outer.0 ≡ a
  last : outer.0 + size j outer.1 ≡ b

here : (j i : ℕ) (is : List ℕ) (n : ℕ) (ts : List (Branch j)) (a b : ℕ) → span_at zero j (i ∷ is) n ts ≡ Some (a, b) → Here j i n ts a b
unfolding span_at
here j i is n ts a b e =
    let s = and-then (nth i (numbered j n ts)) (λ t. Some (t.0, t.0 + size j t.1)) (a, b) e in
    let p = pair _ _ a b s.2 in
    record { outer = s.0; there = s.1; first = p.0; last = p.1 }

span-moved : (d j : ℕ) (pos : List ℕ) (n g : ℕ) (ts : List (Branch (up d j))) (a b : ℕ) → span_at d j pos n ts ≡ Some (a, b) → span_at d j pos (n + g) ts ≡ Some (a + g, b + g)
unfolding span_at
span-moved d j [] n g ts a b e = impossible e
span-moved zero j (i ∷ is) n g ts a b e =
    let s = here j i is n ts a b e in
    let u = s.outer in
    let x : u.0 + g ≡ a + g = omega (arith, s.first) in
    let y : a + g + size j u.1 ≡ b + g = omega (arith, s.first, s.last) in
    rw ((moved j i n g ts u s.there).number, x) (ap (λ (z : ℕ). Some (a + g, z)) y)
span-moved (suc d) j (i ∷ is) n g ts a b e =
    let s = and-then (nth i (numbered (suc (up d j)) n ts)) (λ t. span_at d j is (suc t.0) t.1.1) (a, b) e in
    let f : suc (s.0.0 + g) ≡ suc s.0.0 + g = omega arith in
    rw ((moved (suc (up d j)) i n g ts s.0 s.1).number, f) (span-moved d j is (suc s.0.0) g s.0.1.1 a b s.2)

-- how the branch at b stands to the one from pa up to qa, which has g records more than it had
pub data Apart (d j : ℕ) (b : List ℕ) (n g : ℕ) (ts : List (Branch (up d j))) (pa qa pb qb : ℕ) : Type 0 where
  later : qa ≤ pb → span_at d j b n ts ≡ Some (pb + g, qb + g) → Apart d j b n g ts pa qa pb qb
  earlier : qb ≤ pa → span_at d j b n ts ≡ Some (pb, qb) → Apart d j b n g ts pa qa pb qb

-- a position's records are among those of its first index's branch
record Inside (d j i : ℕ) (is : List ℕ) (n : ℕ) (ts : List (Branch (suc (up d j)))) (a b : ℕ) : Type 0 where
  outer : ℕ × Branch (suc (up d j))
  there : nth i (numbered (suc (up d j)) n ts) ≡ Some outer
  below : span_at d j is (suc outer.0) outer.1.1 ≡ Some (a, b)
  stood : Stands d j is (suc outer.0) outer.1.1 a b
  low : outer.0 ≤ a
  high : b ≤ outer.0 + size (suc (up d j)) outer.1

inside : (d j i : ℕ) (is : List ℕ) (n : ℕ) (ts : List (Branch (suc (up d j)))) (a b : ℕ) → span_at (suc d) j (i ∷ is) n ts ≡ Some (a, b) → Inside d j i is n ts a b
unfolding span_at flat
inside d j i is n ts a b e =
    let s = and-then (nth i (numbered (suc (up d j)) n ts)) (λ t. span_at d j is (suc t.0) t.1.1) (a, b) e in
    let u = s.0 in
    let t = stands d j is (suc u.0) u.1.1 a b s.2 in
    let x = t.first in
    let y = t.last in
    let z = spot-length d j is u.1.1 t.branch t.spot in
    record { outer = u; there = s.1; below = s.2; stood = t; low = omega arith; high = omega arith }

-- a branch whose descendant has g records more
grows : (d j : ℕ) (is : List ℕ) (n g : ℕ) (u : Branch (suc (up d j))) (new : Branch j) (pa qa : ℕ) (s : Stands d j is n u.1 pa qa) → pa + size j new ≡ qa + g
    → size (suc (up d j)) (u.0, replace_at d j is (new ∷ []) u.1) ≡ size (suc (up d j)) u + g
grows d j is n g u new pa qa s e =
    let k = up d j in
    let x = replace-sum places.size d j is (new ∷ []) u.1 s.branch s.there in
    let y = s.last in
    omega (arith, flat-splits k u, flat-splits k (u.0, replace_at d j is (new ∷ []) u.1))

one_index : (i l : ℕ) → same (i ∷ []) (l ∷ []) ≡ false → i ≡ l → ⊥
one_index i l h e = false≢true (sym (rw (eq-eqb i l e) at h))

rest-index : (i l : ℕ) (is ls : List ℕ) → same (i ∷ is) (l ∷ ls) ≡ false → i ≡ l → same is ls ≡ false
rest-index i l is ls h e = rw (eq-eqb i l e) at h

pub apart : (d j : ℕ) (a b : List ℕ) (n g : ℕ) (ts : List (Branch (up d j))) (new : Branch j) (pa qa pb qb : ℕ) → length a ≡ suc d → length b ≡ suc d → same a b ≡ false
    → pa + size j new ≡ qa + g → span_at d j a n ts ≡ Some (pa, qa) → span_at d j b n ts ≡ Some (pb, qb) → Apart d j b n g (replace_at d j a (new ∷ []) ts) pa qa pb qb
unfolding span_at replace_at
apart d j [] b n g ts new pa qa pb qb la lb h s p q = absurd (omega arith)
apart d j (i ∷ is) [] n g ts new pa qa pb qb la lb h s p q = absurd (omega arith)
apart zero j (i ∷ (x ∷ is)) (l ∷ ls) n g ts new pa qa pb qb la lb h s p q = absurd (omega arith)
apart zero j (i ∷ []) (l ∷ (x ∷ ls)) n g ts new pa qa pb qb la lb h s p q = absurd (omega arith)
apart zero j (i ∷ []) (l ∷ []) n g ts new pa qa pb qb la lb h s p q = go (here j i [] n ts pa qa p) (here j l [] n ts pb qb q)
  where
    settle : (v : Here j i n ts pa qa) (w : Here j l n ts pb qb) → Beside j l n g (splice i (λ t. new ∷ []) ts) v.outer w.outer
        → Apart zero j (l ∷ []) n g (splice i (λ t. new ∷ []) ts) pa qa pb qb
    settle v w (behind a b) =
        let x : w.outer.0 + g ≡ pb + g = omega (arith, w.first) in
        let y : pb + g + size j w.outer.1 ≡ qb + g = omega (arith, w.first, w.last) in
        later (omega (arith, v.last, w.first)) (rw (b, x) (ap (λ (z : ℕ). Some (pb + g, z)) y))
    settle v w (ahead a b) = earlier (omega (arith, w.last, v.first)) (rw (b, w.last) (ap (λ (z : ℕ). Some (z, qb)) w.first))

    go : Here j i n ts pa qa → Here j l n ts pb qb → Apart zero j (l ∷ []) n g (splice i (λ t. new ∷ []) ts) pa qa pb qb
    go v w = settle v w (beside j g (λ t. new) i l n ts v.outer w.outer (one_index i l h) (omega (arith, v.first, v.last)) v.there w.there)
apart (suc d) j (i ∷ is) (l ∷ ls) n g ts new pa qa pb qb la lb h s p q =
    go (inside d j i is n ts pa qa p) (inside d j l ls n ts pb qb q) (eqb i l) refl
    (λ us m u e f. apart d j is ls m g us new pa qa pb qb (omega arith) (omega arith) u s e f)
  where
    put : Branch (suc (up d j)) → Branch (suc (up d j))
    put t = (t.0, replace_at d j is (new ∷ []) t.1)

    after : List (Branch (suc (up d j)))
    after = splice i (λ t. put t ∷ []) ts

    below : (v : Inside d j i is n ts pa qa) → nth l (numbered (suc (up d j)) n after) ≡ Some (v.outer.0, put v.outer.1)
        → Apart d j ls (suc v.outer.0) g (replace_at d j is (new ∷ []) v.outer.1.1) pa qa pb qb → Apart (suc d) j (l ∷ ls) n g after pa qa pb qb
    below v e (later a b) = later a (rw e b)
    below v e (earlier a b) = earlier a (rw e b)

    other : (v : Inside d j i is n ts pa qa) (w : Inside d j l ls n ts pb qb) → Beside (suc (up d j)) l n g after v.outer w.outer → Apart (suc d) j (l ∷ ls) n g after pa qa pb qb
    other v w (behind a b) =
        let f : suc (w.outer.0 + g) ≡ suc w.outer.0 + g = omega arith in
        later (omega (arith, v.high, w.low)) (rw (b, f) (span-moved d j ls (suc w.outer.0) g w.outer.1.1 pb qb w.below))
    other v w (ahead a b) = earlier (omega (arith, w.high, v.low)) (rw b w.below)

    go : Inside d j i is n ts pa qa → Inside d j l ls n ts pb qb → (c : Bool) → eqb i l ≡ c
        → ((us : List (Branch (up d j))) (m : ℕ) → same is ls ≡ false → span_at d j is m us ≡ Some (pa, qa) → span_at d j ls m us ≡ Some (pb, qb)
        → Apart d j ls m g (replace_at d j is (new ∷ []) us) pa qa pb qb)
        → Apart (suc d) j (l ∷ ls) n g after pa qa pb qb
    go v w true c again =
        let e = eqb-true i l c in
        let u = v.outer in
        let here : nth l (numbered (suc (up d j)) n ts) ≡ Some u = rw (← e) v.there in
        let f : span_at d j ls (suc u.0) u.1.1 ≡ Some (pb, qb) = rw here at q in
        below v (rw (← e) (grown (suc (up d j)) g put i n ts u v.there)) (again u.1.1 (suc u.0) (rest-index i l is ls h e) v.below f)
    go v w false c again =
        other v w
        (beside (suc (up d j)) g put i l n ts v.outer w.outer (eqb-false i l c)
        (grows d j is (suc v.outer.0) g v.outer.1 new pa qa v.stood s) v.there w.there)
