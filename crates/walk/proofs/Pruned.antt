-- The pruned pass finds those of the atoms at which a test holds, if a test that fails at a site fails below it. Assumes nothing.
use Prim.Native.Nat.{ℕ, zero, suc, ◌+◌, ◌-◌, ◌≤◌, ◌<◌}
use mathlib.Core.Path.{◌≡◌, refl, sym, ap, ◌∙◌}
use mathlib.Core.Bool.{Bool, true, false, cond}
use mathlib.Core.List.{List, [], ◌∷◌}
use native.Mathlib.Omega.{arith}
use lib.ListN.{length, take, length-append, length-take}
use lib.Seq.{take-append-le, take_all, take-take}
use lib.Dec.{ltb, eqb}
use borrow.Author.Tests.{le-ltb, lt-ltb, ltb-true, ltb-false}
use Rattle.machine.specs.Lists.{keep, filter}
use Rattle.machine.specs.Record.{Fields, Words, kind, fields_of}
use Rattle.machine.specs.Store.{in_order}
use Rattle.machine.specs.Query.{Place, window}
use Rattle.machine.specs.Find.{Site, enter, below}
use Rattle.laws.specs.Ordered.{HeadParts, head-parts}
use Rattle.laws.specs.Scan.{above, site_of, scan, window-enter}
use Rattle.descent.proofs.Sites.{window-window, above-above}
use Rattle.walk.specs.PrunedPass.{depth, pruned_pass}

-- ---- places

-- with the level that is entered, all is known that was entered
enter-all : (k : ℕ) → 1 ≤ k → k ≤ 5 → (f : Fields (5 - k)) (e : Place) → window 1 k (enter (5 - k) f (window 1 (k - 1) e)) ≡ enter (5 - k) f (window 1 (k - 1) e)
unfolding window enter
enter-all zero l h f e = absurd (omega arith)
enter-all (suc zero) l h f e = refl
enter-all (suc (suc zero)) l h f e = refl
enter-all (suc (suc (suc zero))) l h f e = refl
enter-all (suc (suc (suc (suc zero)))) l h f e = refl
enter-all (suc (suc (suc (suc (suc zero))))) l h f e = refl
enter-all (suc (suc (suc (suc (suc (suc k)))))) l h f e = absurd (omega arith)

-- ---- sites

module _ (n : ℕ) (s : Site) (r : Words) (low : 1 ≤ kind r) (high : kind r ≤ 5) where
  upper : length (take (kind r - 1) s.numbers) + 1 ≡ depth (site_of n s r)
  upper = sym (length-append (take (kind r - 1) s.numbers) (n ∷ []))

  -- what stands above a record is as it was
  at_above : (g : ℕ) → g ≤ kind r → g ≤ suc (depth s) → above g (site_of n s r) ≡ above g s
  at_above g l d =
      let j = kind r - 1 in
      let m : g - 1 ≤ length (take j s.numbers) = simp length-take (omega arith) in
      let p = take-append-le (g - 1) (take j s.numbers) (n ∷ []) m ∙ take-take (g - 1) j s.numbers (omega arith) in
      let q = window-enter (5 - kind r) (g - 1) (omega arith) (omega arith) (fields_of (5 - kind r) r) (window 1 j s.place) ∙ window-window (g - 1) j (omega arith) s.place in
      λ i. record { numbers = p i; place = q i }

  module _ (near : kind r ≤ suc (depth s)) where
    pub at-depth : depth (site_of n s r) ≡ kind r
    at-depth = omega (arith, upper, length-take (kind r - 1) s.numbers)

    at_self : above (suc (kind r)) (site_of n s r) ≡ site_of n s r
    at_self =
        let p = take_all (kind r) (site_of n s r).numbers (omega (arith, at-depth)) in
        let q = enter-all (kind r) low high (fields_of (5 - kind r) r) s.place in
        let e : suc (kind r) - 1 ≡ kind r = omega arith in
        rw e (λ i. record { numbers = p i; place = q i })

-- ---- the law

filter-kept : (h : Site → Bool) (b : Bool) (y : Site) (ys : List Site) → h y ≡ true → filter h (keep b y ys) ≡ keep b y (filter h ys)
filter-kept h true y ys e = rw e
filter-kept h false y ys e = refl

filter-left : (h : Site → Bool) (b : Bool) (y : Site) (ys : List Site) → h y ≡ false → filter h (keep b y ys) ≡ filter h ys
filter-left h true y ys e = rw e
filter-left h false y ys e = refl

-- below a site at which h fails, it fails
abbrev pub Grows : (Site → Bool) → Type 0
Grows h = (j : ℕ) → j ≤ 6 → (s : Site) → h (above j s) ≡ false → h s ≡ false

-- the state is what is above the first level of s at which h failed, or all of s
pub record Live (h : Site → Bool) (live s : Site) : Type 0 where
  pub upper : live ≡ above (suc (depth live)) s
  pub within : depth live ≤ depth s
  pub dead : depth live < depth s → h (above (suc (suc (depth live))) s) ≡ false

module _ (h : Site → Bool) (grows : Grows h) where
  abbrev pub Finds : List Words → Type 0
  Finds rs = (n : ℕ) (live s : Site) → Live h live s → in_order (depth s) rs ≡ true → pruned_pass h n live rs ≡ filter h (scan n s rs)

  module _ (n : ℕ) (live s : Site) (r : Words) (rs : List Words) (l : Live h live s) (p : HeadParts (depth s) r rs) (on : Finds rs) where
    y : Site
    y = site_of n s r

    order : in_order (depth y) rs ≡ true
    unfolding y
    order = rw (at-depth n s r p.least p.most (omega (arith, p.step))) p.rest

    -- a record below one at which h failed
    module _ (deep : suc (depth live) < kind r) where
      falls : h (above (suc (suc (depth live))) y) ≡ false
      unfolding y
      falls = rw (at_above n s r p.least p.most (suc (suc (depth live))) (omega arith) (omega (arith, p.step))) (l.dead (omega (arith, p.step)))

      still : Live h live y
      unfolding y
      still =
          record {
            upper = l.upper ∙ sym (at_above n s r p.least p.most (suc (depth live)) (omega arith) (omega (arith, l.within)));
            within = omega (arith, p.step, at-depth n s r p.least p.most (omega (arith, p.step)));
            dead = λ d. falls;
          }

      passed : pruned_pass h n live (r ∷ rs) ≡ filter h (scan n s (r ∷ rs))
      unfolding pruned_pass scan y
      passed =
          rw (lt-ltb (suc (depth live)) (kind r) deep)
          (on (suc n) live y still order ∙ sym (filter-left h (eqb (kind r) 5) y (scan (suc n) y rs) (grows (suc (suc (depth live))) (omega (arith, p.most)) y falls)))

    -- a record right below the state, or above that
    module _ (near : kind r ≤ suc (depth live)) where
      above_same : above (kind r) live ≡ above (kind r) s
      above_same = ap (above (kind r)) l.upper ∙ above-above (kind r) (suc (depth live)) near s

      next : pruned_pass h n live (r ∷ rs) ≡ cond (h y) (keep (eqb (kind r) 5) y (pruned_pass h (suc n) y rs)) (pruned_pass h (suc n) (above (kind r) s) rs)
      unfolding pruned_pass y
      next =
          let at : Site → Site = below (5 - kind r) n (fields_of (5 - kind r) r) in
          rw (le-ltb (suc (depth live)) (kind r) near)
          (ap (λ (z : Site). cond (h (at z)) (keep (eqb (kind r) 5) (at z) (pruned_pass h (suc n) (at z) rs)) (pruned_pass h (suc n) z rs)) above_same)

      deeper : kind r ≤ suc (depth s)
      deeper = omega (arith, p.step)

      entered : h y ≡ true → pruned_pass h n live (r ∷ rs) ≡ filter h (scan n s (r ∷ rs))
      unfolding scan y
      entered e =
          let d = at-depth n s r p.least p.most deeper in
          let here : Live h y y = record { upper = rw d (sym (at_self n s r p.least p.most deeper)); within = omega arith; dead = λ z. absurd (omega arith) } in
          next ∙ rw e (ap (keep (eqb (kind r) 5) y) (on (suc n) y y here order) ∙ sym (filter-kept h (eqb (kind r) 5) y (scan (suc n) y rs) e))

      left : h y ≡ false → pruned_pass h n live (r ∷ rs) ≡ filter h (scan n s (r ∷ rs))
      unfolding scan y
      left e =
          let d = at-depth n s r p.least p.most deeper in
          let w : suc (depth (above (kind r) s)) ≡ kind r = omega (arith, length-take (kind r - 1) s.numbers, p.least) in
          let up = sym (at_above n s r p.least p.most (kind r) (omega arith) deeper) in
          let no : h (above (suc (kind r)) y) ≡ false = ap h (at_self n s r p.least p.most deeper) ∙ e in
          let here : Live h (above (kind r) s) y = record { upper = rw w up; within = omega arith; dead = λ z. rw w no } in
          next ∙ rw e (on (suc n) (above (kind r) s) y here order ∙ sym (filter-left h (eqb (kind r) 5) y (scan (suc n) y rs) e))

    one : (b c : Bool) → ltb (suc (depth live)) (kind r) ≡ b → h y ≡ c → pruned_pass h n live (r ∷ rs) ≡ filter h (scan n s (r ∷ rs))
    one true c i j = passed (ltb-true (suc (depth live)) (kind r) i)
    one false true i j = entered (ltb-false (suc (depth live)) (kind r) i) j
    one false false i j = left (ltb-false (suc (depth live)) (kind r) i) j

  -- from any state: the pruned pass finds what the whole pass finds, where h holds
  pub pruned_pass-filter : (rs : List Words) → Finds rs
  unfolding pruned_pass scan y
  pruned_pass-filter [] n live s l o = refl
  pruned_pass-filter (r ∷ rs) n live s l o = one n live s r rs l (head-parts (depth s) r rs o) (pruned_pass-filter rs) (ltb (suc (depth live)) (kind r)) (h (site_of n s r)) refl refl
