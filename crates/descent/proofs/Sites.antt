-- Where a pass stands, as a site of the store: what stands above a record that is entered is as it was. Assumes nothing.
use Rattle.std.specs.Prelude.{Option}
use Prim.Native.Nat.{ℕ, zero, suc, ◌-◌, ◌≤◌, ◌<◌}
use mathlib.Core.Path.{◌≡◌, refl, sym, ap, ◌∙◌}
use mathlib.Core.Bool.{Bool, true, false, ◌&&◌}
use mathlib.Core.List.{List, [], ◌∷◌}
use native.Mathlib.Omega.{arith}
use lib.ListN.{length, set}
use lib.Seq.{take-take}
use lib.Dec.{leb, eqb}
use borrow.Author.Tests.{leb-true, le-leb}
use Rattle.machine.specs.Record.{fields_of}
use Rattle.machine.specs.Query.{Place, only_if, window}
use Rattle.machine.specs.Find.{Site, enter, below}
use Rattle.machine.specs.declared.RecordNumbers.{RecordNumbers}
use Rattle.laws.specs.Scan.{above}
use Rattle.seek.specs.Seek.{record_at, five_numbers}
use Rattle.terms.specs.Levels.{place_at}
use Rattle.descent.specs.Descent.{five, site_at, UpTo}

-- ---- places

only-more : {A : Type 0} (a b : Bool) (o : Option A) → (a ≡ true → b ≡ true) → only_if a (only_if b o) ≡ only_if a o
only-more false b o i = refl
only-more true b o i = rw (i refl)

-- the kinds up to a of those up to b
pub window-window : (a b : ℕ) → a ≤ b → (e : Place) → window 1 a (window 1 b e) ≡ window 1 a e
unfolding window
window-window a b l e =
    let up : (j : ℕ) → leb j a ≡ true → leb j b ≡ true = λ j h. le-leb j b (omega (arith, leb-true j a h)) in
    λ i. record {
      model = only-more (leb 1 a) (leb 1 b) e.model (up 1) i;
      chain = only-more (leb 2 a) (leb 2 b) e.chain (up 2) i;
      residue = only-more (leb 3 a) (leb 3 b) e.residue (up 3) i;
      conformer = only-more (leb 4 a) (leb 4 b) e.conformer (up 4) i;
      atom = only-more (leb 5 a) (leb 5 b) e.atom (up 5) i;
    }

only-both : {A : Type 0} (a b : Bool) (o : Option A) → only_if (a && true) (only_if b o) ≡ only_if (a && b) o
only-both true b o = refl
only-both false b o = refl

-- the kinds from low on of those up to k
pub window-from : (low k : ℕ) (e : Place) → window low 5 (window 1 k e) ≡ window low k e
unfolding window
window-from low k e =
    λ i. record {
      model = only-both (leb low 1) (leb 1 k) e.model i;
      chain = only-both (leb low 2) (leb 2 k) e.chain i;
      residue = only-both (leb low 3) (leb 3 k) e.residue i;
      conformer = only-both (leb low 4) (leb 4 k) e.conformer i;
      atom = only-both (leb low 5) (leb 5 k) e.atom i;
    }

-- ---- sites

pub above-above : (a b : ℕ) → a ≤ b → (s : Site) → above a (above b s) ≡ above a s
above-above a b l s =
    let p = take-take (a - 1) (b - 1) s.numbers (omega arith) in
    let q = window-window (a - 1) (b - 1) (omega arith) s.place in
    λ i. record { numbers = p i; place = q i }

-- ---- a record that is entered

abbrev pub choose : Bool → RecordNumbers → RecordNumbers → RecordNumbers
choose true a b = a
choose false a b = b

-- record n of kind k is the last that was seen
unfoldable pub entered_at : ℕ → ℕ → RecordNumbers → RecordNumbers
entered_at k n at =
    choose (eqb k 1) (record { model = n; chain = at.chain; residue = at.residue; conformer = at.conformer; atom = at.atom })
    (choose (eqb k 2) (record { model = at.model; chain = n; residue = at.residue; conformer = at.conformer; atom = at.atom })
    (choose (eqb k 3) (record { model = at.model; chain = at.chain; residue = n; conformer = at.conformer; atom = at.atom })
    (choose (eqb k 4) (record { model = at.model; chain = at.chain; residue = at.residue; conformer = n; atom = at.atom })
    (record { model = at.model; chain = at.chain; residue = at.residue; conformer = at.conformer; atom = n }))))

-- what stands above a record of kind k
pub site-above : (w : List ℕ) (k d : ℕ) (at : RecordNumbers) → k ≤ suc d → above k (site_at w d at) ≡ site_at w (k - 1) at
unfolding site_at
site-above w k d at l =
    let e : suc d - 1 ≡ d = omega arith in
    rw e at (above-above k (suc d) l (record { numbers = five at; place = place_at w at }))

-- is so too where the record is the last that was seen
pub site_left : (w : List ℕ) (k n : ℕ) (at : RecordNumbers) → 1 ≤ k → k ≤ 5 → site_at w (k - 1) at ≡ site_at w (k - 1) (entered_at k n at)
unfolding site_at window entered_at place_at
site_left w zero n at l h = absurd (omega arith)
site_left w (suc zero) n at l h = refl
site_left w (suc (suc zero)) n at l h = refl
site_left w (suc (suc (suc zero))) n at l h = refl
site_left w (suc (suc (suc (suc zero)))) n at l h = refl
site_left w (suc (suc (suc (suc (suc zero))))) n at l h = refl
site_left w (suc (suc (suc (suc (suc (suc k)))))) n at l h = absurd (omega arith)

-- and so is what is known up to a kind above it
pub known-above : (w : List ℕ) (low s k n : ℕ) (at : RecordNumbers) → 1 ≤ k → k ≤ 5 → s < k → window low s (place_at w at) ≡ window low s (place_at w (entered_at k n at))
unfolding site_at
known-above w low s k n at l h b = sym (part at) ∙ ap (λ (y : Site). window low 5 (window 1 s y.place)) (site_left w k n at l h) ∙ part (entered_at k n at)
  where
    part : (x : RecordNumbers) → window low 5 (window 1 s (window 1 (k - 1) (place_at w x))) ≡ window low s (place_at w x)
    part x = ap (window low 5) (window-window s (k - 1) (omega arith) (place_at w x)) ∙ window-from low s (place_at w x)

-- with it, the site is the record's own
pub site-below : (w : List ℕ) (k n : ℕ) (at : RecordNumbers) → 1 ≤ k → k ≤ 5 → below (5 - k) n (fields_of (5 - k) (record_at n w)) (site_at w (k - 1) at) ≡ site_at w k (entered_at k n at)
unfolding site_at window entered_at place_at enter
site-below w zero n at l h = absurd (omega arith)
site-below w (suc zero) n at l h = refl
site-below w (suc (suc zero)) n at l h = refl
site-below w (suc (suc (suc zero))) n at l h = refl
site-below w (suc (suc (suc (suc zero)))) n at l h = refl
site-below w (suc (suc (suc (suc (suc zero))))) n at l h = refl
site-below w (suc (suc (suc (suc (suc (suc k)))))) n at l h = absurd (omega arith)

-- ---- the five numbers

up-choose : (n : ℕ) (b : Bool) (x y : RecordNumbers) → UpTo n x → UpTo n y → UpTo n (choose b x y)
up-choose n true x y u v = u
up-choose n false x y u v = v

pub up-entered : (k n : ℕ) (at : RecordNumbers) → UpTo n at → UpTo n (entered_at k n at)
unfolding entered_at
up-entered k n at u =
    up-choose n (eqb k 1) _ _ (record { model = omega arith; chain = u.chain; residue = u.residue; conformer = u.conformer; atom = u.atom })
    (up-choose n (eqb k 2) _ _ (record { model = u.model; chain = omega arith; residue = u.residue; conformer = u.conformer; atom = u.atom })
    (up-choose n (eqb k 3) _ _ (record { model = u.model; chain = u.chain; residue = omega arith; conformer = u.conformer; atom = u.atom })
    (up-choose n (eqb k 4) _ _ (record { model = u.model; chain = u.chain; residue = u.residue; conformer = omega arith; atom = u.atom })
    (record { model = u.model; chain = u.chain; residue = u.residue; conformer = u.conformer; atom = omega arith }))))

pub up_more : (n m : ℕ) (at : RecordNumbers) → n ≤ m → UpTo n at → UpTo m at
up_more n m at l u =
    record { model = omega (arith, u.model); chain = omega (arith, u.chain); residue = omega (arith, u.residue); conformer = omega (arith, u.conformer); atom = omega (arith, u.atom) }

-- a list of five has them
pub five-is : (l : List ℕ) → length l ≡ 5 → l ≡ five (five_numbers l)
five-is [] h = absurd (omega arith)
five-is (a ∷ []) h = absurd (omega arith)
five-is (a ∷ b ∷ []) h = absurd (omega arith)
five-is (a ∷ b ∷ c ∷ []) h = absurd (omega arith)
five-is (a ∷ b ∷ c ∷ d ∷ []) h = absurd (omega arith)
five-is (a ∷ b ∷ c ∷ d ∷ e ∷ []) h = refl
five-is (a ∷ b ∷ c ∷ d ∷ e ∷ f ∷ l) h = absurd (omega arith)

-- `enter` writes the number of its kind
pub entered-five : (k n : ℕ) (at : RecordNumbers) → 1 ≤ k → k ≤ 5 → five_numbers (set (five at) (k - 1) n) ≡ entered_at k n at
unfolding entered_at
entered-five zero n at l h = absurd (omega arith)
entered-five (suc zero) n at l h = refl
entered-five (suc (suc zero)) n at l h = refl
entered-five (suc (suc (suc zero))) n at l h = refl
entered-five (suc (suc (suc (suc zero)))) n at l h = refl
entered-five (suc (suc (suc (suc (suc zero))))) n at l h = refl
entered-five (suc (suc (suc (suc (suc (suc k)))))) n at l h = absurd (omega arith)
