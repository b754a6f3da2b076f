-- Which level a term asks for, and its value where that level alone is known, or is not. Assumes nothing.
use Rattle.std.specs.Prelude.{None, Option, Some}
use Prim.Native.Nat.{ℕ, zero, suc}
use mathlib.Core.Path.{◌≡◌, refl, sym, ap, ◌∙◌}
use mathlib.Core.Bool.{Bool, true, false, not, ◌&&◌, ◌||◌, cond, false≢true}
use mathlib.Core.List.{List, [], ◌∷◌}
use mathlib.Core.Logic.{inl, inr}
use native.Mathlib.Omega.{arith}
use lib.Dec.{leb, eqb}
use borrow.Author.Tests.{leb-true, le-leb, eqb-true, eqb-false, not-true}
use types.Run.{OneOf}
use denote.Enum.Declared.{tag_of}
use Rattle.machine.specs.Lists.{all}
use Rattle.machine.specs.Record.{Conformer}
use Rattle.machine.specs.Query.{Place, Names, only_if, between, window, member, among_residues, term_value}
use Rattle.machine.specs.Find.{nowhere}
use Rattle.machine.specs.declared.Tri.{Tri}
use Rattle.machine.specs.declared.Tri.TheVariants.{False, True, Undecided}
use Rattle.machine.specs.declared.Term.{Term}
use Rattle.machine.specs.declared.Term.TheVariants.{ModelSerialNumber, ModelSerialNumberRange, ChainId, ChainIdRange, ResidueSerialNumber, ResidueSerialNumberRange, ResidueInsertionCode, ResidueId, ConformerName, ConformerAlternativeLocation, ConformerId, AtomSerialNumber, AtomSerialNumberRange, AtomName, Element, BFactor, BFactorRange, Occupancy, OccupancyRange, Backbone, SideChain, Hetero}
use Rattle.machine.specs.contracts.Term.{the_type}
use Rattle.laws.specs.Lists.{and_both, and-true}
use Rattle.terms.specs.Levels.{part_of, by_words, narrow}

-- the number of a term's case, from 0
abbrev pub case_of : Term → ℕ
case_of t = tag_of the_type t

-- whether the term of case g asks for the level of kind k; Backbone and SideChain ask for two
abbrev pub asks : ℕ → ℕ → Bool
asks g k =
    cond (leb g 1) (eqb 1 k)
    (cond (leb g 3) (eqb 2 k)
    (cond (leb g 7) (eqb 3 k)
    (cond (leb g 10) (eqb 4 k)
    (cond (eqb g 19 || eqb g 20) (eqb 4 k || eqb 5 k)
    (eqb 5 k)))))

-- whether it asks for that level, which stands above the conformers
abbrev pub asks_above : ℕ → ℕ → Bool
asks_above g k = asks g k && leb g 7

-- the keys of an arm: so many cases from one on
abbrev pub cases : ℕ → ℕ → List ℕ
cases g zero = []
cases g (suc n) = g ∷ cases (suc g) n

-- what a test gives at each key of an arm it gives at the case that led there
pub each-key : (p : ℕ → Bool) (ks : List ℕ) (g : ℕ) → all p ks ≡ true → OneOf ks g → p g ≡ true
each-key p [] g a h = absurd h
each-key p (k ∷ []) g a h = rw h (and_both (p k) true a).0
each-key p (k ∷ k' ∷ ks) g a (inl h) = rw h (and_both (p k) (all p (k' ∷ ks)) a).0
each-key p (k ∷ k' ∷ ks) g a (inr h) = each-key p (k' ∷ ks) g (and_both (p k) (all p (k' ∷ ks)) a).1 h

module _ (k n : ℕ) where
  alike : eqb n k ≡ true → between k k n ≡ true
  alike h = let e = eqb-true n k h in and-true (le-leb k n (omega arith)) (le-leb n k (omega arith))

  apart : (b : Bool) → between k k n ≡ b → not (eqb n k) ≡ true → b ≡ false
  apart false g h = refl
  apart true g h =
      let s = and_both (leb k n) (leb n k) g in
      let l = leb-true k n s.0 in
      let m = leb-true n k s.1 in
      absurd (eqb-false n k (not-true (eqb n k) h) (omega arith))

  module _ {A : Type 0} (o : Option A) where
    seen : eqb n k ≡ true → only_if (between k k n) o ≡ o
    seen h = ap (λ (b : Bool). only_if b o) (alike h)

    unseen : not (eqb n k) ≡ true → only_if (between k k n) o ≡ None
    unseen h = ap (λ (b : Bool). only_if b o) (apart (between k k n) refl h)

neither : (a b : Bool) → not (a || b) ≡ true → (not a ≡ true) × (not b ≡ true)
neither true b h = absurd (false≢true h)
neither false true h = absurd (false≢true h)
neither false false h = (refl, refl)

module _ (names : Names) (k : ℕ) (e : Place) where
  other : (t : Term) → not (asks (case_of t) k) ≡ true → term_value names (window k k e) t ≡ Undecided
  unfolding term_value window
  other (ModelSerialNumber n) h = rw (unseen k 1 e.model h)
  other (ModelSerialNumberRange a b) h = rw (unseen k 1 e.model h)
  other (ChainId n) h = rw (unseen k 2 e.chain h)
  other (ChainIdRange a b) h = rw (unseen k 2 e.chain h)
  other (ResidueSerialNumber n) h = rw (unseen k 3 e.residue h)
  other (ResidueSerialNumberRange a b) h = rw (unseen k 3 e.residue h)
  other (ResidueInsertionCode n) h = rw (unseen k 3 e.residue h)
  other (ResidueId a b) h = rw (unseen k 3 e.residue h)
  other (ConformerName n) h = rw (unseen k 4 e.conformer h)
  other (ConformerAlternativeLocation n) h = rw (unseen k 4 e.conformer h)
  other (ConformerId a b) h = rw (unseen k 4 e.conformer h)
  other (AtomSerialNumber n) h = rw (unseen k 5 e.atom h)
  other (AtomSerialNumberRange a b) h = rw (unseen k 5 e.atom h)
  other (AtomName n) h = rw (unseen k 5 e.atom h)
  other (Element n) h = rw (unseen k 5 e.atom h)
  other (BFactor n) h = rw (unseen k 5 e.atom h)
  other (BFactorRange a b) h = rw (unseen k 5 e.atom h)
  other (Occupancy n) h = rw (unseen k 5 e.atom h)
  other (OccupancyRange a b) h = rw (unseen k 5 e.atom h)
  other Backbone h = let s = neither (eqb 4 k) (eqb 5 k) h in rw (unseen k 4 e.conformer s.0, unseen k 5 e.atom s.1)
  other SideChain h = let s = neither (eqb 4 k) (eqb 5 k) h in rw (unseen k 4 e.conformer s.0, unseen k 5 e.atom s.1)
  other Hetero h = rw (unseen k 5 e.atom h)

  own : (t : Term) → asks_above (case_of t) k ≡ true → term_value names (window k k e) t ≡ term_value names e t
  unfolding term_value window
  own (ModelSerialNumber n) h = rw (seen k 1 e.model (and_both (eqb 1 k) true h).0)
  own (ModelSerialNumberRange a b) h = rw (seen k 1 e.model (and_both (eqb 1 k) true h).0)
  own (ChainId n) h = rw (seen k 2 e.chain (and_both (eqb 2 k) true h).0)
  own (ChainIdRange a b) h = rw (seen k 2 e.chain (and_both (eqb 2 k) true h).0)
  own (ResidueSerialNumber n) h = rw (seen k 3 e.residue (and_both (eqb 3 k) true h).0)
  own (ResidueSerialNumberRange a b) h = rw (seen k 3 e.residue (and_both (eqb 3 k) true h).0)
  own (ResidueInsertionCode n) h = rw (seen k 3 e.residue (and_both (eqb 3 k) true h).0)
  own (ResidueId a b) h = rw (seen k 3 e.residue (and_both (eqb 3 k) true h).0)
  own (ConformerName n) h = absurd (false≢true (and_both (eqb 4 k) false h).1)
  own (ConformerAlternativeLocation n) h = absurd (false≢true (and_both (eqb 4 k) false h).1)
  own (ConformerId a b) h = absurd (false≢true (and_both (eqb 4 k) false h).1)
  own (AtomSerialNumber n) h = absurd (false≢true (and_both (eqb 5 k) false h).1)
  own (AtomSerialNumberRange a b) h = absurd (false≢true (and_both (eqb 5 k) false h).1)
  own (AtomName n) h = absurd (false≢true (and_both (eqb 5 k) false h).1)
  own (Element n) h = absurd (false≢true (and_both (eqb 5 k) false h).1)
  own (BFactor n) h = absurd (false≢true (and_both (eqb 5 k) false h).1)
  own (BFactorRange a b) h = absurd (false≢true (and_both (eqb 5 k) false h).1)
  own (Occupancy n) h = absurd (false≢true (and_both (eqb 5 k) false h).1)
  own (OccupancyRange a b) h = absurd (false≢true (and_both (eqb 5 k) false h).1)
  own Backbone h = absurd (false≢true (and_both (eqb 4 k || eqb 5 k) false h).1)
  own SideChain h = absurd (false≢true (and_both (eqb 4 k || eqb 5 k) false h).1)
  own Hetero h = absurd (false≢true (and_both (eqb 5 k) false h).1)

  -- an arm of cases that don't ask for level k, and an arm of cases that ask for it, above the conformers
  pub elsewhere : (ks : List ℕ) (t : Term) → all (λ g. not (asks g k)) ks ≡ true → OneOf ks (case_of t) → Undecided ≡ term_value names (window k k e) t
  elsewhere ks t a h = sym (other t (each-key (λ g. not (asks g k)) ks (case_of t) a h))

  pub here : (ks : List ℕ) (t : Term) → all (λ g. asks_above g k) ks ≡ true → OneOf ks (case_of t) → term_value names (window k k e) t ≡ term_value names e t
  here ks t a h = own t (each-key (λ g. asks_above g k) ks (case_of t) a h)

-- no term asks for a level of kind 0, so none tells anything where nothing is known
asks_none : (g : ℕ) → not (asks g 0) ≡ true
asks_none g = simp same
  where
    same : (b : Bool) → cond b false false ≡ false
    same true = refl
    same false = refl

pub nothing : (names : Names) (t : Term) → Undecided ≡ term_value names nowhere t
unfolding window
nothing names t = sym (other names 0 nowhere t (asks_none (case_of t)))

-- ---- an atom's terms by its words, and by its floats

-- what of an atom the term of case g goes by
abbrev part_case : ℕ → ℕ
part_case g = cond (leb g 10) 0 (cond (leb g 14) 2 (cond (leb g 18) 1 3))

part-case : (t : Term) → part_of t ≡ part_case (case_of t)
part-case (ModelSerialNumber n) = refl
part-case (ModelSerialNumberRange a b) = refl
part-case (ChainId n) = refl
part-case (ChainIdRange a b) = refl
part-case (ResidueSerialNumber n) = refl
part-case (ResidueSerialNumberRange a b) = refl
part-case (ResidueInsertionCode n) = refl
part-case (ResidueId a b) = refl
part-case (ConformerName n) = refl
part-case (ConformerAlternativeLocation n) = refl
part-case (ConformerId a b) = refl
part-case (AtomSerialNumber n) = refl
part-case (AtomSerialNumberRange a b) = refl
part-case (AtomName n) = refl
part-case (Element n) = refl
part-case (BFactor n) = refl
part-case (BFactorRange a b) = refl
part-case (Occupancy n) = refl
part-case (OccupancyRange a b) = refl
part-case Backbone = refl
part-case SideChain = refl
part-case Hetero = refl

-- an arm of cases that go by less than some part, or by no less
module _ (least : ℕ) (ks : List ℕ) (t : Term) (h : OneOf ks (case_of t)) where
  pub by_less : all (λ g. not (leb least (part_case g))) ks ≡ true → leb least (part_of t) ≡ false
  by_less a = ap (leb least) (part-case t) ∙ not-true (leb least (part_case (case_of t))) (each-key (λ g. not (leb least (part_case g))) ks (case_of t) a h)

  pub by-more : all (λ g. leb least (part_case g)) ks ≡ true → leb least (part_of t) ≡ true
  by-more a = ap (leb least) (part-case t) ∙ each-key (λ g. leb least (part_case g)) ks (case_of t) a h

-- an arm of cases that go by the atom's words, or don't ask for the atom
pub no-float : (names : Names) (e : Place) (ks : List ℕ) (t : Term) → all (λ g. leb 2 (part_case g) || not (asks g 5)) ks ≡ true → OneOf ks (case_of t) → by_words t ≡ false → Undecided ≡ term_value names (window 5 5 e) t
no-float names e ks t a h q = sym (other names 5 e t (or_else (leb 2 (part_case (case_of t))) (not (asks (case_of t) 5)) (each-key (λ g. leb 2 (part_case g) || not (asks g 5)) ks (case_of t) a h) (ap (leb 2) (sym (part-case t)) ∙ q)))
  where
    or_else : (a b : Bool) → a || b ≡ true → a ≡ false → b ≡ true
    or_else true b h q = absurd (false≢true (sym q))
    or_else false b h q = h

-- ---- from the conformers down two levels say what a term's value is

narrow-alone : (a : Tri) → narrow a Undecided ≡ a
narrow-alone False = refl
narrow-alone True = refl
narrow-alone Undecided = refl

narrow-false : (a : Tri) → narrow a False ≡ False
narrow-false False = refl
narrow-false True = refl
narrow-false Undecided = refl

narrow-among : (names : Names) (o : Option Conformer) (a : Tri) → narrow a (among_residues names o Undecided) ≡ among_residues names o a
narrow-among names None a = narrow-alone a
narrow-among names (Some c) a = go (member names.residues c.name)
  where
    go : (b : Bool) → narrow a (cond b Undecided False) ≡ cond b a False
    go true = narrow-alone a
    go false = narrow-false a

module _ (names : Names) (e : Place) where
  two-levels : (t : Term) → leb 8 (case_of t) ≡ true → narrow (term_value names (window 5 5 e) t) (term_value names (window 4 4 e) t) ≡ term_value names e t
  unfolding term_value window
  two-levels (ModelSerialNumber n) h = absurd (false≢true h)
  two-levels (ModelSerialNumberRange a b) h = absurd (false≢true h)
  two-levels (ChainId n) h = absurd (false≢true h)
  two-levels (ChainIdRange a b) h = absurd (false≢true h)
  two-levels (ResidueSerialNumber n) h = absurd (false≢true h)
  two-levels (ResidueSerialNumberRange a b) h = absurd (false≢true h)
  two-levels (ResidueInsertionCode n) h = absurd (false≢true h)
  two-levels (ResidueId a b) h = absurd (false≢true h)
  two-levels (ConformerName n) h = refl
  two-levels (ConformerAlternativeLocation n) h = refl
  two-levels (ConformerId a b) h = refl
  two-levels (AtomSerialNumber n) h = narrow-alone _
  two-levels (AtomSerialNumberRange a b) h = narrow-alone _
  two-levels (AtomName n) h = narrow-alone _
  two-levels (Element n) h = narrow-alone _
  two-levels (BFactor n) h = narrow-alone _
  two-levels (BFactorRange a b) h = narrow-alone _
  two-levels (Occupancy n) h = narrow-alone _
  two-levels (OccupancyRange a b) h = narrow-alone _
  two-levels Backbone h = narrow-among names e.conformer _
  two-levels SideChain h = narrow-among names e.conformer _
  two-levels Hetero h = narrow-alone _

  pub lower : (t : Term) → OneOf (cases 8 14) (case_of t) → narrow (term_value names (window 5 5 e) t) (term_value names (window 4 4 e) t) ≡ term_value names e t
  lower t h = two-levels t (each-key (leb 8) (cases 8 14) (case_of t) refl h)
