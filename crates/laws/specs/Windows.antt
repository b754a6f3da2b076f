-- More levels known: what is decided stays, so a branch where a tree is false has no hit below. Assumes nothing.
use Rattle.std.specs.Prelude.{ℕ, ◌≤◌, ◌≡◌, refl, Bool, true, false, cond, List, leb, None, Option, Some}
use Rattle.std.proofs.lemmas.Bool.{false≢true}
use Rattle.std.proofs.Common.{arith, leb-true, le-leb}
use Rattle.machine.specs.Record.{Conformer, Atom}
use Rattle.machine.specs.Query.{tree_value, Place, Names, only_if, between, window, known, element_is, member, among_residues, term_value}
use Rattle.machine.specs.declared.Tri.{Tri}
use Rattle.machine.specs.declared.Tri.TheVariants.{False, Undecided}
use Rattle.machine.specs.declared.Term.{Term}
use Rattle.machine.specs.declared.Term.TheVariants.{ModelSerialNumber, ModelSerialNumberRange, ChainId, ChainIdRange, ResidueSerialNumber, ResidueSerialNumberRange, ResidueInsertionCode, ResidueId, ConformerName, ConformerAlternativeLocation, ConformerId, AtomSerialNumber, AtomSerialNumberRange, AtomName, Element, BFactor, BFactorRange, Occupancy, OccupancyRange, Backbone, SideChain, Hetero}
use Rattle.laws.specs.Lists.{and_both, and-true}
use Rattle.laws.specs.Kleene.{◌⊑◌, ⊑_refl}
use Rattle.laws.specs.Trees.{tree-false}

known-grows : {A : Type 0} (b c : Bool) → (b ≡ true → c ≡ true) → (o : Option A) (f : A → Bool) → known (only_if b o) f ⊑ known (only_if c o) f
known-grows false c i o f = tt
known-grows true false i o f = absurd (false≢true (i refl))
known-grows true true i o f = ⊑_refl (known o f)

element-grows : (b c : Bool) → (b ≡ true → c ≡ true) → (o : Option Atom) (n : ℕ) → element_is n (only_if b o) ⊑ element_is n (only_if c o)
element-grows false c i o n = tt
element-grows true false i o n = absurd (false≢true (i refl))
element-grows true true i o n = ⊑_refl (element_is n o)

-- the conformer's part: an atom that isn't known leaves it undecided or false
among-grows : (names : Names) (o : Option Conformer) (x : Tri) → among_residues names o Undecided ⊑ among_residues names o x
among-grows names None x = tt
among-grows names (Some c) x = go (member names.residues c.name)
  where
    go : (b : Bool) → cond b Undecided False ⊑ cond b x False
    go true = tt
    go false = refl

-- b and c: the conformer is known; d and e: the atom is
side-grows : (names : Names) (b c d e : Bool) → (b ≡ true → c ≡ true) → (d ≡ true → e ≡ true) → (d ≡ true → b ≡ c)
    → (o : Option Conformer) (p : Option Atom) (f : Atom → Bool)
    → among_residues names (only_if b o) (known (only_if d p) f) ⊑ among_residues names (only_if c o) (known (only_if e p) f)
side-grows names b c true false i j k o p f = absurd (false≢true (j refl))
side-grows names b c true true i j k o p f = rw (k refl) (⊑_refl (among_residues names (only_if c o) (known p f)))
side-grows names false c false e i j k o p f = tt
side-grows names true false false e i j k o p f = absurd (false≢true (i refl))
side-grows names true true false e i j k o p f = among-grows names o (known (only_if e p) f)

module _ (low high more : ℕ) (le : high ≤ more) where
  more-known : (n : ℕ) → between low high n ≡ true → between low more n ≡ true
  more-known n h =
      let b = and_both (leb low n) (leb n high) h in
      and-true b.0 (le-leb n more (omega (arith, leb-true n high b.1)))

  -- where the atom is known, so is the conformer, if it ever will be
  with-atom : between low high 5 ≡ true → between low high 4 ≡ between low more 4
  with-atom h =
      let b = leb-true 5 high (and_both (leb low 5) (leb 5 high) h).1 in
      rw (le-leb 4 high (omega arith), le-leb 4 more (omega arith))

  module _ (names : Names) (e : Place) where
    at : {A : Type 0} (n : ℕ) (o : Option A) (f : A → Bool) → known (only_if (between low high n) o) f ⊑ known (only_if (between low more n) o) f
    at n o f = known-grows (between low high n) (between low more n) (more-known n) o f

    side : (f : Atom → Bool)
        → among_residues names (only_if (between low high 4) e.conformer) (known (only_if (between low high 5) e.atom) f)
        ⊑ among_residues names (only_if (between low more 4) e.conformer) (known (only_if (between low more 5) e.atom) f)
    side f =
        side-grows names (between low high 4) (between low more 4) (between low high 5) (between low more 5) (more-known 4) (more-known 5) with-atom e.conformer e.atom f

    pub term-grows : (t : Term) → term_value names (window low high e) t ⊑ term_value names (window low more e) t
    unfolding term_value window
    term-grows (ModelSerialNumber n) = at 1 e.model _
    term-grows (ModelSerialNumberRange a b) = at 1 e.model _
    term-grows (ChainId n) = at 2 e.chain _
    term-grows (ChainIdRange a b) = at 2 e.chain _
    term-grows (ResidueSerialNumber n) = at 3 e.residue _
    term-grows (ResidueSerialNumberRange a b) = at 3 e.residue _
    term-grows (ResidueInsertionCode n) = at 3 e.residue _
    term-grows (ResidueId n k) = at 3 e.residue _
    term-grows (ConformerName n) = at 4 e.conformer _
    term-grows (ConformerAlternativeLocation n) = at 4 e.conformer _
    term-grows (ConformerId n k) = at 4 e.conformer _
    term-grows (AtomSerialNumber n) = at 5 e.atom _
    term-grows (AtomSerialNumberRange a b) = at 5 e.atom _
    term-grows (AtomName n) = at 5 e.atom _
    term-grows (Element n) = element-grows (between low high 5) (between low more 5) (more-known 5) e.atom n
    term-grows (BFactor x) = at 5 e.atom _
    term-grows (BFactorRange a b) = at 5 e.atom _
    term-grows (Occupancy x) = at 5 e.atom _
    term-grows (OccupancyRange a b) = at 5 e.atom _
    term-grows Backbone = side _
    term-grows SideChain = side _
    term-grows Hetero = at 5 e.atom _

    -- pruning, from any start: false with the kinds from low to high known, so false with more of them
    pub pruned : (t : List ℕ) → tree_value (term_value names (window low high e)) t ≡ False → tree_value (term_value names (window low more e)) t ≡ False
    pruned t h = tree-false (term_value names (window low high e)) (term_value names (window low more e)) term-grows t h

pub window-all : (e : Place) → window 1 5 e ≡ e
unfolding window
window-all e = refl
