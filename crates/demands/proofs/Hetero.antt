-- Which answers change where hetero goes first, proved for any names. Assumes nothing.
use Rattle.std.specs.Prelude.{Err, None, Ok, Option, Some}
use Prim.Native.Nat.{ℕ}
use mathlib.Core.Path.{◌≡◌, refl, sym, ap, ◌∙◌}
use mathlib.Core.Bool.{Bool, true, false, not, ◌&&◌, ◌||◌, cond, false≢true}
use mathlib.Core.List.{List, [], ◌∷◌, map}
use borrow.Author.Tests.{not-true}
use Rattle.machine.specs.Lists.{is_some, any, keep, filter, and_then}
use Rattle.machine.specs.Answer.{Result}
use Rattle.machine.specs.Record.{Conformer, Atom, read_out}
use Rattle.machine.specs.Kleene.{decided, not_t, and_t, xor_t, is_hit, is_true}
use Rattle.machine.specs.Query.{Place, Names, only_if, between, window, known, member, among_residues, hetero_first, term_value, Stack, step, run, the_one, value_of, read_tree, tree_value}
use Rattle.machine.specs.Find.{Site}
use Rattle.machine.specs.declared.Tri.{Tri}
use Rattle.machine.specs.declared.Tri.TheVariants.{False, True}
use Rattle.machine.specs.declared.Term.{Term}
use Rattle.machine.specs.declared.Term.TheVariants.{ModelSerialNumber, ModelSerialNumberRange, ChainId, ChainIdRange, ResidueSerialNumber, ResidueSerialNumberRange, ResidueInsertionCode, ResidueId, ConformerName, ConformerAlternativeLocation, ConformerId, AtomSerialNumber, AtomSerialNumberRange, AtomName, Element, BFactor, BFactorRange, Occupancy, OccupancyRange, Backbone, SideChain, Hetero}
use Rattle.machine.specs.declared.Node.{Node}
use Rattle.machine.specs.declared.Node.TheVariants.{Single, Binary, Not, Known}
use Rattle.laws.specs.Kleene.{and-false}
use Rattle.laws.specs.Counting.{filter_same}
use Rattle.demands.specs.Hetero.{side_of, is_side, asks_side, asks_sides, former_by, former_value, HeteroFirst}

-- ---- trees by two valuations

tree-same : (v w : Term → Tri) → ((t : Term) → v t ≡ w t) → (t : List ℕ) → tree_value v t ≡ tree_value w t
tree-same v w f t = λ i. tree_value (λ u. f u i) t

-- which agree on the terms that a tree has
module _ (v w : Term → Tri) (agree : (t : Term) → is_side t ≡ false → v t ≡ w t) where
  step_same : (n : Node) → asks_side n ≡ false → (s : List Tri) → step v n s ≡ step w n s
  step_same (Single t) h s = rw (agree t h)
  step_same (Binary o) h s = refl
  step_same Not h s = refl
  step_same (Known b) h s = refl

  neither : (a b : Bool) → a || b ≡ false → (a ≡ false) × (b ≡ false)
  neither false b h = (refl, h)
  neither true b h = absurd (false≢true (sym h))

  run-same : (ns : List Node) → any asks_side ns ≡ false → (s : List Tri) → run v ns s ≡ run w ns s
  unfolding run
  run-same [] h s = refl
  run-same (n ∷ ns) h s =
      let b = neither (asks_side n) (any asks_side ns) h in
      ap (λ (o : Stack). and_then o (run v ns)) (step_same n b.0 s) ∙ go (step w n s) (run-same ns b.1)
    where
      go : (o : Stack) → ((r : List Tri) → run v ns r ≡ run w ns r) → and_then o (run v ns) ≡ and_then o (run w ns)
      go None f = refl
      go (Some r) f = f r

  without-same : (t : List ℕ) → asks_sides (read_tree t) ≡ false → tree_value v t ≡ tree_value w t
  unfolding tree_value
  without-same t h = go (read_tree t) h
    where
      go : (r : Result (List Node)) → asks_sides r ≡ false → value_of v r ≡ value_of w r
      go (Ok ns) h = ap the_one (run-same ns h [])
      go (Err x) h = refl

-- tests that agree on the elements that another leaves
filter-within : {A : Type 0} (p q r : A → Bool) → ((x : A) → r x ≡ true → p x ≡ q x) → (xs : List A) → filter p (filter r xs) ≡ filter q (filter r xs)
filter-within p q r f [] = refl
filter-within p q r f (x ∷ xs) = go (r x) refl (filter-within p q r f xs)
  where
    go : (b : Bool) → r x ≡ b → filter p (filter r xs) ≡ filter q (filter r xs) → filter p (keep b x (filter r xs)) ≡ filter q (keep b x (filter r xs))
    go true e i = rw (f x e, i)
    go false e i = i

-- ---- the two terms at a place

module _ (names : Names) (o : Option Conformer) (g : Atom → Bool) where
  abbrev hetero : Option Atom → Tri
  hetero p = known p (λ a. (read_out a).hetero)

  abbrev now : Option Atom → Tri
  now p = known p (λ a. hetero_first a (g a))

  -- the conformer's part is what it was
  among-and : (u : Option Conformer) (x y z : Tri) → x ≡ and_t y z → among_residues names u x ≡ and_t (among_residues names u y) z
  among-and None x y z h = h
  among-and (Some c) x y z h = go (member names.residues c.name)
    where
      go : (b : Bool) → cond b x False ≡ and_t (cond b y False) z
      go true = h
      go false = refl

  first_of : (h b : Bool) → decided (not h && b) ≡ and_t (decided b) (not_t (decided h))
  first_of true true = refl
  first_of true false = refl
  first_of false true = refl
  first_of false false = refl

  atom-and : (p : Option Atom) → now p ≡ and_t (known p g) (not_t (hetero p))
  atom-and None = refl
  atom-and (Some a) = first_of (read_out a).hetero (g a)

  and-not-hetero : (p : Option Atom) → among_residues names o (now p) ≡ and_t (among_residues names o (known p g)) (not_t (hetero p))
  and-not-hetero p = among-and o (now p) (known p g) (not_t (hetero p)) (atom-and p)

  untrue : (b : Bool) → is_true (decided b) ≡ false → b ≡ false
  untrue true h = absurd (false≢true (sym h))
  untrue false h = refl

  not-hetero : (p : Option Atom) → is_true (hetero p) ≡ false → now p ≡ known p g
  not-hetero None h = refl
  not-hetero (Some a) h = rw (untrue (read_out a).hetero h)

module _ (names : Names) (e : Place) where
  -- what a term's value is, by what it makes of an atom's name
  abbrev now_by : Option (Bool → Bool) → Tri → Tri
  now_by None value = value
  now_by (Some f) value = among_residues names e.conformer (known e.atom (λ a. hetero_first a (f (member names.atoms a.name))))

  now-value : (t : Term) → term_value names e t ≡ now_by (side_of t) (term_value names e t)
  unfolding term_value
  now-value (ModelSerialNumber n) = refl
  now-value (ModelSerialNumberRange a b) = refl
  now-value (ChainId n) = refl
  now-value (ChainIdRange a b) = refl
  now-value (ResidueSerialNumber n) = refl
  now-value (ResidueSerialNumberRange a b) = refl
  now-value (ResidueInsertionCode n) = refl
  now-value (ResidueId a b) = refl
  now-value (ConformerName n) = refl
  now-value (ConformerAlternativeLocation n) = refl
  now-value (ConformerId a b) = refl
  now-value (AtomSerialNumber n) = refl
  now-value (AtomSerialNumberRange a b) = refl
  now-value (AtomName n) = refl
  now-value (Element n) = refl
  now-value (BFactor x) = refl
  now-value (BFactorRange a b) = refl
  now-value (Occupancy x) = refl
  now-value (OccupancyRange a b) = refl
  now-value Backbone = refl
  now-value SideChain = refl
  now-value Hetero = refl

  sides : (t : Term) → is_side t ≡ true → term_value names e t ≡ and_t (former_value names e t) (not_t (term_value names e Hetero))
  unfolding term_value
  sides t h = now-value t ∙ go (side_of t) h
    where
      go : (o : Option (Bool → Bool)) → is_some o ≡ true → now_by o (term_value names e t) ≡ and_t (former_by names e o (term_value names e t)) (not_t (known e.atom (λ a. (read_out a).hetero)))
      go None k = absurd (false≢true k)
      go (Some f) k = and-not-hetero names e.conformer (λ a. f (member names.atoms a.name)) e.atom

  pub same-others : (t : Term) → is_side t ≡ false → term_value names e t ≡ former_value names e t
  same-others t h = go (side_of t) h
    where
      go : (o : Option (Bool → Bool)) → is_some o ≡ false → term_value names e t ≡ former_by names e o (term_value names e t)
      go None k = refl
      go (Some f) k = absurd (false≢true (sym k))

  settles : term_value names e Hetero ≡ True → (t : Term) → is_side t ≡ true → term_value names e t ≡ False
  settles h t k = sides t k ∙ ap (λ (x : Tri). and_t (former_value names e t) (not_t x)) h ∙ and-false (former_value names e t)

  same-terms : is_true (term_value names e Hetero) ≡ false → (t : Term) → term_value names e t ≡ former_value names e t
  unfolding term_value
  same-terms h t = now-value t ∙ go (side_of t)
    where
      go : (o : Option (Bool → Bool)) → now_by o (term_value names e t) ≡ former_by names e o (term_value names e t)
      go None = refl
      go (Some f) = ap (among_residues names e.conformer) (not-hetero names e.conformer (λ a. f (member names.atoms a.name)) e.atom h)

-- exactly one of a test and its opposite is true
one-true : (names : Names) (o : Option Conformer) (p : Option Atom) (g : Atom → Bool) → known p (λ a. (read_out a).hetero) ≡ True
    → xor_t (among_residues names o (known p g)) (among_residues names o (known p (λ a. not (g a)))) ≡ among_residues names o True
one-true names o None g h = let z : ◌≡◌ {A = Bool} false true = ap is_true h in absurd (false≢true z)
one-true names None (Some a) g h = either (g a)
  where
    either : (b : Bool) → xor_t (decided b) (decided (not b)) ≡ True
    either true = refl
    either false = refl
one-true names (Some c) (Some a) g h = go (member names.residues c.name) (g a)
  where
    go : (m b : Bool) → xor_t (cond m (decided b) False) (cond m (decided (not b)) False) ≡ cond m True False
    go true true = refl
    go true false = refl
    go false b = refl

-- ---- the theorem

module _ (names : Names) where
  was-true : (e : Place) → term_value names e Hetero ≡ True → xor_t (former_value names e Backbone) (former_value names e SideChain) ≡ among_residues names e.conformer True
  unfolding term_value
  was-true e h = one-true names e.conformer e.atom (λ a. member names.atoms a.name) h

  -- an atom that isn't hetero isn't so from any start
  window-hetero : (low : ℕ) (e : Place) → not (is_true (term_value names e Hetero)) ≡ true → is_true (term_value names (window low 5 e) Hetero) ≡ false
  unfolding term_value window
  window-hetero low e h = go (between low 5 5) e.atom (not-true _ h)
    where
      go : (b : Bool) (p : Option Atom) → is_true (known p (λ a. (read_out a).hetero)) ≡ false → is_true (known (only_if b p) (λ a. (read_out a).hetero)) ≡ false
      go true p k = k
      go false p k = refl

  abbrev numbers : Site → List ℕ
  numbers s = s.numbers

  pub hetero-first : HeteroFirst names
  hetero-first =
      record {
        sides = sides names;
        settles = settles names;
        was-true = was-true;
        same-atoms = λ e h t. tree-same _ _ (same-terms names e h) t;
        same-trees = λ t h e. without-same _ _ (same-others names e) t h;
        same_lists = λ t h low atoms. ap (map numbers) (filter_same _ _ (λ s. ap is_hit (without-same _ _ (same-others names (window low 5 s.place)) t h)) atoms);
        same-hits = λ low t atoms. ap (map numbers) (filter-within _ _ _ (λ s h. ap is_hit (tree-same _ _ (same-terms names (window low 5 s.place) (window-hetero low s.place h)) t)) atoms);
      }
