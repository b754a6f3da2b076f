-- The lowest kind that a tree asks for, and that the tree is undecided where only lesser kinds are known. Assumes nothing.
use Rattle.std.specs.Prelude.{None, Some, Ok}
use Prim.Native.Nat.{ℕ, zero, suc, ◌+◌, ◌≤◌, ◌<◌}
use mathlib.Core.Path.{◌≡◌, refl, sym, ◌∙◌}
use mathlib.Core.Bool.{Bool, true, false, cond, false≢true, and-false}
use mathlib.Core.List.{List, [], ◌∷◌}
use native.Mathlib.Omega.{arith}
use lib.ListN.{length, drop, get_or, drop_of_length-le, get_or-eq_default}
use lib.Seq.{drop-cons, drop-drop}
use lib.Dec.{leb, ltb, eqb}
use borrow.Author.Tests.{lt-leb, ltb-true, ltb-false, eqb-true}
use Rattle.machine.specs.Lists.{and_then, all}
use Rattle.machine.specs.Kleene.{apply_t}
use Rattle.machine.specs.Query.{codes, Stack, step, run, the_one, read_tree, tree_value, term_value, window}
use Rattle.machine.specs.declared.Tri.{Tri}
use Rattle.machine.specs.declared.Tri.TheVariants.{False, True, Undecided}
use Rattle.machine.specs.declared.Term.{Term}
use Rattle.machine.specs.declared.Term.TheVariants.{ModelSerialNumber, ModelSerialNumberRange, ChainId, ChainIdRange, ResidueSerialNumber, ResidueSerialNumberRange, ResidueInsertionCode, ResidueId, ConformerName, ConformerAlternativeLocation, ConformerId, AtomSerialNumber, AtomSerialNumberRange, AtomName, Element, BFactor, BFactorRange, Occupancy, OccupancyRange, Backbone, SideChain, Hetero}
use Rattle.machine.specs.declared.Ops.{Ops}
use Rattle.machine.specs.declared.Ops.TheVariants.{And, Or, Xor}
use Rattle.machine.specs.declared.Node.{Node}
use Rattle.machine.specs.declared.Node.TheVariants.{Single, Binary, Not, Known}
use Rattle.machine.specs.declared.RecordNumbers.{RecordNumbers}
use Rattle.laws.specs.Lists.{All}
use Rattle.terms.specs.Levels.{term_value_at}
use Rattle.search.specs.Nodes.{node_for, nodes_in, checked, kinds, kind_for, lesser, topmost_from}
use Rattle.terms.proofs.Terms.{case_of}
use Rattle.search.proofs.Nodes.{each_in}
use Rattle.search.proofs.Postfix.{tree-read}

-- ---- `kind_for`, `topmost_kind`

pub no_kind : (c : ℕ) → 29 ≤ c → 0 ≡ kind_for c
no_kind c h = sym (get_or-eq_default kinds 0 h)

topmost-cons : (r c : ℕ) (l : List ℕ) → topmost_from r (c ∷ l) ≡ topmost_from (lesser (kind_for c) r) (drop 2 l)
unfolding topmost_from
topmost-cons r c [] = refl
topmost-cons r c (p ∷ []) = refl
topmost-cons r c (p ∷ q ∷ rest) = refl

module _ (t : List ℕ) (r i : ℕ) (e : topmost_from 5 t ≡ topmost_from r (drop i t)) where
  pub topmost-next : i < length t → (k m : ℕ) → k ≡ kind_for (get_or t i 0) → m ≡ lesser k r → topmost_from 5 t ≡ topmost_from m (drop (i + 3) t)
  topmost-next h k m f g =
      let three : suc i + 2 ≡ i + 3 = omega arith in
      e ∙ rw (drop-cons t i 0 h) (topmost-cons r (get_or t i 0) (drop (suc i) t) ∙ rw (g, f, drop-drop 2 (suc i) t, three))

  pub topmost-end : length t ≤ i → r ≡ topmost_from 5 t
  unfolding topmost_from
  topmost-end h = sym (e ∙ rw (drop_of_length-le t h))

-- ---- a node's kind

abbrev kind_of : Term → ℕ
kind_of x = kind_for (suc (case_of x))

abbrev node_kind : Node → ℕ
node_kind (Single x) = kind_of x
node_kind (Binary o) = 5
node_kind Not = 5
node_kind (Known b) = 0

-- with the kinds up to k alone known, a term that asks for a greater one is undecided
hidden : (w : List ℕ) (at : RecordNumbers) (low k : ℕ) (residues atoms : List ℕ) (x : Term) → k < kind_of x → term_value_at w at low k residues atoms x ≡ Undecided
unfolding term_value window
hidden w at low k residues atoms (ModelSerialNumber n) h = rw (lt-leb 1 k h, and-false (leb low 1))
hidden w at low k residues atoms (ModelSerialNumberRange a b) h = rw (lt-leb 1 k h, and-false (leb low 1))
hidden w at low k residues atoms (ChainId n) h = rw (lt-leb 2 k h, and-false (leb low 2))
hidden w at low k residues atoms (ChainIdRange a b) h = rw (lt-leb 2 k h, and-false (leb low 2))
hidden w at low k residues atoms (ResidueSerialNumber n) h = rw (lt-leb 3 k h, and-false (leb low 3))
hidden w at low k residues atoms (ResidueSerialNumberRange a b) h = rw (lt-leb 3 k h, and-false (leb low 3))
hidden w at low k residues atoms (ResidueInsertionCode n) h = rw (lt-leb 3 k h, and-false (leb low 3))
hidden w at low k residues atoms (ResidueId a b) h = rw (lt-leb 3 k h, and-false (leb low 3))
hidden w at low k residues atoms (ConformerName n) h = rw (lt-leb 4 k h, and-false (leb low 4))
hidden w at low k residues atoms (ConformerAlternativeLocation n) h = rw (lt-leb 4 k h, and-false (leb low 4))
hidden w at low k residues atoms (ConformerId a b) h = rw (lt-leb 4 k h, and-false (leb low 4))
hidden w at low k residues atoms (AtomSerialNumber n) h = rw (lt-leb 5 k h, and-false (leb low 5))
hidden w at low k residues atoms (AtomSerialNumberRange a b) h = rw (lt-leb 5 k h, and-false (leb low 5))
hidden w at low k residues atoms (AtomName n) h = rw (lt-leb 5 k h, and-false (leb low 5))
hidden w at low k residues atoms (Element n) h = rw (lt-leb 5 k h, and-false (leb low 5))
hidden w at low k residues atoms (BFactor n) h = rw (lt-leb 5 k h, and-false (leb low 5))
hidden w at low k residues atoms (BFactorRange a b) h = rw (lt-leb 5 k h, and-false (leb low 5))
hidden w at low k residues atoms (Occupancy n) h = rw (lt-leb 5 k h, and-false (leb low 5))
hidden w at low k residues atoms (OccupancyRange a b) h = rw (lt-leb 5 k h, and-false (leb low 5))
hidden w at low k residues atoms Backbone h = rw (lt-leb 4 k h, and-false (leb low 4), lt-leb 5 k (omega arith), and-false (leb low 5))
hidden w at low k residues atoms SideChain h = rw (lt-leb 4 k h, and-false (leb low 4), lt-leb 5 k (omega arith), and-false (leb low 5))
hidden w at low k residues atoms Hetero h = rw (lt-leb 5 k h, and-false (leb low 5))

-- ---- operands that are all undecided

is_undecided : Tri → Bool
is_undecided False = false
is_undecided True = false
is_undecided Undecided = true

abbrev calm : Stack → Bool
calm None = true
calm (Some s) = all is_undecided s

calm-negate : (v : Term → Tri) (s : List Tri) → all is_undecided s ≡ true → calm (step v Not s) ≡ true
unfolding is_undecided
calm-negate v [] h = refl
calm-negate v (False ∷ s) h = absurd (false≢true h)
calm-negate v (True ∷ s) h = absurd (false≢true h)
calm-negate v (Undecided ∷ s) h = h

calm-op : (o : Ops) → is_undecided (apply_t o Undecided Undecided) ≡ true
unfolding is_undecided
calm-op And = refl
calm-op Or = refl
calm-op Xor = refl

calm-combine : (v : Term → Tri) (o : Ops) (s : List Tri) → all is_undecided s ≡ true → calm (step v (Binary o) s) ≡ true
unfolding is_undecided
calm-combine v o [] h = refl
calm-combine v o (a ∷ []) h = refl
calm-combine v o (False ∷ b ∷ s) h = absurd (false≢true h)
calm-combine v o (True ∷ b ∷ s) h = absurd (false≢true h)
calm-combine v o (Undecided ∷ False ∷ s) h = absurd (false≢true h)
calm-combine v o (Undecided ∷ True ∷ s) h = absurd (false≢true h)
calm-combine v o (Undecided ∷ Undecided ∷ s) h = rw (calm-op o) h

calm-one : (s : Stack) → calm s ≡ true → the_one s ≡ Undecided
unfolding is_undecided
calm-one None h = refl
calm-one (Some []) h = refl
calm-one (Some (False ∷ [])) h = absurd (false≢true h)
calm-one (Some (True ∷ [])) h = absurd (false≢true h)
calm-one (Some (Undecided ∷ [])) h = refl
calm-one (Some (a ∷ b ∷ s)) h = refl

module _ (v : Term → Tri) (k : ℕ) (unknown : (x : Term) → k < kind_of x → v x ≡ Undecided) where
  calm-step : (m : Node) → k < node_kind m → (s : List Tri) → all is_undecided s ≡ true → calm (step v m s) ≡ true
  unfolding is_undecided
  calm-step (Single x) l s h = rw (unknown x l) h
  calm-step (Binary o) l s h = calm-combine v o s h
  calm-step Not l s h = calm-negate v s h
  calm-step (Known b) l s h = absurd (omega arith)

  calm_run : (ns : List Node) → All (λ m. k < node_kind m) ns → (s : List Tri) → all is_undecided s ≡ true → calm (run v ns s) ≡ true
  unfolding run
  calm_run [] a s h = h
  calm_run (n ∷ ns) a s h = go (step v n s) (calm-step n a.0 s h) (calm_run ns a.1)
    where
      go : (o : Stack) → calm o ≡ true → ((s : List Tri) → all is_undecided s ≡ true → calm (run v ns s) ≡ true) → calm (and_then o (run v ns)) ≡ true
      go None e f = refl
      go (Some s) e f = f s e

-- ---- a whole tree

-- a code has its node's kind
code-kind : (c p q k : ℕ) → k < kind_for c → k < node_kind (node_for c p q)
unfolding node_for codes
code-kind zero p q k h = absurd (omega arith)
code-kind (suc c) p q k h = go (ltb (suc c) 29) refl
  where
    go : (b : Bool) → ltb (suc c) 29 ≡ b → k < node_kind (node_for (suc c) p q)
    go true e =
        let same = eqb-true (node_kind (node_for (suc c) p q)) (kind_for (suc c)) (each_in (λ (j : ℕ). eqb (node_kind (node_for j p q)) (kind_for j)) 1 28 (suc c) refl (omega arith) (ltb-true (suc c) 29 e)) in
        rw same h
    go false e = absurd (omega (arith, no_kind (suc c) (ltb-false (suc c) 29 e)))

record Below (k r : ℕ) (t : List ℕ) : Type 0 where
  first : k < r
  nodes : All (λ m. k < node_kind m) (nodes_in t)

lesser-both : (k a b : ℕ) → k < lesser a b → (k < a) × (k < b)
lesser-both k a b = go (ltb a b) refl
  where
    go : (x : Bool) → ltb a b ≡ x → k < cond x a b → (k < a) × (k < b)
    go true e h = let l = ltb-true a b e in (h, omega arith)
    go false e h = let l = ltb-false a b e in (omega arith, h)

topmost-below : (k r : ℕ) (t : List ℕ) → k < topmost_from r t → Below k r t
unfolding topmost_from nodes_in
topmost-below k r [] h = record { first = h; nodes = tt }
topmost-below k r (c ∷ []) h = record { first = (lesser-both k (kind_for c) r h).1; nodes = tt }
topmost-below k r (c ∷ p ∷ []) h = record { first = (lesser-both k (kind_for c) r h).1; nodes = tt }
topmost-below k r (c ∷ p ∷ q ∷ rest) h =
    let b = topmost-below k (lesser (kind_for c) r) rest h in
    let s = lesser-both k (kind_for c) r b.first in
    record { first = s.1; nodes = (code-kind c p q k s.0, b.nodes) }

pub below-topmost : (w : List ℕ) (at : RecordNumbers) (low k : ℕ) (residues atoms t : List ℕ) → checked (read_tree t) ≡ Ok tt → k < topmost_from 5 t
    → Undecided ≡ tree_value (term_value_at w at low k residues atoms) t
unfolding tree_value is_undecided
below-topmost w at low k residues atoms t good h =
    let v : Term → Tri = term_value_at w at low k residues atoms in
    sym (rw (tree-read v t good) (calm-one (run v (nodes_in t) []) (calm_run v k (hidden w at low k residues atoms) (nodes_in t) (topmost-below k 5 t h).nodes [] refl)))
