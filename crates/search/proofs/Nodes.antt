-- Nodes by their codes, the good ones and the others. Assumes nothing.
use Rattle.std.specs.Prelude.{Err, None, Ok, Option, Some}
use Prim.Native.Nat.{ℕ, zero, suc, ◌+◌, ◌≤◌, ◌<◌}
use mathlib.Core.Path.{◌≡◌, refl, sym, ap, ◌∙◌}
use mathlib.Core.Bool.{Bool, true, false, not, ◌&&◌, cond, false≢true}
use mathlib.Core.List.{List, [], ◌∷◌}
use native.Mathlib.Omega.{arith}
use lib.ListN.{length}
use lib.Dec.{leb, eqb}
use borrow.Author.Tests.{leb-true, leb-false, eqb-true, eqb-false}
use Rattle.machine.specs.Lists.{all, nth}
use Rattle.machine.specs.Answer.{Result}
use Rattle.machine.specs.Query.{Parameter, unused, number, text, float, element, good_parameter, Code, codes, code_at, node_of}
use Rattle.machine.specs.declared.Node.{Node}
use Rattle.machine.specs.declared.Node.TheVariants.{Single, Binary, Not, Known}
use Rattle.machine.specs.declared.Refusal.{Refusal}
use Rattle.machine.specs.declared.Refusal.TheVariants.{TreeNode}
use Rattle.laws.specs.Lists.{and_both}
use Rattle.search.specs.Nodes.{made, node_for, sort_of, sorted, sort_for, fits_code, good_node}
use Rattle.search.specs.declared.Sort as Sort
use Rattle.terms.proofs.Terms.{cases}

-- ---- codes in a range, and codes that are none of the keys passed

pub each_in : (test : ℕ → Bool) (n k c : ℕ) → all test (cases n k) ≡ true → n ≤ c → c < n + k → test c ≡ true
each_in test n zero c a l h = absurd (omega arith)
each_in test n (suc k) c a l h =
    let s = and_both (test n) (all test (cases (suc n) k)) a in
    go (eqb c n) refl s.0 (λ m j. each_in test (suc n) k c s.1 m j)
  where
    go : (b : Bool) → eqb c n ≡ b → test n ≡ true → (suc n ≤ c → c < suc n + k → test c ≡ true) → test c ≡ true
    go true e t f = rw (eqb-true c n e) t
    go false e t f = let d = eqb-false c n e in f (omega arith) (omega arith)

-- ---- codes that are none

beyond : {A : Type 0} (xs : List A) (i : ℕ) → length xs ≤ i → nth i xs ≡ None
beyond [] i h = refl
beyond (x ∷ xs) zero h = absurd (omega arith)
beyond (x ∷ xs) (suc i) h = beyond xs i (omega arith)

no_code : (c : ℕ) → 28 < c → code_at c ≡ None
unfolding codes
no_code zero h = absurd (omega arith)
no_code (suc c) h = beyond codes c (omega arith)

-- ---- the sorts of codes

abbrev pub is_single : Option Sort.Sort → Bool
is_single None = false
is_single (Some Sort.TheVariants.Single) = true
is_single (Some (Sort.TheVariants.Binary o)) = false
is_single (Some Sort.TheVariants.Not) = false
is_single (Some (Sort.TheVariants.Known b)) = false

-- the node that a sort leaves: its own where it says all
abbrev pub node_as : Sort.Sort → Node → Node
node_as Sort.TheVariants.Single n = n
node_as (Sort.TheVariants.Binary o) n = Binary o
node_as Sort.TheVariants.Not n = Not
node_as (Sort.TheVariants.Known b) n = Known b

module _ (c p q : ℕ) where
  pub no-sort : 28 < c → None ≡ sort_for c p q
  unfolding sort_for
  no-sort h = rw (no_code c h)

  -- the node of a code by its sort, the codes that have a node, and those that have a term's
  pub node-as : {s : Sort.Sort} → Some s ≡ sort_for c p q → node_for c p q ≡ node_as s (node_for c p q)
  unfolding sort_for node_for
  node-as {s} e = go (code_at c) e
    where
      own : (n : Node) → n ≡ node_as (sort_of n) n
      own (Single t) = refl
      own (Binary o) = refl
      own Not = refl
      own (Known b) = refl

      go : (o : Option Code) → Some s ≡ sorted o p q → made o p q ≡ node_as s (made o p q)
      go None h = cc
      go (Some k) h = let g : s ≡ sort_of (k.node p q) = cc in rw g (own (k.node p q))

  pub no-node : None ≡ sort_for c p q → node_for c p q ≡ Known false
  unfolding sort_for node_for
  no-node e = go (code_at c) e
    where
      go : (o : Option Code) → None ≡ sorted o p q → made o p q ≡ Known false
      go None h = refl
      go (Some k) h = cc

  pub has-node : {s : Sort.Sort} → Some s ≡ sort_for c p q → (1 ≤ c) × (c ≤ 28)
  unfolding sort_for
  has-node {s} e = (low (leb 1 c) refl, high (leb c 28) refl)
    where
      low : (b : Bool) → leb 1 c ≡ b → 1 ≤ c
      low true g = leb-true 1 c g
      low false g = let m = leb-false 1 c g in let z : c ≡ 0 = omega arith in let n = ap (λ (j : ℕ). sorted (code_at j) p q) z in cc

      high : (b : Bool) → leb c 28 ≡ b → c ≤ 28
      high true g = leb-true c 28 g
      high false g = let m = leb-false c 28 g in let n = ap (λ (o : Option Code). sorted o p q) (no_code c m) in cc

  pub has-term : {s : Sort.Sort} → s ≡ Sort.TheVariants.Single → Some s ≡ sort_for c p q → (1 ≤ c) × (c ≤ 22)
  unfolding sort_for codes
  has-term k e = let r = has-node e in (r.0, high (leb c 22) refl r.1)
    where
      high : (b : Bool) → leb c 22 ≡ b → c ≤ 28 → c ≤ 22
      high true g r = leb-true c 22 g
      high false g r = let m = leb-false c 22 g in absurd (false≢true (ap (λ (x : Sort.Sort). not (is_single (Some x))) (sym k) ∙ ap (λ (x : Option Sort.Sort). not (is_single x)) e ∙ each_in (λ (j : ℕ). not (is_single (sort_for j p q))) 23 6 c refl (omega arith) (omega arith)))

-- ---- good parameters

abbrev is_unused : Parameter → Bool
is_unused unused = true
is_unused number = false
is_unused text = false
is_unused float = false
is_unused element = false

unused-is : (a : Parameter) → is_unused a ≡ true → a ≡ unused
unused-is unused h = refl
unused-is number h = absurd (false≢true h)
unused-is text h = absurd (false≢true h)
unused-is float h = absurd (false≢true h)
unused-is element h = absurd (false≢true h)

abbrev takes_none : Option Code → Bool
takes_none None = false
takes_none (Some k) = is_unused k.p && is_unused k.q

-- the codes from 20 on take no parameters
pub no_parameters : (c p q : ℕ) → 20 ≤ c → c ≤ 28 → (eqb p 0 && eqb q 0) ≡ good_node c p q
unfolding good_node codes
no_parameters c p q l h = go (code_at c) (each_in (λ (j : ℕ). takes_none (code_at j)) 20 9 c refl l (omega arith))
  where
    go : (o : Option Code) → takes_none o ≡ true → (eqb p 0 && eqb q 0) ≡ fits_code o p q
    go None g = absurd (false≢true g)
    go (Some k) g =
        let s = and_both (is_unused k.p) (is_unused k.q) g in
        rw (unused-is k.p s.0, unused-is k.q s.1)

-- a code that has no node has no good parameters
pub bad-sort : (c p q : ℕ) → None ≡ sort_for c p q → good_node c p q ≡ false
unfolding sort_for good_node
bad-sort c p q e = go (code_at c) e
  where
    go : (o : Option Code) → None ≡ sorted o p q → fits_code o p q ≡ false
    go None h = refl
    go (Some k) h = cc

-- ---- a node that is tested

module _ (c p q : ℕ) where
  abbrev node_by : Option Code → Result Node
  node_by o = elim o [ None ↦ Err TreeNode | Some k ↦ cond (good_parameter k.p p && good_parameter k.q q) (Ok (k.node p q)) (Err TreeNode) ]

  pub node-good : good_node c p q ≡ true → node_of c p q ≡ Ok (node_for c p q)
  unfolding node_of good_node node_for
  node-good h = go (code_at c) h
    where
      go : (o : Option Code) → fits_code o p q ≡ true → node_by o ≡ Ok (made o p q)
      go None h = absurd (false≢true h)
      go (Some k) h = rw h

  pub node-bad : good_node c p q ≡ false → node_of c p q ≡ Err TreeNode
  unfolding node_of good_node
  node-bad h = go (code_at c) h
    where
      go : (o : Option Code) → fits_code o p q ≡ false → node_by o ≡ Err TreeNode
      go None h = refl
      go (Some k) h = rw h

  pub node-refused : (k : Refusal) → node_of c p q ≡ Err k → k ≡ TreeNode
  node-refused k e = go (good_node c p q) refl
    where
      go : (b : Bool) → good_node c p q ≡ b → k ≡ TreeNode
      go true h = let a = node-good h in cc
      go false h = let a = node-bad h in cc

  pub node-only : (m : Node) → node_of c p q ≡ Ok m → node_for c p q ≡ m
  node-only m e = go (good_node c p q) refl
    where
      go : (b : Bool) → good_node c p q ≡ b → node_for c p q ≡ m
      go true h = let a = node-good h in cc
      go false h = let a = node-bad h in cc
