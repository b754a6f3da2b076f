-- Laws of trees over valuations of their terms. Assumes nothing.
use Rattle.std.specs.Prelude.{ℕ, ◌%◌, ◌≡◌, Bool, true, false, ◌&&◌, length, leb, eqb, Err, None, Ok, Some}
use Rattle.std.proofs.Math.Path.{refl, ap}
use Rattle.std.proofs.Common.{sym, ◌∙◌, arith}
use Rattle.std.proofs.lemmas.Bool.{false≢true}
use mathlib.Core.List.{List, [], ◌∷◌, ◌++◌}
use Rattle.machine.specs.Lists.{and_then}
use Rattle.machine.specs.Answer.{Result, ◌>>=◌, ◌>>◌, need}
use Rattle.machine.specs.Kleene.{not_t, and_t, or_t, apply_t}
use Rattle.machine.specs.Query.{codes, node_of, nodes_of, Stack, step, run, is_one, leaves_one, read_tree, the_one, value_of, tree_value, and_tree, or_tree, not_tree}
use Rattle.machine.specs.declared.Tri.{Tri}
use Rattle.machine.specs.declared.Tri.TheVariants.{False, Undecided}
use Rattle.machine.specs.declared.Term.{Term}
use Rattle.machine.specs.declared.Ops.{Ops}
use Rattle.machine.specs.declared.Ops.TheVariants.{And, Or}
use Rattle.machine.specs.declared.Node.{Node}
use Rattle.machine.specs.declared.Node.TheVariants.{Single, Binary, Not, Known}
use Rattle.machine.specs.declared.Refusal.TheVariants.{TreeShape}
use Rattle.laws.specs.Kleene.{◌⊑◌, ⊑_refl, not-grows, apply-grows}

-- ---- one list of nodes after another

pub run-append : (v : Term → Tri) (ns ms : List Node) (s : List Tri) → run v (ns ++ ms) s ≡ and_then (run v ns s) (run v ms)
unfolding run
run-append v [] ms s = refl
run-append v (n ∷ ns) ms s = go (step v n s) (run-append v ns ms)
  where
    go : (o : Stack) → ((r : List Tri) → run v (ns ++ ms) r ≡ and_then (run v ns r) (run v ms)) → and_then o (run v (ns ++ ms)) ≡ and_then (and_then o (run v ns)) (run v ms)
    go None f = refl
    go (Some r) f = f r

-- what stands below the operands doesn't matter
step-under : (v : Term → Tri) (z : List Tri) (n : Node) (s r : List Tri) → step v n s ≡ Some r → step v n (s ++ z) ≡ Some (r ++ z)
step-under v z (Single t) s r h = ap {B = Stack} (λ o. and_then o (λ l. Some (l ++ z))) h
step-under v z (Known b) s r h = ap {B = Stack} (λ o. and_then o (λ l. Some (l ++ z))) h
step-under v z Not [] r h = cc
step-under v z Not (a ∷ s) r h = ap {B = Stack} (λ o. and_then o (λ l. Some (l ++ z))) h
step-under v z (Binary o) [] r h = cc
step-under v z (Binary o) (b ∷ []) r h = cc
step-under v z (Binary o) (b ∷ a ∷ s) r h = ap {B = Stack} (λ o. and_then o (λ l. Some (l ++ z))) h

pub run-under : (v : Term → Tri) (z : List Tri) (ns : List Node) (s r : List Tri) → run v ns s ≡ Some r → run v ns (s ++ z) ≡ Some (r ++ z)
unfolding run
run-under v z [] s r h = ap {B = Stack} (λ o. and_then o (λ l. Some (l ++ z))) h
run-under v z (n ∷ ns) s r h = go (step v n s) refl h (λ q. run-under v z ns q r)
  where
    go : (o : Stack) → step v n s ≡ o → and_then o (run v ns) ≡ Some r → ((q : List Tri) → run v ns q ≡ Some r → run v ns (q ++ z) ≡ Some (r ++ z)) → and_then (step v n (s ++ z)) (run v ns) ≡ Some (r ++ z)
    go None e k f = cc
    go (Some q) e k f = rw (step-under v z n s q e) (f q k)

-- ---- two valuations, related term by term

-- stacks that are related value by value
abbrev pub Pairs : (Tri → Tri → Type 0) → List Tri → List Tri → Type 0
Pairs R [] [] = Unit
Pairs R [] (b ∷ r) = ⊥
Pairs R (a ∷ s) [] = ⊥
Pairs R (a ∷ s) (b ∷ r) = R a b × Pairs R s r

abbrev pub Both : (Tri → Tri → Type 0) → Stack → Stack → Type 0
Both R None None = Unit
Both R None (Some r) = ⊥
Both R (Some s) None = ⊥
Both R (Some s) (Some r) = Pairs R s r

module _ (R : Tri → Tri → Type 0) (itself : (x : Tri) → R x x) (nots : (x y : Tri) → R x y → R (not_t x) (not_t y))
    (applies : (o : Ops) (a x b y : Tri) → R a x → R b y → R (apply_t o a b) (apply_t o x y))
    (v w : Term → Tri) (terms : (t : Term) → R (v t) (w t)) where
  step_both : (n : Node) (s r : List Tri) → Pairs R s r → Both R (step v n s) (step w n r)
  step_both (Single t) s r h = (terms t, h)
  step_both (Known b) s r h = (itself _, h)
  step_both Not [] [] h = tt
  step_both Not [] (b ∷ r) h = absurd h
  step_both Not (a ∷ s) [] h = absurd h
  step_both Not (a ∷ s) (b ∷ r) h = (nots a b h.0, h.1)
  step_both (Binary o) [] [] h = tt
  step_both (Binary o) [] (b ∷ r) h = absurd h
  step_both (Binary o) (a ∷ s) [] h = absurd h
  step_both (Binary o) (a ∷ []) (b ∷ []) h = tt
  step_both (Binary o) (a ∷ []) (b ∷ c ∷ r) h = absurd h.1
  step_both (Binary o) (a ∷ d ∷ s) (b ∷ []) h = absurd h.1
  step_both (Binary o) (a ∷ d ∷ s) (b ∷ c ∷ r) h = (applies o d c a b h.1.0 h.0, h.1.1)

  then-both : (ns : List Node) → ((s r : List Tri) → Pairs R s r → Both R (run v ns s) (run w ns r)) → (o p : Stack) → Both R o p → Both R (and_then o (run v ns)) (and_then p (run w ns))
  then-both ns f None None h = tt
  then-both ns f None (Some r) h = absurd h
  then-both ns f (Some s) None h = absurd h
  then-both ns f (Some s) (Some r) h = f s r h

  pub run-both : (ns : List Node) (s r : List Tri) → Pairs R s r → Both R (run v ns s) (run w ns r)
  unfolding run
  run-both [] s r h = h
  run-both (n ∷ ns) s r h = then-both ns (run-both ns) (step v n s) (step w n r) (step_both n s r h)

  the-one-both : (o p : Stack) → Both R o p → R (the_one o) (the_one p)
  the-one-both None None h = itself Undecided
  the-one-both None (Some r) h = absurd h
  the-one-both (Some s) None h = absurd h
  the-one-both (Some []) (Some []) h = itself Undecided
  the-one-both (Some []) (Some (b ∷ r)) h = absurd h
  the-one-both (Some (a ∷ s)) (Some []) h = absurd h
  the-one-both (Some (a ∷ [])) (Some (b ∷ [])) h = h.0
  the-one-both (Some (a ∷ [])) (Some (b ∷ d ∷ r)) h = absurd h.1
  the-one-both (Some (a ∷ c ∷ s)) (Some (b ∷ [])) h = absurd h.1
  the-one-both (Some (a ∷ c ∷ s)) (Some (b ∷ d ∷ r)) h = itself Undecided

  value-both : (r : Result (List Node)) → R (value_of v r) (value_of w r)
  value-both (Ok ns) = the-one-both (run v ns []) (run w ns []) (run-both ns [] [] tt)
  value-both (Err c) = itself Undecided

  pub tree-both : (t : List ℕ) → R (tree_value v t) (tree_value w t)
  unfolding tree_value
  tree-both t = value-both (read_tree t)

-- "more terms known never change a decided value"
pub tree-grows : (v w : Term → Tri) → ((t : Term) → v t ⊑ w t) → (t : List ℕ) → tree_value v t ⊑ tree_value w t
tree-grows v w f t = tree-both ◌⊑◌ ⊑_refl not-grows apply-grows v w f t

-- so a tree that is false with less known is false with more
pub tree-false : (v w : Term → Tri) → ((t : Term) → v t ⊑ w t) → (t : List ℕ) → tree_value v t ≡ False → tree_value w t ≡ False
tree-false v w f t e = rw e at (tree-grows v w f t)

-- ---- the shape is the nodes' alone

one-both : (o p : Stack) → Both (λ x y. Unit {0}) o p → is_one o ≡ is_one p
one-both None None h = refl
one-both None (Some r) h = absurd h
one-both (Some s) None h = absurd h
one-both (Some []) (Some []) h = refl
one-both (Some []) (Some (b ∷ r)) h = absurd h
one-both (Some (a ∷ s)) (Some []) h = absurd h
one-both (Some (a ∷ [])) (Some (b ∷ [])) h = refl
one-both (Some (a ∷ [])) (Some (b ∷ d ∷ r)) h = absurd h.1
one-both (Some (a ∷ c ∷ s)) (Some (b ∷ [])) h = absurd h.1
one-both (Some (a ∷ c ∷ s)) (Some (b ∷ d ∷ r)) h = refl

single : (o : Stack) → is_one o ≡ true → o ≡ Some (the_one o ∷ [])
single None h = absurd (false≢true h)
single (Some []) h = absurd (false≢true h)
single (Some (a ∷ [])) h = refl
single (Some (a ∷ b ∷ s)) h = absurd (false≢true h)

pub run-one : (v : Term → Tri) (ns : List Node) → leaves_one ns ≡ true → run v ns [] ≡ Some (the_one (run v ns []) ∷ [])
unfolding leaves_one
run-one v ns h =
    let b = run-both (λ x y. Unit {0}) (λ x. tt) (λ x y u. tt) (λ o a x b y u w. tt) v (λ (t : Term). Undecided) (λ t. tt) ns [] [] tt in
    single (run v ns []) (one-both (run v ns []) (run (λ (t : Term). Undecided) ns []) b ∙ h)

-- ---- words put together

pub nodes-append : (A B : List ℕ) (ns : List Node) → nodes_of A ≡ Ok ns → nodes_of (A ++ B) ≡ (nodes_of B >>= λ ms. Ok (ns ++ ms))
unfolding nodes_of
nodes-append [] B ns h = let e : ns ≡ [] = cc in rw e (back (nodes_of B))
  where
    back : (r : Result (List Node)) → r ≡ (r >>= λ ms. Ok ms)
    back (Ok ms) = refl
    back (Err c) = refl
nodes-append (c ∷ []) B ns h = cc
nodes-append (c ∷ p ∷ []) B ns h = cc
nodes-append (c ∷ p ∷ q ∷ A) B ns h = go (node_of c p q) (nodes_of A) refl h (λ ms e. nodes-append A B ms e)
  where
    go : (n : Result Node) (r : Result (List Node)) → nodes_of A ≡ r → (n >>= λ m. r >>= λ ms. Ok (m ∷ ms)) ≡ Ok ns
        → ((ms : List Node) → nodes_of A ≡ Ok ms → nodes_of (A ++ B) ≡ (nodes_of B >>= λ ks. Ok (ms ++ ks)))
        → (n >>= λ m. nodes_of (A ++ B) >>= λ ms. Ok (m ∷ ms)) ≡ (nodes_of B >>= λ ms. Ok (ns ++ ms))
    go (Err x) r e k f = cc
    go (Ok m) (Err x) e k f = cc
    go (Ok m) (Ok ms) e k f = let i : m ∷ ms ≡ ns = cc in rw (f ms e, ← i) (after (nodes_of B))
      where
        after : (r : Result (List Node)) → ((r >>= λ ks. Ok (ms ++ ks)) >>= λ ks. Ok (m ∷ ks)) ≡ (r >>= λ ks. Ok (m ∷ (ms ++ ks)))
        after (Ok ks) = refl
        after (Err x) = refl

-- what an accepted tree's words give
pub record AcceptedTree (t : List ℕ) (ns : List Node) : Type 0 where
  pub nodes : nodes_of t ≡ Ok ns
  pub one : leaves_one ns ≡ true

pub accepted : (t : List ℕ) (ns : List Node) → read_tree t ≡ Ok ns → AcceptedTree t ns
unfolding read_tree
accepted t ns h = go (leb 3 (length t) && leb (length t) 381 && eqb (length t % 3) 0) (nodes_of t) refl h
  where
    last : (b : Bool) (ms : List Node) → leaves_one ms ≡ b → nodes_of t ≡ Ok ms → (need b TreeShape >> Ok ms) ≡ Ok ns → AcceptedTree t ns
    last true ms e o k = let i : ms ≡ ns = cc in record { nodes = rw i at o; one = rw i at e }
    last false ms e o k = let z : ◌≡◌ {A = ℕ} 0 1 = cc in absurd (omega arith)

    go : (b : Bool) (r : Result (List Node)) → nodes_of t ≡ r → (need b TreeShape >> (r >>= λ ms. need (leaves_one ms) TreeShape >> Ok ms)) ≡ Ok ns → AcceptedTree t ns
    go true (Ok ms) e k = last (leaves_one ms) ms refl e k
    go true (Err c) e k = let z : ◌≡◌ {A = ℕ} 0 1 = cc in absurd (omega arith)
    go false r e k = let z : ◌≡◌ {A = ℕ} 0 1 = cc in absurd (omega arith)

-- ---- "A and B", "A or B", "not A"

value-of : (v : Term → Tri) (t : List ℕ) (ns : List Node) → read_tree t ≡ Ok ns → tree_value v t ≡ the_one (run v ns [])
unfolding tree_value
value-of v t ns h = rw h

module _ (v : Term → Tri) (A : List ℕ) (ns : List Node) (ok_a : read_tree A ≡ Ok ns) where
  run-tree : run v ns [] ≡ Some (tree_value v A ∷ [])
  run-tree = run-one v ns (accepted A ns ok_a).one ∙ ap {B = Stack} (λ x. Some (x ∷ [])) (sym (value-of v A ns ok_a))

  -- a tree and one more node
  pub not-value : (cs : List Node) → read_tree (not_tree A) ≡ Ok cs → tree_value v (not_tree A) ≡ not_t (tree_value v A)
  unfolding nodes_of node_of codes run
  not-value cs ok_c =
      let e : cs ≡ ns ++ (Not ∷ []) = (let n = nodes-append A (26 ∷ 0 ∷ 0 ∷ []) ns (accepted A ns ok_a).nodes in let k = (accepted (not_tree A) cs ok_c).nodes in cc) in
      let r : run v (ns ++ (Not ∷ [])) [] ≡ Some (not_t (tree_value v A) ∷ []) = rw (run-append v ns (Not ∷ []) [], run-tree) in
      value-of v (not_tree A) cs ok_c ∙ ap (λ (l : List Node). the_one (run v l [])) e ∙ ap the_one r

  module _ (B : List ℕ) (ms : List Node) (ok_b : read_tree B ≡ Ok ms) where
    joined : (c : ℕ) (o : Ops) → nodes_of (c ∷ 0 ∷ 0 ∷ []) ≡ Ok (Binary o ∷ []) → (cs : List Node) → read_tree (A ++ (B ++ (c ∷ 0 ∷ 0 ∷ []))) ≡ Ok cs
        → tree_value v (A ++ (B ++ (c ∷ 0 ∷ 0 ∷ []))) ≡ apply_t o (tree_value v A) (tree_value v B)
    unfolding run
    joined c o q cs ok_c =
        let op = c ∷ 0 ∷ 0 ∷ [] in
        let b = run-under v (tree_value v A ∷ []) ms [] (tree_value v B ∷ []) (run-one v ms (accepted B ms ok_b).one ∙ ap {B = Stack} (λ x. Some (x ∷ [])) (sym (value-of v B ms ok_b))) in
        let n = nodes-append A (B ++ op) ns (accepted A ns ok_a).nodes in
        let m = nodes-append B op ms (accepted B ms ok_b).nodes in
        let k = (accepted (A ++ (B ++ op)) cs ok_c).nodes in
        let e : cs ≡ ns ++ (ms ++ (Binary o ∷ [])) = same_nodes (rw (m, q) at n) k in
        let r : run v (ns ++ (ms ++ (Binary o ∷ []))) [] ≡ Some (apply_t o (tree_value v A) (tree_value v B) ∷ []) =
        rw (run-append v ns (ms ++ (Binary o ∷ [])) [], run-tree, run-append v ms (Binary o ∷ []) (tree_value v A ∷ []), b) in
        value-of v (A ++ (B ++ op)) cs ok_c ∙ ap (λ (l : List Node). the_one (run v l [])) e ∙ ap the_one r
      where
        same_nodes : {l l' : List Node} {r : Result (List Node)} → r ≡ Ok l → r ≡ Ok l' → l' ≡ l
        same_nodes h g = cc

    pub and-value : (cs : List Node) → read_tree (and_tree A B) ≡ Ok cs → tree_value v (and_tree A B) ≡ and_t (tree_value v A) (tree_value v B)
    unfolding nodes_of node_of codes
    and-value cs ok_c = joined 23 And refl cs ok_c

    pub or-value : (cs : List Node) → read_tree (or_tree A B) ≡ Ok cs → tree_value v (or_tree A B) ≡ or_t (tree_value v A) (tree_value v B)
    unfolding nodes_of node_of codes
    or-value cs ok_c = joined 24 Or refl cs ok_c
