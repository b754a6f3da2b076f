-- The last operand of nodes in postfix order, by its last node. Assumes nothing.
use Rattle.std.specs.Prelude.{Err, None, Ok, Some}
use Prim.Native.Nat.{ℕ, suc, ◌+◌, ◌-◌, ◌≤◌, ◌<◌, ◌%◌}
use mathlib.Core.Path.{◌≡◌, refl, sym, ap, ◌∙◌}
use mathlib.Core.Bool.{Bool, true, false, ◌&&◌, false≢true}
use mathlib.Core.List.{List, [], ◌∷◌, ◌++◌}
use native.Mathlib.Omega.{arith}
use lib.ListN.{length, take, drop, get_or, length-take, take-append-drop}
use lib.Seq.{drop-cons, drop-length, take-take}
use lib.Dec.{leb, eqb}
use borrow.Author.Tests.{eqb-true}
use Rattle.machine.specs.Lists.{and_then}
use Rattle.machine.specs.Answer.{Result, ◌>>=◌, ◌>>◌, need}
use Rattle.machine.specs.Kleene.{decided, not_t, apply_t}
use Rattle.machine.specs.Query.{node_of, nodes_of, Stack, negate, combine, step, run, leaves_one, read_tree, tree_value}
use Rattle.machine.specs.declared.Tri.{Tri}
use Rattle.machine.specs.declared.Term.{Term}
use Rattle.machine.specs.declared.Ops.{Ops}
use Rattle.machine.specs.declared.Node.{Node}
use Rattle.machine.specs.declared.Node.TheVariants.{Single, Binary, Not, Known}
use Rattle.machine.specs.declared.Refusal.TheVariants.{TreeShape}
use Rattle.laws.specs.Trees.{run-append, run-one, accepted}
use Rattle.search.specs.Nodes.{node_for, sort_for, nodes_in, checked}
use Rattle.search.specs.Value.{push, has_operand, stack_of, Operand, Evaluated}
use Rattle.search.specs.declared.Sort.{Sort}
use Rattle.search.specs.declared.Part.{Part}
use Rattle.search.proofs.Nodes.{node_as, node-as, no-node, node-only}

-- ---- the last node

nodes_in-append : (a b : List ℕ) → length a % 3 ≡ 0 → nodes_in (a ++ b) ≡ nodes_in a ++ nodes_in b
unfolding nodes_in
nodes_in-append [] b h = refl
nodes_in-append (x ∷ []) b h = absurd (omega arith)
nodes_in-append (x ∷ y ∷ []) b h = absurd (omega arith)
nodes_in-append (x ∷ y ∷ z ∷ a) b h = ap (λ (l : List Node). node_for x y z ∷ l) (nodes_in-append a b (omega arith))

-- the node that starts at word i
abbrev pub node_on : List ℕ → ℕ → Node
node_on t i = node_for (get_or t i 0) (get_or t (i + 1) 0) (get_or t (i + 2) 0)

-- by the sort of its code
pub on-sort : (t : List ℕ) (i : ℕ) {s k : Sort} → ((p q : ℕ) → Some s ≡ sort_for (get_or t i 0) p q) → s ≡ k → node_on t i ≡ node_as k (node_on t i)
on-sort t i f e =
    let p = get_or t (i + 1) 0 in
    let q = get_or t (i + 2) 0 in
    node-as (get_or t i 0) p q (ap Some (sym e) ∙ f p q)

pub on-none : (t : List ℕ) (i : ℕ) → ((p q : ℕ) → None ≡ sort_for (get_or t i 0) p q) → node_on t i ≡ Known false
on-none t i f =
    let p = get_or t (i + 1) 0 in
    let q = get_or t (i + 2) 0 in
    no-node (get_or t i 0) p q (f p q)

last-three : (t : List ℕ) (i : ℕ) → i + 3 ≡ length t → drop i t ≡ get_or t i 0 ∷ get_or t (i + 1) 0 ∷ get_or t (i + 2) 0 ∷ []
last-three t i h =
    let e₁ : suc i ≡ i + 1 = omega arith in
    let e₂ : suc (i + 1) ≡ i + 2 = omega arith in
    let e₃ : suc (i + 2) ≡ length t = omega arith in
    rw (drop-cons t i 0 (omega arith), e₁, drop-cons t (i + 1) 0 (omega arith), e₂, drop-cons t (i + 2) 0 (omega arith), e₃, drop-length t)

pub taken : (t : List ℕ) (i : ℕ) → i ≤ length t → length (take i t) ≡ i
taken t i h = simp length-take (omega arith)

pub shorter : (t : List ℕ) (i : ℕ) {n : ℕ} → length t ≡ n → i < length t → length (take i t) < n
shorter t i e h = let l = taken t i (omega arith) in omega arith

last-node : (t : List ℕ) (i : ℕ) → i + 3 ≡ length t → i % 3 ≡ 0 → nodes_in t ≡ nodes_in (take i t) ++ (node_on t i ∷ [])
unfolding nodes_in
last-node t i h z =
    let l = taken t i (omega arith) in
    ap nodes_in (sym (take-append-drop i t))
    ∙ nodes_in-append (take i t) (drop i t) (ap (λ (k : ℕ). k % 3) l ∙ z)
    ∙ ap (λ (d : List ℕ). nodes_in (take i t) ++ nodes_in d) (last-three t i h)

-- ---- stacks

and_then-some : (o : Stack) → and_then o (λ (s : List Tri). Some s) ≡ o
and_then-some None = refl
and_then-some (Some s) = refl

push-then : (a : Tri) (o : Stack) → and_then o (λ (s : List Tri). Some (a ∷ s)) ≡ push a o
push-then a None = refl
push-then a (Some s) = refl

negate-push : (a : Tri) (o : Stack) → and_then (push a o) negate ≡ push (not_t a) o
negate-push a None = refl
negate-push a (Some s) = refl

combine-push : (f : Tri → Tri → Tri) (a b : Tri) (o : Stack) → and_then (push b (push a o)) (combine f) ≡ push (f a b) o
combine-push f a b None = refl
combine-push f a b (Some s) = refl

negate-has : (o : Stack) → has_operand (and_then o negate) ≡ true → has_operand o ≡ true
negate-has None h = h
negate-has (Some []) h = h
negate-has (Some (a ∷ s)) h = refl

combine-has : (f : Tri → Tri → Tri) (o : Stack) → has_operand (and_then o (combine f)) ≡ true → has_operand o ≡ true
combine-has f None h = h
combine-has f (Some []) h = h
combine-has f (Some (b ∷ s)) h = refl

combine-has-left : (f : Tri → Tri → Tri) (b : Tri) (o : Stack) → has_operand (and_then (push b o) (combine f)) ≡ true → has_operand o ≡ true
combine-has-left f b None h = h
combine-has-left f b (Some []) h = h
combine-has-left f b (Some (a ∷ s)) h = refl

-- ---- what an operand's last node says

module _ (v : Term → Tri) (t : List ℕ) where
  -- an operand has a node
  pub three : Operand v t → 3 ≤ length t
  unfolding nodes_in run
  three o = go t o.threes o.one
    where
      go : (l : List ℕ) → length l % 3 ≡ 0 → has_operand (stack_of v l) ≡ true → 3 ≤ length l
      go [] z h = absurd (false≢true h)
      go (x ∷ []) z h = absurd (omega arith)
      go (x ∷ y ∷ []) z h = absurd (omega arith)
      go (x ∷ y ∷ w ∷ l) z h = omega arith

  module _ (o : Operand v t) (i : ℕ) (h : i ≡ length t - 3) where
    end : i + 3 ≡ length t
    end = let l = three o in omega arith

    whole : i % 3 ≡ 0
    whole = let l = three o in let z = o.threes in omega arith

    after : stack_of v t ≡ and_then (stack_of v (take i t)) (step v (node_on t i))
    unfolding run
    after =
        ap (λ (ns : List Node). run v ns []) (last-node t i end whole)
        ∙ run-append v (nodes_in (take i t)) (node_on t i ∷ []) []
        ∙ go (stack_of v (take i t))
      where
        go : (s : Stack) → and_then s (run v (node_on t i ∷ [])) ≡ and_then s (step v (node_on t i))
        go None = refl
        go (Some r) = and_then-some (step v (node_on t i) r)

    by-node : {n : Node} → node_on t i ≡ n → stack_of v t ≡ and_then (stack_of v (take i t)) (step v n)
    by-node e = after ∙ ap (λ (m : Node). and_then (stack_of v (take i t)) (step v m)) e

    -- an operand of its own
    pub single : {x : Term} {a : Tri} → node_on t i ≡ Single x → a ≡ v x → Evaluated v t (record { value = a; start = i })
    single {x} {a} e q =
        record {
          before = omega (arith, end);
          threes = whole;
          top = by-node e ∙ push-then (v x) (stack_of v (take i t)) ∙ ap (λ (y : Tri). push y (stack_of v (take i t))) (sym q);
        }

    pub constant : {b : Bool} → node_on t i ≡ Known b → Evaluated v t (record { value = decided b; start = i })
    constant {b} e =
        record {
          before = omega (arith, end);
          threes = whole;
          top = by-node e ∙ push-then (decided b) (stack_of v (take i t));
        }

    -- an operand before it
    before : has_operand (stack_of v (take i t)) ≡ true → Operand v (take i t)
    before g = record { threes = ap (λ (k : ℕ). k % 3) (taken t i (omega (arith, end))) ∙ whole; one = g }

    pub under-not : node_on t i ≡ Not → Operand v (take i t)
    under-not e = before (negate-has (stack_of v (take i t)) (sym (ap has_operand (by-node e)) ∙ o.one))

    -- what stands before an operand of the nodes before
    inner : (r : Part) → Evaluated v (take i t) r → stack_of v (take i t) ≡ push r.value (stack_of v (take r.start t))
    inner r e =
        let b = e.before in
        let l = taken t i (omega (arith, end)) in
        e.top ∙ ap (λ (l : List ℕ). push r.value (stack_of v l)) (take-take r.start i t (omega arith))

    pub negated : (r : Part) {a : Tri} → node_on t i ≡ Not → Evaluated v (take i t) r → a ≡ not_t r.value → Evaluated v t (record { value = a; start = r.start })
    negated r {a} e f q =
        let b = f.before in
        let l = taken t i (omega (arith, end)) in
        record {
          before = omega (arith, end);
          threes = f.threes;
          top = by-node e
              ∙ ap (λ (s : Stack). and_then s negate) (inner r f)
              ∙ negate-push r.value (stack_of v (take r.start t))
              ∙ ap (λ (y : Tri). push y (stack_of v (take r.start t))) (sym q);
        }

    module _ {p : Ops} (e : node_on t i ≡ Binary p) where
      pub under-right : Operand v (take i t)
      under-right = before (combine-has (apply_t p) (stack_of v (take i t)) (sym (ap has_operand (by-node e)) ∙ o.one))

      module _ (r : Part) (f : Evaluated v (take i t) r) where
        pub right-start : r.start + 3 ≤ i
        right-start = let b = f.before in let l = taken t i (omega (arith, end)) in omega arith

        right-node : stack_of v t ≡ and_then (push r.value (stack_of v (take r.start t))) (combine (apply_t p))
        right-node = by-node e ∙ ap (λ (s : Stack). and_then s (combine (apply_t p))) (inner r f)

        pub under_left : Operand v (take r.start t)
        under_left =
            let l = right-start in
            record {
              threes = ap (λ (k : ℕ). k % 3) (taken t r.start (omega (arith, end))) ∙ f.threes;
              one = combine-has-left (apply_t p) r.value (stack_of v (take r.start t)) (sym (ap has_operand right-node) ∙ o.one);
            }

        pub joined : (s : Part) {a : Tri} → Evaluated v (take r.start t) s → a ≡ apply_t p s.value r.value → Evaluated v t (record { value = a; start = s.start })
        joined s {a} g q =
            let m = right-start in
            let b = g.before in
            let l = taken t r.start (omega (arith, end)) in
            record {
              before = omega (arith, end);
              threes = g.threes;
              top = right-node
                  ∙ ap (λ (k : Stack). and_then (push r.value k) (combine (apply_t p))) (g.top ∙ ap (λ (l : List ℕ). push s.value (stack_of v l)) (take-take s.start r.start t (omega arith)))
                  ∙ combine-push (apply_t p) s.value r.value (stack_of v (take s.start t))
                  ∙ ap (λ (y : Tri). push y (stack_of v (take s.start t))) (sym q);
            }

-- ---- a whole tree

nodes-in : (t : List ℕ) (ns : List Node) → nodes_of t ≡ Ok ns → ns ≡ nodes_in t
unfolding nodes_of nodes_in
nodes-in [] ns h = cc
nodes-in (c ∷ []) ns h = cc
nodes-in (c ∷ p ∷ []) ns h = cc
nodes-in (c ∷ p ∷ q ∷ rest) ns h = go (node_of c p q) refl (nodes_of rest) refl h (λ ms e. nodes-in rest ms e)
  where
    go : (n : Result Node) → node_of c p q ≡ n → (r : Result (List Node)) → nodes_of rest ≡ r → (n >>= λ m. r >>= λ ms. Ok (m ∷ ms)) ≡ Ok ns
        → ((ms : List Node) → nodes_of rest ≡ Ok ms → ms ≡ nodes_in rest) → ns ≡ node_for c p q ∷ nodes_in rest
    go (Err x) a r b k f = cc
    go (Ok m) a (Err x) b k f = cc
    go (Ok m) a (Ok ms) b k f = let i : m ∷ ms ≡ ns = cc in let j = f ms b in let l = node-only c p q m a in cc

module _ (v : Term → Tri) (t : List ℕ) (good : checked (read_tree t) ≡ Ok tt) where
  pub tree-read : read_tree t ≡ Ok (nodes_in t)
  tree-read = go (read_tree t) refl good
    where
      go : (r : Result (List Node)) → read_tree t ≡ r → checked r ≡ Ok tt → read_tree t ≡ Ok (nodes_in t)
      go (Ok ns) e g = e ∙ ap {B = Result (List Node)} (λ (l : List Node). Ok l) (nodes-in t ns (accepted t ns e).nodes)
      go (Err c) e g = cc

  tree-threes : length t % 3 ≡ 0
  unfolding read_tree
  tree-threes = go (leb 3 (length t) && leb (length t) 381) (eqb (length t % 3) 0) refl tree-read
    where
      go : (a b : Bool) → eqb (length t % 3) 0 ≡ b → (need (a && b) TreeShape >> (nodes_of t >>= λ ms. need (leaves_one ms) TreeShape >> Ok ms)) ≡ Ok (nodes_in t) → length t % 3 ≡ 0
      go a true e k = eqb-true (length t % 3) 0 e
      go true false e k = cc
      go false false e k = cc

  tree-one : stack_of v t ≡ Some (tree_value v t ∷ [])
  unfolding tree_value
  tree-one = rw tree-read (run-one v (nodes_in t) (accepted t (nodes_in t) tree-read).one)

  pub tree-operand : Operand v t
  tree-operand = record { threes = tree-threes; one = ap has_operand tree-one }

  pub tree-value : (r : Part) → Evaluated v t r → r.value ≡ tree_value v t
  tree-value r e = go (stack_of v (take r.start t)) (sym e.top ∙ tree-one)
    where
      go : (s : Stack) → push r.value s ≡ Some (tree_value v t ∷ []) → r.value ≡ tree_value v t
      go None k = cc
      go (Some l) k = cc
