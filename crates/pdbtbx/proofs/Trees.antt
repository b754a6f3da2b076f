-- Every accepted tree is the postfix form of its search, and has Kleene's value of it. Assumes nothing.
use Rattle.std.proofs.lemmas.Option.{none-some, same_Some}
use Rattle.std.specs.Prelude.{None, Ok, Some, option_map}
use Rattle.std.proofs.Common.{◌≡◌, ℕ, true, List, [], ◌∷◌, ◌++◌, map, sym, refl, ap, ◌∙◌, append_assoc, append-nil}
use mathlib.Core.Bool.{false≢true}
use Rattle.machine.specs.Lists.{and_then}
use Rattle.machine.specs.Answer.{Result}
use Rattle.machine.specs.Query.{Stack, step, run, is_one, the_one, leaves_one, read_tree, tree_value}
use Rattle.machine.specs.declared.Tri.{Tri}
use Rattle.machine.specs.declared.Tri.TheVariants.{Undecided}
use Rattle.machine.specs.declared.Term.{Term}
use Rattle.machine.specs.declared.Node.{Node}
use Rattle.machine.specs.declared.Node.TheVariants as Nodes
use Rattle.laws.specs.Trees.{run-append, accepted}
use Rattle.pdbtbx.specs.Search.{Search, Operator, Not, Single, Known}
use Rattle.pdbtbx.specs.Calls.{Searches, push, build, the_search, search_of}
use Rattle.pdbtbx.specs.Demand.{postfix, value, Reads}

-- ---- its value

postfix-run : (v : Term → Tri) (s : Search Term) (z : List Tri) → run v (postfix s) z ≡ Some (value v s ∷ z)
unfolding postfix value run
postfix-run v (Operator o a b) z =
    run-append v (postfix a) (postfix b ++ (Nodes.Binary o ∷ [])) z
    ∙ rw (postfix-run v a z, run-append v (postfix b) (Nodes.Binary o ∷ []) (value v a ∷ z), postfix-run v b (value v a ∷ z))
postfix-run v (Not a) z = run-append v (postfix a) (Nodes.Not ∷ []) z ∙ rw (postfix-run v a z)
postfix-run v (Single t) z = refl
postfix-run v (Known b) z = refl

-- ---- every accepted tree is a search

-- the nodes of a stack, the lowest first
flatten : List (Search Term) → List Node
flatten [] = []
flatten (s ∷ st) = flatten st ++ postfix s

module _ (v : Term → Tri) where
  values : Searches → Stack
  values o = option_map (map (value v)) o

  push_step : (n : Node) (st : List (Search Term)) → step v n (map (value v) st) ≡ values (push n st)
  unfolding value push values
  push_step (Nodes.Single t) st = refl
  push_step (Nodes.Known b) st = refl
  push_step Nodes.Not [] = refl
  push_step Nodes.Not (a ∷ st) = refl
  push_step (Nodes.Binary o) [] = refl
  push_step (Nodes.Binary o) (b ∷ []) = refl
  push_step (Nodes.Binary o) (b ∷ a ∷ st) = refl

  build-run : (ns : List Node) (st : List (Search Term)) → run v ns (map (value v) st) ≡ values (build ns st)
  unfolding run build values
  build-run [] st = refl
  build-run (n ∷ ns) st = rw (push_step n st) (go (push n st) (build-run ns))
    where
      go : (o : Searches) → ((q : List (Search Term)) → run v ns (map (value v) q) ≡ values (build ns q)) → and_then (values o) (run v ns) ≡ values (and_then o (build ns))
      go None f = refl
      go (Some q) f = f q

push-flat : (n : Node) (st q : List (Search Term)) → push n st ≡ Some q → flatten st ++ (n ∷ []) ≡ flatten q
unfolding push flatten postfix
push-flat (Nodes.Single t) st q e = ap flatten (same_Some (Single t ∷ st) q e)
push-flat (Nodes.Known b) st q e = ap flatten (same_Some (Known b ∷ st) q e)
push-flat Nodes.Not [] q e = absurd (none-some q e)
push-flat Nodes.Not (a ∷ st) q e = append_assoc (flatten st) (postfix a) (Nodes.Not ∷ []) ∙ ap flatten (same_Some (Not a ∷ st) q e)
push-flat (Nodes.Binary o) [] q e = absurd (none-some q e)
push-flat (Nodes.Binary o) (b ∷ []) q e = absurd (none-some q e)
push-flat (Nodes.Binary o) (b ∷ a ∷ st) q e =
    append_assoc (flatten st ++ postfix a) (postfix b) (Nodes.Binary o ∷ [])
    ∙ append_assoc (flatten st) (postfix a) (postfix b ++ (Nodes.Binary o ∷ []))
    ∙ ap flatten (same_Some (Operator o a b ∷ st) q e)

build-flat : (ns : List Node) (st q : List (Search Term)) → build ns st ≡ Some q → flatten st ++ ns ≡ flatten q
unfolding build
build-flat [] st q e = append-nil (flatten st) ∙ ap flatten (same_Some st q e)
build-flat (n ∷ ns) st q e = go (push n st) refl e (λ p. build-flat ns p q)
  where
    go : (o : Searches) → push n st ≡ o → and_then o (build ns) ≡ Some q → ((p : List (Search Term)) → build ns p ≡ Some q → flatten p ++ ns ≡ flatten q) → flatten st ++ (n ∷ ns) ≡ flatten q
    go None f k h = absurd (none-some q k)
    go (Some p) f k h = sym (append_assoc (flatten st) (n ∷ []) ns) ∙ ap (λ (l : List Node). l ++ ns) (push-flat n st p f) ∙ h p k

-- the one search that is left has the tree's nodes
one-search : (ns : List Node) → is_one (run (λ (u : Term). Undecided) ns []) ≡ true → ns ≡ postfix (the_search (build ns []))
unfolding values flatten
one-search ns h = go (build ns []) refl (ap is_one (sym (build-run (λ (u : Term). Undecided) ns [])) ∙ h)
  where
    go : (o : Searches) → build ns [] ≡ o → is_one (values (λ (u : Term). Undecided) o) ≡ true → ns ≡ postfix (the_search o)
    go None e i = absurd (false≢true i)
    go (Some []) e i = absurd (false≢true i)
    go (Some (s ∷ [])) e i = build-flat ns [] (s ∷ []) e
    go (Some (a ∷ b ∷ st)) e i = absurd (false≢true i)

pub reads : (t : List ℕ) (ns : List Node) → read_tree t ≡ Ok ns → Reads t
unfolding tree_value search_of leaves_one
reads t ns h =
    let e : ns ≡ postfix (the_search (build ns [])) = one-search ns (accepted t ns h).one in
    record {
      nodes = rw h (ap {B = Result (List Node)} Ok e);
      kleene = λ v. rw h (ap (λ (l : List Node). the_one (run v l [])) e ∙ ap the_one (postfix-run v (the_search (build ns [])) []));
    }
