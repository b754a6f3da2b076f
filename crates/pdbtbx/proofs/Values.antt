-- The crate's staged find lists what Kleene's tables call a hit, whatever the terms are and whatever a level tells of them.
-- Assumes nothing.
use Rattle.std.proofs.lemmas.Option.{none-some}
use Rattle.std.specs.Prelude.{None, Option, Some}
use Rattle.std.proofs.Common.{◌≡◌, ℕ, zero, suc, Bool, true, false, not, List, [], ◌∷◌, ◌++◌, map, sym, refl, ap, ◌∙◌}
use mathlib.Core.Bool.{xor, false≢true}
use Rattle.machine.specs.Lists.{or_else, keep, filter, concat_map}
use Rattle.machine.specs.Kleene.{decided, not_t, apply_t, is_hit}
use Rattle.machine.specs.declared.Tri.{Tri}
use Rattle.machine.specs.declared.Tri.TheVariants.{False, Undecided}
use Rattle.machine.specs.declared.Ops.{Ops}
use Rattle.machine.specs.declared.Ops.TheVariants.{And, Or, Xor}
use Rattle.laws.specs.Kleene.{◌⊑◌, to_tri, and-false, or-true}
use Rattle.laws.specs.Counting.{filter_same}
use Rattle.pdbtbx.specs.Std.{unwrap_or}
use Rattle.pdbtbx.specs.Search.{Search, Operator, Not, Single, Known, is_known, complete, arms, negated, simplify, answered, add_info}
use Rattle.pdbtbx.specs.Find.{Item, find}
use Rattle.pdbtbx.specs.Demand.{value}

-- what was told first counts
abbrev pub over : Option Bool → Tri → Tri
over None w = w
over (Some b) w = decided b

over-else : (a b : Option Bool) (w : Tri) → over a (over b w) ≡ over (or_else a b) w
over-else None b w = refl
over-else (Some x) b w = refl

pub over-open : (a : Option Bool) → over a Undecided ≡ to_tri a
over-open None = refl
over-open (Some x) = refl

tri-else : (a b : Option Bool) → over a (to_tri b) ≡ to_tri (or_else a b)
tri-else None b = refl
tri-else (Some x) b = refl

module _ {T : Type 0} where
  pub value_same : (v w : T → Tri) → ((t : T) → v t ≡ w t) → (s : Search T) → value v s ≡ value w s
  unfolding value
  value_same v w e (Operator o a b) = rw (value_same v w e a, value_same v w e b)
  value_same v w e (Not a) = rw (value_same v w e a)
  value_same v w e (Single t) = e t
  value_same v w e (Known b) = refl

  -- ---- simplify keeps the value, and completes what is decided

  known-value : (v : T → Tri) (s : Search T) (o : Option Bool) → complete s ≡ o → to_tri o ⊑ value v s
  unfolding value complete
  known-value v s None e = tt
  known-value v (Known b) (Some true) e = let i : b ≡ true = cc in rw i
  known-value v (Known b) (Some false) e = let i : b ≡ false = cc in rw i
  known-value v (Operator o a b) (Some c) e = absurd (none-some c e)
  known-value v (Not a) (Some c) e = absurd (none-some c e)
  known-value v (Single t) (Some c) e = absurd (none-some c e)

  arms-value : (v : T → Tri) (o : Ops) (x y : Option Bool) (a b : Search T) → to_tri x ⊑ value v a → to_tri y ⊑ value v b
      → value v (arms o x y (Operator o a b)) ≡ apply_t o (value v a) (value v b)
  unfolding value xor
  arms-value v And None None a b h k = refl
  arms-value v And None (Some true) a b h k = refl
  arms-value v And None (Some false) a b h k = rw k (sym (and-false (value v a)))
  arms-value v And (Some false) y a b h k = rw h
  arms-value v And (Some true) None a b h k = refl
  arms-value v And (Some true) (Some true) a b h k = rw (h, k)
  arms-value v And (Some true) (Some false) a b h k = rw (h, k)
  arms-value v Or None None a b h k = refl
  arms-value v Or None (Some true) a b h k = rw k (sym (or-true (value v a)))
  arms-value v Or None (Some false) a b h k = refl
  arms-value v Or (Some true) y a b h k = rw h
  arms-value v Or (Some false) None a b h k = refl
  arms-value v Or (Some false) (Some true) a b h k = rw (h, k)
  arms-value v Or (Some false) (Some false) a b h k = rw (h, k)
  arms-value v Xor None y a b h k = refl
  arms-value v Xor (Some x) None a b h k = refl
  arms-value v Xor (Some true) (Some true) a b h k = rw (h, k)
  arms-value v Xor (Some true) (Some false) a b h k = rw (h, k)
  arms-value v Xor (Some false) (Some true) a b h k = rw (h, k)
  arms-value v Xor (Some false) (Some false) a b h k = rw (h, k)

  negated-value : (v : T → Tri) (x : Option Bool) (a : Search T) → to_tri x ⊑ value v a → value v (negated x (Not a)) ≡ not_t (value v a)
  unfolding value
  negated-value v None a h = refl
  negated-value v (Some true) a h = rw h
  negated-value v (Some false) a h = rw h

  pub simplify-value : (v : T → Tri) (s : Search T) → value v (simplify s) ≡ value v s
  unfolding value simplify
  simplify-value v (Operator o a b) =
      arms-value v o (complete (simplify a)) (complete (simplify b)) (simplify a) (simplify b) (known-value v (simplify a) _ refl) (known-value v (simplify b) _ refl)
      ∙ rw (simplify-value v a, simplify-value v b)
  simplify-value v (Not a) = negated-value v (complete (simplify a)) (simplify a) (known-value v (simplify a) _ refl) ∙ ap not_t (simplify-value v a)
  simplify-value v (Single t) = refl
  simplify-value v (Known b) = refl

  -- with nothing else known
  abbrev pub untold : T → Tri
  untold t = Undecided

  arms-complete : (o : Ops) (x y : Option Bool) (a b : Search T) → to_tri (complete (arms o x y (Operator o a b))) ≡ apply_t o (to_tri x) (to_tri y)
  unfolding complete xor
  arms-complete And None None a b = refl
  arms-complete And None (Some true) a b = refl
  arms-complete And None (Some false) a b = refl
  arms-complete And (Some false) y a b = refl
  arms-complete And (Some true) None a b = refl
  arms-complete And (Some true) (Some true) a b = refl
  arms-complete And (Some true) (Some false) a b = refl
  arms-complete Or None None a b = refl
  arms-complete Or None (Some true) a b = refl
  arms-complete Or None (Some false) a b = refl
  arms-complete Or (Some true) y a b = refl
  arms-complete Or (Some false) None a b = refl
  arms-complete Or (Some false) (Some true) a b = refl
  arms-complete Or (Some false) (Some false) a b = refl
  arms-complete Xor None y a b = refl
  arms-complete Xor (Some true) None a b = refl
  arms-complete Xor (Some false) None a b = refl
  arms-complete Xor (Some true) (Some true) a b = refl
  arms-complete Xor (Some true) (Some false) a b = refl
  arms-complete Xor (Some false) (Some true) a b = refl
  arms-complete Xor (Some false) (Some false) a b = refl

  negated-complete : (x : Option Bool) (a : Search T) → to_tri (complete (negated x (Not a))) ≡ not_t (to_tri x)
  unfolding complete
  negated-complete None a = refl
  negated-complete (Some true) a = refl
  negated-complete (Some false) a = refl

  -- a simplified search is known where its value is decided
  pub simplify-complete : (s : Search T) → to_tri (complete (simplify s)) ≡ value untold s
  unfolding value simplify complete
  simplify-complete (Operator o a b) =
      arms-complete o (complete (simplify a)) (complete (simplify b)) (simplify a) (simplify b) ∙ rw (simplify-complete a, simplify-complete b)
  simplify-complete (Not a) = negated-complete (complete (simplify a)) (simplify a) ∙ ap not_t (simplify-complete a)
  simplify-complete (Single t) = refl
  simplify-complete (Known b) = refl

  -- ---- information

  answered-value : (v : T → Tri) (t : T) (o : Option Bool) → value v (answered t o) ≡ over o (v t)
  unfolding value
  answered-value v t None = refl
  answered-value v t (Some true) = refl
  answered-value v t (Some false) = refl

  -- a search that was told of a level has the value that it had with the level's terms told
  pub add-value : (f : T → Option Bool) (v : T → Tri) (s : Search T) → value v (add_info f s) ≡ value (λ t. over (f t) (v t)) s
  unfolding value add_info
  add-value f v (Operator o a b) = simplify-value v (Operator o (add_info f a) (add_info f b)) ∙ rw (add-value f v a, add-value f v b)
  add-value f v (Not a) = simplify-value v (Not (add_info f a)) ∙ ap not_t (add-value f v a)
  add-value f v (Single t) = simplify-value v (answered t (f t)) ∙ answered-value v t (f t)
  add-value f v (Known b) = simplify-value v (Known b)

  -- it is a `simplify`, so it is known where its value is decided
  simplified : (s q : Search T) → q ≡ simplify s → to_tri (complete q) ≡ value untold q
  simplified s q e = rw e (simplify-complete s ∙ sym (simplify-value untold s))

  pub add-complete : (f : T → Option Bool) (s : Search T) → to_tri (complete (add_info f s)) ≡ value untold (add_info f s)
  unfolding add_info
  add-complete f (Operator o a b) = simplified (Operator o (add_info f a) (add_info f b)) _ refl
  add-complete f (Not a) = simplified (Not (add_info f a)) _ refl
  add-complete f (Single t) = simplified (answered t (f t)) _ refl
  add-complete f (Known b) = simplified (Known b) _ refl

hit-unwrap : (o : Option Bool) → unwrap_or true o ≡ is_hit (to_tri o)
hit-unwrap None = refl
hit-unwrap (Some true) = refl
hit-unwrap (Some false) = refl

known-false : (o : Option Bool) → not (is_known false o) ≡ false → o ≡ Some false
known-false None h = absurd (false≢true (sym h))
known-false (Some true) h = absurd (false≢true (sym h))
known-false (Some false) h = refl

-- ---- lists

filter_none : {A : Type 0} (p : A → Bool) → ((x : A) → p x ≡ false) → (xs : List A) → filter p xs ≡ []
filter_none p h [] = refl
filter_none p h (x ∷ xs) = rw (h x) (filter_none p h xs)

concat_map-none : {A B : Type 0} (f : A → List B) → ((x : A) → f x ≡ []) → (xs : List A) → concat_map f xs ≡ []
concat_map-none f h [] = refl
concat_map-none f h (x ∷ xs) = rw (h x) (concat_map-none f h xs)

-- what a filter leaves out gives nothing
concat_map-filter : {A B C : Type 0} (f : B → List C) (p : B → Bool) (h : A → B) (g : A → List C)
    → ((x : A) → p (h x) ≡ true → f (h x) ≡ g x) → ((x : A) → p (h x) ≡ false → g x ≡ []) → (xs : List A) → concat_map f (filter p (map h xs)) ≡ concat_map g xs
concat_map-filter f p h g yea nay [] = refl
concat_map-filter f p h g yea nay (x ∷ xs) = go (p (h x)) refl (concat_map-filter f p h g yea nay xs)
  where
    go : (b : Bool) → p (h x) ≡ b → concat_map f (filter p (map h xs)) ≡ concat_map g xs → concat_map f (keep b (h x) (filter p (map h xs))) ≡ g x ++ concat_map g xs
    go true e i = rw (yea x e, i)
    go false e i = rw (nay x e, i)

-- ---- the staged find

module _ (F : ℕ → Type 0) {T : Type 0} (matches : (k : ℕ) → F k → T → Option Bool) where
  -- the hits among items: where the search isn't false, each term having what the first level that tells it tells; nothing is left out early
  unfoldable pub listed : (k : ℕ) → (T → Option Bool) → Search T → List (Item F k) → List (List ℕ)
  listed zero told s items = map (λ (a : Item F zero). a.0 ∷ []) (filter (λ (a : Item F zero). is_hit (value (λ t. to_tri (or_else (told t) (matches zero a.1 t))) s)) items)
  listed (suc k) told s items = concat_map (λ (m : Item F (suc k)). map (λ (h : List ℕ). m.0 ∷ h) (listed k (λ t. or_else (told t) (matches (suc k) m.1 t)) s m.2)) items

  -- q is s with what was told
  abbrev pub Told : (T → Option Bool) → Search T → Search T → Type 0
  Told told s q = (w : T → Tri) → value w q ≡ value (λ t. over (told t) (w t)) s

  told_more : (told f : T → Option Bool) (s q : Search T) → Told told s q → Told (λ t. or_else (told t) (f t)) s (add_info f q)
  told_more told f s q h w = add-value f w q ∙ h (λ t. over (f t) (w t)) ∙ value_same _ _ (λ t. over-else (told t) (f t) (w t)) s

  false_below : (k : ℕ) (told : T → Option Bool) (s : Search T) → ((w : T → Tri) → value (λ t. over (told t) (w t)) s ≡ False) → (items : List (Item F k)) → listed k told s items ≡ []
  unfolding listed
  false_below zero told s h items =
      ap (map (λ (a : Item F zero). a.0 ∷ []))
      (filter_none _ (λ a. ap is_hit (value_same _ _ (λ t. sym (tri-else (told t) (matches zero a.1 t))) s ∙ h (λ t. to_tri (matches zero a.1 t)))) items)
  false_below (suc k) told s h items =
      concat_map-none _
      (λ m. ap (map (λ (l : List ℕ). m.0 ∷ l)) (false_below k (λ t. or_else (told t) (matches (suc k) m.1 t)) s (λ w. sym (value_same _ _ (λ t. over-else (told t) (matches (suc k) m.1 t) (w t)) s) ∙ h _) m.2))
      items

  pub find-listed : (k : ℕ) (told : T → Option Bool) (s q : Search T) → Told told s q → (items : List (Item F k)) → find F matches k q items ≡ listed k told s items
  unfolding listed find
  find-listed zero told s q h items = ap (map (λ (a : Item F zero). a.0 ∷ [])) (filter_same _ _ at items)
    where
      at : (a : Item F zero) → unwrap_or true (complete (add_info (matches zero a.1) q)) ≡ is_hit (value (λ t. to_tri (or_else (told t) (matches zero a.1 t))) s)
      at a =
          let f = matches zero a.1 in
          hit-unwrap (complete (add_info f q))
          ∙ ap is_hit (add-complete f q ∙ told_more told f s q h untold ∙ value_same _ _ (λ t. over-open (or_else (told t) (f t))) s)
  find-listed (suc k) told s q h items =
      concat_map-filter _ _ _ _
      (λ m e. ap (map (λ (l : List ℕ). m.0 ∷ l)) (find-listed k (λ t. or_else (told t) (matches (suc k) m.1 t)) s (add_info (matches (suc k) m.1) q) (told_more told (matches (suc k) m.1) s q h) m.2))
      (λ m e. ap (map (λ (l : List ℕ). m.0 ∷ l)) (false_below k (λ t. or_else (told t) (matches (suc k) m.1 t)) s (λ w. sym (told_more told (matches (suc k) m.1) s q h w) ∙ known-value w _ (Some false) (known-false _ e)) m.2))
      items

  -- nothing told yet
  pub find-all : (k : ℕ) (s : Search T) (items : List (Item F k)) → find F matches k s items ≡ listed k (λ t. None) s items
  find-all k s items = find-listed k (λ t. None) s s (λ w. refl) items
