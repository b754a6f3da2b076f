-- The crate's loops over a Vec beside document 01's indexes, under a map. Assumes nothing.
use Rattle.std.specs.Prelude.{None, Option, Some, option_map}
use Rattle.std.proofs.Common.{◌≡◌, ℕ, zero, suc, ◌-◌, ◌<◌, Bool, true, false, cond, List, [], ◌∷◌, ◌++◌, map, reverse, length, refl, ap, arith}
use mathlib.Core.List.{map-append, reverse-cons}
use lib.ListN.{length-reverse}
use Rattle.machine.specs.Lists.{keep, filter, or_else, nth, splice, first_where, last_where}
use Rattle.machine.specs.Edit.{put_in}
use Rattle.laws.specs.Lists.{All}
use Rattle.pdbtbx.specs.Std.{Answer, at, position_from_back, on_current}

module _ {A : Type 0} where
  abbrev pub Within : Option ℕ → List A → Type 0
  Within None xs = Unit {0}
  Within (Some i) xs = i < length xs

  within-suc : (o : Option ℕ) (x : A) (xs : List A) → Within o xs → Within (option_map suc o) (x ∷ xs)
  within-suc None x xs w = tt
  within-suc (Some i) x xs w = omega arith

  pub first-within : (p : A → Bool) (xs : List A) → Within (first_where p xs) xs
  first-within p [] = tt
  first-within p (x ∷ xs) = go (p x) (first-within p xs)
    where
      go : (b : Bool) → Within (first_where p xs) xs → Within (cond b (Some 0) (option_map suc (first_where p xs))) (x ∷ xs)
      go true w = omega arith
      go false w = within-suc (first_where p xs) x xs w

  pub last_within : (p : A → Bool) (xs : List A) → Within (last_where p xs) xs
  last_within p [] = tt
  last_within p (x ∷ xs) = go (last_where p xs) (p x) (last_within p xs)
    where
      go : (o : Option ℕ) (b : Bool) → Within o xs → Within (or_else (option_map suc o) (cond b (Some 0) None)) (x ∷ xs)
      go None true w = omega arith
      go None false w = tt
      go (Some i) b w = omega arith

  first-append : (p : A → Bool) (x : A) (xs : List A) → first_where p (xs ++ (x ∷ [])) ≡ or_else (first_where p xs) (cond (p x) (Some (length xs)) None)
  first-append p x [] = go (p x)
    where
      go : (b : Bool) → cond b (Some 0) (option_map suc None) ≡ cond b (Some 0) None
      go true = refl
      go false = refl
  first-append p x (y ∷ ys) = rw (first-append p x ys) (go (p y) (first_where p ys) (p x))
    where
      go : (b : Bool) (o : Option ℕ) (c : Bool) → cond b (Some 0) (option_map suc (or_else o (cond c (Some (length ys)) None))) ≡ or_else (cond b (Some 0) (option_map suc o)) (cond c (Some (suc (length ys))) None)
      go true o c = refl
      go false (Some i) c = refl
      go false None true = refl
      go false None false = refl

  -- the first from the back is the last
  pub back_last : (p : A → Bool) (xs : List A) → position_from_back p xs ≡ last_where p xs
  back_last p [] = refl
  back_last p (x ∷ xs) =
      rw (reverse-cons x xs, first-append p x (reverse xs), length-reverse xs, ← back_last p xs)
      (go (first_where p (reverse xs)) (p x) (first-within p (reverse xs)))
    where
      go : (o : Option ℕ) (b : Bool) → Within o (reverse xs)
          → option_map (λ i. suc (length xs) - 1 - i) (or_else o (cond b (Some (length xs)) None)) ≡ or_else (option_map suc (option_map (λ i. length xs - 1 - i) o)) (cond b (Some 0) None)
      go None true w = ap {B = Option ℕ} Some (omega arith)
      go None false w = refl
      go (Some i) b w = ap {B = Option ℕ} Some (omega (arith, length-reverse xs))

module _ {A B : Type 0} (u : B → A) where
  pub first-map : (q : A → Bool) (p : B → Bool) → ((t : B) → q (u t) ≡ p t) → (ts : List B) → first_where q (map u ts) ≡ first_where p ts
  first-map q p h [] = refl
  first-map q p h (t ∷ ts) = rw (h t, first-map q p h ts)

  pub last-map : (q : A → Bool) (p : B → Bool) → ((t : B) → q (u t) ≡ p t) → (ts : List B) → last_where q (map u ts) ≡ last_where p ts
  last-map q p h [] = refl
  last-map q p h (t ∷ ts) = rw (h t, last-map q p h ts)

  pub filter_map : (p : A → Bool) (q : B → Bool) → ((t : B) → p (u t) ≡ q t) → (ts : List B) → filter p (map u ts) ≡ map u (filter q ts)
  filter_map p q h [] = refl
  filter_map p q h (t ∷ ts) = rw (h t) (go (q t) (filter_map p q h ts))
    where
      go : (b : Bool) → filter p (map u ts) ≡ map u (filter q ts) → keep b (u t) (filter p (map u ts)) ≡ map u (keep b t (filter q ts))
      go true e = ap (λ (l : List A). u t ∷ l) e
      go false e = e

  -- a call on the element at an index
  pub at_map : (g : A → Answer A) (i : ℕ) (ts : List B) (t t' : B) (b : Bool) → nth i ts ≡ Some t → g (u t) ≡ Some (b, u t') → at i g (map u ts) ≡ Some (b, map u (splice i (λ x. t' ∷ []) ts))
  unfolding at
  at_map g i [] t t' b n h = let z : ◌≡◌ {A = ℕ} 0 1 = cc in absurd (omega arith)
  at_map g zero (x ∷ ts) t t' b n h = let e : x ≡ t = cc in rw (e, h)
  at_map g (suc i) (x ∷ ts) t t' b n h = rw (at_map g i ts t t' b n h)

  pub at_none : (g : A → Answer A) (i : ℕ) (ts : List B) → nth i ts ≡ None → at i g (map u ts) ≡ None
  unfolding at
  at_none g i [] n = refl
  at_none g zero (x ∷ ts) n = let z : ◌≡◌ {A = ℕ} 0 1 = cc in absurd (omega arith)
  at_none g (suc i) (x ∷ ts) n = rw (at_none g i ts n)

  module _ (g : A → Answer A) (f : B → B) (h : (t : B) → g (u t) ≡ Some (true, u (f t))) where
    at_every : (i : ℕ) (ts : List B) → i < length ts → at i g (map u ts) ≡ Some (true, map u (splice i (λ x. f x ∷ []) ts))
    unfolding at
    at_every i [] l = absurd (omega arith)
    at_every zero (x ∷ ts) l = rw (h x)
    at_every (suc i) (x ∷ ts) l = rw (at_every i ts (omega arith))

    -- the one found, or a new one behind the others
    pub current-map : (o : Option ℕ) (new : B) (ts : List B) → Within o ts → on_current o (u new) g (map u ts) ≡ Some (true, map u (put_in o f (f new) ts))
    unfolding on_current
    current-map None new ts w = rw (h new, map-append)
    current-map (Some i) new ts w = at_every i ts w

-- a call that always panics
module _ {A : Type 0} (g : A → Answer A) (h : (x : A) → g x ≡ None) where
  pub at-never : (i : ℕ) (xs : List A) → at i g xs ≡ None
  unfolding at
  at-never i [] = refl
  at-never zero (x ∷ xs) = rw (h x)
  at-never (suc i) (x ∷ xs) = rw (at-never i xs)

  pub current-never : (o : Option ℕ) (new : A) (xs : List A) → on_current o new g xs ≡ None
  unfolding on_current
  current-never None new xs = rw (h new)
  current-never (Some i) new xs = at-never i xs

-- a call that panics on what stands at the index
pub at-panic : {A B : Type 0} (u : B → A) (g : A → Answer A) (i : ℕ) (ts : List B) (t : B) → nth i ts ≡ Some t → g (u t) ≡ None → at i g (map u ts) ≡ None
unfolding at
at-panic u g i [] t n h = refl
at-panic u g zero (x ∷ ts) t n h = let e : x ≡ t = cc in rw (e, h)
at-panic u g (suc i) (x ∷ ts) t n h = rw (at-panic u g i ts t n h)

pub first-all : {A B : Type 0} (u : B → A) (q : A → Bool) (p : B → Bool) (ts : List B) → All (λ t. q (u t) ≡ p t) ts → first_where q (map u ts) ≡ first_where p ts
first-all u q p [] h = refl
first-all u q p (t ∷ ts) h = rw (h.0, first-all u q p ts h.1)
