-- Lists picked by tests, counted and shared. Assumes nothing.
use Rattle.std.specs.Prelude.{ℕ, suc, ◌+◌, ◌≤◌, ◌≡◌, Bool, ◌&&◌, ◌||◌, cond, length}
use Rattle.std.proofs.Math.Path.{refl}
use Rattle.std.proofs.Common.{ap, ◌∙◌, arith}
use Rattle.std.proofs.Math.Bool.{true, false}
use mathlib.Core.List.{List, [], ◌∷◌, ◌++◌, map}
use Rattle.machine.specs.Lists.{any, keep, filter, concat_map_from, same}
use Rattle.machine.specs.Demand.{Rising, shared}
use Rattle.laws.specs.Lists.{All, All-map, All-append, same_true, same_refl}

module _ {A : Type 0} where
  pub filter_same : (p q : A → Bool) → ((x : A) → p x ≡ q x) → (xs : List A) → filter p xs ≡ filter q xs
  filter_same p q f [] = refl
  filter_same p q f (x ∷ xs) = rw (f x, filter_same p q f xs)

  pub filter-all : (xs : List A) → filter (λ x. true) xs ≡ xs
  filter-all [] = refl
  filter-all (x ∷ xs) = rw (filter-all xs)

  pub filter-both : (p q : A → Bool) (xs : List A) → length (filter p xs) + length (filter q xs) ≡ length (filter (λ x. p x && q x) xs) + length (filter (λ x. p x || q x) xs)
  filter-both p q [] = refl
  filter-both p q (x ∷ xs) = go (p x) (q x) (filter-both p q xs)
    where
      go : (a b : Bool) → length (filter p xs) + length (filter q xs) ≡ length (filter (λ x. p x && q x) xs) + length (filter (λ x. p x || q x) xs)
          → length (keep a x (filter p xs)) + length (keep b x (filter q xs)) ≡ length (keep (a && b) x (filter (λ x. p x && q x) xs)) + length (keep (a || b) x (filter (λ x. p x || q x) xs))
      go true true h = omega arith
      go true false h = omega arith
      go false true h = omega arith
      go false false h = omega arith

  pub filter-append : (p : A → Bool) (xs ys : List A) → filter p (xs ++ ys) ≡ filter p xs ++ filter p ys
  filter-append p [] ys = refl
  filter-append p (x ∷ xs) ys = go (p x) (filter-append p xs ys)
    where
      go : (b : Bool) → filter p (xs ++ ys) ≡ filter p xs ++ filter p ys → keep b x (filter p (xs ++ ys)) ≡ keep b x (filter p xs) ++ filter p ys
      go true e = rw e
      go false e = e

  keep-All : (P : A → Type 0) (b : Bool) (x : A) (xs : List A) → P x → All P xs → All P (keep b x xs)
  keep-All P true x xs h g = (h, g)
  keep-All P false x xs h g = g

  pub filter-All : (P : A → Type 0) (p : A → Bool) (xs : List A) → All P xs → All P (filter p xs)
  filter-All P p [] h = tt
  filter-All P p (x ∷ xs) h = keep-All P (p x) x (filter p xs) h.0 (filter-All P p xs h.1)

  pub filter-few : (p : A → Bool) (xs : List A) → length (filter p xs) ≤ length xs
  filter-few p [] = omega arith
  filter-few p (x ∷ xs) = go (p x) (filter-few p xs)
    where
      go : (b : Bool) → length (filter p xs) ≤ length xs → length (keep b x (filter p xs)) ≤ suc (length xs)
      go true l = omega arith
      go false l = omega arith

module _ {A B : Type 0} where
  pub All-concat_map_from : (P : B → Type 0) (size : A → ℕ) (f : ℕ → A → List B) → ((n : ℕ) (x : A) → All P (f n x)) → (n : ℕ) (xs : List A) → All P (concat_map_from size f n xs)
  All-concat_map_from P size f h n [] = tt
  All-concat_map_from P size f h n (x ∷ xs) = All-append P (f n x) (concat_map_from size f (n + size x) xs) (h n x) (All-concat_map_from P size f h (n + size x) xs)

-- ---- strictly rising numbers, from a on and below b

abbrev pub Rises : ℕ → ℕ → List ℕ → Type 0
Rises a b [] = a ≤ b
Rises a b (x ∷ xs) = (a ≤ x) × Rises (suc x) b xs

pub rises-from : (a a' b : ℕ) (xs : List ℕ) → a ≤ a' → Rises a' b xs → Rises a b xs
rises-from a a' b [] l h = omega arith
rises-from a a' b (x ∷ xs) l h = (let g = h.0 in omega arith, h.1)

pub rises-append : (a b c : ℕ) (xs ys : List ℕ) → Rises a b xs → Rises b c ys → Rises a c (xs ++ ys)
rises-append a b c [] ys h g = rises-from a b c ys h g
rises-append a b c (x ∷ xs) ys h g = (h.0, rises-append (suc x) b c xs ys h.1 g)

pub rises-rising : (a b : ℕ) (xs : List ℕ) → Rises a b xs → Rising xs
rises-rising a b [] h = tt
rises-rising a b (x ∷ []) h = tt
rises-rising a b (x ∷ y ∷ ys) h = (h.1.0, rises-rising (suc x) b (y ∷ ys) h.1)

pub rises-few : (a b : ℕ) (xs : List ℕ) → Rises a b xs → a + length xs ≤ b
rises-few a b [] h = omega arith
rises-few a b (x ∷ xs) h = omega (arith, h.0, rises-few (suc x) b xs h.1)

-- ---- lists of hits, told apart by one of their numbers

module _ {A : Type 0} (f : A → List ℕ) (key : List ℕ → ℕ) where
  -- the keys rise
  abbrev pub Keyed : ℕ → ℕ → List A → Type 0
  Keyed a b xs = Rises a b (map (λ x. key (f x)) xs)

  pub keyed-filter : (p : A → Bool) (a b : ℕ) (xs : List A) → Keyed a b xs → Keyed a b (filter p xs)
  keyed-filter p a b [] h = h
  keyed-filter p a b (x ∷ xs) h = go (p x) (keyed-filter p (suc (key (f x))) b xs h.1)
    where
      go : (c : Bool) → Keyed (suc (key (f x))) b (filter p xs) → Keyed a b (keep c x (filter p xs))
      go true k = (h.0, k)
      go false k = rises-from a (suc (key (f x))) b (map (λ y. key (f y)) (filter p xs)) (let g = h.0 in omega arith) k

  keyed-above : (a b : ℕ) (xs : List A) → Keyed a b xs → All (λ h. a ≤ key h) (map f xs)
  keyed-above a b [] h = tt
  keyed-above a b (x ∷ xs) h = (h.0, All-map (λ y l. let g = h.0 in omega arith) (map f xs) (keyed-above (suc (key (f x))) b xs h.1))

  apart : (g h : List ℕ) → suc (key g) ≤ key h → same g h ≡ false
  apart g h l = go (same g h) refl
    where
      go : (b : Bool) → same g h ≡ b → b ≡ false
      go false e = refl
      go true e = let k = ap key (same_true g h e) in absurd (omega arith)

  apart' : (g h : List ℕ) → suc (key g) ≤ key h → same h g ≡ false
  apart' g h l = go (same h g) refl
    where
      go : (b : Bool) → same h g ≡ b → b ≡ false
      go false e = refl
      go true e = let k = ap key (same_true h g e) in absurd (omega arith)

  none_of : (g : List ℕ) (hs : List (List ℕ)) → All (λ h. suc (key g) ≤ key h) hs → any (same g) hs ≡ false
  none_of g [] a = refl
  none_of g (h ∷ hs) a = rw (apart g h a.0) (none_of g hs a.1)

  -- a hit below all of them is shared with none
  pass : (g : List ℕ) (ms hs : List (List ℕ)) → All (λ h. suc (key g) ≤ key h) hs → filter (λ h. any (same h) (g ∷ ms)) hs ≡ filter (λ h. any (same h) ms) hs
  pass g ms [] a = refl
  pass g ms (h ∷ hs) a = rw (apart' g h a.0, pass g ms hs a.1)

module _ {A : Type 0} (f : A → List ℕ) (key : List ℕ → ℕ) (p q : A → Bool) where
  shared_step : (x : A) (gs hs ks : List (List ℕ)) → All (λ h. suc (key (f x)) ≤ key h) gs → All (λ h. suc (key (f x)) ≤ key h) hs → shared gs hs ≡ ks
      → (a b : Bool) → shared (keep a (f x) gs) (keep b (f x) hs) ≡ keep (a && b) (f x) ks
  unfolding shared
  shared_step x gs hs ks u w e true true = rw (same_refl (f x), pass f key (f x) hs gs u, e)
  shared_step x gs hs ks u w e true false = rw (none_of f key (f x) hs w) e
  shared_step x gs hs ks u w e false true = pass f key (f x) hs gs u ∙ e
  shared_step x gs hs ks u w e false false = e

  map-keep : (b : Bool) (x : A) (xs : List A) → map f (keep b x xs) ≡ keep b (f x) (map f xs)
  map-keep true x xs = refl
  map-keep false x xs = refl

  pub shared-filter : (a b : ℕ) (xs : List A) → Keyed f key a b xs → shared (map f (filter p xs)) (map f (filter q xs)) ≡ map f (filter (λ x. p x && q x) xs)
  unfolding shared
  shared-filter a b [] h = refl
  shared-filter a b (x ∷ xs) h =
      let u = keyed-above f key (suc (key (f x))) b (filter p xs) (keyed-filter f key p (suc (key (f x))) b xs h.1) in
      let w = keyed-above f key (suc (key (f x))) b (filter q xs) (keyed-filter f key q (suc (key (f x))) b xs h.1) in
      rw (map-keep (p x) x (filter p xs), map-keep (q x) x (filter q xs), map-keep (p x && q x) x (filter (λ x. p x && q x) xs))
      (shared_step x (map f (filter p xs)) (map f (filter q xs)) (map f (filter (λ x. p x && q x) xs)) u w (shared-filter (suc (key (f x))) b xs h.1) (p x) (q x))

  -- in at least one
  pub any-filter : (g : List ℕ) (xs : List A) → any (same g) (map f (filter (λ x. p x || q x) xs)) ≡ (any (same g) (map f (filter p xs)) || any (same g) (map f (filter q xs)))
  any-filter g [] = refl
  any-filter g (x ∷ xs) =
      rw (map-keep (p x) x (filter p xs), map-keep (q x) x (filter q xs), map-keep (p x || q x) x (filter (λ x. p x || q x) xs))
      (go (p x) (q x) (map f (filter (λ x. p x || q x) xs)) (map f (filter p xs)) (map f (filter q xs)) (any-filter g xs))
    where
      within : (a b c r s : Bool) → cond (a || b) (c || (r || s)) (r || s) ≡ (cond a (c || r) r || cond b (c || s) s)
      within true true true r s = refl
      within true true false r s = refl
      within true false true r s = refl
      within true false false r s = refl
      within false true true true s = refl
      within false true true false s = refl
      within false true false r s = refl
      within false false c r s = refl

      any-keep : (b : Bool) (l : List (List ℕ)) → any (same g) (keep b (f x) l) ≡ cond b (same g (f x) || any (same g) l) (any (same g) l)
      any-keep true l = refl
      any-keep false l = refl

      go : (a b : Bool) (t r s : List (List ℕ)) → any (same g) t ≡ (any (same g) r || any (same g) s) → any (same g) (keep (a || b) (f x) t) ≡ (any (same g) (keep a (f x) r) || any (same g) (keep b (f x) s))
      go a b t r s e = rw (any-keep (a || b) t, any-keep a r, any-keep b s, e) (within a b (same g (f x)) (any (same g) r) (any (same g) s))
