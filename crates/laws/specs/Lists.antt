-- Laws of Bool tests, of what may be missing, and of lists, for the other laws. Assumes nothing.
use Rattle.std.specs.Prelude.{ℕ, ◌+◌, ◌≡◌, refl, Bool, true, false, ◌&&◌, List, [], ◌∷◌, ◌++◌, map, length, eqb, None, Option, Some}
use Rattle.std.proofs.Common.{◌∙◌, append_assoc, arith, length-append, eqb-true, eq-eqb}
use Rattle.std.proofs.lemmas.Bool.{false≢true}
use Rattle.std.proofs.Math.Bool.{and_assoc}
use Rattle.machine.specs.Lists.{all, sum, concat_map, and_then, same}

pub and_both : (a b : Bool) → a && b ≡ true → (a ≡ true) × (b ≡ true)
and_both true b h = (refl, h)
and_both false b h = absurd (false≢true h)

pub and-true : {a b : Bool} → a ≡ true → b ≡ true → a && b ≡ true
and-true p q = rw (p, q)

pub same_true : (xs ys : List ℕ) → same xs ys ≡ true → xs ≡ ys
same_true [] [] h = refl
same_true [] (y ∷ ys) h = absurd (false≢true h)
same_true (x ∷ xs) [] h = absurd (false≢true h)
same_true (x ∷ xs) (y ∷ ys) h =
    let b = and_both (eqb x y) (same xs ys) h in
    let e = eqb-true x y b.0 in
    let f = same_true xs ys b.1 in
    rw (e, f)

pub same_refl : (xs : List ℕ) → same xs xs ≡ true
same_refl [] = refl
same_refl (x ∷ xs) = and-true (eq-eqb x x refl) (same_refl xs)

pub and-then : {A B : Type 0} (o : Option A) (f : A → Option B) (y : B) → and_then o f ≡ Some y → (x : A) × (o ≡ Some x) × (f x ≡ Some y)
and-then None f y e = let z : ◌≡◌ {A = ℕ} 0 1 = cc in absurd (omega arith)
and-then (Some x) f y e = (x, refl, e)

pub then_never : {A B : Type 0} (o : Option A) (f : A → Option B) → ((x : A) → f x ≡ None) → and_then o f ≡ None
then_never None f h = refl
then_never (Some x) f h = h x

module _ {A : Type 0} where
  abbrev pub All : (A → Type 0) → List A → Type 0
  All P [] = Unit {0}
  All P (x ∷ xs) = P x × All P xs

  pub All-of : (p : A → Bool) (xs : List A) → all p xs ≡ true → All (λ x. p x ≡ true) xs
  All-of p [] h = tt
  All-of p (x ∷ xs) h = ((and_both (p x) (all p xs) h).0, All-of p xs (and_both (p x) (all p xs) h).1)

  pub all_of : (p : A → Bool) (xs : List A) → All (λ x. p x ≡ true) xs → all p xs ≡ true
  all_of p [] h = refl
  all_of p (x ∷ xs) h = rw h.0 (all_of p xs h.1)

  pub all_split : (p : A → Bool) (xs ys : List A) → all p (xs ++ ys) ≡ (all p xs && all p ys)
  all_split p [] ys = refl
  all_split p (x ∷ xs) ys = rw (all_split p xs ys, and_assoc (p x) (all p xs) (all p ys))

  pub All-map : {P Q : A → Type 0} → ((x : A) → P x → Q x) → (xs : List A) → All P xs → All Q xs
  All-map f [] h = tt
  All-map f (x ∷ xs) h = (f x h.0, All-map f xs h.1)

  pub All-append : (P : A → Type 0) (xs ys : List A) → All P xs → All P ys → All P (xs ++ ys)
  All-append P [] ys h g = g
  All-append P (x ∷ xs) ys h g = (h.0, All-append P xs ys h.1 g)

  pub All-left : (P : A → Type 0) (xs ys : List A) → All P (xs ++ ys) → All P xs
  All-left P [] ys h = tt
  All-left P (x ∷ xs) ys h = (h.0, All-left P xs ys h.1)

  pub All-right : (P : A → Type 0) (xs ys : List A) → All P (xs ++ ys) → All P ys
  All-right P [] ys h = h
  All-right P (x ∷ xs) ys h = All-right P xs ys h.1

  pub concat_map-one : (xs : List A) → concat_map (λ (x : A). x ∷ []) xs ≡ xs
  concat_map-one [] = refl
  concat_map-one (x ∷ xs) = rw (concat_map-one xs)

  pub sum-append : (f : A → ℕ) (xs ys : List A) → sum f (xs ++ ys) ≡ sum f xs + sum f ys
  sum-append f [] ys = omega arith
  sum-append f (x ∷ xs) ys = let e = sum-append f xs ys in omega arith

module _ {A B : Type 0} where
  pub All-concat_map : (P : B → Type 0) (f : A → List B) (xs : List A) → All (λ x. All P (f x)) xs → All P (concat_map f xs)
  All-concat_map P f [] h = tt
  All-concat_map P f (x ∷ xs) h = All-append P (f x) (concat_map f xs) h.0 (All-concat_map P f xs h.1)

  pub All-over : (P : B → Type 0) (f : A → B) (xs : List A) → All (λ x. P (f x)) xs → All P (map f xs)
  All-over P f [] h = tt
  All-over P f (x ∷ xs) h = (h.0, All-over P f xs h.1)

  pub concat_map-append : (f : A → List B) (xs ys : List A) → concat_map f (xs ++ ys) ≡ concat_map f xs ++ concat_map f ys
  concat_map-append f [] ys = refl
  concat_map-append f (x ∷ xs) ys = rw (concat_map-append f xs ys, append_assoc)

  pub length-concat_map : (f : A → List B) (xs : List A) → length (concat_map f xs) ≡ sum (λ x. length (f x)) xs
  length-concat_map f [] = refl
  length-concat_map f (x ∷ xs) = let e = length-concat_map f xs in omega (arith, length-append (f x) (concat_map f xs))

pub sum-concat_map : {A B : Type 0} (f : B → ℕ) (g : A → List B) (h : A → ℕ) → ((x : A) → sum f (g x) ≡ h x) → (xs : List A) → sum f (concat_map g xs) ≡ sum h xs
sum-concat_map f g h e [] = refl
sum-concat_map f g h e (x ∷ xs) = sum-append f (g x) (concat_map g xs) ∙ rw (e x, sum-concat_map f g h e xs)
