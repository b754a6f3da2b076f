-- Lists and options, as the other definitions use them. Assumes nothing.
use Rattle.std.specs.Prelude.{ℕ, zero, suc, ◌+◌, Bool, true, false, ◌&&◌, ◌||◌, cond, List, [], ◌∷◌, ◌++◌, eqb, None, Option, Some, option_map}
use Prim.Native.Char.{code}
use Prim.Native.String.{String}

abbrev pub or_else : {A : Type 0} → Option A → Option A → Option A
or_else None o = o
or_else (Some x) o = Some x

abbrev pub is_some : {A : Type 0} → Option A → Bool
is_some None = false
is_some (Some x) = true

module _ {A : Type 0} where
  abbrev pub is_empty : List A → Bool
  is_empty [] = true
  is_empty (x ∷ xs) = false

  abbrev pub all : (A → Bool) → List A → Bool
  all p [] = true
  all p (x ∷ xs) = p x && all p xs

  abbrev pub any : (A → Bool) → List A → Bool
  any p [] = false
  any p (x ∷ xs) = p x || any p xs

  abbrev pub sum : (A → ℕ) → List A → ℕ
  sum f [] = 0
  sum f (x ∷ xs) = f x + sum f xs

  abbrev pub keep : Bool → A → List A → List A
  keep true x xs = x ∷ xs
  keep false x xs = xs

  -- the elements at which p holds, in their order
  abbrev pub filter : (A → Bool) → List A → List A
  filter p [] = []
  filter p (x ∷ xs) = keep (p x) x (filter p xs)

  abbrev pub nth : ℕ → List A → Option A
  nth i [] = None
  nth zero (x ∷ xs) = Some x
  nth (suc i) (x ∷ xs) = nth i xs

  -- the element at index i gives way to the list that f makes of it
  abbrev pub splice : ℕ → (A → List A) → List A → List A
  splice i f [] = []
  splice zero f (x ∷ xs) = f x ++ xs
  splice (suc i) f (x ∷ xs) = x ∷ splice i f xs

  -- the index of the first element at which p holds, and of the last
  abbrev pub first_where : (A → Bool) → List A → Option ℕ
  first_where p [] = None
  first_where p (x ∷ xs) = cond (p x) (Some 0) (option_map suc (first_where p xs))

  abbrev pub last_where : (A → Bool) → List A → Option ℕ
  last_where p [] = None
  last_where p (x ∷ xs) = or_else (option_map suc (last_where p xs)) (cond (p x) (Some 0) None)

  abbrev pub last_of : A → List A → A
  last_of x [] = x
  last_of x (y ∷ ys) = last_of y ys

module _ {A B : Type 0} where
  abbrev pub concat_map : (A → List B) → List A → List B
  concat_map f [] = []
  concat_map f (x ∷ xs) = f x ++ concat_map f xs

  -- what f gives for each element with a number, where an element takes up as many numbers as its size, from n on
  abbrev pub concat_map_from : (A → ℕ) → (ℕ → A → List B) → ℕ → List A → List B
  concat_map_from size f n [] = []
  concat_map_from size f n (x ∷ xs) = f n x ++ concat_map_from size f (n + size x) xs

  abbrev pub and_then : Option A → (A → Option B) → Option B
  and_then None f = None
  and_then (Some x) f = f x

abbrev pub same : List ℕ → List ℕ → Bool
same [] [] = true
same [] (y ∷ ys) = false
same (x ∷ xs) [] = false
same (x ∷ xs) (y ∷ ys) = eqb x y && same xs ys

-- the bytes of an ASCII text
abbrev pub bytes : String → List ℕ
bytes String.[] = []
bytes (String.◌∷◌ c s) = code c ∷ bytes s
