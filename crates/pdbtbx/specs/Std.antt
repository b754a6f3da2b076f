-- Rust's std, as far as the crate's algorithms use it: each definition stands for the Rust beside it. A text is its list of bytes, all below 128.
-- Five more are taken as they stand in `machine`: `trim` is `str::trim`, `before` is `<=` of `str` (both Text), `finite` is `f64::is_finite` of a float's
-- bits (Record), `same_z` is `==` of `isize` (Query), and `filter` is `filter` of an iterator and `retain` of a Vec (Lists).
-- Assumes nothing else.
use Rattle.std.specs.Prelude.{ℕ, zero, suc, ◌-◌, Bool, true, false, List, [], ◌∷◌, ◌++◌, map, reverse, length, negsuc, Float, None, Option, Some, option_map}
use Rattle.std.specs.Float.{nan, inf, fin, binary64}
use Rattle.std.specs.Float.Ieee.{sub, lt}
use Rattle.machine.specs.Lists.{first_where, same}
use Rattle.machine.specs.Text.{to_upper}

-- ---- String and Option

abbrev pub Text : Type 0
Text = List ℕ

-- s.to_uppercase(), s.to_ascii_uppercase()
abbrev pub to_uppercase : Text → Text
to_uppercase t = map to_upper t

-- == of Option<&str>
abbrev pub same_option : Option Text → Option Text → Bool
same_option None None = true
same_option None (Some t) = false
same_option (Some s) None = false
same_option (Some s) (Some t) = same s t

-- o.is_none()
abbrev pub is_none : {A : Type 0} → Option A → Bool
is_none None = true
is_none (Some x) = false

-- o.unwrap_or(b)
abbrev pub unwrap_or : Bool → Option Bool → Bool
unwrap_or b None = b
unwrap_or b (Some c) = c

-- ---- f64

-- x.abs()
unfoldable pub abs : Float → Float
abs nan = nan
abs (inf s) = inf false
abs (fin s m e) = fin false m e

-- f64::EPSILON, which is 2^-52
abbrev pub EPSILON : Float
EPSILON = fin false 1 (negsuc 51)

-- (x - y).abs() < f64::EPSILON
unfoldable pub within_epsilon : Float → Float → Bool
within_epsilon x y = lt (abs (sub binary64 x y)) EPSILON

-- ---- Vec

-- a call on a value that it changes: what it returns, and the value afterwards; none is a panic
abbrev pub Answer : Type 0 → Type 0
Answer A = Option (Bool × A)

abbrev pub changed : {A B : Type 0} → (A → B) → Answer A → Answer B
changed f None = None
changed f (Some r) = Some (r.0, f r.1)

module _ {A : Type 0} where
  -- f(xs.get_mut(i).unwrap())
  unfoldable pub at : ℕ → (A → Answer A) → List A → Answer (List A)
  at i f [] = None
  at zero f (x ∷ xs) = changed (λ y. y ∷ xs) (f x)
  at (suc i) f (x ∷ xs) = changed (λ ys. x ∷ ys) (at i f xs)

  -- xs.remove(i)
  unfoldable pub remove : ℕ → List A → Option (List A)
  remove i [] = None
  remove zero (x ∷ xs) = Some xs
  remove (suc i) (x ∷ xs) = option_map (λ ys. x ∷ ys) (remove i xs)

  -- xs.iter().position(p), and the index at which `for x in &mut xs { if p(x) { .. break; } }` breaks
  abbrev pub position : (A → Bool) → List A → Option ℕ
  position p xs = first_where p xs

  -- the index at which the same loop over xs.iter_mut().rev() breaks
  abbrev pub position_from_back : (A → Bool) → List A → Option ℕ
  position_from_back p xs = option_map (λ i. length xs - 1 - i) (first_where p (reverse xs))

  -- the loop's end, `if !found { xs.push(new); current = xs.last_mut().unwrap(); }`, then f(current)
  unfoldable pub on_current : Option ℕ → A → (A → Answer A) → List A → Answer (List A)
  on_current None new f xs = changed (λ y. xs ++ (y ∷ [])) (f new)
  on_current (Some i) new f xs = at i f xs
