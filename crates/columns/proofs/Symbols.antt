-- The table of symbols is the definition's, by computation. Assumes nothing.
use Rattle.std.specs.Prelude.{None, Option, Some, option_map}
use Prim.Native.Nat.{ℕ, zero, suc, ◌+◌, ◌*◌, ◌≤◌, ◌<◌}
use mathlib.Core.Path.{◌≡◌, refl, sym, ap, ◌∙◌}
use mathlib.Core.Bool.{Bool, true, false, not, ◌&&◌, cond}
use mathlib.Core.List.{List, [], ◌∷◌}
use native.Mathlib.Nat.{add-zero, zero-add}
use native.Mathlib.Numerals.{add-one}
use native.Mathlib.Omega.{arith}
use lib.Dec.{eqb}
use lib.ListN.{length, get_or, drop}
use lib.Seq.{drop-cons}
use Rattle.machine.specs.Lists.{same, first_where}
use Rattle.machine.specs.Lines.{at_right, column_text, symbols, symbol}
use Rattle.machine.specs.LinesIn.{or_zero, element_of}
use Rattle.columns.specs.Cells.{symbol_columns}

module _ {A : Type 0} where
  -- what f gives below n
  abbrev below : (ℕ → A) → ℕ → List A
  below f zero = []
  below f (suc n) = f 0 ∷ below (λ e. f (suc e)) n

  agree : (f g : ℕ → A) (n : ℕ) → below f n ≡ below g n → (e : ℕ) → e < n → f e ≡ g e
  agree f g zero h e l = absurd (omega arith)
  agree f g (suc n) h zero l = ap (λ (l : List A). get_or l 0 (f 0)) h
  agree f g (suc n) h (suc e) l = agree (λ e. f (suc e)) (λ e. g (suc e)) n (ap (λ (l : List A). drop 1 l) h) e (omega arith)

pub symbol-bytes : (e : ℕ) → e ≤ 118 → get_or symbol_columns (e * 2) 0 ∷ get_or symbol_columns (e * 2 + 1) 0 ∷ [] ≡ column_text (at_right 2 (symbol e))
unfolding symbol_columns
symbol-bytes e h =
    agree (λ e. get_or symbol_columns (e * 2) 0 ∷ get_or symbol_columns (e * 2 + 1) 0 ∷ []) (λ e. column_text (at_right 2 (symbol e))) 119 refl e (omega arith)

pub symbol-letters : (e r : ℕ) → e ≤ 118 → r ≡ get_or symbol_columns (e * 2) 0 → not (eqb r 32) ≡ eqb (length (symbol e)) 2
unfolding symbol_columns
symbol-letters e r h f =
    ap (λ (z : ℕ). not (eqb z 32)) f ∙ agree (λ e. not (eqb (get_or symbol_columns (e * 2) 0) 32)) (λ e. eqb (length (symbol e)) 2) 119 refl e (omega arith)

-- ---- the element of a symbol

-- whether a symbol stands so in its columns
abbrev stands : ℕ → ℕ → List ℕ → Bool
stands first second symbol = same (first ∷ second ∷ []) (column_text (at_right 2 symbol))

-- the symbols before element i are others
pub record NotBefore (first second i : ℕ) : Type 0 where
  pub within : i ≤ 119
  pub is : element_of (first ∷ second ∷ []) ≡ or_zero (option_map (λ j. i + j) (first_where (stands first second) (drop i ([] ∷ symbols))))

any-map : (o : Option ℕ) → o ≡ option_map (λ j. 0 + j) o
any-map None = refl
any-map (Some j) = ap Some (sym (zero-add j))

and-true-last : (a b : Bool) → a && (b && true) ≡ a && b
and-true-last a true = refl
and-true-last a false = refl

map-suc : (i : ℕ) (o : Option ℕ) → option_map (λ j. i + j) (option_map suc o) ≡ option_map (λ j. i + 1 + j) o
map-suc i None = refl
map-suc i (Some j) = ap Some (omega arith)

module _ (first second : ℕ) where
  pub not-before : NotBefore first second 0
  unfolding element_of
  not-before = record { within = omega arith; is = ap or_zero (any-map (first_where (stands first second) ([] ∷ symbols))) }

  module _ (i a b : ℕ) (h : NotBefore first second i) (l : i < 119) (p : a ≡ get_or symbol_columns (i * 2) 0) (q : b ≡ get_or symbol_columns (i * 2 + 1) 0) where
    here : stands first second (symbol i) ≡ eqb first a && eqb second b
    here =
        ap (λ (t : List ℕ). same (first ∷ second ∷ []) t) (sym (symbol-bytes i (omega arith)) ∙ (λ j. sym p j ∷ sym q j ∷ []))
        ∙ and-true-last (eqb first a) (eqb second b)

    split : (t : Bool) → eqb first a && eqb second b ≡ t
        → first_where (stands first second) (drop i ([] ∷ symbols)) ≡ cond t (Some 0) (option_map suc (first_where (stands first second) (drop (i + 1) ([] ∷ symbols))))
    split t e =
        ap (first_where (stands first second)) (drop-cons ([] ∷ symbols) i [] l ∙ ap (λ (z : ℕ). symbol i ∷ drop z ([] ∷ symbols)) (sym (add-one i)))
        ∙ ap (λ (z : Bool). cond z (Some 0) (option_map suc (first_where (stands first second) (drop (i + 1) ([] ∷ symbols))))) (here ∙ e)

    pub found_here : eqb first a && eqb second b ≡ true → i ≡ element_of (first ∷ second ∷ [])
    found_here e = sym (h.is ∙ ap (λ (o : Option ℕ). or_zero (option_map (λ j. i + j) o)) (split true e) ∙ add-zero i)

    pub not-here : eqb first a && eqb second b ≡ false → NotBefore first second (i + 1)
    not-here e = record { within = omega arith; is = h.is ∙ ap (λ (o : Option ℕ). or_zero (option_map (λ j. i + j) o)) (split false e) ∙ ap or_zero (map-suc i (first_where (stands first second) (drop (i + 1) ([] ∷ symbols)))) }

pub nowhere : (first second i : ℕ) → NotBefore first second i → 119 ≤ i → 0 ≡ element_of (first ∷ second ∷ [])
nowhere first second i h l =
    let k = h.within in
    let e : i ≡ 119 = omega arith in
    sym (h.is ∙ ap (λ (z : ℕ). or_zero (option_map (λ j. z + j) (first_where (stands first second) (drop z ([] ∷ symbols))))) e)

-- the elements of most atoms
module _ (first second : ℕ) (p : first ≡ 32) where
  pub carbon : second ≡ 67 → 6 ≡ element_of (first ∷ second ∷ [])
  unfolding element_of
  carbon q = λ i. element_of (sym p i ∷ sym q i ∷ [])

  pub nitrogen : second ≡ 78 → 7 ≡ element_of (first ∷ second ∷ [])
  unfolding element_of
  nitrogen q = λ i. element_of (sym p i ∷ sym q i ∷ [])

  pub oxygen : second ≡ 79 → 8 ≡ element_of (first ∷ second ∷ [])
  unfolding element_of
  oxygen q = λ i. element_of (sym p i ∷ sym q i ∷ [])

  pub hydrogen : second ≡ 72 → 1 ≡ element_of (first ∷ second ∷ [])
  unfolding element_of
  hydrogen q = λ i. element_of (sym p i ∷ sym q i ∷ [])

  pub sulphur : second ≡ 83 → 16 ≡ element_of (first ∷ second ∷ [])
  unfolding element_of
  sulphur q = λ i. element_of (sym p i ∷ sym q i ∷ [])
