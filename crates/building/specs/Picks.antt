-- Which of some elements an addition picks, before and after a change. Assumes nothing.
use Rattle.std.specs.Prelude.{ℕ, zero, suc, ◌≡◌, refl, Bool, true, false, cond, List, [], ◌∷◌, ◌++◌, length, None, Option, Some, option_map}
use Rattle.std.proofs.Common.{sym, ap, ◌∙◌, subst, arith}
use Rattle.std.proofs.lemmas.Bool.{false≢true}
use Rattle.machine.specs.Lists.{nth, splice, first_where, last_where, or_else, and_then}
use Rattle.machine.specs.Edit.{Which, first, last, pick}
use Rattle.laws.specs.Lists.{All}

module _ {A : Type 0} where
  -- an element gives way to another
  abbrev pub change : ℕ → (A → A) → List A → List A
  change i g xs = splice i (λ x. g x ∷ []) xs

  -- the element that an addition goes into
  abbrev pub chosen : Which → (A → Bool) → List A → Option A
  chosen w q xs = and_then (pick w q xs) (λ i. nth i xs)

  some_same : {x y : A} → Some x ≡ Some y → x ≡ y
  some_same e = cc

  -- ---- tests that agree

  module _ {p q : A → Bool} (agree : (x : A) → q x ≡ p x) where
    first-agree : (xs : List A) → first_where q xs ≡ first_where p xs
    first-agree [] = refl
    first-agree (x ∷ xs) = rw (agree x, first-agree xs)

    last-agree : (xs : List A) → last_where q xs ≡ last_where p xs
    last-agree [] = refl
    last-agree (x ∷ xs) = rw (agree x, last-agree xs)

    pub pick-agree : (w : Which) (xs : List A) → pick w q xs ≡ pick w p xs
    pick-agree first xs = first-agree xs
    pick-agree last xs = last-agree xs

  -- ---- what is picked passes the test; where nothing is, nothing does

  abbrev pub Seen : (A → Bool) → List A → Option ℕ → Type 0
  Seen q xs None = All (λ x. q x ≡ false) xs
  Seen q xs (Some i) = (x : A) × (nth i xs ≡ Some x) × (q x ≡ true)

  module _ (q : A → Bool) where
    first-seen : (xs : List A) → Seen q xs (first_where q xs)
    first-seen [] = tt
    first-seen (x ∷ xs) = go (q x) refl (first_where q xs) (first-seen xs)
      where
        go : (b : Bool) → q x ≡ b → (o : Option ℕ) → Seen q xs o → Seen q (x ∷ xs) (cond b (Some 0) (option_map suc o))
        go true e o h = (x, refl, e)
        go false e None h = (e, h)
        go false e (Some i) h = h

    last-seen : (xs : List A) → Seen q xs (last_where q xs)
    last-seen [] = tt
    last-seen (x ∷ xs) = go (q x) refl (last_where q xs) (last-seen xs)
      where
        go : (b : Bool) → q x ≡ b → (o : Option ℕ) → Seen q xs o → Seen q (x ∷ xs) (or_else (option_map suc o) (cond b (Some 0) None))
        go b e (Some i) h = h
        go true e None h = (x, refl, e)
        go false e None h = (e, h)

    pub pick-seen : (w : Which) (xs : List A) → Seen q xs (pick w q xs)
    pick-seen first xs = first-seen xs
    pick-seen last xs = last-seen xs

  -- ---- where no element passes a test but the last

  module _ (p : A → Bool) where
    abbrev pub NoneOf : List A → Type 0
    NoneOf xs = All (λ x. p x ≡ false) xs

    first-none : (xs : List A) → NoneOf xs → first_where p xs ≡ None
    first-none [] h = refl
    first-none (x ∷ xs) h = rw (h.0, first-none xs h.1)

    last_none : (xs : List A) → NoneOf xs → last_where p xs ≡ None
    last_none [] h = refl
    last_none (x ∷ xs) h = rw (h.0, last_none xs h.1)

    pub pick-none : (w : Which) (xs : List A) → NoneOf xs → pick w p xs ≡ None
    pick-none first xs h = first-none xs h
    pick-none last xs h = last_none xs h

    first-end : (xs : List A) (y : A) → NoneOf xs → p y ≡ true → first_where p (xs ++ (y ∷ [])) ≡ Some (length xs)
    first-end [] y h e = rw e
    first-end (x ∷ xs) y h e = rw (h.0, first-end xs y h.1 e)

    last_end : (xs : List A) (y : A) → NoneOf xs → p y ≡ true → last_where p (xs ++ (y ∷ [])) ≡ Some (length xs)
    last_end [] y h e = rw e
    last_end (x ∷ xs) y h e = rw (last_end xs y h.1 e)

    pub pick_end : (w : Which) (xs : List A) (y : A) → NoneOf xs → p y ≡ true → pick w p (xs ++ (y ∷ [])) ≡ Some (length xs)
    pick_end first xs y h e = first-end xs y h e
    pick_end last xs y h e = last_end xs y h e

  pub nth_end : (xs : List A) (y : A) → nth (length xs) (xs ++ (y ∷ [])) ≡ Some y
  nth_end [] y = refl
  nth_end (x ∷ xs) y = nth_end xs y

  pub change-end : (g : A → A) (xs : List A) (y : A) → change (length xs) g (xs ++ (y ∷ [])) ≡ xs ++ (g y ∷ [])
  change-end g [] y = refl
  change-end g (x ∷ xs) y = ap (λ (z : List A). x ∷ z) (change-end g xs y)

  -- ---- one more at the end, which fails the test

  nth-append : (xs : List A) (y : A) (i : ℕ) (x : A) → nth i xs ≡ Some x → nth i (xs ++ (y ∷ [])) ≡ Some x
  nth-append [] y i x e = let z : ◌≡◌ {A = ℕ} 0 1 = cc in absurd (omega arith)
  nth-append (x' ∷ xs) y zero x e = e
  nth-append (x' ∷ xs) y (suc i) x e = nth-append xs y i x e

  module _ (q : A → Bool) (y : A) (miss : q y ≡ false) where
    first-miss : (xs : List A) → first_where q (xs ++ (y ∷ [])) ≡ first_where q xs
    first-miss [] = rw miss
    first-miss (x ∷ xs) = rw (first-miss xs)

    last-miss : (xs : List A) → last_where q (xs ++ (y ∷ [])) ≡ last_where q xs
    last-miss [] = rw miss
    last-miss (x ∷ xs) = rw (last-miss xs)

    pub pick-miss : (w : Which) (xs : List A) → pick w q (xs ++ (y ∷ [])) ≡ pick w q xs
    pick-miss first xs = first-miss xs
    pick-miss last xs = last-miss xs

    pub chosen-miss : (w : Which) (xs : List A) → chosen w q (xs ++ (y ∷ [])) ≡ chosen w q xs
    chosen-miss w xs = ap (λ (o : Option ℕ). and_then o (λ i. nth i (xs ++ (y ∷ [])))) (pick-miss w xs) ∙ go (pick w q xs) (pick-seen q w xs)
      where
        go : (o : Option ℕ) → Seen q xs o → and_then o (λ i. nth i (xs ++ (y ∷ []))) ≡ and_then o (λ i. nth i xs)
        go None h = refl
        go (Some i) h = nth-append xs y i h.0 h.1 ∙ sym h.1

  -- ---- an element that gives way to one of the same id

  module _ (q : A → Bool) (g : A → A) (keeps : (x : A) → q (g x) ≡ q x) where
    first-change : (i : ℕ) (xs : List A) → first_where q (change i g xs) ≡ first_where q xs
    first-change i [] = refl
    first-change zero (x ∷ xs) = rw (keeps x)
    first-change (suc i) (x ∷ xs) = rw (first-change i xs)

    last-change : (i : ℕ) (xs : List A) → last_where q (change i g xs) ≡ last_where q xs
    last-change i [] = refl
    last-change zero (x ∷ xs) = rw (keeps x)
    last-change (suc i) (x ∷ xs) = rw (last-change i xs)

    pub pick-change : (w : Which) (i : ℕ) (xs : List A) → pick w q (change i g xs) ≡ pick w q xs
    pick-change first i xs = first-change i xs
    pick-change last i xs = last-change i xs

  nth_here : (i : ℕ) (g : A → A) (xs : List A) → nth i (change i g xs) ≡ option_map g (nth i xs)
  nth_here i g [] = refl
  nth_here zero g (x ∷ xs) = refl
  nth_here (suc i) g (x ∷ xs) = nth_here i g xs

  nth-other : (i k : ℕ) (g : A → A) → (i ≡ k → ⊥) → (xs : List A) → nth k (change i g xs) ≡ nth k xs
  nth-other i k g n [] = refl
  nth-other zero zero g n (x ∷ xs) = absurd (n refl)
  nth-other zero (suc k) g n (x ∷ xs) = refl
  nth-other (suc i) zero g n (x ∷ xs) = refl
  nth-other (suc i) (suc k) g n (x ∷ xs) = nth-other i k g (λ e. n (ap suc e)) xs

  module _ (p q : A → Bool) where
    -- two tests that no element passes pick two places
    pub picks-apart : ((x : A) → p x ≡ true → q x ≡ false) → (xs : List A) (i j : ℕ) → Seen p xs (Some i) → Seen q xs (Some j) → i ≡ j → ⊥
    picks-apart apart xs i j s h z = false≢true (sym (apart s.0 s.2) ∙ ap q (some_same (sym s.1 ∙ ap (λ (k : ℕ). nth k xs) z ∙ h.1)) ∙ h.2)

    module _ (g : A → A) (keeps : (x : A) → q (g x) ≡ q x) where
      pub chosen-other : ((x : A) → p x ≡ true → q x ≡ false) → (w : Which) (xs : List A) (i : ℕ) → pick w p xs ≡ Some i → chosen w q (change i g xs) ≡ chosen w q xs
      chosen-other apart w xs i e =
          ap (λ (o : Option ℕ). and_then o (λ j. nth j (change i g xs))) (pick-change q g keeps w i xs)
          ∙ go (pick w q xs) (pick-seen q w xs) (subst (Seen p xs) e (pick-seen p w xs))
        where
          go : (o : Option ℕ) → Seen q xs o → Seen p xs (Some i) → and_then o (λ j. nth j (change i g xs)) ≡ and_then o (λ j. nth j xs)
          go None h s = refl
          go (Some j) h s = nth-other i j g (picks-apart apart xs i j s h) xs

      pub chosen-same : ((x : A) → q x ≡ p x) → (w : Which) (xs : List A) (i : ℕ) → pick w p xs ≡ Some i → chosen w q (change i g xs) ≡ option_map g (nth i xs)
      chosen-same agree w xs i e =
          ap (λ (o : Option ℕ). and_then o (λ j. nth j (change i g xs))) (pick-change q g keeps w i xs ∙ pick-agree agree w xs ∙ e)
          ∙ nth_here i g xs
