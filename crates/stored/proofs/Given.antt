-- Laws of texts as given, one for each place of the code that compares one with a stored word. Assumes nothing.
use Prim.Native.Nat.{ℕ, suc, ◌-◌, ◌≤◌, ◌<◌}
use mathlib.Core.Path.{◌≡◌, refl, sym, ap, ◌∙◌}
use mathlib.Core.Bool.{Bool, true, false, cond, not, ◌&&◌, false≢true, and-false}
use mathlib.Core.List.{List, [], ◌∷◌}
use native.Mathlib.Omega.{arith}
use lib.ListN.{length, get_or}
use lib.Dec.{eqb}
use borrow.Author.Tests.{eq-eqb, ne_eqb}
use Rattle.machine.specs.Text.{pack, unpacked, before_zeros, without_zeros, text_of, matches}
use Rattle.laws.specs.Packing.{length-text_of, Bytes, text-packed}
use Rattle.laws.specs.Text.{matches-kept, matches-none}
use Rattle.helper.proofs.Laws.{any-byte}

-- a text that ends in no zero byte
closed : List ℕ → Bool
closed [] = true
closed (b ∷ []) = not (eqb b 0)
closed (b ∷ c ∷ cs) = closed (c ∷ cs)

closed-last : (t : List ℕ) → 1 ≤ length t → closed t ≡ not (eqb (get_or t (length t - 1) 0) 0)
unfolding closed
closed-last [] h = absurd (omega arith)
closed-last (b ∷ []) h = refl
closed-last (b ∷ c ∷ cs) h =
    let e : length (b ∷ c ∷ cs) - 1 ≡ suc (length (c ∷ cs) - 1) = omega arith in
    rw e (closed-last (c ∷ cs) (omega arith))

closed-before : (b : ℕ) (t : List ℕ) → closed t ≡ true → closed (before_zeros b t) ≡ true
unfolding closed
closed-before b [] h = go (eqb b 0) refl
  where
    go : (z : Bool) → eqb b 0 ≡ z → closed (cond (z && true) [] (b ∷ [])) ≡ true
    go true e = refl
    go false e = rw e
closed-before b (c ∷ cs) h = rw (and-false (eqb b 0)) h

closed-without_zeros : (t : List ℕ) → closed (without_zeros t) ≡ true
unfolding without_zeros closed
closed-without_zeros [] = refl
closed-without_zeros (b ∷ bs) = closed-before b (without_zeros bs) (closed-without_zeros bs)

without_zeros-closed : (t : List ℕ) → closed t ≡ true → without_zeros t ≡ t
unfolding without_zeros closed
without_zeros-closed [] h = refl
without_zeros-closed (b ∷ []) h = go (eqb b 0) h
  where
    go : (z : Bool) → not z ≡ true → cond (z && true) [] (b ∷ []) ≡ b ∷ []
    go true e = absurd (false≢true e)
    go false e = refl
without_zeros-closed (b ∷ c ∷ cs) h = rw (without_zeros-closed (c ∷ cs) h, and-false (eqb b 0))

module _ (t : List ℕ) (w : ℕ) where
  pub match_none : length t < 1 → false ≡ matches t w
  unfolding matches
  match_none h = let z : length t ≡ 0 = omega arith in rw (any-byte t, eq-eqb (length t) 0 z)

  pub match-long : 8 < length t → false ≡ matches t w
  match-long h = sym (matches-none t w (λ e. omega (arith, length-text_of w, ap length e)))

  pub match-zero : 1 ≤ length t → get_or t (length t - 1) 0 ≡ 0 → false ≡ matches t w
  unfolding text_of
  match-zero h z =
      let k : closed t ≡ false = closed-last t h ∙ rw (eq-eqb (get_or t (length t - 1) 0) 0 z) in
      sym (matches-none t w (λ e. false≢true (sym k ∙ ap closed e ∙ closed-without_zeros (unpacked 8 w))))

  pub match-word : (p : ℕ) → Bytes t → 1 ≤ length t → length t ≤ 8 → (get_or t (length t - 1) 0 ≡ 0 → ⊥) → p ≡ pack t → eqb p w ≡ matches t w
  unfolding text_of
  match-word p b h l z e =
      let k : closed t ≡ true = closed-last t h ∙ rw (ne_eqb (get_or t (length t - 1) 0) 0 z) in
      let o : text_of (pack t) ≡ t = text-packed 8 t l b ∙ without_zeros-closed t k in
      rw e (sym (matches-kept t w o (any-byte t ∙ ap not (ne_eqb (length t) 0 (omega arith)))))
