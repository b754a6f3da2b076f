-- Equality word by word, how a case ends, and what stands behind one. Assumes nothing.
use Prim.Native.Nat.{ℕ, ◌+◌, ◌-◌}
use mathlib.Core.Path.{◌≡◌, refl, sym, ap, ◌∙◌}
use mathlib.Core.Bool.{Bool, true, false, ◌&&◌}
use mathlib.Core.List.{List, [], ◌∷◌}
use native.Mathlib.Omega.{arith}
use lib.ListN.{length, take, drop, replicate, length-drop}
use lib.Seq.{drop-drop, take_all}
use lib.Dec.{eqb}
use Rattle.std.specs.Cmp.Lexicographic.{pointwise}
use Rattle.machine.specs.Lists.{same}
use Rattle.edits.specs.Apply.{Run, ran, apply_run}
use Rattle.replay.specs.Replay.{ended, as_recorded_lem}

-- two lists of words are equal word by word
pub same_is : (a b : List ℕ) → pointwise eqb a b ≡ same a b
same_is [] [] = refl
same_is [] (y ∷ ys) = refl
same_is (x ∷ xs) [] = refl
same_is (x ∷ xs) (y ∷ ys) = ap (λ (r : Bool). eqb x y && r) (same_is xs ys)

-- ---- a case

module _ (list answers left store out numbers store' out' : List ℕ) (a : Bool)
    (e : store ≡ replicate (length left) 0)
    (f : out ≡ replicate (length answers) 0)
    (r : ran numbers store' out' ≡ apply_run store list out)
    (p : a ≡ pointwise eqb out' answers) where
  ended_as : same out' answers && same store' left ≡ as_recorded_lem list answers left
  ended_as = ap (λ (run : Run). ended run answers left) {y = apply_run (replicate (length left) 0) list (replicate (length answers) 0)} (r ∙ rw (e, f))

  pub ends-other : a ≡ false → a ≡ as_recorded_lem list answers left
  ends-other q = q ∙ (rw (sym (same_is out' answers) ∙ sym p ∙ q) at ended_as)

  pub ends-same : a ≡ true → (b : Bool) → b ≡ pointwise eqb store' left → b ≡ as_recorded_lem list answers left
  ends-same q b z = z ∙ same_is store' left ∙ (rw (sym (same_is out' answers) ∙ sym p ∙ q) at ended_as)

-- three parts, cut one after the other from the words behind three, are passed
pub behind-parts : (words parts later rest behind : List ℕ) (l m n : ℕ)
    → parts ≡ take (length words - 3) (drop 3 words)
    → later ≡ drop l parts
    → rest ≡ drop m later
    → behind ≡ drop n rest
    → behind ≡ drop (3 + l + m + n) words
behind-parts words parts later rest behind l m n p q r s =
    let e : parts ≡ drop 3 words = p ∙ take_all (length words - 3) (drop 3 words) (omega (arith, length-drop 3 words)) in
    let f : later ≡ drop (3 + l) words = q ∙ ap (drop l) e ∙ drop-drop l 3 words in
    let g : rest ≡ drop (3 + l + m) words = r ∙ ap (drop m) f ∙ drop-drop m (3 + l) words in
    s ∙ ap (drop n) g ∙ drop-drop n (3 + l + m) words
