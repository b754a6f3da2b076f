-- How long a packed text is, as a test of its word, and how it starts; how wide the columns of texts are. Assumes nothing.
use Rattle.std.specs.Prelude.{ℕ, zero, suc, ◌+◌, ◌-◌, ◌*◌, ◌/◌, ◌%◌, ◌^◌, ◌≤◌, ◌<◌, ◌≡◌, refl, Bool, true, false, not, ◌&&◌, cond, List, [], ◌∷◌, ◌++◌, length, get_or, leb, ltb, eqb}
use Rattle.std.specs.Int.{◌∣◌}
use Rattle.std.proofs.Common.{sym, ap, ◌∙◌, subst, zero-lt-suc, mod-lt, div-add-mod', zero-mul, mod-eq_of_lt, le_of_lt, arith, pow-add, ltb-true, eqb-true, eq-eqb, ne_eqb, le-leb}
use Rattle.std.proofs.lemmas.Bool.{false≢true, eqb-false}
use Rattle.std.proofs.Math.Nat.{one-le-pow, mod-mod_of_dvd, zero-mod, zero-div, dvd-mul_left}
use Rattle.std.proofs.Math.Dec.{leb-zero, leb-suc-zero, leb-suc-suc}
use Rattle.machine.specs.Lists.{is_empty, all}
use Rattle.machine.specs.Text.{unpacked, without_zeros, before_zeros, text_of}
use Rattle.machine.specs.Lines.{blanks, symbols, symbol, indent}
use Rattle.laws.specs.Lists.{and_both}

front : (b : ℕ) (bs : List ℕ) → is_empty (before_zeros b bs) ≡ eqb b 0 && is_empty bs
front b bs = go (eqb b 0 && is_empty bs)
  where
    go : (t : Bool) → is_empty (cond t [] (b ∷ bs)) ≡ t
    go true = refl
    go false = refl

-- a number is zero where its quotient and its remainder are
zero-parts : (w p : ℕ) → eqb (w / p) 0 && eqb (w % p) 0 ≡ eqb w 0
zero-parts w p = go (eqb (w / p) 0) (eqb (w % p) 0) refl refl
  where
    whole : w / p * p + w % p ≡ w
    whole = div-add-mod' w p

    go : (s t : Bool) → eqb (w / p) 0 ≡ s → eqb (w % p) 0 ≡ t → s && t ≡ eqb w 0
    go true true e f =
        let a = eqb-true (w / p) 0 e in
        let b = eqb-true (w % p) 0 f in
        let z : w / p * p ≡ 0 = ap (λ (k : ℕ). k * p) a ∙ zero-mul p in
        sym (eq-eqb w 0 (sym whole ∙ (λ i. z i + b i)))
    go true false e f = sym (ne_eqb w 0 (λ (z : w ≡ 0). eqb-false (w % p) 0 f (ap (λ (k : ℕ). k % p) z ∙ zero-mod p)))
    go false t e f = sym (ne_eqb w 0 (λ (z : w ≡ 0). eqb-false (w / p) 0 e (ap (λ (k : ℕ). k / p) z ∙ zero-div p)))

-- nothing is left exactly where all digits are zero
empty-is : (n w : ℕ) → w < 256 ^ n → is_empty (without_zeros (unpacked n w)) ≡ eqb w 0
unfolding without_zeros unpacked
empty-is zero w h = sym (eq-eqb w 0 (omega arith))
empty-is (suc n) w h =
    front (w / 256 ^ n) (without_zeros (unpacked n (w % 256 ^ n)))
    ∙ ap (λ (b : Bool). eqb (w / 256 ^ n) 0 && b) (empty-is n (w % 256 ^ n) (mod-lt w (one-le-pow n 256 (zero-lt-suc 255))))
    ∙ zero-parts w (256 ^ n)

shorter : (k b : ℕ) (bs : List ℕ) → leb (length (before_zeros b bs)) (suc k) ≡ leb (length bs) k
shorter k b bs = go (eqb b 0) bs
  where
    go : (t : Bool) (bs : List ℕ) → leb (length (cond (t && is_empty bs) [] (b ∷ bs))) (suc k) ≡ leb (length bs) k
    go true [] = leb-zero (suc k) ∙ sym (leb-zero k)
    go true (x ∷ bs) = leb-suc-suc (length (x ∷ bs)) k
    go false bs = leb-suc-suc (length bs) k

length_none : (l : List ℕ) → leb (length l) 0 ≡ is_empty l
length_none [] = refl
length_none (b ∷ l) = leb-suc-zero (length l)

text-width : (k n w : ℕ) → k ≤ n → w < 256 ^ n → leb (length (without_zeros (unpacked n w))) k ≡ eqb (w % 256 ^ (n - k)) 0
unfolding without_zeros unpacked
text-width zero n w l h =
    let z : n - 0 ≡ n = omega arith in
    length_none (without_zeros (unpacked n w)) ∙ empty-is n w h ∙ ap (λ (v : ℕ). eqb v 0) (sym (mod-eq_of_lt h)) ∙ ap (λ (m : ℕ). eqb (w % 256 ^ m) 0) (sym z)
text-width (suc k) zero w l h = absurd (omega arith)
text-width (suc k) (suc n) w l h =
    let e : suc n - suc k ≡ n - k = omega arith in
    let f : k + (n - k) ≡ n = omega arith in
    let d : 256 ^ k * 256 ^ (n - k) ≡ 256 ^ n = sym (pow-add 256 k (n - k)) ∙ ap (λ (m : ℕ). 256 ^ m) f in
    shorter k (w / 256 ^ n) (without_zeros (unpacked n (w % 256 ^ n)))
    ∙ text-width k n (w % 256 ^ n) (omega arith) (mod-lt w (one-le-pow n 256 (zero-lt-suc 255)))
    ∙ ap (λ (v : ℕ). eqb v 0) (mod-mod_of_dvd (256 ^ (n - k)) w (subst (λ (m : ℕ). 256 ^ (n - k) ∣ m) d (dvd-mul_left (256 ^ (n - k)) (256 ^ k))))
    ∙ ap (λ (m : ℕ). eqb (w % 256 ^ m) 0) (sym e)

-- a u64's text has at most k bytes where its lowest 8 - k bytes are zero: the test of a field that is too wide
pub word_width : (k w : ℕ) → k ≤ 8 → w < 2 ^ 64 → leb (length (text_of w)) k ≡ eqb (w % 256 ^ (8 - k)) 0
unfolding text_of
word_width k w l h = text-width k 8 w l h

-- a text starts with its word's highest byte, unless nothing is left of the word
pub text-none : (n : ℕ) → without_zeros (unpacked n 0) ≡ []
text-none n = none (without_zeros (unpacked n 0)) (empty-is n 0 (one-le-pow n 256 (zero-lt-suc 255)))
  where
    none : (l : List ℕ) → is_empty l ≡ true → l ≡ []
    none [] h = refl
    none (b ∷ l) h = absurd (false≢true h)

pub text-some : (n w : ℕ) → w < 256 ^ suc n → 0 < w → without_zeros (unpacked (suc n) w) ≡ (w / 256 ^ n) ∷ without_zeros (unpacked n (w % 256 ^ n))
unfolding without_zeros unpacked
text-some n w h k =
    let bs = without_zeros (unpacked n (w % 256 ^ n)) in
    let e : eqb (w / 256 ^ n) 0 && is_empty bs ≡ false =
    ap (λ (b : Bool). eqb (w / 256 ^ n) 0 && b) (empty-is n (w % 256 ^ n) (mod-lt w (one-le-pow n 256 (zero-lt-suc 255))))
    ∙ zero-parts w (256 ^ n)
    ∙ ne_eqb w 0 (λ (z : w ≡ 0). omega arith) in
    ap (λ (t : Bool). cond t [] ((w / 256 ^ n) ∷ bs)) e

-- ---- columns of texts

-- an atom's name with its indent fits where the name does
pub name-width : (w e : ℕ) → leb (length (blanks (indent w e) ++ text_of w)) 4 ≡ leb (length (text_of w)) 4
name-width w e = go (ltb (length (text_of w)) 4) (not (eqb (length (symbol e)) 2)) refl
  where
    go : (t u : Bool) → ltb (length (text_of w)) 4 ≡ t → leb (length (blanks (cond (t && u) 1 0) ++ text_of w)) 4 ≡ leb (length (text_of w)) 4
    go true true h = h ∙ sym (le-leb (length (text_of w)) 4 (le_of_lt (ltb-true (length (text_of w)) 4 h)))
    go true false h = refl
    go false u h = refl

all_get_d : (p : List ℕ → Bool) (ls : List (List ℕ)) → all p ls ≡ true → p [] ≡ true → (i : ℕ) → p (get_or ls i []) ≡ true
all_get_d p [] h k i = k
all_get_d p (l ∷ ls) h k zero = (and_both (p l) (all p ls) h).0
all_get_d p (l ∷ ls) h k (suc i) = all_get_d p ls (and_both (p l) (all p ls) h).1 k i

pub symbol-width : (e : ℕ) → leb (length (symbol e)) 2 ≡ true
symbol-width e = all_get_d (λ (t : List ℕ). leb (length t) 2) ([] ∷ symbols) refl refl e
