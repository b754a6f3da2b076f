-- Laws of packing: words and texts determine each other, and have one order. Assumes nothing.
use Rattle.std.specs.Prelude.{ℕ, zero, suc, ◌+◌, ◌*◌, ◌/◌, ◌%◌, ◌^◌, ◌≤◌, ◌<◌, ◌≡◌, refl, Bool, true, false, ◌&&◌, ◌||◌, cond, List, [], ◌∷◌, length, get_or, leb, ltb, eqb}
use Rattle.std.proofs.Common.{sym, ap, ◌∙◌, pow-suc, suc-mul, mul-le-mul_right, le-mul_of_pos_right, div-add-mod', mod-eq_of_lt, arith, leb-true, ltb-true, ltb-false, eqb-true, le-leb, ne_eqb}
use Rattle.std.proofs.Math.Bool.{and-false}
use Rattle.std.proofs.Math.Nat.{one-le-pow, div-eq_of_lt, mul-add-div_right, mul-add-mod_self_right, zero-div, zero-mod}
use Rattle.std.proofs.Math.Dec.{leb-zero}
use Rattle.std.proofs.lemmas.Bool.{eqb-false, lt-leb}
use Rattle.machine.specs.Lists.{all, is_empty}
use Rattle.machine.specs.Text.{packed, pack, unpacked, before_zeros, without_zeros, text_of, before, plain}
use Rattle.laws.specs.Lists.{and_both}

-- ---- words to texts and back

pub packed_none : (t : List ℕ) → packed zero t ≡ 0
unfolding packed
packed_none [] = refl
packed_none (b ∷ bs) = refl

packed-before : (n b : ℕ) (bs : List ℕ) → packed (suc n) (before_zeros b bs) ≡ b * 256 ^ n + packed n bs
unfolding packed
packed-before n b [] = go (eqb b 0) refl
  where
    go : (t : Bool) → eqb b 0 ≡ t → packed (suc n) (cond (eqb b 0 && true) [] (b ∷ [])) ≡ b * 256 ^ n + 0
    go true e = let z = eqb-true b 0 e in rw (e, z) (omega arith)
    go false e = rw e
packed-before n b (c ∷ cs) = rw and-false

-- zero bytes at the end add nothing
packed-without_zeros : (n : ℕ) (t : List ℕ) → packed n (without_zeros t) ≡ packed n t
unfolding packed without_zeros
packed-without_zeros n [] = refl
packed-without_zeros zero (b ∷ bs) = packed_none (without_zeros (b ∷ bs))
packed-without_zeros (suc n) (b ∷ bs) = packed-before n b (without_zeros bs) ∙ rw (packed-without_zeros n bs)

packed-unpacked : (n w : ℕ) → packed (suc n) (unpacked (suc n) w) ≡ w
unfolding packed unpacked
packed-unpacked zero w = omega arith
packed-unpacked (suc n) w = rw (packed-unpacked n (w % 256 ^ suc n)) (div-add-mod' w (256 ^ suc n))

-- a word is packed from its text
pub pack-text_of : (w : ℕ) → pack (text_of w) ≡ w
unfolding text_of
pack-text_of w = packed-without_zeros 8 (unpacked 8 w) ∙ packed-unpacked 7 w

-- two words with one text are one word
pub text_of-injective : (v w : ℕ) → text_of v ≡ text_of w → v ≡ w
text_of-injective v w e = sym (pack-text_of v) ∙ ap pack e ∙ pack-text_of w

length-without_zeros : (t : List ℕ) → length (without_zeros t) ≤ length t
unfolding without_zeros
length-without_zeros [] = omega arith
length-without_zeros (b ∷ bs) = go (eqb b 0 && is_empty (without_zeros bs)) (length-without_zeros bs)
  where
    go : (a : Bool) → length (without_zeros bs) ≤ length bs → length (cond a [] (b ∷ without_zeros bs)) ≤ suc (length bs)
    go true i = omega arith
    go false i = omega arith

length-unpacked : (n w : ℕ) → length (unpacked n w) ≡ n
unfolding unpacked
length-unpacked zero w = refl
length-unpacked (suc n) w = ap suc (length-unpacked n (w % 256 ^ n))

pub length-text_of : (w : ℕ) → length (text_of w) ≤ 8
unfolding text_of
length-text_of w =
    let l = length-without_zeros (unpacked 8 w) in
    let e = length-unpacked 8 w in
    omega arith

-- ---- texts to words and back

-- what the test `plain` says
pub record Plain (b : ℕ) : Type 0 where
  pub low : 32 ≤ b
  pub high : b ≤ 126

pub plain-is : (b : ℕ) → plain b ≡ true → Plain b
plain-is b h =
    let p = and_both (leb 32 b) (leb b 126) h in
    record { low = leb-true 32 b p.0; high = leb-true b 126 p.1 }

-- every element is a byte
abbrev pub Bytes : List ℕ → Type 0
Bytes t = (i : ℕ) → get_or t i 0 < 256

plain-bytes : (t : List ℕ) → all plain t ≡ true → Bytes t
plain-bytes [] h i = omega arith
plain-bytes (b ∷ bs) h zero = omega (arith, (plain-is b (and_both (plain b) (all plain bs) h).0).high)
plain-bytes (b ∷ bs) h (suc i) = plain-bytes bs (and_both (plain b) (all plain bs) h).1 i

-- n bytes are below 256 ^ n
packed-small : (n : ℕ) (t : List ℕ) → Bytes t → packed n t < 256 ^ n
unfolding packed
packed-small n [] h = one-le-pow n 256 (omega arith)
packed-small zero (b ∷ bs) h = omega arith
packed-small (suc n) (b ∷ bs) h =
    let i = packed-small n bs (λ j. h (suc j)) in
    let m : b * 256 ^ n ≤ 255 * 256 ^ n = mul-le-mul_right (256 ^ n) (omega (arith, h 0)) in
    let e : 256 ^ suc n ≡ 256 ^ n * 256 = pow-suc 256 n in
    omega arith

text-zero : (n : ℕ) → without_zeros (unpacked n 0) ≡ []
unfolding without_zeros unpacked
text-zero zero = refl
text-zero (suc n) = rw (zero-div, zero-mod, text-zero n)

-- any bytes, packed and unpacked, lose the zeros at their end
pub text-packed : (n : ℕ) (t : List ℕ) → length t ≤ n → Bytes t → without_zeros (unpacked n (packed n t)) ≡ without_zeros t
unfolding without_zeros unpacked packed
text-packed n [] l h = text-zero n
text-packed zero (b ∷ bs) l h = absurd (omega arith)
text-packed (suc n) (b ∷ bs) l h =
    let i = packed-small n bs (λ j. h (suc j)) in
    let r = text-packed n bs (omega arith) (λ j. h (suc j)) in
    let d : (b * 256 ^ n + packed n bs) / 256 ^ n ≡ b = mul-add-div_right (omega arith) b (packed n bs) ∙ rw (div-eq_of_lt i) (omega arith) in
    let m : (b * 256 ^ n + packed n bs) % 256 ^ n ≡ packed n bs = mul-add-mod_self_right b (256 ^ n) (packed n bs) ∙ mod-eq_of_lt i in
    rw (d, m, r)

without_zeros-plain : (t : List ℕ) → all plain t ≡ true → without_zeros t ≡ t
unfolding without_zeros
without_zeros-plain [] h = refl
without_zeros-plain (b ∷ bs) h =
    let p = and_both (plain b) (all plain bs) h in
    rw (without_zeros-plain bs p.1, ne_eqb b 0 (omega (arith, (plain-is b p.0).low)))

-- a plain text of up to eight bytes is the text of its word
pub text_of-pack : (t : List ℕ) → length t ≤ 8 → all plain t ≡ true → text_of (pack t) ≡ t
unfolding text_of
text_of-pack t l h = text-packed 8 t l (plain-bytes t h) ∙ without_zeros-plain t h

-- two texts with one word are one text
pub pack-injective : (s t : List ℕ) → length s ≤ 8 → length t ≤ 8 → all plain s ≡ true → all plain t ≡ true → pack s ≡ pack t → s ≡ t
pack-injective s t l m p q e = sym (text_of-pack s l p) ∙ ap text_of e ∙ text_of-pack t m q

-- ---- order

pub both_ways : (a b : Bool) → (a ≡ true → b ≡ true) → (b ≡ true → a ≡ true) → a ≡ b
both_ways true b f g = sym (f refl)
both_ways false true f g = g refl
both_ways false false f g = refl

pub digit-below : (x y n p q : ℕ) → p < n → x < y → x * n + p < y * n + q
digit-below x y n p q h k =
    let m : suc x * n ≤ y * n = mul-le-mul_right n k in
    let e = suc-mul x n in
    omega arith

-- numbers are compared by their first digit, then by the rest
pub order-digit : (x y n p q : ℕ) → p < n → q < n → leb (x * n + p) (y * n + q) ≡ (ltb x y || (eqb x y && leb p q))
order-digit x y n p q h k = go (ltb x y) (eqb x y) refl refl
  where
    go : (a b : Bool) → ltb x y ≡ a → eqb x y ≡ b → leb (x * n + p) (y * n + q) ≡ (a || (b && leb p q))
    go true b e f =
        let l = digit-below x y n p q h (ltb-true x y e) in
        le-leb (x * n + p) (y * n + q) (omega arith)
    go false true e f = rw (eqb-true x y f) (both_ways (leb (y * n + p) (y * n + q)) (leb p q)
        (λ t. let l = leb-true (y * n + p) (y * n + q) t in le-leb p q (omega arith))
        (λ t. let l = leb-true p q t in le-leb (y * n + p) (y * n + q) (omega arith)))
    go false false e f =
        let l = ltb-false x y e in
        let d = eqb-false x y f in
        lt-leb (x * n + p) (y * n + q) (digit-below y x n q p k (omega arith))

order : (n : ℕ) (s t : List ℕ) → length s ≤ n → length t ≤ n → all plain s ≡ true → all plain t ≡ true
    → leb (packed n s) (packed n t) ≡ before s t
unfolding packed before
order n [] t l m h k = leb-zero (packed n t)
order zero (x ∷ xs) t l m h k = absurd (omega arith)
order (suc n) (x ∷ xs) [] l m h k =
    let p = plain-is x (and_both (plain x) (all plain xs) h).0 in
    let e = le-mul_of_pos_right x (one-le-pow n 256 (omega arith)) in
    lt-leb (x * 256 ^ n + packed n xs) 0 (omega arith)
order (suc n) (x ∷ xs) (y ∷ ys) l m h k =
    let p = (and_both (plain x) (all plain xs) h).1 in
    let q = (and_both (plain y) (all plain ys) k).1 in
    order-digit x y (256 ^ n) (packed n xs) (packed n ys) (packed-small n xs (plain-bytes xs p)) (packed-small n ys (plain-bytes ys q))
    ∙ rw (order n xs ys (omega arith) (omega arith) p q)

-- words are ordered as their texts are
pub pack-order : (s t : List ℕ) → length s ≤ 8 → length t ≤ 8 → all plain s ≡ true → all plain t ≡ true
    → leb (pack s) (pack t) ≡ before s t
pack-order s t l m h k = order 8 s t l m h k
