-- Laws of stored words: what the test by numbers says of a word's text, and which texts a rule stores as they are. Assumes nothing.
use Prim.Native.Nat.{ℕ, zero, suc, ◌+◌, ◌-◌, ◌*◌, ◌/◌, ◌%◌, ◌^◌, ◌≤◌, ◌<◌}
use mathlib.Core.Path.{◌≡◌, refl, sym, ap, ◌∙◌}
use mathlib.Core.Bool.{Bool, true, false, cond, not, ◌&&◌, ◌||◌, false≢true, and-false, and-true}
use mathlib.Core.List.{List, [], ◌∷◌, ◌++◌, map, reverse, reverse-cons, reverse-reverse}
use native.Mathlib.Nat.{one-mul, add-zero, zero-add, zero-mul, one-le-pow, pow-suc, suc-mul, mul-le-mul_right, div-add-mod', mod-lt, zero-mod}
use native.Mathlib.Omega.{arith}
use lib.ListN.{length}
use lib.Dec.{leb, ltb, eqb, lit<}
use lib.Pow.{pow-add, pow_mono, shl_exact}
use borrow.Author.Tests.{eq-eqb, ne_eqb, eqb-true, eqb-false, le-leb, lt-leb, lt-ltb, le-ltb, leb-true, leb-false}
use Rattle.machine.specs.Lists.{all, is_empty}
use Rattle.machine.specs.Text.{packed, pack, unpacked, before_zeros, without_zeros, text_of, plain, blank, to_upper, trim_start, trim, fit, chain_id, uppercase_or, insertion_code, conformer_name, alternative_location, atom_name, stores, stored_by, absent_or, packed_text}
use Rattle.machine.specs.declared.Prepared.{Prepared}
use Rattle.machine.specs.declared.Prepared.TheVariants.{Stored, Absent, Bad}
use Rattle.laws.specs.Lists.{and_both}
use Rattle.laws.specs.Packing.{pack-text_of, length-text_of, plain-is, both_ways}
use Rattle.laws.specs.Text.{trim_start-trim, trim-twice, all-trim, not-blank, is_plain, all-to_upper, trim-to_upper, bad-stores-none, absent-stores-none, stored-where, fit-text, stored-again}
use Rattle.helper.specs.Text.{upper_if}
use Rattle.stored.specs.Word.{stored_byte, stored_text}

-- ---- the code's tests, unfolded

not-false : (a : Bool) → not a ≡ true → a ≡ false
not-false true h = absurd (false≢true h)
not-false false h = refl

not-true : (a : Bool) → not a ≡ false → a ≡ true
not-true true h = refl
not-true false h = absurd (false≢true (sym h))

-- what a byte with n after it is worth
byte-unit : (n : ℕ) → 2 ^ (8 * n) ≡ 256 ^ n
byte-unit zero = refl
byte-unit (suc n) =
    let e : 8 * suc n ≡ 8 * n + 8 = omega arith in
    rw (e, pow-add 2 (8 * n) 8, byte-unit n, pow-suc 256 n)

shifted-unit : (n : ℕ) → n ≤ 7 → 1 * 2 ^ (8 * n) % 18446744073709551616 ≡ 256 ^ n
shifted-unit n h = shl_exact 1 (8 * n) 64 (lit< tt) (omega arith) ∙ rw (one-mul (2 ^ (8 * n)), byte-unit n)

pub unit-fits : (n : ℕ) → n ≤ 8 → (1 ≤ 1 * 2 ^ (8 * (n - 1)) % 18446744073709551616) × (1 * 2 ^ (8 * (n - 1)) % 18446744073709551616 ≤ 2 ^ 56)
unit-fits n h =
    let e = shifted-unit (n - 1) (omega arith) in
    rw e (one-le-pow (n - 1) 256 (omega arith), rw (← byte-unit (n - 1)) (pow_mono {i = 8 * (n - 1)} {j = 56} (omega arith)))

module _ (low : ℕ) (up : Bool) where
  stored_text-zero : (n : ℕ) → stored_text low up n 0 ≡ true
  unfolding stored_text stored_byte
  stored_text-zero zero = refl
  stored_text-zero (suc n) = rw (zero-mod (256 ^ n)) (stored_text-zero n)

-- `stored_text`: n bytes are left, the number rest
module _ (low : ℕ) (up : Bool) (w rest n : ℕ) (e : stored_text low up 8 w ≡ stored_text low up n rest) where
  pub text-done : rest ≡ 0 → true ≡ stored_text low up 8 w
  text-done z = sym (e ∙ rw z (stored_text-zero low up n))

  pub text-all : n ≤ 0 → true ≡ stored_text low up 8 w
  unfolding stored_text
  text-all h = let z : n ≡ 0 = omega arith in sym (e ∙ rw z)

  abbrev unit : ℕ
  unit = 1 * 2 ^ (8 * (n - 1)) % 18446744073709551616

  module _ (some : 0 < n) (h : n ≤ 8) (b : Bool) (byte : b ≡ stored_byte low up rest unit) where
    text-next : stored_text low up 8 w ≡ (b && stored_text low up (n - 1) (rest % unit))
    unfolding stored_text
    text-next =
        let s : n ≡ suc (n - 1) = omega arith in
        e ∙ ap (λ (m : ℕ). stored_text low up m rest) s ∙ rw (byte, shifted-unit (n - 1) (omega arith))

    pub text-not : not b ≡ true → false ≡ stored_text low up 8 w
    text-not f = sym (text-next ∙ rw (not-false b f))

    pub text-again : not b ≡ false → stored_text low up 8 w ≡ stored_text low up (n - 1) (rest % unit)
    text-again f = text-next ∙ rw (not-true b f)

-- `stored_byte`: below a, a to z, and above
module _ (low : ℕ) (up : Bool) (rest unit : ℕ) where
  pub byte_low : rest < 97 * unit → eqb rest 0 || leb (32 * unit + low) rest ≡ stored_byte low up rest unit
  unfolding stored_byte
  byte_low h = rw (lt-leb (97 * unit) rest h, lt-ltb rest (127 * unit) (omega arith), and-false) (simp and-true)

  module _ (l : low ≤ 1) (u : 1 ≤ unit) (h : 97 * unit ≤ rest) where
    pub byte-letter : rest < 123 * unit → not up ≡ stored_byte low up rest unit
    unfolding stored_byte
    byte-letter k =
        rw (ne_eqb rest 0 (λ z. omega arith), le-leb (32 * unit + low) rest (omega arith), le-leb (97 * unit) rest h, lt-ltb rest (127 * unit) (omega arith), lt-ltb rest (123 * unit) k, and-true)

    pub byte_high : 123 * unit ≤ rest → ltb rest (127 * unit) ≡ stored_byte low up rest unit
    unfolding stored_byte
    byte_high k =
        rw (ne_eqb rest 0 (λ z. omega arith), le-leb (32 * unit + low) rest (omega arith), le-leb (97 * unit) rest h, le-ltb rest (123 * unit) k, and-false, and-true)

-- ---- numbers by their first digit

leb-is : (x y k b : ℕ) → (k ≤ b → x ≤ y) → (b < k → y < x) → leb x y ≡ leb k b
leb-is x y k b f g = go (leb k b) refl
  where
    go : (a : Bool) → leb k b ≡ a → leb x y ≡ a
    go true e = le-leb x y (f (leb-true k b e))
    go false e = lt-leb x y (g (leb-false k b e))

ltb-is : (x y b k : ℕ) → (b ≤ k → x < y) → (k < b → y ≤ x) → ltb x y ≡ leb b k
ltb-is x y b k f g = go (leb b k) refl
  where
    go : (a : Bool) → leb b k ≡ a → ltb x y ≡ a
    go true e = lt-ltb x y (f (leb-true b k e))
    go false e = le-ltb x y (g (leb-false b k e))

module _ (u b q : ℕ) (h : q < u) where
  below : (k : ℕ) → ltb (b * u + q) (suc k * u) ≡ leb b k
  below k = ltb-is (b * u + q) (suc k * u) b k
      (λ l. let m : b * u ≤ k * u = mul-le-mul_right u l in omega (arith, suc-mul k u))
      (λ l. let m : suc k * u ≤ b * u = mul-le-mul_right u l in omega arith)

  reaches : (k : ℕ) → leb (k * u) (b * u + q) ≡ leb k b
  reaches k = leb-is (k * u) (b * u + q) k b
      (λ l. let m : k * u ≤ b * u = mul-le-mul_right u l in omega arith)
      (λ l. let m : suc b * u ≤ k * u = mul-le-mul_right u l in omega (arith, suc-mul b u))

  -- a byte that nothing follows
  reaches-last : (low : ℕ) → low ≤ 1 → q ≡ 0 → leb (32 * u + low) (b * u + q) ≡ leb (32 + low) b
  reaches-last zero l z = rw (add-zero (32 * u)) (reaches 32)
  reaches-last (suc zero) l z = leb-is (32 * u + 1) (b * u + q) 33 b
      (λ k. let m : 33 * u ≤ b * u = mul-le-mul_right u k in omega arith)
      (λ k. let m : b * u ≤ 32 * u = mul-le-mul_right u (omega arith) in omega arith)
  reaches-last (suc (suc n)) l z = absurd (omega arith)

  -- a byte that another follows
  reaches_more : (low : ℕ) → low ≤ 1 → (q ≡ 0 → ⊥) → leb (32 * u + low) (b * u + q) ≡ leb 32 b
  reaches_more low l z = leb-is (32 * u + low) (b * u + q) 32 b
      (λ k. let m : 32 * u ≤ b * u = mul-le-mul_right u k in omega arith)
      (λ k. let m : suc b * u ≤ 32 * u = mul-le-mul_right u k in omega (arith, suc-mul b u))

  none_left : eqb (b * u + q) 0 ≡ (eqb b 0 && eqb q 0)
  none_left = go (eqb b 0) (eqb q 0) refl refl
    where
      go : (c d : Bool) → eqb b 0 ≡ c → eqb q 0 ≡ d → eqb (b * u + q) 0 ≡ (c && d)
      go true d e f = rw (eqb-true b 0 e, zero-mul, zero-add) f
      go false d e f =
          let n = eqb-false b 0 e in
          let m : 1 * u ≤ b * u = mul-le-mul_right u (omega arith) in
          ne_eqb (b * u + q) 0 (omega arith)

-- ---- the test by numbers, as a test of the text

abbrev good : Bool → ℕ → ℕ → Bool
good up from b = (leb from b && leb b 126) && not (up && (leb 97 b && leb b 122))

-- each byte is 32..126 and not to be raised; the last is at least 32 + low
good_text : ℕ → Bool → List ℕ → Bool
good_text low up [] = true
good_text low up (b ∷ bs) = good up (32 + cond (is_empty bs) low 0) b && good_text low up bs

empty-before : (b : ℕ) (t : List ℕ) → is_empty (before_zeros b t) ≡ (eqb b 0 && is_empty t)
empty-before b t = go (eqb b 0 && is_empty t)
  where
    go : (a : Bool) → is_empty (cond a [] (b ∷ t)) ≡ a
    go true = refl
    go false = refl

-- no text is left of 0 alone
empty-text : (n r : ℕ) → r < 256 ^ n → is_empty (without_zeros (unpacked n r)) ≡ eqb r 0
unfolding without_zeros unpacked
empty-text zero r h = sym (eq-eqb r 0 (omega arith))
empty-text (suc n) r h =
    let u = 256 ^ n in
    let p : 0 < u = one-le-pow n 256 (omega arith) in
    let l : r % u < u = mod-lt r p in
    empty-before (r / u) (without_zeros (unpacked n (r % u)))
    ∙ rw (empty-text n (r % u) l) (sym (none_left u (r / u) (r % u) l) ∙ rw (div-add-mod' r u))

module _ (low : ℕ) (up : Bool) (l : low ≤ 1) where
  byte-text : (u b q : ℕ) (t : List ℕ) → q < u → is_empty t ≡ eqb q 0 → (stored_byte low up (b * u + q) u && good_text low up t) ≡ good_text low up (before_zeros b t)
  unfolding stored_byte good_text
  byte-text u b q [] h e =
      let z : q ≡ 0 = eqb-true q 0 (sym e) in
      rw (none_left u b q h, ← e, reaches-last u b q h low l z, below u b q h 126, reaches u b q h 97, below u b q h 122) (go (eqb b 0))
    where
      go : (a : Bool) → (((a && true) || good up (32 + low) b) && true) ≡ good_text low up (cond (a && true) [] (b ∷ []))
      go true = refl
      go false = refl
  byte-text u b q (c ∷ cs) h e =
      let z = eqb-false q 0 (sym e) in
      rw (none_left u b q h, ← e, and-false (eqb b 0), reaches_more u b q h low l z, below u b q h 126, reaches u b q h 97, below u b q h 122)

  -- the test of n bytes by numbers is the test of their text
  stored_text-good : (n r : ℕ) → stored_text low up n r ≡ good_text low up (without_zeros (unpacked n r))
  unfolding stored_text without_zeros unpacked good_text
  stored_text-good zero r = refl
  stored_text-good (suc n) r =
      let u = 256 ^ n in
      let p : 0 < u = one-le-pow n 256 (omega arith) in
      let h : r % u < u = mod-lt r p in
      rw (stored_text-good n (r % u)) (ap (λ (x : ℕ). stored_byte low up x u && good_text low up (without_zeros (unpacked n (r % u)))) (sym (div-add-mod' r u))
      ∙ byte-text u (r / u) (r % u) (without_zeros (unpacked n (r % u))) h (empty-text n (r % u) h))

good_text-plain : (t : List ℕ) → good_text 0 false t ≡ all plain t
unfolding good_text
good_text-plain [] = refl
good_text-plain (b ∷ bs) = rw (good_text-plain bs) (go (is_empty bs))
  where
    go : (a : Bool) → (((leb (32 + cond a 0 0) b && leb b 126) && true) && all plain bs) ≡ (plain b && all plain bs)
    go true = rw (and-true (plain b))
    go false = rw (and-true (plain b))

pub packed-text : (r : Bool) (w : ℕ) → r ≡ stored_text 0 false 8 w → r ≡ packed_text w
unfolding packed_text text_of
packed-text r w e = e ∙ stored_text-good 0 false (omega arith) 8 w ∙ good_text-plain (without_zeros (unpacked 8 w))

-- ---- what the rules leave unchanged

begins : List ℕ → Bool
begins [] = true
begins (b ∷ bs) = not (blank b)

begins-append : (s t : List ℕ) → is_empty s ≡ false → begins (s ++ t) ≡ begins s
unfolding begins
begins-append [] t h = absurd (false≢true (sym h))
begins-append (b ∷ bs) t h = refl

trim_start-begins : (t : List ℕ) → begins t ≡ true → trim_start t ≡ t
unfolding trim_start begins
trim_start-begins [] h = refl
trim_start-begins (b ∷ bs) h = go (blank b) h
  where
    go : (a : Bool) → not a ≡ true → cond a (trim_start bs) (b ∷ bs) ≡ b ∷ bs
    go true e = absurd (false≢true e)
    go false e = refl

begins-trim_start : (t : List ℕ) → begins (trim_start t) ≡ true
unfolding trim_start begins
begins-trim_start [] = refl
begins-trim_start (b ∷ bs) = go (blank b) refl (begins-trim_start bs)
  where
    go : (a : Bool) → blank b ≡ a → begins (trim_start bs) ≡ true → begins (cond a (trim_start bs) (b ∷ bs)) ≡ true
    go true e i = i
    go false e i = rw e

trim-begins : (t : List ℕ) → begins t ≡ true → begins (reverse t) ≡ true → trim t ≡ t
unfolding trim
trim-begins t p q = rw (trim_start-begins t p, trim_start-begins (reverse t) q) (reverse-reverse t)

-- a trimmed text has no blank at either end
begins-trim : (t : List ℕ) → begins (trim t) ≡ true
begins-trim t = rw (← trim_start-trim t) (begins-trim_start (trim t))

ends-trim : (t : List ℕ) → begins (reverse (trim t)) ≡ true
unfolding trim
ends-trim t = rw reverse-reverse (begins-trim_start (reverse (trim_start t)))

trim-upper_if : (up : Bool) (t : List ℕ) → trim (upper_if up t) ≡ upper_if up (trim t)
trim-upper_if false t = refl
trim-upper_if true t = trim-to_upper t

all-upper_if : (up : Bool) (t : List ℕ) → all plain t ≡ true → all plain (upper_if up t) ≡ true
all-upper_if false t h = h
all-upper_if true t h = all-to_upper t ∙ h

-- a text that is plain, has no blank at its end, and is raised where it has to be
record EndTrimmed (up : Bool) (t : List ℕ) : Type 0 where
  plains : all plain t ≡ true
  ends : begins (reverse t) ≡ true
  case : upper_if up t ≡ t

-- a text that the rules leave unchanged: it has no blank at its start either
record Unchanged (up : Bool) (t : List ℕ) : Type 0 where
  ending : EndTrimmed up t
  starts : begins t ≡ true

-- a word's text that is stored as the same word is unchanged
fit-unchanged : (up : Bool) (w : ℕ) → all plain (trim (text_of w)) ≡ true → fit (upper_if up (trim (text_of w))) ≡ Stored w → Unchanged up (text_of w)
fit-unchanged up w p e =
    let t = text_of w in
    let r : t ≡ upper_if up (trim t) = fit-text (upper_if up (trim t)) w (all-upper_if up (trim t) p) e in
    let o : trim t ≡ t = ap trim r ∙ trim-upper_if up (trim t) ∙ ap (upper_if up) (trim-twice t) ∙ sym r in
    record { ending = record { plains = rw o at p; ends = rw o at (ends-trim t); case = rw o at (sym r) }; starts = rw o at (begins-trim t) }

unchanged-trim : (up : Bool) (t : List ℕ) → Unchanged up t → trim t ≡ t
unchanged-trim up t k = trim-begins t k.starts k.ending.ends

unchanged-fit : (up : Bool) (w : ℕ) → Unchanged up (text_of w) → fit (upper_if up (trim (text_of w))) ≡ Stored w
unchanged-fit up w k = rw (unchanged-trim up (text_of w) k, k.ending.case, le-leb (length (text_of w)) 8 (length-text_of w), pack-text_of w)

-- ---- the test says that a text is unchanged

not-empty : (t : List ℕ) (b : ℕ) → is_empty (t ++ (b ∷ [])) ≡ false
not-empty [] b = refl
not-empty (c ∷ cs) b = refl

ends-cons : (b : ℕ) (bs : List ℕ) → begins (reverse (b ∷ bs)) ≡ cond (is_empty bs) (not (blank b)) (begins (reverse bs))
unfolding begins
ends-cons b [] = refl
ends-cons b (c ∷ cs) = rw (reverse-cons b (c ∷ cs)) (begins-append (reverse (c ∷ cs)) (b ∷ []) (rw (reverse-cons c cs) (not-empty (reverse cs) c)))

record Byte (up : Bool) (from b : ℕ) : Type 0 where
  low : from ≤ b
  high : b ≤ 126
  case : not (up && (leb 97 b && leb b 122)) ≡ true

good-byte : (up : Bool) (from b : ℕ) → good up from b ≡ true → Byte up from b
good-byte up from b h =
    let p = and_both (leb from b && leb b 126) (not (up && (leb 97 b && leb b 122))) h in
    let q = and_both (leb from b) (leb b 126) p.0 in
    record { low = leb-true from b q.0; high = leb-true b 126 q.1; case = p.1 }

byte-good : (up : Bool) (from b : ℕ) → Byte up from b → good up from b ≡ true
byte-good up from b h = rw (le-leb from b h.low, le-leb b 126 h.high, h.case)

-- a byte's case, and the text's
upper_if-cons : (up : Bool) (b : ℕ) (bs : List ℕ) → not (up && (leb 97 b && leb b 122)) ≡ true → upper_if up bs ≡ bs → upper_if up (b ∷ bs) ≡ b ∷ bs
upper_if-cons false b bs h e = refl
upper_if-cons true b bs h e = rw e (go (leb 97 b && leb b 122) h)
  where
    go : (a : Bool) → not a ≡ true → cond a (b - 32) b ∷ bs ≡ b ∷ bs
    go true h = absurd (false≢true h)
    go false h = refl

upper_if-head : (up : Bool) (b : ℕ) (bs : List ℕ) → upper_if up (b ∷ bs) ≡ b ∷ bs → not (up && (leb 97 b && leb b 122)) ≡ true
upper_if-head false b bs e = refl
upper_if-head true b bs e = go (leb 97 b && leb b 122) refl (cc)
  where
    go : (a : Bool) → leb 97 b && leb b 122 ≡ a → cond a (b - 32) b ≡ b → not a ≡ true
    go true h f = let l = leb-true 97 b (and_both (leb 97 b) (leb b 122) h).0 in absurd (omega arith)
    go false h f = refl

upper_if-tail : (up : Bool) (b : ℕ) (bs : List ℕ) → upper_if up (b ∷ bs) ≡ b ∷ bs → upper_if up bs ≡ bs
upper_if-tail false b bs e = refl
upper_if-tail true b bs e = cc

above-blank : (b : ℕ) → plain b ≡ true → not (blank b) ≡ true → 33 ≤ b
above-blank b p q =
    let n : b ≡ 32 → ⊥ = λ e. false≢true (rw e at q) in
    omega (arith, (plain-is b p).low)

good_text-end : (up : Bool) (t : List ℕ) → good_text 1 up t ≡ true → EndTrimmed up t
unfolding good_text begins
good_text-end up [] h = record { plains = refl; ends = refl; case = none up }
  where
    none : (up : Bool) → upper_if up [] ≡ []
    none true = refl
    none false = refl
good_text-end up (b ∷ bs) h =
    let p = and_both (good up (32 + cond (is_empty bs) 1 0) b) (good_text 1 up bs) h in
    let g = good-byte up (32 + cond (is_empty bs) 1 0) b p.0 in
    let i = good_text-end up bs p.1 in
    record {
      plains = rw (plain-from (is_empty bs) g.low g.high) i.plains;
      ends = ends-cons b bs ∙ end (is_empty bs) g.low i.ends;
      case = upper_if-cons up b bs g.case i.case;
    }
  where
    plain-from : (a : Bool) → 32 + cond a 1 0 ≤ b → b ≤ 126 → plain b ≡ true
    plain-from true l m = is_plain b (omega arith) m
    plain-from false l m = is_plain b l m

    end : (a : Bool) → 32 + cond a 1 0 ≤ b → begins (reverse bs) ≡ true → cond a (not (blank b)) (begins (reverse bs)) ≡ true
    end true l e = ap not (not-blank b l)
    end false l e = e

end-good_text : (up : Bool) (t : List ℕ) → EndTrimmed up t → good_text 1 up t ≡ true
unfolding good_text begins
end-good_text up [] k = refl
end-good_text up (b ∷ []) k =
    let p = and_both (plain b) true k.plains in
    rw (byte-good up 33 b (record { low = above-blank b p.0 (sym (ends-cons b []) ∙ k.ends); high = (plain-is b p.0).high; case = upper_if-head up b [] k.case }))
end-good_text up (b ∷ c ∷ cs) k =
    let p = and_both (plain b) (all plain (c ∷ cs)) k.plains in
    let q = plain-is b p.0 in
    let i = end-good_text up (c ∷ cs) (record { plains = p.1; ends = sym (ends-cons b (c ∷ cs)) ∙ k.ends; case = upper_if-tail up b (c ∷ cs) k.case }) in
    rw (byte-good up 32 b (record { low = q.low; high = q.high; case = upper_if-head up b (c ∷ cs) k.case })) i

-- a text whose first byte is 33 or more isn't empty and starts with no blank
record StartTrimmed (t : List ℕ) : Type 0 where
  some : is_empty t ≡ false
  starts : begins t ≡ true

byte-start : (b : ℕ) (t : List ℕ) → 33 ≤ b → StartTrimmed (before_zeros b t)
unfolding begins
byte-start b t h = rw (ne_eqb b 0 (omega arith)) (record { some = refl; starts = ap not (not-blank b h) })

start-byte : (b : ℕ) (t : List ℕ) → StartTrimmed (before_zeros b t) → all plain (before_zeros b t) ≡ true → 33 ≤ b
unfolding begins
start-byte b t o p = go (eqb b 0 && is_empty t) o.some o.starts p
  where
    go : (a : Bool) → is_empty (cond a [] (b ∷ t)) ≡ false → begins (cond a [] (b ∷ t)) ≡ true → all plain (cond a [] (b ∷ t)) ≡ true → 33 ≤ b
    go true n s p = absurd (false≢true (sym n))
    go false n s p = above-blank b (and_both (plain b) (all plain t) p).0 s

-- the code's test of a stored word
abbrev test : Bool → ℕ → Bool
test up w = leb 0x2100_0000_0000_0000 w && stored_text 1 up 8 w

record Passes (up : Bool) (w : ℕ) : Type 0 where
  some : is_empty (text_of w) ≡ false
  unchanged : Unchanged up (text_of w)

test-passes : (up : Bool) (w : ℕ) → test up w ≡ true → Passes up w
unfolding text_of without_zeros unpacked
test-passes up w h =
    let p = and_both (leb 0x2100_0000_0000_0000 w) (stored_text 1 up 8 w) h in
    let l = leb-true 0x2100_0000_0000_0000 w p.0 in
    let o : StartTrimmed (text_of w) = byte-start (w / 256 ^ 7) (without_zeros (unpacked 7 (w % 256 ^ 7))) (omega arith) in
    record { some = o.some; unchanged = record { ending = good_text-end up (text_of w) (sym (stored_text-good 1 up (omega arith) 8 w) ∙ p.1); starts = o.starts } }

passes-test : (up : Bool) (w : ℕ) → Passes up w → test up w ≡ true
unfolding text_of without_zeros unpacked
passes-test up w k =
    let o : StartTrimmed (text_of w) = record { some = k.some; starts = k.unchanged.starts } in
    let l = start-byte (w / 256 ^ 7) (without_zeros (unpacked 7 (w % 256 ^ 7))) o k.unchanged.ending.plains in
    rw (le-leb 0x2100_0000_0000_0000 w (omega arith)) (stored_text-good 1 up (omega arith) 8 w ∙ end-good_text up (text_of w) k.unchanged.ending)

-- ---- the rules

stores-true : (p : Prepared) (w : ℕ) → stores w p ≡ true → p ≡ Stored w
stores-true (Stored v) w h = ap Stored (eqb-true v w h)
stores-true Absent w h = absurd (false≢true h)
stores-true Bad w h = absurd (false≢true h)

stored_by-rule : (rule : List ℕ → Prepared) (w : ℕ) → stored_by rule w ≡ true → rule (text_of w) ≡ Stored w
unfolding stored_by
stored_by-rule rule w h = stores-true (rule (text_of w)) w h

chain-passes : (w : ℕ) → chain_id (text_of w) ≡ Stored w → Passes false w
unfolding chain_id
chain-passes w e =
    let t = text_of w in
    let p = stored-where (all plain (trim t) && not (is_empty (trim t))) (fit (trim t)) Bad w bad-stores-none e in
    let q = and_both (all plain (trim t)) (not (is_empty (trim t))) p.0 in
    let k = fit-unchanged false w q.0 p.1 in
    record { some = rw (unchanged-trim false t k) at (not-false (is_empty (trim t)) q.1); unchanged = k }

passes-chain : (w : ℕ) → Passes false w → chain_id (text_of w) ≡ Stored w
unfolding chain_id
passes-chain w k = rw (unchanged-trim false (text_of w) k.unchanged, k.unchanged.ending.plains, k.some) (rw (unchanged-trim false (text_of w) k.unchanged) at (unchanged-fit false w k.unchanged))

pub chain-stored : (w : ℕ) (k : Bool) → k ≡ stored_text 1 false 8 w → leb 0x2100_0000_0000_0000 w && k ≡ stored_by chain_id w
chain-stored w k e = rw e (both_ways (test false w) (stored_by chain_id w)
    (λ h. stored-again chain_id w (passes-chain w (test-passes false w h)))
    (λ h. passes-test false w (chain-passes w (stored_by-rule chain_id w h))))

-- for the three rules that share `uppercase_or`
module _ (other : Prepared) (w : ℕ) (n : (v : ℕ) → other ≡ Stored v → ⊥) where
  uppercase_or-passes : uppercase_or (text_of w) other ≡ Stored w → Passes true w
  unfolding uppercase_or
  uppercase_or-passes e =
      let t = text_of w in
      let p = stored-where (all plain t && not (is_empty (trim t))) (fit (map to_upper (trim t))) other w n e in
      let q = and_both (all plain t) (not (is_empty (trim t))) p.0 in
      let k = fit-unchanged true w (all-trim t q.0) p.1 in
      record { some = rw (unchanged-trim true t k) at (not-false (is_empty (trim t)) q.1); unchanged = k }

  passes-uppercase_or : Passes true w → uppercase_or (text_of w) other ≡ Stored w
  unfolding uppercase_or
  passes-uppercase_or k = rw (unchanged-trim true (text_of w) k.unchanged, k.unchanged.ending.plains, k.some) (rw (unchanged-trim true (text_of w) k.unchanged) at (unchanged-fit true w k.unchanged))

  uppercase_or-stored : test true w ≡ stored_by (λ t. uppercase_or t other) w
  uppercase_or-stored = both_ways (test true w) (stored_by (λ t. uppercase_or t other) w)
      (λ h. stored-again (λ t. uppercase_or t other) w (passes-uppercase_or (test-passes true w h)))
      (λ h. passes-test true w (uppercase_or-passes (stored_by-rule (λ t. uppercase_or t other) w h)))

pub name-stored : (w : ℕ) (k : Bool) → k ≡ stored_text 1 true 8 w → leb 0x2100_0000_0000_0000 w && k ≡ stored_by conformer_name w
name-stored w k e = rw e (uppercase_or-stored Bad w bad-stores-none)

pub location-stored : (w : ℕ) (r : Bool) → r ≡ absent_or insertion_code w → r ≡ absent_or alternative_location w
location-stored w r e = e ∙ ap (λ (x : Bool). eqb w 0 || x) (sym (uppercase_or-stored Bad w bad-stores-none) ∙ uppercase_or-stored Absent w absent-stores-none)

-- an atom's name may be empty
passes-atom : (w : ℕ) → Passes true w → atom_name (text_of w) ≡ Stored w
unfolding atom_name
passes-atom w k = rw (unchanged-trim true (text_of w) k.unchanged, k.unchanged.ending.plains) (rw (unchanged-trim true (text_of w) k.unchanged) at (unchanged-fit true w k.unchanged))

atom-zero : stored_by atom_name 0 ≡ true
unfolding stored_by atom_name text_of without_zeros unpacked trim trim_start packed
atom-zero = refl

some-text : (w : ℕ) → (w ≡ 0 → ⊥) → is_empty (text_of w) ≡ false
unfolding packed
some-text w n = go (text_of w) (pack-text_of w)
  where
    go : (t : List ℕ) → pack t ≡ w → is_empty t ≡ false
    go [] e = absurd (n (sym e))
    go (b ∷ bs) e = refl

atom-passes : (w : ℕ) → (w ≡ 0 → ⊥) → atom_name (text_of w) ≡ Stored w → Passes true w
unfolding atom_name
atom-passes w n e =
    let t = text_of w in
    let p = stored-where (all plain (trim t)) (fit (map to_upper (trim t))) Bad w bad-stores-none e in
    record { some = some-text w n; unchanged = fit-unchanged true w p.0 p.1 }

pub atom-stored : (w : ℕ) (r : Bool) → r ≡ absent_or insertion_code w → r ≡ stored_by atom_name w
atom-stored w r e = e ∙ go (eqb w 0) refl
  where
    go : (a : Bool) → eqb w 0 ≡ a → (a || stored_by insertion_code w) ≡ stored_by atom_name w
    go true h = rw (eqb-true w 0 h) (sym atom-zero)
    go false h = both_ways (stored_by insertion_code w) (stored_by atom_name w)
        (λ q. stored-again atom_name w (passes-atom w (uppercase_or-passes Bad w bad-stores-none (stored_by-rule insertion_code w q))))
        (λ q. stored-again insertion_code w (passes-uppercase_or Bad w bad-stores-none (atom-passes w (eqb-false w 0 h) (stored_by-rule atom_name w q))))
