-- Laws of fields read from their columns, one for each place of the code. Assumes nothing.
use Rattle.std.specs.Prelude.{None, Option, Some, option_map}
use Prim.Native.Nat.{ℕ, zero, suc, ◌+◌, ◌-◌, ◌*◌, ◌%◌, ◌^◌, ◌≤◌, ◌<◌}
use mathlib.Core.Path.{◌≡◌, refl, sym, ap, ◌∙◌, subst}
use mathlib.Core.Bool.{Bool, true, false, ◌&&◌, ◌||◌, cond, false≢true}
use mathlib.Core.List.{List, [], ◌∷◌, ◌++◌, reverse}
use native.Mathlib.Nat.{add-zero, one-le-pow, zero-lt-suc, le-mul_of_pos_right, lt_of_lt_of_le}
use native.Mathlib.Numerals.{add-one}
use native.Mathlib.Omega.{arith}
use lib.Dec.{leb, ltb, eqb, lit≤, lit<}
use lib.ListN.{length, get_or, take, drop, drop_of_length-le, length-append}
use lib.Pow.{pow-add}
use lib.Seq.{drop-cons, take-take, drop-drop}
use lib.Ieee.{binary64, round, of_bits, to_bits}
use lib.Ieee.Scale.{grid}
use borrow.Author.Tests.{leb-true, le-leb, eq-eqb, ne_eqb}
use Rattle.machine.specs.Lists.{all, any, sum, concat_map, same, first_where}
use Rattle.machine.specs.Text.{blank, packed, pack, trim, trim_start, chain_id, insertion_code, conformer_name, alternative_location, atom_name, stored_by, absent_or}
use Rattle.machine.specs.Record.{Atom, Words, words, fields_of, finite, good_values, good_fields}
use Rattle.machine.specs.Rounding.{nearest_bits}
use Rattle.machine.specs.Program.{newline}
use Rattle.machine.specs.Lines.{Column, at_left, at_right, column_text, fitting, line_of, AtomLine, fixed, symbols, name_columns, value_columns, element_columns, atom_columns, model_columns, end_columns}
use Rattle.machine.specs.LinesIn.{with_figure, figures_from, figures, has_minus, signed_bits, decimal_bits, word, or_zero, element_of, atom_in, model_in, good_line}
use Rattle.machine.specs.declared.NewAtom.{NewAtom}
use Rattle.machine.specs.declared.PreparedAddition.{PreparedAddition}
use Rattle.laws.specs.Lists.{and_both, same_true}
use Rattle.laws.specs.Columns.{width, columns-length}
use Rattle.lines.specs.Nearest.{value-back}
use Rattle.lines.specs.Figures.{fixed-nearest}
use Rattle.lines.specs.Fields.{finite-value}
use Rattle.lines.specs.Small as small
use Rattle.lines.specs.Taken.{taken_atom, taken_model, taken_end}
use Rattle.building.specs.Prepared.{prepared_of}
use Rattle.building.specs.Lacks.{lacks}
use Rattle.columns.specs.Put.{GoodAtom, place_of, decimal_text, decimal_columns, columns_at}
use Rattle.columns.specs.declared.Above.{Above}
use Rattle.columns.specs.declared.Decimal.{Decimal}
use Rattle.columns.specs.declared.Decimals.{Decimals}
use Rattle.scanner.specs.Scan.{values_of, above_in, decimal_in, decimals_in, without_floats, good_above, lacks_above}

next : (t : List ℕ) (i : ℕ) → i < length t → drop i t ≡ get_or t i 0 ∷ drop (i + 1) t
next t i h = drop-cons t i 0 h ∙ ap (λ (j : ℕ). get_or t i 0 ∷ drop j t) (sym (add-one i))

-- ---- digits

module _ (n b : ℕ) where
  pub a-digit : leb 48 b && leb b 57 ≡ true → n * 10 + (b - 48) ≡ with_figure n b
  a-digit h = rw h

  pub no_digit : leb 48 b && leb b 57 ≡ false → n ≡ with_figure n b
  no_digit h = rw h

  pub digit_low : leb 48 b && leb b 57 ≡ true → 48 ≤ b
  digit_low h = leb-true 48 b (and_both (leb 48 b) (leb b 57) h).0

  pub digit-high : leb 48 b && leb b 57 ≡ true → b ≤ 57
  digit-high h = leb-true b 57 (and_both (leb 48 b) (leb b 57) h).1

  pub digit-bound : leb 48 b && leb b 57 ≡ true → n * 10 + (b - 48) ≤ n * 10 + 9
  digit-bound h = let k = digit-high h in omega arith

-- the digits before i make n
pub record Figured (t : List ℕ) (i n : ℕ) : Type 0 where
  pub within : i ≤ length t
  pub is : figures t ≡ figures_from n (drop i t)
  pub small : n < 10 ^ i

pub none-figured : (t : List ℕ) → Figured t 0 0
none-figured t = record { within = omega arith; is = refl; small = omega arith }

-- of at most eight columns
few : (i : ℕ) → i ≤ 8 → 10 ^ i ≤ 100000000
few i h =
    let e : i + (8 - i) ≡ 8 = omega arith in
    subst (λ (z : ℕ). 10 ^ i ≤ z) (sym (pow-add 10 i (8 - i)) ∙ ap (λ (z : ℕ). 10 ^ z) e) (le-mul_of_pos_right (10 ^ i) (one-le-pow (8 - i) 10 (zero-lt-suc 9)))

module _ (t : List ℕ) (i n : ℕ) (w : length t ≤ 8) (h : Figured t i n) where
  pub figures-small : n < 10000000000
  figures-small =
      let k = h.within in
      let l = h.small in
      let m = few i (omega arith) in
      omega arith

  pub more-figured : (r : ℕ) → i < length t → r ≡ with_figure n (get_or t i 0) → r ≤ n * 10 + 9 → Figured t (i + 1) r
  unfolding figures_from
  more-figured r l e m =
      let s = h.small in
      let p : 10 ^ (i + 1) ≡ 10 ^ i * 10 = pow-add 10 i 1 in
      record {
        within = omega arith;
        is = h.is ∙ ap (figures_from n) (next t i l) ∙ ap (λ (z : ℕ). figures_from z (drop (i + 1) t)) (sym e);
        small = omega arith;
      }

  pub all-figured : length t ≤ i → n ≡ figures t
  unfolding figures_from
  all-figured l = sym (h.is ∙ ap (figures_from n) (drop_of_length-le t l))

  pub all_small : n < 100000000
  all_small =
      let k = h.within in
      lt_of_lt_of_le h.small (few i (omega arith))

-- ---- the minus

-- what is found before i
pub record Sought (t : List ℕ) (i : ℕ) (found : Bool) : Type 0 where
  pub within : i ≤ length t
  pub is : has_minus t ≡ found || any (eqb 45) (drop i t)

pub none-sought : (t : List ℕ) → Sought t 0 false
none-sought t = record { within = omega arith; is = refl }

or_swap : (a b c : Bool) → a || (b || c) ≡ (a || b) || c
or_swap true b c = refl
or_swap false b c = refl

or-none : (a : Bool) → a || false ≡ a
or-none true = refl
or-none false = refl

module _ (t : List ℕ) (i : ℕ) (found : Bool) (h : Sought t i found) where
  pub more-sought : i < length t → Sought t (i + 1) (found || eqb 45 (get_or t i 0))
  more-sought l =
      record {
        within = omega arith;
        is = h.is ∙ ap (λ (z : List ℕ). found || any (eqb 45) z) (next t i l) ∙ or_swap found (eqb 45 (get_or t i 0)) (any (eqb 45) (drop (i + 1) t));
      }

  pub all-sought : length t ≤ i → found ≡ has_minus t
  all-sought l = sym (h.is ∙ ap (λ (z : List ℕ). found || any (eqb 45) z) (drop_of_length-le t l) ∙ or-none found)

-- both in one pass
pub record Scanned (t : List ℕ) (i n : ℕ) (minus : Bool) : Type 0 where
  pub figured : Figured t i n
  pub sought : Sought t i minus

pub none-scanned : (t : List ℕ) → Scanned t 0 0 false
none-scanned t = record { figured = none-figured t; sought = none-sought t }

module _ (t : List ℕ) (i n : ℕ) (minus : Bool) (w : length t ≤ 8) (h : Scanned t i n minus) where
  pub scanned-small : n < 10000000000
  scanned-small = figures-small t i n w h.figured

  pub more-scanned : (r : ℕ) → i < length t → r ≡ with_figure n (get_or t i 0) → r ≤ n * 10 + 9 → Scanned t (i + 1) r (minus || eqb 45 (get_or t i 0))
  more-scanned r l e m = record { figured = more-figured t i n w h.figured r l e m; sought = more-sought t i minus h.sought l }

  pub all-scanned : length t ≤ i → n ≡ figures t
  all-scanned l = all-figured t i n w h.figured l

  pub scanned-minus : length t ≤ i → minus ≡ has_minus t
  scanned-minus l = all-sought t i minus h.sought l

  pub scanned-few : n < 100000000
  scanned-few = all_small t i n w h.figured

module _ (t : List ℕ) (n : ℕ) (e : n ≡ figures t) where
  by-minus : (b : Bool) → has_minus t ≡ b → cond b ((2 ^ 64 - n) % 2 ^ 64) n ≡ signed_bits t
  unfolding signed_bits
  by-minus b h = λ i. cond (sym h i) ((2 ^ 64 - e i) % 2 ^ 64) (e i)

  pub is_zero : n < 1 → 0 ≡ signed_bits t
  is_zero l = go (has_minus t) refl
    where
      go : (b : Bool) → has_minus t ≡ b → 0 ≡ signed_bits t
      go true h = (let z : 0 ≡ (2 ^ 64 - n) % 2 ^ 64 = omega arith in z) ∙ by-minus true h
      go false h = (let z : 0 ≡ n = omega arith in z) ∙ by-minus false h

  module _ (minus : Bool) (m : minus ≡ has_minus t) where
    pub is_negative : 1 ≤ n → n < 100000000 → minus ≡ true → 18446744073709551615 - n + 1 ≡ signed_bits t
    is_negative l s h = (let z : 18446744073709551615 - n + 1 ≡ (2 ^ 64 - n) % 2 ^ 64 = omega arith in z) ∙ by-minus true (sym m ∙ h)

    pub is_positive : minus ≡ false → n ≡ signed_bits t
    is_positive h = by-minus false (sym m ∙ h)

pub decimal-is : (t : List ℕ) (unit n r : ℕ) (minus : Bool) → minus ≡ has_minus t → n ≡ figures t → r ≡ to_bits binary64 (round binary64 minus n unit)
    → r ≡ to_bits binary64 (round binary64 (has_minus t) (figures t) unit)
decimal-is t unit n r minus m e h = h ∙ (λ i. to_bits binary64 (round binary64 (m i) (e i) unit))

pub decimal-in-is : (t : List ℕ) (n : ℕ) (minus : Bool) → minus ≡ has_minus t → n ≡ figures t → ◌≡◌ {A = Decimal} (record { minus = minus && ltb 0 n; size = n }) (decimal_in t)
decimal-in-is t n minus m e = λ i. record { minus = m i && ltb 0 (e i); size = e i }

pub decimals-is : (l : List ℕ) (x y z o f : Decimal) → x ≡ decimal_in (take 8 (drop 30 l)) → y ≡ decimal_in (take 8 (drop 38 l)) → z ≡ decimal_in (take 8 (drop 46 l)) → o ≡ decimal_in (take 6 (drop 54 l))
    → f ≡ decimal_in (take 6 (drop 60 l)) → ◌≡◌ {A = Decimals} (record { x = x; y = y; z = z; occupancy = o; b_factor = f }) (decimals_in l)
unfolding decimals_in
decimals-is l x y z o f p q r t u = λ i. record { x = p i; y = q i; z = r i; occupancy = t i; b_factor = u i }

-- ---- one column

pub one-column : (l : List ℕ) (i : ℕ) → i < length l → take 1 (drop i l) ≡ get_or l i 0 ∷ []
one-column l i h = ap (take 1) (drop-cons l i 0 h)

kept : (b : ℕ) → blank b ≡ false → trim_start (b ∷ []) ≡ b ∷ []
unfolding trim_start
kept b h = rw h

module _ (b : ℕ) (t : Bool) (e : t ≡ blank b) where
  pub blank-word : t ≡ true → 0 ≡ word (b ∷ [])
  unfolding word packed trim trim_start
  blank-word h = rw (sym e ∙ h)

  pub letter-word : t ≡ false → b * 72057594037927936 ≡ word (b ∷ [])
  unfolding word packed trim
  letter-word h =
      let k = kept b (sym e ∙ h) in
      sym (add-zero (b * 72057594037927936)) ∙ sym (ap (λ (z : List ℕ). pack (reverse (trim_start (reverse z)))) k ∙ ap (λ (z : List ℕ). pack (reverse z)) k)

-- ---- equal bytes

-- whether the bytes before i are equal
pub record Alike (s t : List ℕ) (i : ℕ) (equal : Bool) : Type 0 where
  pub within : i ≤ length s
  pub is : same s t ≡ equal && same (drop i s) (drop i t)

pub none_alike : (s t : List ℕ) → Alike s t 0 true
none_alike s t = record { within = omega arith; is = refl }

and-swap : (a b c : Bool) → a && (b && c) ≡ (a && b) && c
and-swap true b c = refl
and-swap false b c = refl

and-all : (a : Bool) → a && true ≡ a
and-all true = refl
and-all false = refl

module _ (s t : List ℕ) (i : ℕ) (equal : Bool) (e : length s ≡ length t) (h : Alike s t i equal) where
  pub more-alike : i < length s → Alike s t (i + 1) (equal && eqb (get_or s i 0) (get_or t i 0))
  more-alike l =
      record {
        within = omega arith;
        is =
            h.is
            ∙ (λ j. equal && same (next s i l j) (next t i (subst (λ (z : ℕ). i < z) e l) j))
            ∙ and-swap equal (eqb (get_or s i 0) (get_or t i 0)) (same (drop (i + 1) s) (drop (i + 1) t));
      }

  pub all_alike : length s ≤ i → equal ≡ same s t
  all_alike l =
      sym
      (h.is
      ∙ (λ j. equal && same (drop_of_length-le s l j) (drop_of_length-le t (subst (λ (z : ℕ). z ≤ i) e l) j))
      ∙ and-all equal)

-- ---- a line

pub hetero-yes : (b : ℕ) → b ≡ 72 → ◌≡◌ {A = ℕ} 1 (cond (eqb b 72) 1 0)
hetero-yes b h = rw (eq-eqb b 72 h)

pub hetero-no : (b : ℕ) → (b ≡ 72 → ⊥) → ◌≡◌ {A = ℕ} 0 (cond (eqb b 72) 1 0)
hetero-no b h = rw (ne_eqb b 72 h)

abbrev decimal_of : ℕ → List ℕ → ℕ
decimal_of unit t = to_bits binary64 (round binary64 (has_minus t) (figures t) unit)

module _ (l : List ℕ) (h : length l ≡ 81) where
  column : (i : ℕ) → i < 81 → word (get_or l i 0 ∷ []) ≡ word (take 1 (drop i l))
  column i k = ap word (sym (one-column l i (subst (λ (z : ℕ). i < z) (sym h) k)))

  pub chain-is : (c : ℕ) → c ≡ word (get_or l 21 0 ∷ []) → c ≡ (atom_in l).chain.id
  unfolding atom_in
  chain-is c e = e ∙ column 21 (omega arith)

  pub above-is : (c s k n a : ℕ) → c ≡ word (get_or l 21 0 ∷ []) → s ≡ signed_bits (take 4 (drop 22 l)) → k ≡ word (get_or l 26 0 ∷ [])
      → n ≡ word (take 3 (drop 17 l)) → a ≡ word (get_or l 16 0 ∷ [])
      → ◌≡◌ {A = Above} (record { chain = c; serial = s; code = k; name = n; location = a }) (above_in (atom_in l))
  unfolding atom_in
  above-is c s k n a p q r t u =
      let v = p ∙ column 21 (omega arith) in
      let w = r ∙ column 26 (omega arith) in
      let x = u ∙ column 16 (omega arith) in
      λ i. record { chain = v i; serial = q i; code = w i; name = t i; location = x i }

  two-columns : (i : ℕ) → suc i < 81 → get_or l i 0 ∷ get_or l (suc i) 0 ∷ [] ≡ take 2 (drop i l)
  two-columns i k =
      sym (ap (take 2) (drop-cons l i 0 (subst (λ (z : ℕ). i < z) (sym h) (omega arith)) ∙ ap (λ (z : List ℕ). get_or l i 0 ∷ z) (drop-cons l (suc i) 0 (subst (λ (z : ℕ). suc i < z) (sym h) k))))

  pub values-is : (s x y z o b e c t : ℕ) → s ≡ figures (take 5 (drop 6 l)) → x ≡ decimal_of 1000 (take 8 (drop 30 l)) → y ≡ decimal_of 1000 (take 8 (drop 38 l))
      → z ≡ decimal_of 1000 (take 8 (drop 46 l)) → o ≡ decimal_of 100 (take 6 (drop 54 l)) → b ≡ decimal_of 100 (take 6 (drop 60 l))
      → e ≡ element_of (get_or l 76 0 ∷ get_or l 77 0 ∷ []) → c ≡ signed_bits (take 2 (drop 78 l)) → t ≡ cond (eqb (get_or l 0 0) 72) 1 0
      → ◌≡◌ {A = NewAtom} (record { serial = s; x = x; y = y; z = z; occupancy = o; b_factor = b; element = e; charge = c; hetero = t }) (values_of (atom_in l))
  unfolding atom_in prepared_of decimal_bits
  values-is s x y z o b e c t p1 p2 p3 p4 p5 p6 p7 p8 p9 =
      let q = p7 ∙ ap element_of (two-columns 76 (omega arith)) in
      λ i. record { serial = p1 i; x = p2 i; y = p3 i; z = p4 i; occupancy = p5 i; b_factor = p6 i; element = q i; charge = p8 i; hetero = p9 i }

  pub atom-is : (u : Above) (v : NewAtom) (n : ℕ) → u ≡ above_in (atom_in l) → v ≡ values_of (atom_in l) → n ≡ word (take 4 (drop 12 l))
      → ◌≡◌ {A = PreparedAddition} (record { chain = u.chain; residue = u.serial; code = u.code; conformer = u.name; location = u.location; name = n; values = v }) (prepared_of (atom_in l))
  unfolding atom_in prepared_of
  atom-is u v n p q r = λ i. record { chain = (p i).chain; residue = (p i).serial; code = (p i).code; conformer = (p i).name; location = (p i).location; name = r i; values = q i }

  pub words-is : (s n e c t : ℕ) → s ≡ figures (take 5 (drop 6 l)) → n ≡ word (take 4 (drop 12 l)) → e ≡ element_of (get_or l 76 0 ∷ get_or l 77 0 ∷ []) → c ≡ signed_bits (take 2 (drop 78 l))
      → t ≡ cond (eqb (get_or l 0 0) 72) 1 0 → 5 ∷ s ∷ n ∷ 0 ∷ 0 ∷ 0 ∷ 0 ∷ 0 ∷ e ∷ c ∷ t ∷ 0 ∷ [] ≡ words 0 (without_floats (atom_in l).atom)
  unfolding words without_floats atom_in
  words-is s n e c t p1 p2 p3 p4 p5 =
      let q = p3 ∙ ap element_of (two-columns 76 (omega arith)) in
      λ i. 5 ∷ p1 i ∷ p2 i ∷ 0 ∷ 0 ∷ 0 ∷ 0 ∷ 0 ∷ q i ∷ p4 i ∷ p5 i ∷ 0 ∷ []

  pub model_is : (n : ℕ) → n ≡ figures (take 4 (drop 10 l)) → n ≡ (model_in l).serial
  unfolding model_in
  model_is n e = e

-- ---- what is lacking, by whether chain, residue and conformer are the same

module _ (c r f : Bool) where
  pub lacks-one : c && r && f ≡ true → ◌≡◌ {A = ℕ} 1 (cond c (cond r (cond f 1 2) 3) 4)
  lacks-one h = go c r f h
    where
      go : (c r f : Bool) → c && r && f ≡ true → ◌≡◌ {A = ℕ} 1 (cond c (cond r (cond f 1 2) 3) 4)
      go true true true h = refl
      go true true false h = absurd (false≢true h)
      go true false f h = absurd (false≢true h)
      go false r f h = absurd (false≢true h)

  pub lacks-two : c && r && f ≡ false → c && r ≡ true → ◌≡◌ {A = ℕ} 2 (cond c (cond r (cond f 1 2) 3) 4)
  lacks-two g h = go c r f g h
    where
      go : (c r f : Bool) → c && r && f ≡ false → c && r ≡ true → ◌≡◌ {A = ℕ} 2 (cond c (cond r (cond f 1 2) 3) 4)
      go true true true g h = absurd (false≢true (sym g))
      go true true false g h = refl
      go true false f g h = absurd (false≢true h)
      go false r f g h = absurd (false≢true h)

  pub lacks-three : c && r ≡ false → c ≡ true → ◌≡◌ {A = ℕ} 3 (cond c (cond r (cond f 1 2) 3) 4)
  lacks-three g h = go c r g h
    where
      go : (c r : Bool) → c && r ≡ false → c ≡ true → ◌≡◌ {A = ℕ} 3 (cond c (cond r (cond f 1 2) 3) 4)
      go true true g h = absurd (false≢true (sym g))
      go true false g h = refl
      go false r g h = absurd (false≢true h)

  pub lacks-four : c ≡ false → ◌≡◌ {A = ℕ} 4 (cond c (cond r (cond f 1 2) 3) 4)
  lacks-four h = rw h

inside : (i j n : ℕ) (t : List ℕ) → i + j ≤ n → take j (drop i (take n t)) ≡ take j (drop i t)
inside zero j n t h = take-take j n t (omega arith)
inside (suc i) j zero t h = absurd (omega arith)
inside (suc i) j (suc n) [] h = refl
inside (suc i) j (suc n) (x ∷ t) h = inside i j n t (omega arith)

-- columns that are equal are read alike
module _ (b l : List ℕ) where
  within-columns : (i j : ℕ) → take 11 (drop 16 b) ≡ take 11 (drop 16 l) → i + j ≤ 11 → take j (drop (16 + i) b) ≡ take j (drop (16 + i) l)
  within-columns i j h k = part b ∙ ap (λ (t : List ℕ). take j (drop i t)) h ∙ sym (part l)
    where
      part : (t : List ℕ) → take j (drop (16 + i) t) ≡ take j (drop i (take 11 (drop 16 t)))
      part t = sym (inside i j 11 (drop 16 t) k ∙ ap (take j) (drop-drop i 16 t))

  -- so what stands above both atoms is the same
  above-alike : take 11 (drop 16 b) ≡ take 11 (drop 16 l) → above_in (atom_in b) ≡ above_in (atom_in l)
  unfolding atom_in
  above-alike h =
      let c = within-columns 5 1 h (omega arith) in
      let s = within-columns 6 4 h (omega arith) in
      let k = within-columns 10 1 h (omega arith) in
      let n = within-columns 1 3 h (omega arith) in
      let a = within-columns 0 1 h (omega arith) in
      λ i. record { chain = word (c i); serial = signed_bits (s i); code = word (k i); name = word (n i); location = word (a i) }

  lacks-is : lacks (atom_in b) (atom_in l) ≡ lacks_above (above_in (atom_in b)) (above_in (atom_in l))
  unfolding lacks
  lacks-is = refl

  self-lacks : (u : Above) → lacks_above u u ≡ 1
  self-lacks u = rw (eq-eqb u.chain u.chain refl, eq-eqb u.serial u.serial refl, eq-eqb u.code u.code refl, eq-eqb u.name u.name refl, eq-eqb u.location u.location refl)

  pub lacks-itself : (e : Bool) → e ≡ same (take 11 (drop 16 b)) (take 11 (drop 16 l)) → e ≡ true → 1 ≡ lacks (atom_in b) (atom_in l)
  lacks-itself e h k =
      let a = above-alike (same_true (take 11 (drop 16 b)) (take 11 (drop 16 l)) (sym h ∙ k)) in
      sym (lacks-is ∙ ap (λ (u : Above). lacks_above u (above_in (atom_in l))) a ∙ self-lacks (above_in (atom_in l)))

  -- another chain
  pub lacks-all : (c d : ℕ) → c ≡ (atom_in l).chain.id → d ≡ (atom_in b).chain.id → (c ≡ d → ⊥) → 4 ≡ lacks (atom_in b) (atom_in l)
  unfolding lacks
  lacks-all c d p q n = rw (ne_eqb (atom_in l).chain.id (atom_in b).chain.id (λ e. n (p ∙ e ∙ sym q)))

  pub lacks-by-words : (u v : Above) (r : ℕ) → u ≡ above_in (atom_in b) → v ≡ above_in (atom_in l) → r ≡ lacks_above u v → r ≡ lacks (atom_in b) (atom_in l)
  lacks-by-words u v r p q h = h ∙ (λ i. lacks_above (p i) (q i)) ∙ sym lacks-is

-- ---- lines written again

module _ (cs : List Column) (fits : Bool) (e : fits ≡ all fitting cs) where
  pub fits-then : fits ≡ true → all fitting cs ≡ true
  fits-then h = sym e ∙ h

  pub written_same : (again line : List ℕ) (r : Bool) → again ≡ line_of cs → r ≡ same again line → fits ≡ true → r ≡ all fitting cs && same (line_of cs) line
  written_same again line r a h k = h ∙ ap (λ (t : List ℕ). same t line) a ∙ ap (λ (b : Bool). b && same (line_of cs) line) (sym (fits-then k))

  pub written-not : (line : List ℕ) → fits ≡ false → false ≡ all fitting cs && same (line_of cs) line
  written-not line h = ap (λ (b : Bool). b && same (line_of cs) line) (sym h ∙ e)

pub line-width : (cs : List Column) (again : List ℕ) → again ≡ line_of cs → all fitting cs ≡ true → sum width cs ≡ 80 → length again ≡ 81
line-width cs again a f w = ap length a ∙ length-append (concat_map column_text cs) newline ∙ ap (λ (n : ℕ). n + 1) (columns-length cs f ∙ w)

good-parts : (a b c d e : Bool) → a && (b && ((c && d) && e)) ≡ (a && b && c && d) && e
good-parts true true true d e = refl
good-parts true true false d e = refl
good-parts true false c d e = refl
good-parts false b c d e = refl

pub all-stored : (u : Above) (a b c d : Bool) → a ≡ stored_by chain_id u.chain → b ≡ absent_or insertion_code u.code → c ≡ stored_by conformer_name u.name
    → d ≡ absent_or alternative_location u.location → a && b && c && d ≡ good_above u
all-stored u a b c d p q r t = λ i. p i && q i && r i && t i

-- ---- an atom without its f64 values

decimal-text : (d k : ℕ) (t : List ℕ) → k ≤ 8 → 10 ^ d < 2 ^ 64 → fixed d (decimal_bits d (take k t)) ≡ decimal_text d (decimal_in (take k t))
unfolding decimal_bits
decimal-text d k t h m = fixed-nearest d (has_minus (take k t)) (figures (take k t)) (lt_of_lt_of_le (small.figures-small k t h) (lit≤ tt)) m

finite-decimal : (d k : ℕ) (t : List ℕ) → k ≤ 8 → 10 ^ d < 2 ^ 64 → finite (decimal_bits d (take k t)) ≡ true
unfolding decimal_bits
finite-decimal d k t h m =
    let s = has_minus (take k t) in
    let n = figures (take k t) in
    finite-value (of_bits binary64 (nearest_bits d s n)) s (grid binary64 n (10 ^ d)) (2 ^ 1074) (value-back d s n (lt_of_lt_of_le (small.figures-small k t h) (lit≤ tt)) m)

first-within : (p : List ℕ → Bool) (xs : List (List ℕ)) → or_zero (option_map suc (first_where p xs)) ≤ length xs
first-within p [] = omega arith
first-within p (x ∷ xs) = go (p x) (first_where p xs) (first-within p xs)
  where
    go : (t : Bool) (o : Option ℕ) → or_zero (option_map suc o) ≤ length xs → or_zero (option_map suc (cond t (Some 0) (option_map suc o))) ≤ suc (length xs)
    go true o h = omega arith
    go false None h = omega arith
    go false (Some k) h = omega arith

element-within : (t : List ℕ) → element_of t ≤ 118
unfolding element_of
element-within t = go (first_where stands ([] ∷ symbols)) (first-within stands ([] ∷ symbols))
  where
    stands : List ℕ → Bool
    stands symbol = same t (column_text (at_right 2 symbol))

    go : (o : Option ℕ) → or_zero (option_map suc o) ≤ 119 → or_zero o ≤ 118
    go None h = omega arith
    go (Some k) h = omega arith

-- of any atom, the words without f64 values have the same columns but for these
bare-size : (b : Atom) → length (words 0 b) ≡ 12
unfolding words
bare-size b = refl

bare-values : (b : Atom) → leb b.element 118 ≡ true → leb b.hetero 1 ≡ true → good_values (without_floats b) ≡ true
unfolding good_values without_floats of_bits
bare-values b e h = λ i. all finite (0 ∷ 0 ∷ 0 ∷ 0 ∷ 0 ∷ []) && e i && h i

bare-name : (b : Atom) → name_columns (without_floats b) ≡ name_columns b
unfolding name_columns without_floats
bare-name b = refl

bare-element : (b : Atom) → element_columns (without_floats b) ≡ element_columns b
unfolding element_columns without_floats
bare-element b = refl

bare-named : (b : Atom) (w : Words) → w ≡ words 0 (without_floats b) → b.name ≡ get_or w 2 0
unfolding words without_floats
bare-named b w e = ap (λ (v : Words). get_or v 2 0) (sym e)

good-line : (l : AtomLine) → good_values l.atom ≡ true → good_line l ≡ good_above (above_in l) && stored_by atom_name l.atom.name
unfolding good_line good_fields
good-line l v =
    good-parts (stored_by chain_id l.chain.id) (absent_or insertion_code l.residue.code) (stored_by conformer_name l.conformer.name) (absent_or alternative_location l.conformer.location) (stored_by atom_name l.atom.name && good_values l.atom)
    ∙ ap (λ (t : Bool). good_above (above_in l) && (stored_by atom_name l.atom.name && t)) v
    ∙ ap (λ (t : Bool). good_above (above_in l) && t) (and-all (stored_by atom_name l.atom.name))

module _ (l : List ℕ) where
  abbrev a : Atom
  a = (atom_in l).atom

  abbrev bare : Words
  bare = words 0 (without_floats a)

  values-back : value_columns a ≡ decimal_columns (decimals_in l)
  unfolding atom_in value_columns decimal_columns decimals_in
  values-back =
      let x = decimal-text 3 8 (drop 30 l) (lit≤ tt) (lit< tt) in
      let y = decimal-text 3 8 (drop 38 l) (lit≤ tt) (lit< tt) in
      let z = decimal-text 3 8 (drop 46 l) (lit≤ tt) (lit< tt) in
      let o = decimal-text 2 6 (drop 54 l) (lit≤ tt) (lit< tt) in
      let f = decimal-text 2 6 (drop 60 l) (lit≤ tt) (lit< tt) in
      λ i. at_right 8 (x i) ∷ at_right 8 (y i) ∷ at_right 8 (z i) ∷ at_right 6 (o i) ∷ at_right 6 (f i) ∷ at_left 10 [] ∷ []

  finite-values : all finite (a.x ∷ a.y ∷ a.z ∷ a.occupancy ∷ a.b_factor ∷ []) ≡ true
  unfolding atom_in
  finite-values =
      let x = finite-decimal 3 8 (drop 30 l) (lit≤ tt) (lit< tt) in
      let y = finite-decimal 3 8 (drop 38 l) (lit≤ tt) (lit< tt) in
      let z = finite-decimal 3 8 (drop 46 l) (lit≤ tt) (lit< tt) in
      let o = finite-decimal 2 6 (drop 54 l) (lit≤ tt) (lit< tt) in
      let f = finite-decimal 2 6 (drop 60 l) (lit≤ tt) (lit< tt) in
      λ i. x i && (y i && (z i && (o i && (f i && true))))

  good-element : leb a.element 118 ≡ true
  unfolding atom_in
  good-element = le-leb (element_of (take 2 (drop 76 l))) 118 (element-within (take 2 (drop 76 l)))

  good-hetero : leb a.hetero 1 ≡ true
  unfolding atom_in
  good-hetero = go (eqb (get_or l 0 0) 72)
    where
      go : (t : Bool) → leb (cond t 1 0) 1 ≡ true
      go true = refl
      go false = refl

  -- "the values are good", whatever stands in the line
  good-read : good_values a ≡ true
  unfolding good_values
  good-read = λ i. finite-values i && good-element i && good-hetero i

  bare-back : fields_of 0 bare ≡ without_floats a
  unfolding words fields_of
  bare-back = refl

  pub bare-good : (w : Words) → w ≡ words 0 (without_floats (atom_in l).atom) → GoodAtom w
  bare-good w e = subst GoodAtom (sym e) (record { size = size; good = ap good_values bare-back ∙ good })
    where
      size : length bare ≡ 12
      size = bare-size (without_floats a)

      good : good_values (without_floats a) ≡ true
      good = bare-values a good-element good-hetero

  line-of : columns_at (above_in (atom_in l)) bare (decimals_in l) ≡ atom_columns (atom_in l)
  unfolding atom_columns
  line-of =
      (λ i. name_columns (bare-back i) ++ (place_of (above_in (atom_in l)) ++ (sym values-back i ++ element_columns (bare-back i))))
      ∙ (λ i. bare-name a i ++ (place_of (above_in (atom_in l)) ++ (value_columns a ++ bare-element a i)))

  module _ (u : Above) (w : Words) (c d : Bool) (f : u ≡ above_in (atom_in l)) (g : w ≡ words 0 (without_floats (atom_in l).atom)) (h : c ≡ good_above u) (k : d ≡ stored_by atom_name (get_or w 2 0)) where
    is-good : good_line (atom_in l) ≡ c && d
    is-good = good-line (atom_in l) good-read ∙ (λ i. good_above (sym f i) && stored_by atom_name (bare-named a w g i)) ∙ (λ i. sym h i && sym k i)

    pub taken-written : (ds : Decimals) (r : Bool) → ds ≡ decimals_in l → r ≡ all fitting (columns_at u w ds) && same (line_of (columns_at u w ds)) l → c && d ≡ true → r ≡ taken_atom l
    unfolding taken_atom
    taken-written ds r e x y =
        let z : columns_at u w ds ≡ atom_columns (atom_in l) = (λ i. columns_at (f i) (g i) (e i)) ∙ line-of in
        x
        ∙ ap (λ (cs : List Column). all fitting cs && same (line_of cs) l) z
        ∙ ap (λ (t : Bool). t && (all fitting (atom_columns (atom_in l)) && same (line_of (atom_columns (atom_in l))) l)) (sym (is-good ∙ y))

    pub taken-bad : c && d ≡ false → false ≡ taken_atom l
    unfolding taken_atom
    taken-bad y = ap (λ (t : Bool). t && (all fitting (atom_columns (atom_in l)) && same (line_of (atom_columns (atom_in l))) l)) (sym (is-good ∙ y))

-- MODEL and ENDMDL

module _ (l : List ℕ) (n : ℕ) (e : n ≡ (model_in l).serial) where
  abbrev columns_of : ℕ → List Column
  columns_of k = model_columns (record { serial = k })

  serial-is : columns_of n ≡ model_columns (model_in l)
  serial-is = ap columns_of e

  pub model-written : (fits : Bool) (again : List ℕ) (r : Bool) → fits ≡ all fitting (columns_of n) → fits ≡ true → again ≡ line_of (columns_of n) → r ≡ same again l → r ≡ taken_model l
  unfolding taken_model
  model-written fits again r h k a x = written_same (columns_of n) fits h again l r a x k ∙ ap (λ (c : List Column). all fitting c && same (line_of c) l) serial-is

  pub model-not : (fits : Bool) → fits ≡ all fitting (columns_of n) → fits ≡ false → false ≡ taken_model l
  unfolding taken_model
  model-not fits h k = written-not (columns_of n) fits h l k ∙ ap (λ (c : List Column). all fitting c && same (line_of c) l) serial-is

pub end-written : (l again : List ℕ) (r : Bool) → again ≡ line_of end_columns → r ≡ same again l → r ≡ taken_end l
unfolding taken_end
end-written l again r a h = h ∙ ap (λ (t : List ℕ). same t l) a
