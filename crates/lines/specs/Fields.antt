-- Change request §9: an atom's line that is written is read back, every field but the floats as it was, and those as the nearest f64 values of what
-- was written; so it is written alike again. Assumes nothing.
use Prim.Native.Nat.{ℕ, zero, suc, ◌-◌, ◌*◌, ◌%◌, ◌^◌, ◌≤◌, ◌<◌}
use Rattle.std.specs.Prelude.{◌≡◌, Bool, true, false, not, ◌&&◌, ◌||◌, List, [], ◌∷◌, ◌++◌, map, reverse, ℤ, pos, negsuc, length, get_or, take, drop, leb, ltb, eqb, Float}
use Rattle.std.proofs.Math.Path.{refl, ap}
use Rattle.std.proofs.Common.{sym, ◌∙◌, subst, append_assoc, append-nil, lt_of_lt_of_le, mul-le-mul_right, arith, take-append-drop, take_at, drop_at, drop-cons, lit≤, lit<, leb-true, eqb-true, ltb-true, ltb-false}
use Rattle.std.proofs.Math.Bool.{cond}
use Rattle.std.proofs.lemmas.Bool.{false≢true}
use Rattle.std.proofs.lemmas.List.{reverse-append}
use Rattle.std.specs.Float.{nan, inf, fin, binary64}
use Rattle.std.specs.Float.Ieee.{of_bits}
use Rattle.std.specs.Float.Ieee.Exact.{HasValue}
use Rattle.std.specs.Float.Ieee.Scale.{grid}
use mir.Syntax.{w64}
use mir.Val.{to_z, of_z, Fits, sel}
use Rattle.std.proofs.Math.Facts.{of_z-to_z}
use Rattle.machine.specs.Lists.{is_empty, all, sum, concat_map}
use Rattle.machine.specs.Text.{pack, text_of, unpacked, without_zeros, trim, trim_start, blank, plain, to_upper, fit, chain_id, uppercase_or, insertion_code, conformer_name, alternative_location, atom_name, stored_by, stores, absent_or}
use Rattle.machine.specs.Program.{decimal, newline}
use Rattle.machine.specs.Record.{Atom, is_finite, finite, good_values, good_fields}
use Rattle.machine.specs.Rounding.{rounded}
use Rattle.machine.specs.Lines.{Column, at_left, at_right, column_text, fitting, blanks, line_of, signed, fixed, negative, charge_text, symbol, indent, AtomLine, name_columns, place_columns, value_columns, element_columns, atom_columns}
use Rattle.machine.specs.LinesIn.{columns, figures_from, figures, has_minus, signed_bits, decimal_bits, word, element_of, atom_in, good_line}
use Rattle.machine.specs.declared.Prepared.{Prepared}
use Rattle.machine.specs.declared.Prepared.TheVariants.{Stored, Absent, Bad}
use Rattle.laws.specs.Lists.{and_both, all_split, concat_map-append}
use Rattle.laws.specs.Packing.{pack-text_of}
use Rattle.laws.specs.Text.{trim-twice, trim-to_upper, stored-where, fit-text, bad-stores-none, absent-stores-none, all-to_upper, all-trim}
use Rattle.laws.specs.Digits.{fixed-width}
use Rattle.laws.specs.Columns.{width, column-length, columns-length}
use Rattle.lines.specs.Nearest.{value-back}
use Rattle.lines.specs.Figures.{figures-append, figures-digits, minus-append, unsigned-digits, right-figures, right-minus, left-figures, left-minus, settle, read-fixed, fixed_back}

-- ---- columns

-- the part of a line that a column takes up
column-at : (xs : List Column) (c : Column) (ys : List Column) (rest : List ℕ) → all fitting (xs ++ (c ∷ ys)) ≡ true
    → take (width c) (drop (sum width xs) (concat_map column_text (xs ++ (c ∷ ys)) ++ rest)) ≡ column_text c
column-at xs c ys rest h =
    let s = and_both (all fitting xs) (all fitting (c ∷ ys)) (sym (all_split fitting xs (c ∷ ys)) ∙ h) in
    let f = and_both (fitting c) (all fitting ys) s.1 in
    let e : concat_map column_text (xs ++ (c ∷ ys)) ++ rest ≡ concat_map column_text xs ++ (column_text c ++ (concat_map column_text ys ++ rest)) =
    ap (λ (z : List ℕ). z ++ rest) (concat_map-append column_text xs (c ∷ ys))
    ∙ append_assoc (concat_map column_text xs) (column_text c ++ concat_map column_text ys) rest
    ∙ ap (λ (z : List ℕ). concat_map column_text xs ++ z) (append_assoc (column_text c) (concat_map column_text ys) rest) in
    ap (λ (z : List ℕ). take (width c) (drop (sum width xs) z)) e
    ∙ ap (take (width c)) (drop_at (concat_map column_text xs) (column_text c ++ (concat_map column_text ys ++ rest)) (sum width xs) (columns-length xs s.0))
    ∙ take_at (column_text c) (concat_map column_text ys ++ rest) (width c) (column-length c f.0)

split_at : (n : ℕ) (cs : List Column) (d : Column) → n < length cs → take n cs ++ (get_or cs n d ∷ drop (suc n) cs) ≡ cs
split_at n cs d h = ap (λ (z : List Column). take n cs ++ z) (sym (drop-cons cs n d h)) ∙ take-append-drop n cs

abbrev pub no_column : Column
no_column = at_left 0 []

-- what stands where the n-th column does
pub column-nth : (cs : List Column) (n : ℕ) → all fitting cs ≡ true → n < length cs
    → take (width (get_or cs n no_column)) (drop (sum width (take n cs)) (line_of cs)) ≡ column_text (get_or cs n no_column)
column-nth cs n h l =
    subst (λ (z : List Column). take (width (get_or cs n no_column)) (drop (sum width (take n cs)) (line_of z)) ≡ column_text (get_or cs n no_column)) (split_at n cs no_column l)
    (column-at (take n cs) (get_or cs n no_column) (drop (suc n) cs) newline (ap (all fitting) (split_at n cs no_column l) ∙ h))

fitting-nth : (cs : List Column) (n : ℕ) → all fitting cs ≡ true → n < length cs → fitting (get_or cs n no_column) ≡ true
fitting-nth [] n h l = absurd (omega arith)
fitting-nth (c ∷ cs) zero h l = (and_both (fitting c) (all fitting cs) h).0
fitting-nth (c ∷ cs) (suc n) h l = fitting-nth cs n (and_both (fitting c) (all fitting cs) h).1 (omega arith)

-- ---- identifiers

trim-front : (k : ℕ) (t : List ℕ) → trim (blanks k ++ t) ≡ trim t
unfolding trim trim_start
trim-front zero t = refl
trim-front (suc k) t = trim-front k t

abbrev ends : List ℕ → List ℕ
ends t = reverse (trim_start (reverse t))

ends_snoc : (t : List ℕ) → ends (t ++ (32 ∷ [])) ≡ ends t
unfolding trim_start
ends_snoc t = ap (λ (z : List ℕ). reverse (trim_start z)) (reverse-append t (32 ∷ []))

trim-snoc : (t : List ℕ) → trim (t ++ (32 ∷ [])) ≡ trim t
unfolding trim trim_start
trim-snoc [] = refl
trim-snoc (b ∷ bs) = go (blank b) (trim-snoc bs)
  where
    go : (x : Bool) → ends (trim_start (bs ++ (32 ∷ []))) ≡ ends (trim_start bs)
        → ends (cond x (trim_start (bs ++ (32 ∷ []))) (b ∷ (bs ++ (32 ∷ [])))) ≡ ends (cond x (trim_start bs) (b ∷ bs))
    go true i = i
    go false i = ends_snoc (b ∷ bs)

trim-back : (k : ℕ) (t : List ℕ) → trim (t ++ blanks k) ≡ trim t
trim-back zero t = ap trim (append-nil t)
trim-back (suc k) t = sym (ap trim (append_assoc t (32 ∷ []) (blanks k))) ∙ trim-back k (t ++ (32 ∷ [])) ∙ trim-snoc t

-- what is stored is trimmed
pub stores-is : (w : ℕ) (p : Prepared) → stores w p ≡ true → p ≡ Stored w
stores-is w (Stored v) h = ap Stored (eqb-true v w h)
stores-is w Absent h = absurd (false≢true h)
stores-is w Bad h = absurd (false≢true h)

abbrev Trimmed : ℕ → Type 0
Trimmed w = trim (text_of w) ≡ text_of w

chain-trimmed : (w : ℕ) → stored_by chain_id w ≡ true → Trimmed w
unfolding stored_by chain_id
chain-trimmed w h =
    let t = text_of w in
    let p = stored-where (all plain (trim t) && not (is_empty (trim t))) (fit (trim t)) Bad w bad-stores-none (stores-is w (chain_id t) h) in
    sym (fit-text (trim t) w (and_both (all plain (trim t)) (not (is_empty (trim t))) p.0).0 p.1)

upper-trimmed : (t : List ℕ) → t ≡ map to_upper (trim t) → trim t ≡ t
upper-trimmed t e = ap trim e ∙ trim-to_upper (trim t) ∙ ap (map to_upper) (trim-twice t) ∙ sym e

uppercase-trimmed : (w : ℕ) (other : Prepared) → ((v : ℕ) → other ≡ Stored v → ⊥) → stored_by (λ t. uppercase_or t other) w ≡ true → Trimmed w
unfolding stored_by uppercase_or
uppercase-trimmed w other n h =
    let t = text_of w in
    let p = stored-where (all plain t && not (is_empty (trim t))) (fit (map to_upper (trim t))) other w n (stores-is w (uppercase_or t other) h) in
    let q = (and_both (all plain t) (not (is_empty (trim t))) p.0).0 in
    upper-trimmed t (fit-text (map to_upper (trim t)) w (all-to_upper (trim t) ∙ all-trim t q) p.1)

name-trimmed : (w : ℕ) → stored_by atom_name w ≡ true → Trimmed w
unfolding stored_by atom_name
name-trimmed w h =
    let t = text_of w in
    let p = stored-where (all plain (trim t)) (fit (map to_upper (trim t))) Bad w bad-stores-none (stores-is w (atom_name t) h) in
    upper-trimmed t (fit-text (map to_upper (trim t)) w (all-to_upper (trim t) ∙ p.0) p.1)

-- also where absence is stored
absent-trimmed : (rule : List ℕ → Prepared) (w : ℕ) → (stored_by rule w ≡ true → Trimmed w) → absent_or rule w ≡ true → Trimmed w
unfolding text_of unpacked without_zeros trim trim_start
absent-trimmed rule w stored h = go (eqb w 0) refl h
  where
    go : (b : Bool) → eqb w 0 ≡ b → b || stored_by rule w ≡ true → Trimmed w
    go true e k = ap (λ (z : ℕ). trim (text_of z)) (eqb-true w 0 e) ∙ ap text_of (sym (eqb-true w 0 e))
    go false e k = stored k

word-right : (k w : ℕ) → Trimmed w → word (column_text (at_right k (text_of w))) ≡ w
unfolding word
word-right k w h = ap pack (trim-front (k - length (text_of w)) (text_of w) ∙ h) ∙ pack-text_of w

-- with n blanks before it
word-left : (k n w : ℕ) → Trimmed w → word (column_text (at_left k (blanks n ++ text_of w))) ≡ w
unfolding word
word-left k n w h = ap pack (trim-back (k - length (blanks n ++ text_of w)) (blanks n ++ text_of w) ∙ trim-front n (text_of w) ∙ h) ∙ pack-text_of w

-- ---- signed numbers

abbrev Small : ℤ → Type 0
Small (pos n) = n < 10 ^ 20
Small (negsuc n) = suc n < 10 ^ 20

bits_small : (b : ℕ) → Small (to_z w64 b)
bits_small b = go (ltb b (2 ^ 63)) refl
  where
    go : (t : Bool) → ltb b (2 ^ 63) ≡ t → Small (sel t (pos b) (negsuc (2 ^ 64 - suc b)))
    go true e = let l = ltb-true b (2 ^ 63) e in omega arith
    go false e = omega arith

abbrev bits_of : Bool → ℕ → ℕ
bits_of s n = cond s ((2 ^ 64 - n) % 2 ^ 64) n

figures-signed : (z : ℤ) → Small z → bits_of (has_minus (signed z)) (figures (signed z)) ≡ of_z w64 z
unfolding figures_from
figures-signed (pos n) h = rw (unsigned-digits 20 n, figures-digits 20 n h)
figures-signed (negsuc n) h = rw (figures-digits 20 (suc n) h) (omega arith)

signed-right : (k : ℕ) (z : ℤ) → Small z → signed_bits (column_text (at_right k (signed z))) ≡ of_z w64 z
unfolding signed_bits
signed-right k z h = (λ i. bits_of (right-minus k (signed z) i) (right-figures k (signed z) i)) ∙ figures-signed z h

figures-charge : (z : ℤ) → Small z → bits_of (has_minus (charge_text z)) (figures (charge_text z)) ≡ of_z w64 z
unfolding figures_from charge_text
figures-charge (pos zero) h = refl
figures-charge (pos (suc n)) h = rw (minus-append (decimal (suc n)) (43 ∷ []), unsigned-digits 20 (suc n), figures-append 0 (decimal (suc n)) (43 ∷ []), figures-digits 20 (suc n) h)
figures-charge (negsuc n) h = rw (minus-append (decimal (suc n)) (45 ∷ []), unsigned-digits 20 (suc n), figures-append 0 (decimal (suc n)) (45 ∷ []), figures-digits 20 (suc n) h) (omega arith)

charge-left : (k : ℕ) (z : ℤ) → Small z → signed_bits (column_text (at_left k (charge_text z))) ≡ of_z w64 z
unfolding signed_bits
charge-left k z h = (λ i. bits_of (left-minus k (charge_text z) i) (left-figures k (charge_text z) i)) ∙ figures-charge z h

-- ---- elements: by the table

abbrev all_to : ℕ → (ℕ → Bool) → Bool
all_to zero p = true
all_to (suc n) p = p n && all_to n p

at_all : (n : ℕ) (p : ℕ → Bool) → all_to n p ≡ true → (i : ℕ) → i < n → p i ≡ true
at_all zero p h i l = absurd (omega arith)
at_all (suc n) p h i l = go (ltb i n) refl (λ m. at_all n p (and_both (p n) (all_to n p) h).1 i m)
  where
    go : (t : Bool) → ltb i n ≡ t → (i < n → p i ≡ true) → p i ≡ true
    go true e r = r (ltb-true i n e)
    go false e r = let m = ltb-false i n e in let q : i ≡ n = omega arith in ap p q ∙ (and_both (p n) (all_to n p) h).0

abbrev found : ℕ → Bool
found e = eqb (element_of (column_text (at_right 2 (symbol e)))) e

table : all_to 119 found ≡ true
unfolding element_of
table = refl

element-right : (e : ℕ) → e ≤ 118 → element_of (column_text (at_right 2 (symbol e))) ≡ e
element-right e h = eqb-true (element_of (column_text (at_right 2 (symbol e)))) e (at_all 119 found table e (omega arith))

-- ---- the whole line

-- a line as it comes back
unfoldable pub settled : Atom → Atom
settled a =
    record {
      serial = a.serial;
      name = a.name;
      x = settle 3 a.x;
      y = settle 3 a.y;
      z = settle 3 a.z;
      occupancy = settle 2 a.occupancy;
      b_factor = settle 2 a.b_factor;
      element = a.element;
      charge = a.charge;
      hetero = a.hetero;
    }

unfoldable pub settled_line : AtomLine → AtomLine
settled_line l = record { chain = l.chain; residue = l.residue; conformer = l.conformer; atom = settled l.atom }

-- words are u64
pub record Words64 (l : AtomLine) : Type 0 where
  pub serial : Fits w64 l.atom.serial
  pub residue : Fits w64 l.residue.serial
  pub charge : Fits w64 l.atom.charge

-- a good line that fits
pub record Ready (l : AtomLine) : Type 0 where
  pub good : good_line l ≡ true
  pub fits : all fitting (atom_columns l) ≡ true
  pub words : Words64 l

-- its goodness, field by field
record Good (l : AtomLine) : Type 0 where
  chain : good_fields 3 l.chain ≡ true
  residue : good_fields 2 l.residue ≡ true
  conformer : good_fields 1 l.conformer ≡ true
  name : stored_by atom_name l.atom.name ≡ true
  element : leb l.atom.element 118 ≡ true
  hetero : leb l.atom.hetero 1 ≡ true

good-parts : (l : AtomLine) → good_line l ≡ true → Good l
unfolding good_line good_fields good_values
good-parts l g =
    let floats = all finite (l.atom.x ∷ l.atom.y ∷ l.atom.z ∷ l.atom.occupancy ∷ l.atom.b_factor ∷ []) in
    let p = and_both (good_fields 3 l.chain) _ g in
    let q = and_both (good_fields 2 l.residue) _ p.1 in
    let r = and_both (good_fields 1 l.conformer) (good_fields 0 l.atom) q.1 in
    let t = and_both (stored_by atom_name l.atom.name) (good_values l.atom) r.1 in
    let v = and_both (floats && leb l.atom.element 118) (leb l.atom.hetero 1) t.1 in
    let u = and_both floats (leb l.atom.element 118) v.0 in
    record { chain = p.0; residue = q.0; conformer = r.0; name = t.0; element = u.1; hetero = v.1 }

good-whole : (l : AtomLine) → Good l → all finite (l.atom.x ∷ l.atom.y ∷ l.atom.z ∷ l.atom.occupancy ∷ l.atom.b_factor ∷ []) ≡ true → good_line l ≡ true
unfolding good_line good_fields good_values
good-whole l g f = rw (g.chain, g.residue, g.conformer, g.name, f, g.element, g.hetero)

-- a decimal that fits is small
few : (d j b : ℕ) (s : Bool) → 10 ^ suc j ≤ 10 ^ suc (suc j) → cond s (ltb (rounded d b) (10 ^ suc j * 10 ^ d)) (ltb (rounded d b) (10 ^ suc (suc j) * 10 ^ d)) ≡ true
    → rounded d b < 10 ^ suc (suc j) * 10 ^ d
few d j b true l h = lt_of_lt_of_le (ltb-true (rounded d b) (10 ^ suc j * 10 ^ d) h) (mul-le-mul_right (10 ^ d) l)
few d j b false l h = ltb-true (rounded d b) (10 ^ suc (suc j) * 10 ^ d) h

-- what holds of an f64 that fits to d decimals in w columns
record Settles (d w b : ℕ) : Type 0 where
  read : decimal_bits d (column_text (at_right w (fixed d b))) ≡ settle d b
  again : fixed d (settle d b) ≡ fixed d b
  finite : finite (settle d b) ≡ true

pub finite-value : (x : Float) (s : Bool) (a c : ℕ) → HasValue x s a c → is_finite x ≡ true
finite-value nan s a c h = absurd h
finite-value (inf t) s a c h = absurd h
finite-value (fin t m e) s a c h = refl

settles : (d w b : ℕ) → rounded d b < 2 ^ 52 → 10 ^ d < 2 ^ 64 → Settles d w b
settles d w b h k =
    record {
      read = read-fixed d w b (lt_of_lt_of_le h (lit≤ tt));
      again = fixed_back d b h k;
      finite = finite-value (of_bits binary64 (settle d b)) (negative d b) (grid binary64 (rounded d b) (10 ^ d)) (2 ^ 1074) (value-back d (negative d b) (rounded d b) h k);
    }

three : (b : ℕ) → leb (length (fixed 3 b)) 8 ≡ true → Settles 3 8 b
three b h = settles 3 8 b (lt_of_lt_of_le (few 3 2 b (negative 3 b) (lit≤ tt) (sym (fixed-width 3 2 b (lit< tt)) ∙ h)) (lit≤ tt)) (lit< tt)

two : (b : ℕ) → leb (length (fixed 2 b)) 6 ≡ true → Settles 2 6 b
two b h = settles 2 6 b (lt_of_lt_of_le (few 2 1 b (negative 2 b) (lit≤ tt) (sym (fixed-width 2 1 b (lit< tt)) ∙ h)) (lit≤ tt)) (lit< tt)

module _ (l : AtomLine) (s : Ready l) where
  abbrev cs : List Column
  cs = atom_columns l

  abbrev text : List ℕ
  text = line_of (atom_columns l)

  good : Good l
  good = good-parts l s.good

  hetero : cond (eqb (get_or text 0 0) 72) 1 0 ≡ l.atom.hetero
  unfolding atom_columns name_columns place_columns value_columns element_columns
  hetero = go l.atom.hetero (leb-true l.atom.hetero 1 good.hetero) refl
    where
      go : (h : ℕ) → h ≤ 1 → l.atom.hetero ≡ h → cond (eqb (get_or text 0 0) 72) 1 0 ≡ h
      go zero k e = rw e
      go (suc zero) k e = rw e
      go (suc (suc h)) k e = absurd (omega arith)

  serial : figures (columns 7 11 text) ≡ l.atom.serial
  unfolding atom_columns name_columns place_columns value_columns element_columns
  serial = ap figures (column-nth cs 1 s.fits (lit< tt)) ∙ right-figures 5 (decimal l.atom.serial) ∙ figures-digits 20 l.atom.serial (lt_of_lt_of_le s.words.serial.fits (lit≤ tt))

  name : word (columns 13 16 text) ≡ l.atom.name
  unfolding atom_columns name_columns place_columns value_columns element_columns
  name = ap word (column-nth cs 3 s.fits (lit< tt)) ∙ word-left 4 (indent l.atom.name l.atom.element) l.atom.name (name-trimmed l.atom.name good.name)

  location : word (columns 17 17 text) ≡ l.conformer.location
  unfolding atom_columns name_columns place_columns value_columns element_columns good_fields
  location =
      ap word (column-nth cs 4 s.fits (lit< tt))
      ∙ word-left 1 0 l.conformer.location
      (absent-trimmed alternative_location l.conformer.location (uppercase-trimmed l.conformer.location Absent absent-stores-none)
      (and_both (stored_by conformer_name l.conformer.name) (absent_or alternative_location l.conformer.location) good.conformer).1)

  conformer : word (columns 18 20 text) ≡ l.conformer.name
  unfolding atom_columns name_columns place_columns value_columns element_columns good_fields
  conformer =
      ap word (column-nth cs 5 s.fits (lit< tt))
      ∙ word-right 3 l.conformer.name
      (uppercase-trimmed l.conformer.name Bad bad-stores-none (and_both (stored_by conformer_name l.conformer.name) (absent_or alternative_location l.conformer.location) good.conformer).0)

  chain : word (columns 22 22 text) ≡ l.chain.id
  unfolding atom_columns name_columns place_columns value_columns element_columns good_fields
  chain = ap word (column-nth cs 7 s.fits (lit< tt)) ∙ word-left 1 0 l.chain.id (chain-trimmed l.chain.id good.chain)

  residue : signed_bits (columns 23 26 text) ≡ l.residue.serial
  unfolding atom_columns name_columns place_columns value_columns element_columns
  residue = ap signed_bits (column-nth cs 8 s.fits (lit< tt)) ∙ signed-right 4 (to_z w64 l.residue.serial) (bits_small l.residue.serial) ∙ of_z-to_z s.words.residue

  code : word (columns 27 27 text) ≡ l.residue.code
  unfolding atom_columns name_columns place_columns value_columns element_columns good_fields
  code =
      ap word (column-nth cs 9 s.fits (lit< tt))
      ∙ word-left 1 0 l.residue.code (absent-trimmed insertion_code l.residue.code (uppercase-trimmed l.residue.code Bad bad-stores-none) good.residue)

  x : Settles 3 8 l.atom.x
  unfolding atom_columns name_columns place_columns value_columns element_columns
  x = three l.atom.x (fitting-nth cs 11 s.fits (lit< tt))

  y : Settles 3 8 l.atom.y
  unfolding atom_columns name_columns place_columns value_columns element_columns
  y = three l.atom.y (fitting-nth cs 12 s.fits (lit< tt))

  z : Settles 3 8 l.atom.z
  unfolding atom_columns name_columns place_columns value_columns element_columns
  z = three l.atom.z (fitting-nth cs 13 s.fits (lit< tt))

  occupancy : Settles 2 6 l.atom.occupancy
  unfolding atom_columns name_columns place_columns value_columns element_columns
  occupancy = two l.atom.occupancy (fitting-nth cs 14 s.fits (lit< tt))

  b : Settles 2 6 l.atom.b_factor
  unfolding atom_columns name_columns place_columns value_columns element_columns
  b = two l.atom.b_factor (fitting-nth cs 15 s.fits (lit< tt))

  x-back : decimal_bits 3 (columns 31 38 text) ≡ settle 3 l.atom.x
  unfolding atom_columns name_columns place_columns value_columns element_columns
  x-back = ap (decimal_bits 3) (column-nth cs 11 s.fits (lit< tt)) ∙ x.read

  y-back : decimal_bits 3 (columns 39 46 text) ≡ settle 3 l.atom.y
  unfolding atom_columns name_columns place_columns value_columns element_columns
  y-back = ap (decimal_bits 3) (column-nth cs 12 s.fits (lit< tt)) ∙ y.read

  z-back : decimal_bits 3 (columns 47 54 text) ≡ settle 3 l.atom.z
  unfolding atom_columns name_columns place_columns value_columns element_columns
  z-back = ap (decimal_bits 3) (column-nth cs 13 s.fits (lit< tt)) ∙ z.read

  occupancy-back : decimal_bits 2 (columns 55 60 text) ≡ settle 2 l.atom.occupancy
  unfolding atom_columns name_columns place_columns value_columns element_columns
  occupancy-back = ap (decimal_bits 2) (column-nth cs 14 s.fits (lit< tt)) ∙ occupancy.read

  b-back : decimal_bits 2 (columns 61 66 text) ≡ settle 2 l.atom.b_factor
  unfolding atom_columns name_columns place_columns value_columns element_columns
  b-back = ap (decimal_bits 2) (column-nth cs 15 s.fits (lit< tt)) ∙ b.read

  element : element_of (columns 77 78 text) ≡ l.atom.element
  unfolding atom_columns name_columns place_columns value_columns element_columns
  element = ap element_of (column-nth cs 17 s.fits (lit< tt)) ∙ element-right l.atom.element (leb-true l.atom.element 118 good.element)

  charge : signed_bits (columns 79 80 text) ≡ l.atom.charge
  unfolding atom_columns name_columns place_columns value_columns element_columns
  charge = ap signed_bits (column-nth cs 18 s.fits (lit< tt)) ∙ charge-left 2 (to_z w64 l.atom.charge) (bits_small l.atom.charge) ∙ of_z-to_z s.words.charge

  -- the line read back
  pub line-back : atom_in (line_of (atom_columns l)) ≡ settled_line l
  unfolding atom_in settled_line settled
  line-back = λ i. record {
    chain = record { id = chain i };
    residue = record { serial = residue i; code = code i };
    conformer = record { name = conformer i; location = location i };
    atom =
        record {
          serial = serial i;
          name = name i;
          x = x-back i;
          y = y-back i;
          z = z-back i;
          occupancy = occupancy-back i;
          b_factor = b-back i;
          element = element i;
          charge = charge i;
          hetero = hetero i;
        };
  }

  -- and written again
  pub columns-again : atom_columns (settled_line l) ≡ atom_columns l
  unfolding atom_columns name_columns place_columns value_columns element_columns settled_line settled
  columns-again = rw (x.again, y.again, z.again, occupancy.again, b.again)

  pub still-good : good_line (settled_line l) ≡ true
  unfolding settled_line settled
  still-good =
      let g = good in
      good-whole (settled_line l) (record { chain = g.chain; residue = g.residue; conformer = g.conformer; name = g.name; element = g.element; hetero = g.hetero })
      (rw (x.finite, y.finite, z.finite, occupancy.finite, b.finite))
