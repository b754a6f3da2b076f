-- Change request §9: the machine of a text that is taken has u64 words, and no more of them than the text has bytes. Assumes nothing.
use Rattle.std.specs.Prelude.{ℕ, zero, suc, ◌+◌, ◌-◌, ◌*◌, ◌/◌, ◌%◌, ◌^◌, ◌≤◌, ◌<◌, ◌≡◌, refl, Bool, true, false, not, ◌&&◌, ◌||◌, cond, List, [], ◌∷◌, map, length, get_or, take, drop, replicate, leb, ltb, eqb}
use Rattle.std.proofs.Common.{sym, ap, ◌∙◌, subst, lt_of_lt_of_le, lt_of_le_of_lt, mul-le-mul_right, mul_assoc, mul-one, one-mul, mod-lt, arith, length-take, length-append, lit≤, lit<, leb-true, eqb-true, ltb-false, eq-eqb}
use Rattle.std.proofs.Math.Nat.{pow-succ', pow-le-pow_right}
use Rattle.std.proofs.lemmas.List.{length-map}
use Rattle.std.specs.Float.{binary64}
use Rattle.std.specs.Float.Ieee.{round}
use Rattle.std.specs.Float.Ieee.Fits.{round-fits}
use Rattle.std.specs.Float.Ieee.Bits.{to_bits-lt}
use Rattle.machine.specs.Lists.{is_empty, all, concat_map}
use Rattle.machine.specs.Text.{packed, pack, text_of, before, plain, to_upper, trim, fit, chain_id, uppercase_or, insertion_code, conformer_name, alternative_location, atom_name, stored_by, absent_or}
use Rattle.machine.specs.Record.{words, finite, good_values, good_fields}
use Rattle.machine.specs.Store.{flat, records}
use Rattle.machine.specs.Lines.{AtomLine, atom_columns, end_columns, Entry, entry_lines, lines_of, writable, text_of_entries}
use Rattle.machine.specs.LinesIn.{with_figure, figures_from, figures, has_minus, signed_bits, decimal_bits, atom_in, model_in, lines_in, Part, part_in, entries_in, good_line, good_entry}
use Rattle.machine.specs.declared.Prepared.{Prepared}
use Rattle.machine.specs.declared.Prepared.TheVariants.{Stored, Absent, Bad}
use Rattle.laws.specs.Lists.{All, All-append, and_both, and-true}
use Rattle.laws.specs.Packing.{plain-is, pack-text_of, pack-order, length-text_of}
use Rattle.laws.specs.Text.{stored-where, fit-text, bad-stores-none, absent-stores-none, all-to_upper}
use Rattle.laws.specs.Columns.{lines-length, entries-eighty}
use Rattle.lines.specs.Fields.{stores-is}
use Rattle.lines.specs.Exactly.{spread_atom, spread_entry, spread}

-- words are u64
abbrev Small : List ℕ → Type 0
Small w = All (λ x. x < 2 ^ 64) w

-- ---- numbers

with-small : (n b : ℕ) → suc (with_figure n b) ≤ suc n * 10
with-small n b = go (leb 48 b) (leb b 57) refl
  where
    go : (p q : Bool) → leb b 57 ≡ q → suc (cond (p && q) (n * 10 + (b - 48)) n) ≤ suc n * 10
    go true true e = let l = leb-true b 57 e in omega arith
    go true false e = omega arith
    go false q e = omega arith

from-small : (n : ℕ) (t : List ℕ) → figures_from n t < suc n * 10 ^ length t
unfolding figures_from
from-small n [] = let e : suc n * 10 ^ 0 ≡ suc n = mul-one (suc n) in omega arith
from-small n (b ∷ t) =
    let e : suc n * 10 ^ suc (length t) ≡ suc n * 10 * 10 ^ length t = ap (λ (z : ℕ). suc n * z) (pow-succ' 10 (length t)) ∙ sym (mul_assoc (suc n) 10 (10 ^ length t)) in
    subst (λ (z : ℕ). figures_from n (b ∷ t) < z) (sym e)
    (lt_of_lt_of_le (from-small (with_figure n b) t) (mul-le-mul_right (10 ^ length t) (with-small n b)))

-- the widest number has eight columns
pub figures-small : (k : ℕ) (l : List ℕ) → k ≤ 8 → figures (take k l) < 10 ^ 8
figures-small k l h =
    let n : length (take k l) ≤ 8 = omega (arith, length-take k l) in
    lt_of_lt_of_le (subst (λ (z : ℕ). figures (take k l) < z) (one-mul (10 ^ length (take k l))) (from-small 0 (take k l))) (pow-le-pow_right (lit< tt) n)

number_small : (k : ℕ) (l : List ℕ) → k ≤ 8 → figures (take k l) < 2 ^ 64
number_small k l h = lt_of_lt_of_le (figures-small k l h) (lit≤ tt)

signed-small : (k : ℕ) (l : List ℕ) → k ≤ 8 → signed_bits (take k l) < 2 ^ 64
unfolding signed_bits
signed-small k l h = go (has_minus (take k l))
  where
    go : (s : Bool) → cond s ((2 ^ 64 - figures (take k l)) % 2 ^ 64) (figures (take k l)) < 2 ^ 64
    go true = mod-lt (2 ^ 64 - figures (take k l)) (lit< tt)
    go false = number_small k l h

decimal-small : (d : ℕ) (t : List ℕ) → decimal_bits d t < 2 ^ 64
unfolding decimal_bits
decimal-small d t = to_bits-lt binary64 (round binary64 (has_minus t) (figures t) (10 ^ d)) (round-fits binary64 (has_minus t) (figures t) (10 ^ d))

-- ---- identifiers

-- no plain text of n bytes comes after n of the last plain byte
before_last : (n : ℕ) (t : List ℕ) → length t ≤ n → all plain t ≡ true → before t (replicate n 126) ≡ true
unfolding before
before_last n [] l h = refl
before_last zero (b ∷ t) l h = absurd (omega arith)
before_last (suc n) (b ∷ t) l h =
    let p = and_both (plain b) (all plain t) h in
    go (ltb b 126) refl (plain-is b p.0).high (before_last n t (omega arith) p.1)
  where
    go : (c : Bool) → ltb b 126 ≡ c → b ≤ 126 → before t (replicate n 126) ≡ true → (c || (eqb b 126 && before t (replicate n 126))) ≡ true
    go true e m i = refl
    go false e m i = let k = ltb-false b 126 e in and-true (eq-eqb b 126 (omega arith)) i

plain-small : (w : ℕ) → all plain (text_of w) ≡ true → w < 2 ^ 64
unfolding packed
plain-small w h =
    let e = pack-order (text_of w) (replicate 8 126) (length-text_of w) (lit≤ tt) h refl ∙ before_last 8 (text_of w) (length-text_of w) h in
    lt_of_le_of_lt (subst (λ (z : ℕ). z ≤ pack (replicate 8 126)) (pack-text_of w) (leb-true (pack (text_of w)) (pack (replicate 8 126)) e)) (lit< tt)

chain-small : (w : ℕ) → stored_by chain_id w ≡ true → w < 2 ^ 64
unfolding stored_by chain_id
chain-small w h =
    let t = text_of w in
    let p = stored-where (all plain (trim t) && not (is_empty (trim t))) (fit (trim t)) Bad w bad-stores-none (stores-is w (chain_id t) h) in
    let q = (and_both (all plain (trim t)) (not (is_empty (trim t))) p.0).0 in
    plain-small w (ap (all plain) (fit-text (trim t) w q p.1) ∙ q)

uppercase-small : (w : ℕ) (other : Prepared) → ((v : ℕ) → other ≡ Stored v → ⊥) → stored_by (λ t. uppercase_or t other) w ≡ true → w < 2 ^ 64
unfolding stored_by uppercase_or
uppercase-small w other n h =
    let t = text_of w in
    let p = stored-where (all plain t && not (is_empty (trim t))) (fit (map to_upper (trim t))) other w n (stores-is w (uppercase_or t other) h) in
    plain-small w (and_both (all plain t) (not (is_empty (trim t))) p.0).0

name-small : (w : ℕ) → stored_by atom_name w ≡ true → w < 2 ^ 64
unfolding stored_by atom_name
name-small w h =
    let t = text_of w in
    let p = stored-where (all plain (trim t)) (fit (map to_upper (trim t))) Bad w bad-stores-none (stores-is w (atom_name t) h) in
    let q = all-to_upper (trim t) ∙ p.0 in
    plain-small w (ap (all plain) (fit-text (map to_upper (trim t)) w q p.1) ∙ q)

-- also where absence is stored
absent-small : (rule : List ℕ → Prepared) (w : ℕ) → (stored_by rule w ≡ true → w < 2 ^ 64) → absent_or rule w ≡ true → w < 2 ^ 64
absent-small rule w stored h = go (eqb w 0) refl h
  where
    go : (b : Bool) → eqb w 0 ≡ b → b || stored_by rule w ≡ true → w < 2 ^ 64
    go true e k = let z = eqb-true w 0 e in omega arith
    go false e k = stored k

-- ---- lines

pub zeros-small : (n : ℕ) → All (λ x. x < 2 ^ 64) (replicate n 0)
zeros-small zero = tt
zeros-small (suc n) = (lit< tt, zeros-small n)

-- the records of an atom and of what it stands under
abbrev SmallLine : AtomLine → Type 0
SmallLine l = good_line l ≡ true → All Small (flat 3 (spread_atom l))

line_small : (l : List ℕ) → SmallLine (atom_in l)
unfolding flat words atom_in good_line good_fields good_values
line_small l g =
    let a = atom_in l in
    let floats = all finite (a.atom.x ∷ a.atom.y ∷ a.atom.z ∷ a.atom.occupancy ∷ a.atom.b_factor ∷ []) in
    let p = and_both (good_fields 3 a.chain) _ g in
    let q = and_both (good_fields 2 a.residue) _ p.1 in
    let r = and_both (good_fields 1 a.conformer) (good_fields 0 a.atom) q.1 in
    let f = and_both (stored_by conformer_name a.conformer.name) (absent_or alternative_location a.conformer.location) r.0 in
    let t = and_both (stored_by atom_name a.atom.name) (good_values a.atom) r.1 in
    let v = and_both (floats && leb a.atom.element 118) (leb a.atom.hetero 1) t.1 in
    let e = leb-true a.atom.element 118 (and_both floats (leb a.atom.element 118) v.0).1 in
    let h = leb-true a.atom.hetero 1 v.1 in
    let chain : Small (words 3 a.chain) = (lit< tt, (chain-small a.chain.id p.0, zeros-small 10)) in
    let residue : Small (words 2 a.residue) = (
      lit< tt,
      (
        signed-small 4 (drop 22 l) (lit≤ tt),
        (absent-small insertion_code a.residue.code (uppercase-small a.residue.code Bad bad-stores-none) q.0, zeros-small 9),
      ),
    ) in
    let conformer : Small (words 1 a.conformer) = (
      lit< tt,
      (
        uppercase-small a.conformer.name Bad bad-stores-none f.0,
        (absent-small alternative_location a.conformer.location (uppercase-small a.conformer.location Absent absent-stores-none) f.1, zeros-small 9),
      ),
    ) in
    let atom : Small (words 0 a.atom) = (
      lit< tt,
      (
        number_small 5 (drop 6 l) (lit≤ tt),
        (
          name-small a.atom.name t.0,
          (
            decimal-small 3 (take 8 (drop 30 l)),
            (
              decimal-small 3 (take 8 (drop 38 l)),
              (
                decimal-small 3 (take 8 (drop 46 l)),
                (
                  decimal-small 2 (take 6 (drop 54 l)),
                  (
                    decimal-small 2 (take 6 (drop 60 l)),
                    (lt_of_le_of_lt e (lit< tt), (signed-small 2 (drop 78 l) (lit≤ tt), (lt_of_le_of_lt h (lit< tt), zeros-small 1))),
                  ),
                ),
              ),
            ),
          ),
        ),
      ),
    ) in
    (chain, (residue, (conformer, (atom, tt))))

-- ---- the whole text

abbrev SmallEntry : Entry → Type 0
SmallEntry e = good_entry e ≡ true → All Small (flat 4 (spread_entry e))

atoms-small : (ls : List AtomLine) → All SmallLine ls → all good_line ls ≡ true → All Small (concat_map (flat 3) (map spread_atom ls))
atoms-small [] h g = tt
atoms-small (l ∷ ls) h g =
    let p = and_both (good_line l) (all good_line ls) g in
    All-append Small (flat 3 (spread_atom l)) (concat_map (flat 3) (map spread_atom ls)) (h.0 p.0) (atoms-small ls h.1 p.1)

model-small : (l : List ℕ) (ls : List AtomLine) → All SmallLine ls → SmallEntry (record { model = model_in l; atoms = ls })
unfolding flat words model_in
model-small l ls h g = ((lit< tt, (number_small 4 (drop 10 l) (lit≤ tt), zeros-small 10)), atoms-small ls h g)

abbrev SmallPart : Part → Type 0
SmallPart p = All SmallLine p.0 × All SmallEntry p.1

part_small : (ls : List (List ℕ)) → SmallPart (part_in ls)
unfolding part_in
part_small [] = (tt, tt)
part_small (l ∷ ls) = go (eqb (get_or l 0 0) 77) (eqb (get_or l 0 0) 69) (part_in ls) (part_small ls)
  where
    go : (m e : Bool) (p : Part) → SmallPart p → SmallPart (cond m ([], record { model = model_in l; atoms = p.0 } ∷ p.1) (cond e p (atom_in l ∷ p.0, p.1)))
    go true e p h = (tt, (model-small l p.0 h.0, h.1))
    go false true p h = h
    go false false p h = ((line_small l, h.0), h.1)

entries-small : (es : List Entry) → All SmallEntry es → all good_entry es ≡ true → All Small (records (spread es))
entries-small [] h g = tt
entries-small (e ∷ es) h g =
    let p = and_both (good_entry e) (all good_entry es) g in
    All-append Small (flat 4 (spread_entry e)) (records (spread es)) (h.0 p.0) (entries-small es h.1 p.1)

pub spread-small : (t : List ℕ) → all good_entry (entries_in t) ≡ true → All (λ r. All (λ x. x < 2 ^ 64) r) (records (spread (entries_in t)))
spread-small t g = entries-small (entries_in t) (part_small (lines_in (length t / 81) t)).1 g

-- ---- its size

atoms-few : (ls : List AtomLine) → length (concat_map (flat 3) (map spread_atom ls)) ≡ 4 * length ls
unfolding flat
atoms-few [] = refl
atoms-few (l ∷ ls) = let e = atoms-few ls in omega arith

entry-few : (e : Entry) → 12 * length (flat 4 (spread_entry e)) ≤ length (entry_lines e) * 81
unfolding flat entry_lines
entry-few e =
    let ls = e.atoms in
    omega (arith, atoms-few ls, length-append (map atom_columns ls) (end_columns ∷ []), length-map ls atom_columns)

entries-few : (es : List Entry) → 12 * length (records (spread es)) ≤ length (lines_of es) * 81
entries-few [] = omega arith
entries-few (e ∷ es) =
    omega (arith, entry-few e, entries-few es, length-append (flat 4 (spread_entry e)) (records (spread es)), length-append (entry_lines e) (lines_of es))

pub spread-few : (es : List Entry) → writable es ≡ true → 12 * length (records (spread es)) ≤ length (text_of_entries es)
spread-few es h = omega (arith, entries-few es, lines-length (lines_of es) (entries-eighty es) h)
