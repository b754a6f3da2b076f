-- The tests of width are the definition's. Assumes nothing.
use Prim.Native.Nat.{ℕ, ◌*◌, ◌%◌, ◌^◌, ◌<◌}
use mathlib.Core.Path.{◌≡◌, refl, sym, ap, ◌∙◌}
use mathlib.Core.Bool.{Bool, true, false, ◌&&◌, cond}
use mathlib.Core.List.{List, ◌++◌}
use lib.Dec.{leb, ltb, eqb, lit≤, lit<}
use lib.IntN.{nat_abs}
use lib.ListN.{length, get_or}
use mir.Syntax.{w64}
use mir.Val.{to_z}
use Rattle.machine.specs.Lists.{all, bytes}
use Rattle.machine.specs.Text.{text_of}
use Rattle.machine.specs.Record.{Words, fields_of}
use Rattle.machine.specs.Program.{decimal}
use Rattle.machine.specs.Lines.{fitting, dash, pointed, signed, charge_text, blanks, indent, name_columns, place_columns, element_columns, model_columns}
use Rattle.laws.specs.Digits.{decimal-width, dashed-width, signed_parts, charge-width}
use Rattle.laws.specs.Width.{word_width, name-width, symbol-width}
use Rattle.columns.specs.Put.{place_of, decimal_columns, columns_at}
use Rattle.columns.specs.declared.Above.{Above}
use Rattle.columns.specs.declared.Decimal.{Decimal}
use Rattle.columns.specs.declared.Decimals.{Decimals}
use Rattle.columns.proofs.Numbers as numbers
use Rattle.columns.proofs.Parts.{fits-parts}

and_yes : (b : Bool) → b && true ≡ b
and_yes true = refl
and_yes false = refl

and_assoc : (a b c : Bool) → (a && b) && c ≡ a && (b && c)
and_assoc true b c = refl
and_assoc false b c = refl

pub within-minus : (s : Bool) (n limit : ℕ) → s ≡ true → ltb n limit ≡ cond s (ltb n limit) (ltb n (limit * 10))
within-minus s n limit e = ap (λ (t : Bool). cond t (ltb n limit) (ltb n (limit * 10))) (sym e)

pub within-plus : (s : Bool) (n limit : ℕ) → s ≡ false → ltb n (limit * 10) ≡ cond s (ltb n limit) (ltb n (limit * 10))
within-plus s n limit e = ap (λ (t : Bool). cond t (ltb n limit) (ltb n (limit * 10))) (sym e)

-- ---- values

group-values : (x y z o f : Bool) → x && y && z && o && f ≡ x && (y && (z && (o && (f && true))))
group-values x y z o f = simp (and_assoc, and_yes)

-- a decimal below a limit that a minus makes ten times less
abbrev below : Decimal → ℕ → Bool
below n limit = cond n.minus (ltb n.size limit) (ltb n.size (limit * 10))

pub decimals : (ds : Decimals) (x y z o f : Bool) → x ≡ cond ds.x.minus (ltb ds.x.size 1000000) (ltb ds.x.size (1000000 * 10)) → y ≡ cond ds.y.minus (ltb ds.y.size 1000000) (ltb ds.y.size (1000000 * 10))
    → z ≡ cond ds.z.minus (ltb ds.z.size 1000000) (ltb ds.z.size (1000000 * 10)) → o ≡ cond ds.occupancy.minus (ltb ds.occupancy.size 10000) (ltb ds.occupancy.size (10000 * 10))
    → f ≡ cond ds.b_factor.minus (ltb ds.b_factor.size 10000) (ltb ds.b_factor.size (10000 * 10)) → x && y && z && o && f ≡ all fitting (decimal_columns ds)
unfolding decimal_columns
decimals ds x y z o f a b c d e =
    group-values x y z o f
    ∙ (λ i. (a ∙ three ds.x) i && ((b ∙ three ds.y) i && ((c ∙ three ds.z) i && ((d ∙ two ds.occupancy) i && ((e ∙ two ds.b_factor) i && true)))))
  where
    three : (n : Decimal) → below n 1000000 ≡ leb (length (dash n.minus ++ pointed 3 n.size)) 8
    three n = sym (numbers.decimal-width n.minus 3 2 n.size (lit< tt))

    two : (n : Decimal) → below n 10000 ≡ leb (length (dash n.minus ++ pointed 2 n.size)) 6
    two n = sym (numbers.decimal-width n.minus 2 1 n.size (lit< tt))

-- ---- the other parts

pub place : (u : Above) (n : ℕ) (r : Bool) → u.location < 18446744073709551616 → u.name < 18446744073709551616 → u.chain < 18446744073709551616 → u.code < 18446744073709551616 → n ≡ nat_abs (to_z w64 u.serial)
    → r ≡ cond (leb (2 ^ 63) u.serial) (ltb n 1000) (ltb n (1000 * 10))
    → eqb (u.location % 72057594037927936) 0 && eqb (u.name % 1099511627776) 0 && eqb (u.chain % 72057594037927936) 0 && r && eqb (u.code % 72057594037927936) 0 ≡ all fitting (place_of u)
unfolding place_columns
place u n r h k l m e f =
    let number : r ≡ leb (length (signed (to_z w64 u.serial))) 4 =
    f ∙ ap (λ (z : ℕ). cond (leb (2 ^ 63) u.serial) (ltb z 1000) (ltb z 10000)) e
    ∙ sym (dashed-width (leb (2 ^ 63) u.serial) 2 (nat_abs (to_z w64 u.serial)) (lit< tt))
    ∙ ap (λ (t : List ℕ). leb (length t) 4) (sym (signed_parts u.serial)) in
    let a = sym (word_width 1 u.location (lit≤ tt) h) in
    let b = sym (word_width 3 u.name (lit≤ tt) k) in
    let c = sym (word_width 1 u.chain (lit≤ tt) l) in
    let d = sym (word_width 1 u.code (lit≤ tt) m) in
    group (eqb (u.location % 72057594037927936) 0) (eqb (u.name % 1099511627776) 0) (eqb (u.chain % 72057594037927936) 0) r (eqb (u.code % 72057594037927936) 0)
    ∙ (λ i. a i && (b i && (true && (c i && (number i && (d i && (true && true)))))))
  where
    group : (x y z o f : Bool) → x && y && z && o && f ≡ x && (y && (true && (z && (o && (f && (true && true))))))
    group x y z o f = simp (and_assoc, and_yes)

pub name : (w : Words) → get_or w 2 0 < 18446744073709551616 → ltb (get_or w 1 0) 100000 && eqb (get_or w 2 0 % 4294967296) 0 ≡ all fitting (name_columns (fields_of 0 w))
unfolding name_columns fields_of
name w h =
    let a = sym (decimal-width 4 (get_or w 1 0) (lit< tt)) in
    let b = sym (name-width (get_or w 2 0) (get_or w 8 0) ∙ word_width 4 (get_or w 2 0) (lit≤ tt) h) in
    (λ i. a i && b i) ∙ group (eqb (get_or w 10 0) 1) (leb (length (decimal (get_or w 1 0))) 5) (leb (length (blanks (indent (get_or w 2 0) (get_or w 8 0)) ++ text_of (get_or w 2 0))) 4)
  where
    group : (t a b : Bool) → a && b ≡ leb (length (cond t (bytes "HETATM") (bytes "ATOM"))) 6 && (a && (true && (b && true)))
    group true a b = ap (λ (z : Bool). a && z) (sym (and_yes b))
    group false a b = ap (λ (z : Bool). a && z) (sym (and_yes b))

pub element : (w : Words) (n : ℕ) → n ≡ nat_abs (to_z w64 (get_or w 9 0)) → ltb n 10 ≡ all fitting (element_columns (fields_of 0 w))
unfolding element_columns fields_of
element w n e =
    ap (λ (z : ℕ). ltb z 10) e ∙ sym (charge-width (to_z w64 (get_or w 9 0))) ∙ sym (and_yes (leb (length (charge_text (to_z w64 (get_or w 9 0)))) 2))
    ∙ ap (λ (t : Bool). t && (leb (length (charge_text (to_z w64 (get_or w 9 0)))) 2 && true)) (sym (symbol-width (get_or w 8 0)))

pub line : (u : Above) (w : Words) (ds : Decimals) (a b c d : Bool) → a ≡ all fitting (name_columns (fields_of 0 w)) → b ≡ all fitting (place_of u) → c ≡ all fitting (decimal_columns ds) → d ≡ all fitting (element_columns (fields_of 0 w))
    → a && b && c && d ≡ all fitting (columns_at u w ds)
line u w ds a b c d e f g h = and_assoc (a && b) c d ∙ and_assoc a b (c && d) ∙ (λ i. e i && (f i && (g i && h i))) ∙ sym (fits-parts u w ds)

pub model : (n : ℕ) → ltb n 10000 ≡ all fitting (model_columns (record { serial = n }))
unfolding model_columns
model n = sym (decimal-width 3 n (lit< tt)) ∙ sym (and_yes (leb (length (decimal n)) 4))
