-- The parts of an atom's line, and whole lines. Assumes nothing.
use Prim.Native.Nat.{ℕ, ◌+◌, ◌-◌, ◌^◌, ◌≤◌, ◌<◌}
use mathlib.Core.Path.{◌≡◌, refl, sym, ap, ◌∙◌, subst}
use mathlib.Core.Bool.{Bool, true, false, ◌&&◌, cond}
use mathlib.Core.List.{List, [], ◌∷◌, ◌++◌, append_assoc}
use lib.Dec.{leb, eqb, lit≤, lit<}
use lib.IntN.{nat_abs}
use lib.ListN.{length, get_or}
use mir.Syntax.{w64}
use mir.Val.{to_z}
use borrow.Author.Tests.{ltb-true, leb-true}
use Rattle.machine.specs.Lists.{all, bytes}
use Rattle.machine.specs.Text.{unpacked, without_zeros, text_of}
use Rattle.machine.specs.Record.{Atom, Words, finite, fields_of, good_values}
use Rattle.machine.specs.Program.{decimal, newline}
use Rattle.machine.specs.Lines.{Column, at_left, at_right, column_text, blanks, fitting, line_of, dash, charge_text, symbol, indent, signed, name_columns, place_columns, value_columns, element_columns, atom_columns, model_columns, end_columns}
use Rattle.laws.specs.Lists.{and_both, All-of}
use Rattle.laws.specs.Digits.{decimal-width, dashed-width, signed_parts}
use Rattle.columns.specs.Put.{Put, Adds, line_at, place_of, GoodAtom, decimal_text, decimal_of, decimals_of, decimal_columns, columns_at}
use Rattle.columns.specs.declared.Above.{Above}
use Rattle.columns.specs.declared.Decimal.{Decimal}
use Rattle.columns.specs.declared.Decimals.{Decimals}
use Rattle.columns.proofs.Numbers.{Room, room, made-width, made-text}
use Rattle.columns.proofs.Lines.{all_append, put-column, put-left, put-indented, put_right, skip, start, blank-line, line-whole}

-- ---- columns 1 to 16

pub name-serial : (w : Words) → all fitting (name_columns (fields_of 0 w)) ≡ true → get_or w 1 0 < 100000
unfolding name_columns fields_of
name-serial w h = ltb-true (get_or w 1 0) 100000 (sym (decimal-width 4 (get_or w 1 0) (lit< tt)) ∙ (All-of fitting (name_columns (fields_of 0 w)) h).1.0)

pub name-adds : (w : Words) (word r : ℕ) (s s₁ s₂ s₃ : List ℕ) → all fitting (name_columns (fields_of 0 w)) ≡ true → length s ≡ 81 → text_of word ≡ cond (eqb (get_or w 10 0) 1) (bytes "HETATM") (bytes "ATOM")
    → Put 0 (text_of word) s s₁ → Put 6 (column_text (at_right 5 (dash false ++ decimal (get_or w 1 0)))) s₁ s₂ → r ≡ indent (get_or w 2 0) (get_or w 8 0) → Put (12 + r) (text_of (get_or w 2 0)) s₂ s₃
    → Adds 0 16 (name_columns (fields_of 0 w)) s s₃
unfolding name_columns fields_of
name-adds w word r s s₁ s₂ s₃ h l e p q f t =
    let fits = All-of fitting (name_columns (fields_of 0 w)) h in
    record {
      size = t.size;
      after = λ ds o.
          let a = put-left 0 ds [] 6 _ s s₁ fits.0 (lit≤ tt) (start 0 ds s o) (subst (λ (z : List ℕ). Put 0 z s s₁) e p) in
          let b = put-column 6 ds _ _ s₁ s₂ fits.1.0 (lit≤ tt) a q in
          let c = skip 11 ds _ 1 s₂ q.size (lit≤ tt) b in
          put-indented 12 ds _ 4 (indent (get_or w 2 0) (get_or w 8 0)) _ s₂ s₃ fits.1.1.1.0 (lit≤ tt) c (subst (λ (k : ℕ). Put (12 + k) (text_of (get_or w 2 0)) s₂ s₃) f t);
    }

-- ---- columns 17 to 30

pub record Numbered (n : ℕ) (s : Bool) : Type 0 where
  pub front : 1 + length (dash s) ≤ 4
  pub digits : n < 10 ^ (4 - length (dash s))

numbered : (n : ℕ) (s : Bool) → leb (length (dash s ++ decimal n)) 4 ≡ true → Numbered n s
numbered n true h = record { front = lit≤ tt; digits = ltb-true n 1000 (sym (dashed-width true 2 n (lit< tt)) ∙ h) }
numbered n false h = record { front = lit≤ tt; digits = ltb-true n 10000 (sym (dashed-width false 2 n (lit< tt)) ∙ h) }

module _ (u : Above) (h : all fitting (place_of u) ≡ true) where
  pub place-number : (n : ℕ) → n ≡ nat_abs (to_z w64 u.serial) → Numbered n (leb (2 ^ 63) u.serial)
  unfolding place_columns
  place-number n e =
      let fits = All-of fitting (place_of u) h in
      numbered n (leb (2 ^ 63) u.serial)
      (ap (λ (k : ℕ). leb (length (dash (leb (2 ^ 63) u.serial) ++ decimal k)) 4) e ∙ ap (λ (t : List ℕ). leb (length t) 4) (sym (signed_parts u.serial)) ∙ fits.1.1.1.1.0)

  pub place-adds : (r n : ℕ) (s s₁ s₂ s₃ s₄ s₅ : List ℕ) → Put 16 (text_of u.location) s s₁ → r ≡ 3 - length (text_of u.name) → Put (17 + r) (text_of u.name) s₁ s₂ → Put 21 (text_of u.chain) s₂ s₃
      → n ≡ nat_abs (to_z w64 u.serial) → Put 22 (column_text (at_right 4 (dash (leb (2 ^ 63) u.serial) ++ decimal n))) s₃ s₄ → Put 26 (text_of u.code) s₄ s₅ → Adds 16 30 (place_of u) s s₅
  unfolding place_columns
  place-adds r n s s₁ s₂ s₃ s₄ s₅ p e q t f v x =
      let fits = All-of fitting (place_of u) h in
      let number : dash (leb (2 ^ 63) u.serial) ++ decimal n ≡ signed (to_z w64 u.serial) = ap (λ (k : ℕ). dash (leb (2 ^ 63) u.serial) ++ decimal k) f ∙ sym (signed_parts u.serial) in
      record {
        size = x.size;
        after = λ ds o.
            let a = put-left 16 ds [] 1 _ s s₁ fits.0 (lit≤ tt) (start 16 ds s o) p in
            let b = put_right 17 ds _ 3 _ s₁ s₂ fits.1.0 (lit≤ tt) a (subst (λ (k : ℕ). Put (17 + k) (text_of u.name) s₁ s₂) e q) in
            let c = skip 20 ds _ 1 s₂ q.size (lit≤ tt) b in
            let d = put-left 21 ds _ 1 _ s₂ s₃ fits.1.1.1.0 (lit≤ tt) c t in
            let g = put-column 22 ds _ (at_right 4 (signed (to_z w64 u.serial))) s₃ s₄ fits.1.1.1.1.0 (lit≤ tt) d (subst (λ (z : List ℕ). Put 22 (column_text (at_right 4 z)) s₃ s₄) number v) in
            let i = put-left 26 ds _ 1 _ s₄ s₅ fits.1.1.1.1.1.0 (lit≤ tt) g x in
            skip 27 ds _ 3 s₅ x.size (lit≤ tt) i;
      }

-- ---- an atom's values

pub record Values (w : Words) : Type 0 where
  pub x : finite (get_or w 3 0) ≡ true
  pub y : finite (get_or w 4 0) ≡ true
  pub z : finite (get_or w 5 0) ≡ true
  pub occupancy : finite (get_or w 6 0) ≡ true
  pub factor : finite (get_or w 7 0) ≡ true
  pub element : get_or w 8 0 ≤ 118

pub good-values : (w : Words) → GoodAtom w → Values w
unfolding good_values fields_of
good-values w g =
    let a = and_both _ (leb (get_or w 10 0) 1) g.good in
    let b = and_both _ (leb (get_or w 8 0) 118) a.0 in
    let f = All-of finite (get_or w 3 0 ∷ get_or w 4 0 ∷ get_or w 5 0 ∷ get_or w 6 0 ∷ get_or w 7 0 ∷ []) b.0 in
    record { x = f.0; y = f.1.0; z = f.1.1.0; occupancy = f.1.1.1.0; factor = f.1.1.1.1.0; element = leb-true (get_or w 8 0) 118 b.1 }

-- ---- columns 31 to 76

pub decimals-made : (w : Words) (x y z o f : Decimal) → x ≡ decimal_of 1000 (get_or w 3 0) → y ≡ decimal_of 1000 (get_or w 4 0) → z ≡ decimal_of 1000 (get_or w 5 0) → o ≡ decimal_of 100 (get_or w 6 0)
    → f ≡ decimal_of 100 (get_or w 7 0) → ◌≡◌ {A = Decimals} (record { x = x; y = y; z = z; occupancy = o; b_factor = f }) (decimals_of (fields_of 0 w))
unfolding decimals_of fields_of
decimals-made w x y z o f p q r t u = λ i. record { x = p i; y = q i; z = r i; occupancy = t i; b_factor = u i }

made-fits : (a : Atom) → all fitting (decimal_columns (decimals_of a)) ≡ all fitting (value_columns a)
unfolding value_columns decimal_columns decimals_of
made-fits a =
    λ i. made-width 3 2 a.x (lit< tt) (lit≤ tt) (lit≤ tt) i
    && (made-width 3 2 a.y (lit< tt) (lit≤ tt) (lit≤ tt) i
    && (made-width 3 2 a.z (lit< tt) (lit≤ tt) (lit≤ tt) i
    && (made-width 2 1 a.occupancy (lit< tt) (lit≤ tt) (lit≤ tt) i
    && (made-width 2 1 a.b_factor (lit< tt) (lit≤ tt) (lit≤ tt) i && true))))

made-same : (a : Atom) → all fitting (value_columns a) ≡ true → decimal_columns (decimals_of a) ≡ value_columns a
unfolding value_columns decimal_columns decimals_of
made-same a h =
    let f = All-of fitting (value_columns a) h in
    let x = made-text 3 2 a.x (lit< tt) (lit≤ tt) (lit≤ tt) f.0 in
    let y = made-text 3 2 a.y (lit< tt) (lit≤ tt) (lit≤ tt) f.1.0 in
    let z = made-text 3 2 a.z (lit< tt) (lit≤ tt) (lit≤ tt) f.1.1.0 in
    let o = made-text 2 1 a.occupancy (lit< tt) (lit≤ tt) (lit≤ tt) f.1.1.1.0 in
    let b = made-text 2 1 a.b_factor (lit< tt) (lit≤ tt) (lit≤ tt) f.1.1.1.1.0 in
    λ i. at_right 8 (x i) ∷ at_right 8 (y i) ∷ at_right 8 (z i) ∷ at_right 6 (o i) ∷ at_right 6 (b i) ∷ at_left 10 [] ∷ []

pub record DecimalsFit (ds : Decimals) : Type 0 where
  pub x : Room 4 3 ds.x.size ds.x.minus
  pub y : Room 4 3 ds.y.size ds.y.minus
  pub z : Room 4 3 ds.z.size ds.z.minus
  pub occupancy : Room 3 2 ds.occupancy.size ds.occupancy.minus
  pub factor : Room 3 2 ds.b_factor.size ds.b_factor.minus

module _ (ds : Decimals) (h : all fitting (decimal_columns ds) ≡ true) where
  pub decimals-fit : DecimalsFit ds
  unfolding decimal_columns
  decimals-fit =
      let f = All-of fitting (decimal_columns ds) h in
      record {
        x = room ds.x.minus 3 2 ds.x.size (lit< tt) f.0;
        y = room ds.y.minus 3 2 ds.y.size (lit< tt) f.1.0;
        z = room ds.z.minus 3 2 ds.z.size (lit< tt) f.1.1.0;
        occupancy = room ds.occupancy.minus 2 1 ds.occupancy.size (lit< tt) f.1.1.1.0;
        factor = room ds.b_factor.minus 2 1 ds.b_factor.size (lit< tt) f.1.1.1.1.0;
      }

  pub decimal-adds : (s s₁ s₂ s₃ s₄ s₅ : List ℕ) → Put 30 (column_text (at_right 8 (decimal_text 3 ds.x))) s s₁ → Put 38 (column_text (at_right 8 (decimal_text 3 ds.y))) s₁ s₂
      → Put 46 (column_text (at_right 8 (decimal_text 3 ds.z))) s₂ s₃ → Put 54 (column_text (at_right 6 (decimal_text 2 ds.occupancy))) s₃ s₄
      → Put 60 (column_text (at_right 6 (decimal_text 2 ds.b_factor))) s₄ s₅ → Adds 30 76 (decimal_columns ds) s s₅
  unfolding decimal_columns
  decimal-adds s s₁ s₂ s₃ s₄ s₅ p q t u v =
      let f = All-of fitting (decimal_columns ds) h in
      record {
        size = v.size;
        after = λ es o.
            let a = put-column 30 es [] _ s s₁ f.0 (lit≤ tt) (start 30 es s o) p in
            let b = put-column 38 es _ _ s₁ s₂ f.1.0 (lit≤ tt) a q in
            let c = put-column 46 es _ _ s₂ s₃ f.1.1.0 (lit≤ tt) b t in
            let d = put-column 54 es _ _ s₃ s₄ f.1.1.1.0 (lit≤ tt) c u in
            let e = put-column 60 es _ _ s₄ s₅ f.1.1.1.1.0 (lit≤ tt) d v in
            skip 66 es _ 10 s₅ v.size (lit≤ tt) e;
      }

-- ---- columns 77 to 80

pub charge-fits : (w : Words) → all fitting (element_columns (fields_of 0 w)) ≡ true → leb (length (charge_text (to_z w64 (get_or w 9 0)))) 2 ≡ true
unfolding element_columns fields_of
charge-fits w h = (All-of fitting (element_columns (fields_of 0 w)) h).1.0

pub element-adds : (w : Words) (s s₁ s₂ : List ℕ) → all fitting (element_columns (fields_of 0 w)) ≡ true → Put 76 (column_text (at_right 2 (symbol (get_or w 8 0)))) s s₁
    → Put 78 (column_text (at_left 2 (charge_text (to_z w64 (get_or w 9 0))))) s₁ s₂ → Adds 76 80 (element_columns (fields_of 0 w)) s s₂
unfolding element_columns fields_of
element-adds w s s₁ s₂ h p q =
    let f = All-of fitting (element_columns (fields_of 0 w)) h in
    record {
      size = q.size;
      after = λ ds o. put-column 78 ds _ _ s₁ s₂ f.1.0 (lit≤ tt) (put-column 76 ds [] _ s s₁ f.0 (lit≤ tt) (start 76 ds s o) p) q;
    }

-- ---- whole lines

-- a line whose columns 31 to 76 are vs fits where its parts do
parts : (u : Above) (a : Atom) (vs : List Column) → all fitting (name_columns a ++ (place_of u ++ (vs ++ element_columns a)))
    ≡ all fitting (name_columns a) && (all fitting (place_of u) && (all fitting vs && all fitting (element_columns a)))
parts u a vs =
    all_append (name_columns a) (place_of u ++ (vs ++ element_columns a))
    ∙ ap (λ (t : Bool). all fitting (name_columns a) && t) (all_append (place_of u) (vs ++ element_columns a) ∙ ap (λ (t : Bool). all fitting (place_of u) && t) (all_append vs (element_columns a)))

pub record PartsFit (u : Above) (a : Atom) (vs : List Column) : Type 0 where
  pub name : all fitting (name_columns a) ≡ true
  pub place : all fitting (place_of u) ≡ true
  pub values : all fitting vs ≡ true
  pub element : all fitting (element_columns a) ≡ true

each_fits : (u : Above) (a : Atom) (vs : List Column) → all fitting (name_columns a ++ (place_of u ++ (vs ++ element_columns a))) ≡ true → PartsFit u a vs
each_fits u a vs h =
    let f = and_both _ _ (sym (parts u a vs) ∙ h) in
    let g = and_both _ _ f.1 in
    let k = and_both _ _ g.1 in
    record { name = f.0; place = g.0; values = k.0; element = k.1 }

pub atom-each : (u : Above) (w : Words) → all fitting (atom_columns (line_at u w)) ≡ true → PartsFit u (fields_of 0 w) (value_columns (fields_of 0 w))
unfolding atom_columns
atom-each u w h = each_fits u (fields_of 0 w) (value_columns (fields_of 0 w)) h

module _ (u : Above) (w : Words) (ds : Decimals) where
  abbrev a : Atom
  a = fields_of 0 w

  pub fits-parts : all fitting (columns_at u w ds)
      ≡ all fitting (name_columns (fields_of 0 w)) && (all fitting (place_of u) && (all fitting (decimal_columns ds) && all fitting (element_columns (fields_of 0 w))))
  fits-parts = parts u a (decimal_columns ds)

  pub parts-fit : all fitting (columns_at u w ds) ≡ true → PartsFit u (fields_of 0 w) (decimal_columns ds)
  parts-fit h = each_fits u a (decimal_columns ds) h

  pub line-parts : (s s₁ s₂ s₃ s₄ : List ℕ) → s ≡ blanks 80 ++ newline → Adds 0 16 (name_columns (fields_of 0 w)) s s₁ → Adds 16 30 (place_of u) s₁ s₂
      → Adds 30 76 (decimal_columns ds) s₂ s₃ → Adds 76 80 (element_columns (fields_of 0 w)) s₃ s₄ → s₄ ≡ line_of (columns_at u w ds)
  line-parts s s₁ s₂ s₃ s₄ e p q t v =
      let vs = decimal_columns ds in
      let o = v.after _ (t.after _ (q.after _ (p.after [] (blank-line s e)))) in
      line-whole _ s₄ o
      ∙ ap line_of (append_assoc (name_columns a ++ place_of u) vs (element_columns a) ∙ append_assoc (name_columns a) (place_of u) (vs ++ element_columns a))

  -- with the decimals of the f64 values
  module _ (m : ds ≡ decimals_of (fields_of 0 w)) where
    both-fit : all fitting (columns_at u w ds) ≡ all fitting (atom_columns (line_at u w))
    unfolding atom_columns
    both-fit =
        fits-parts
        ∙ ap (λ (t : Bool). all fitting (name_columns a) && (all fitting (place_of u) && (t && all fitting (element_columns a)))) (ap (λ (es : Decimals). all fitting (decimal_columns es)) m ∙ made-fits a)
        ∙ sym (parts u a (value_columns a))

    pub atom-fits : (r : Bool) → r ≡ all fitting (columns_at u w ds) → r ≡ all fitting (atom_columns (line_at u w))
    atom-fits r e = e ∙ both-fit

    pub atom-decimals : all fitting (atom_columns (line_at u w)) ≡ true → all fitting (decimal_columns ds) ≡ true
    atom-decimals h = (parts-fit (both-fit ∙ h)).values

    pub atom-whole : (s s₁ s₂ s₃ s₄ : List ℕ) → all fitting (atom_columns (line_at u w)) ≡ true → s ≡ blanks 80 ++ newline → Adds 0 16 (name_columns (fields_of 0 w)) s s₁ → Adds 16 30 (place_of u) s₁ s₂
        → Adds 30 76 (decimal_columns ds) s₂ s₃ → Adds 76 80 (element_columns (fields_of 0 w)) s₃ s₄ → s₄ ≡ line_of (atom_columns (line_at u w))
    unfolding atom_columns
    atom-whole s s₁ s₂ s₃ s₄ h e p q t v =
        line-parts s s₁ s₂ s₃ s₄ e p q t v
        ∙ ap (λ (vs : List Column). line_of (name_columns a ++ (place_of u ++ (vs ++ element_columns a)))) (ap decimal_columns m ∙ made-same a (atom-each u w h).values)

pub model-serial : (n : ℕ) → all fitting (model_columns (record { serial = n })) ≡ true → n < 10000
unfolding model_columns
model-serial n h = ltb-true n 10000 (sym (decimal-width 3 n (lit< tt)) ∙ (All-of fitting (model_columns (record { serial = n })) h).1.0)

pub model-whole : (n : ℕ) (s s₁ s₂ : List ℕ) → all fitting (model_columns (record { serial = n })) ≡ true → s ≡ blanks 80 ++ newline → Put 0 (text_of 0x4d4f_4445_4c00_0000) s s₁
    → Put 10 (column_text (at_right 4 (dash false ++ decimal n))) s₁ s₂ → s₂ ≡ line_of (model_columns (record { serial = n }))
unfolding model_columns text_of unpacked without_zeros
model-whole n s s₁ s₂ h e p q =
    let f = All-of fitting (model_columns (record { serial = n })) h in
    let a = put-left 0 [] [] 10 (bytes "MODEL") s s₁ f.0 (lit≤ tt) (blank-line s e) p in
    let b = put-column 10 [] (at_left 10 (bytes "MODEL") ∷ []) (at_right 4 (decimal n)) s₁ s₂ f.1.0 (lit≤ tt) a q in
    line-whole (model_columns (record { serial = n })) s₂ (skip 14 [] (at_left 10 (bytes "MODEL") ∷ at_right 4 (decimal n) ∷ []) 66 s₂ q.size (lit≤ tt) b)

pub end_whole : (s s₁ : List ℕ) → s ≡ blanks 80 ++ newline → Put 0 (text_of 0x454e_444d_444c_0000) s s₁ → s₁ ≡ line_of end_columns
unfolding text_of unpacked without_zeros
end_whole s s₁ e p = line-whole _ s₁ (put-left 0 [] [] 80 (bytes "ENDMDL") s s₁ refl (lit≤ tt) (blank-line s e) p)

-- ---- record_name

pub hetero-name : (h : ℕ) → h ≡ 1 → text_of 0x4845_5441_544d_0000 ≡ cond (eqb h 1) (bytes "HETATM") (bytes "ATOM")
unfolding text_of unpacked without_zeros
hetero-name h e = ap (λ (n : ℕ). cond (eqb n 1) (bytes "HETATM") (bytes "ATOM")) (sym e)

pub atom-name : (h : ℕ) → eqb h 1 ≡ false → text_of 0x4154_4f4d_0000_0000 ≡ cond (eqb h 1) (bytes "HETATM") (bytes "ATOM")
unfolding text_of unpacked without_zeros
atom-name h e = ap (λ (t : Bool). cond t (bytes "HETATM") (bytes "ATOM")) (sym e)
