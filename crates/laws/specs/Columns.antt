-- Columns that fit are as wide as they say, and so are lines. Assumes nothing.
use Rattle.std.specs.Prelude.{ℕ, ◌+◌, ◌-◌, ◌*◌, ◌≡◌, refl, true, List, [], ◌∷◌, map, leb, length}
use Rattle.std.proofs.Common.{◌∙◌, arith, length-append, leb-true}
use Rattle.std.proofs.lemmas.List.{length-replicate}
use Rattle.machine.specs.Lists.{all, sum, concat_map}
use Rattle.machine.specs.Record.{Model}
use Rattle.machine.specs.Lines.{Column, at_left, at_right, blanks, column_text, fitting, line_of, AtomLine, name_columns, place_columns, value_columns, element_columns, atom_columns, model_columns, end_columns, Entry, entry_lines, lines_of}
use Rattle.laws.specs.Lists.{and_both, All, All-append}

abbrev pub width : Column → ℕ
width (at_left w t) = w
width (at_right w t) = w

filled : (w : ℕ) (t : List ℕ) → leb (length t) w ≡ true → length t + length (blanks (w - length t)) ≡ w
filled w t h = let l = leb-true (length t) w h in omega (arith, length-replicate {A = ℕ} (w - length t) 32)

pub column-length : (c : Column) → fitting c ≡ true → length (column_text c) ≡ width c
column-length (at_left w t) h = length-append t (blanks (w - length t)) ∙ filled w t h
column-length (at_right w t) h = let e = length-append (blanks (w - length t)) t in let f = filled w t h in omega arith

pub columns-length : (cs : List Column) → all fitting cs ≡ true → length (concat_map column_text cs) ≡ sum width cs
columns-length [] h = refl
columns-length (c ∷ cs) h =
    let b = and_both (fitting c) (all fitting cs) h in
    let e = column-length c b.0 in
    let f = columns-length cs b.1 in
    omega (arith, length-append (column_text c) (concat_map column_text cs))

-- ---- lines

-- "every line has 80 columns and a newline"
abbrev pub Eighty : List Column → Type 0
Eighty cs = sum width cs ≡ 80

pub line-length : (cs : List Column) → Eighty cs → all fitting cs ≡ true → length (line_of cs) ≡ 81
line-length cs e h = omega (arith, length-append (concat_map column_text cs) (10 ∷ []), columns-length cs h)

pub lines-length : (ls : List (List Column)) → All Eighty ls → all (all fitting) ls ≡ true → length (concat_map line_of ls) ≡ length ls * 81
lines-length [] e h = refl
lines-length (cs ∷ ls) e h =
    let b = and_both (all fitting cs) (all (all fitting) ls) h in
    omega (arith, length-append (line_of cs) (concat_map line_of ls), line-length cs e.0 b.0, lines-length ls e.1 b.1)

pub atom-eighty : (l : AtomLine) → Eighty (atom_columns l)
unfolding atom_columns name_columns place_columns value_columns element_columns
atom-eighty l = refl

pub model-eighty : (m : Model) → Eighty (model_columns m)
unfolding model_columns
model-eighty m = refl

atoms-eighty : (ls : List AtomLine) → All Eighty (map atom_columns ls)
atoms-eighty [] = tt
atoms-eighty (l ∷ ls) = (atom-eighty l, atoms-eighty ls)

pub entries-eighty : (es : List Entry) → All Eighty (lines_of es)
unfolding entry_lines
entries-eighty [] = tt
entries-eighty (e ∷ es) =
    All-append Eighty (entry_lines e) (lines_of es) (model-eighty e.model, All-append Eighty (map atom_columns e.atoms) (end_columns ∷ []) (atoms-eighty e.atoms) (refl, tt)) (entries-eighty es)
