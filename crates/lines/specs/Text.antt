-- Change request §9: a text that is written is read back, with its floats settled. Assumes nothing.
use Rattle.std.specs.Prelude.{ℕ, ◌/◌, ◌≡◌, refl, Bool, true, false, ◌&&◌, cond, List, [], ◌∷◌, ◌++◌, map, length, get_or, eqb, None, Some}
use Rattle.std.proofs.Common.{ap, ◌∙◌, append_assoc, append-nil, lt_of_lt_of_le, arith, take_at, drop_at, lit≤, lit<, Fits}
use Rattle.std.proofs.lemmas.List.{map-append}
use Rattle.std.specs.Int.{w64}
use Rattle.machine.specs.Lists.{all, concat_map, same}
use Rattle.machine.specs.Program.{decimal}
use Rattle.machine.specs.Record.{Model}
use Rattle.machine.specs.Lines.{Column, fitting, line_of, AtomLine, name_columns, atom_columns, model_columns, end_columns, Entry, entry_lines, lines_of, writable, text_of_entries}
use Rattle.machine.specs.LinesIn.{figures, atom_in, model_in, lines_in, Part, part_in, good_line, good_entry, read_text}
use Rattle.laws.specs.Lists.{and_both, and-true, All, all_split, same_refl}
use Rattle.lines.specs.Figures.{right-figures, figures-digits}
use Rattle.lines.specs.Fields.{column-nth, settled_line, Ready, line-back, columns-again, still-good}
use Rattle.laws.specs.Columns.{Eighty, line-length, lines-length, entries-eighty}

-- a model that fits, with its atoms
pub record ReadyEntry (e : Entry) : Type 0 where
  pub fits : all fitting (model_columns e.model) ≡ true
  pub serial : Fits w64 e.model.serial
  pub atoms : All Ready e.atoms

unfoldable pub settled_entry : Entry → Entry
settled_entry e = record { model = e.model; atoms = map settled_line e.atoms }

-- ---- the lines of a text

pub entry-lines : (e : Entry) (ls : List (List Column)) → entry_lines e ++ ls ≡ model_columns e.model ∷ (map atom_columns e.atoms ++ (end_columns ∷ ls))
unfolding entry_lines
entry-lines e ls = ap (λ (z : List (List Column)). model_columns e.model ∷ z) (append_assoc (map atom_columns e.atoms) (end_columns ∷ []) ls)

lines-again : (ls : List (List Column)) → All Eighty ls → all (all fitting) ls ≡ true → lines_in (length ls) (concat_map line_of ls) ≡ map line_of ls
unfolding lines_in
lines-again [] w h = refl
lines-again (cs ∷ ls) w h =
    let b = and_both (all fitting cs) (all (all fitting) ls) h in
    let n = line-length cs w.0 b.0 in
    (λ i. take_at (line_of cs) (concat_map line_of ls) 81 n i ∷ lines_in (length ls) (drop_at (line_of cs) (concat_map line_of ls) 81 n i))
    ∙ ap (λ (z : List (List ℕ)). line_of cs ∷ z) (lines-again ls w.1 b.1)

text-lines : (es : List Entry) → writable es ≡ true → lines_in (length (text_of_entries es) / 81) (text_of_entries es) ≡ map line_of (lines_of es)
text-lines es h =
    let n = lines-length (lines_of es) (entries-eighty es) h in
    let k : length (text_of_entries es) / 81 ≡ length (lines_of es) = omega arith in
    ap (λ (z : ℕ). lines_in z (text_of_entries es)) k ∙ lines-again (lines_of es) (entries-eighty es) h

-- ---- what each line is read as, before other lines

-- an atom's line starts with A or H
pub record AtomFirst (b : ℕ) : Type 0 where
  pub no-model : eqb b 77 ≡ false
  pub no_end : eqb b 69 ≡ false

pub atom-first : (l : AtomLine) → AtomFirst (get_or (line_of (atom_columns l)) 0 0)
unfolding atom_columns name_columns
atom-first l = go (eqb l.atom.hetero 1) refl
  where
    go : (b : Bool) → eqb l.atom.hetero 1 ≡ b → AtomFirst (get_or (line_of (atom_columns l)) 0 0)
    go true e = rw e (record { no-model = refl; no_end = refl })
    go false e = rw e (record { no-model = refl; no_end = refl })

part-atom : (l : AtomLine) (rest : List (List ℕ)) → Ready l → part_in (line_of (atom_columns l) ∷ rest) ≡ (settled_line l ∷ (part_in rest).0, (part_in rest).1)
unfolding part_in
part-atom l rest r =
    let t = line_of (atom_columns l) in
    let p = part_in rest in
    let first : Part = ([], record { model = model_in t; atoms = p.0 } ∷ p.1) in
    ap (λ (b : Bool). cond b first (cond (eqb (get_or t 0 0) 69) p (atom_in t ∷ p.0, p.1))) (atom-first l).no-model
    ∙ ap (λ (b : Bool). cond b p (atom_in t ∷ p.0, p.1)) (atom-first l).no_end
    ∙ ap (λ (a : AtomLine). (a ∷ p.0, p.1)) (line-back l r)

part-atoms : (ls : List AtomLine) (rest : List (List ℕ)) → All Ready ls → part_in (map line_of (map atom_columns ls) ++ rest) ≡ (map settled_line ls ++ (part_in rest).0, (part_in rest).1)
part-atoms [] rest r = refl
part-atoms (l ∷ ls) rest r =
    part-atom l (map line_of (map atom_columns ls) ++ rest) r.0 ∙ ap (λ (p : Part). (settled_line l ∷ p.0, p.1)) (part-atoms ls rest r.1)

model-back : (m : Model) → all fitting (model_columns m) ≡ true → Fits w64 m.serial → model_in (line_of (model_columns m)) ≡ m
unfolding model_in model_columns
model-back m f w =
    ap (λ (n : ℕ). record { serial = n })
    (ap figures (column-nth (model_columns m) 1 f (lit< tt)) ∙ right-figures 4 (decimal m.serial) ∙ figures-digits 20 m.serial (lt_of_lt_of_le w.fits (lit≤ tt)))

part-model : (m : Model) (rest : List (List ℕ)) → all fitting (model_columns m) ≡ true → Fits w64 m.serial
    → part_in (line_of (model_columns m) ∷ rest) ≡ ([], record { model = m; atoms = (part_in rest).0 } ∷ (part_in rest).1)
unfolding part_in model_columns
part-model m rest f w = ap (λ (n : Model). ([], record { model = n; atoms = (part_in rest).0 } ∷ (part_in rest).1)) (model-back m f w)

part_end_lem : (rest : List (List ℕ)) → part_in (line_of end_columns ∷ rest) ≡ part_in rest
unfolding part_in
part_end_lem rest = refl

part-text : (es : List Entry) → All ReadyEntry es → part_in (map line_of (lines_of es)) ≡ ([], map settled_entry es)
unfolding part_in entry_lines settled_entry
part-text [] r = refl
part-text (e ∷ es) r =
    let rest = map line_of (lines_of es) in
    let form : map line_of (lines_of (e ∷ es)) ≡ line_of (model_columns e.model) ∷ (map line_of (map atom_columns e.atoms) ++ (line_of end_columns ∷ rest)) =
    ap (map line_of) (entry-lines e (lines_of es)) ∙ ap (λ (z : List (List ℕ)). line_of (model_columns e.model) ∷ z) (map-append line_of (map atom_columns e.atoms) (end_columns ∷ lines_of es)) in
    ap part_in form
    ∙ part-model e.model (map line_of (map atom_columns e.atoms) ++ (line_of end_columns ∷ rest)) r.0.fits r.0.serial
    ∙ ap (λ (p : Part). ([], record { model = e.model; atoms = p.0 } ∷ p.1))
    (part-atoms e.atoms (line_of end_columns ∷ rest) r.0.atoms ∙ ap (λ (p : Part). (map settled_line e.atoms ++ p.0, p.1)) (part_end_lem rest ∙ part-text es r.1))
    ∙ rw append-nil

-- ---- what is read is written alike

atoms-again : (ls : List AtomLine) → All Ready ls → map atom_columns (map settled_line ls) ≡ map atom_columns ls
atoms-again [] r = refl
atoms-again (l ∷ ls) r = λ i. columns-again l r.0 i ∷ atoms-again ls r.1 i

pub entries-again : (es : List Entry) → All ReadyEntry es → lines_of (map settled_entry es) ≡ lines_of es
unfolding entry_lines settled_entry
entries-again [] r = refl
entries-again (e ∷ es) r = λ i. (model_columns e.model ∷ (atoms-again e.atoms r.0.atoms i ++ (end_columns ∷ []))) ++ entries-again es r.1 i

atoms-fit : (ls : List AtomLine) → All Ready ls → all (all fitting) (map atom_columns ls) ≡ true
atoms-fit [] r = refl
atoms-fit (l ∷ ls) r = and-true r.0.fits (atoms-fit ls r.1)

ready-writable : (es : List Entry) → All ReadyEntry es → writable es ≡ true
unfolding entry_lines
ready-writable [] r = refl
ready-writable (e ∷ es) r =
    all_split (all fitting) (entry_lines e) (lines_of es)
    ∙ and-true (and-true r.0.fits (all_split (all fitting) (map atom_columns e.atoms) (end_columns ∷ []) ∙ and-true (atoms-fit e.atoms r.0.atoms) refl)) (ready-writable es r.1)

atoms-good : (ls : List AtomLine) → All Ready ls → all good_line (map settled_line ls) ≡ true
atoms-good [] r = refl
atoms-good (l ∷ ls) r = and-true (still-good l r.0) (atoms-good ls r.1)

entries-good : (es : List Entry) → All ReadyEntry es → all good_entry (map settled_entry es) ≡ true
unfolding settled_entry
entries-good [] r = refl
entries-good (e ∷ es) r = and-true (atoms-good e.atoms r.0.atoms) (entries-good es r.1)

-- the text read back
pub text-back : (es : List Entry) → All ReadyEntry es → read_text (text_of_entries es) ≡ Some (map settled_entry es)
unfolding read_text
text-back es r =
    let t = text_of_entries es in
    let w = ready-writable es r in
    let again = entries-again es r in
    ap (λ (p : Part). cond (all good_entry p.1 && (writable p.1 && same (text_of_entries p.1) t)) (Some p.1) None) (ap part_in (text-lines es w) ∙ part-text es r)
    ∙ ap (λ (b : Bool). cond b (Some (map settled_entry es)) None)
    (and-true (entries-good es r) (and-true (ap (all (all fitting)) again ∙ w) (ap (λ (ls : List (List Column)). same (concat_map line_of ls) t) again ∙ same_refl t)))
