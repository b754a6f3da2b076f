-- Change request §9: a text is taken as a whole exactly where its lines are taken one by one, from the first to the last. Assumes nothing.
use Rattle.std.specs.Prelude.{ℕ, zero, suc, ◌*◌, ◌/◌, ◌%◌, ◌<◌, ◌≡◌, Bool, not, ◌&&◌, length, get_or, take, drop, None, Some}
use Rattle.std.proofs.Math.Path.{refl, sym, ap}
use Rattle.std.proofs.Common.{◌∙◌, arith, length-append, take-append-drop, length-take, length-drop}
use Rattle.std.proofs.Math.Bool.{true, false, cond, and_assoc, and-false}
use Rattle.std.proofs.lemmas.Bool.{false≢true}
use mathlib.Core.List.{List, [], ◌∷◌, ◌++◌, map}
use Rattle.std.proofs.Math.Dec.{eqb}
use borrow.Author.Tests.{eqb-true, eqb-false, ne_eqb}
use Rattle.machine.specs.Lists.{is_some, is_empty, all, concat_map, same}
use Rattle.machine.specs.Program.{newline}
use Rattle.machine.specs.Lines.{Column, column_text, fitting, line_of, AtomLine, atom_columns, model_columns, end_columns, Entry, entry_lines, lines_of, writable, text_of_entries}
use Rattle.machine.specs.LinesIn.{atom_in, model_in, lines_in, Part, line_before, part_in, entries_in, good_line, good_entry, read_text}
use Rattle.laws.specs.Lists.{and_both, All, same_true}
use Rattle.lines.specs.Taken.{taken_atom, taken_model, taken_end, opens, taken_line, taken_from, taken_text}
use Rattle.laws.specs.Columns.{Eighty, line-length, lines-length, atom-eighty, model-eighty, entries-eighty}
use Rattle.lines.specs.Text.{entry-lines, atom-first}

-- a line's bytes
abbrev Long : List ℕ → Type 0
Long l = length l ≡ 81

-- ---- texts compared line by line

same-split : (x y l t : List ℕ) → length x ≡ length l → same (x ++ y) (l ++ t) ≡ same x l && same y t
same-split [] y [] t h = refl
same-split [] y (b ∷ l) t h = absurd (omega arith)
same-split (a ∷ x) y [] t h = absurd (omega arith)
same-split (a ∷ x) y (b ∷ l) t h = ap (λ (z : Bool). eqb a b && z) (same-split x y l t (omega arith)) ∙ sym (and_assoc (eqb a b) (same x l) (same y t))

-- a line differs by its first byte
same_first : (cs : List Column) (y l t : List ℕ) → Long l → (get_or (line_of cs) 0 0 ≡ get_or l 0 0 → ⊥) → same (line_of cs ++ y) (l ++ t) ≡ false
same_first cs y l t h n = go (line_of cs) l (omega (arith, length-append (concat_map column_text cs) newline)) h n
  where
    go : (x l : List ℕ) → 0 < length x → Long l → (get_or x 0 0 ≡ get_or l 0 0 → ⊥) → same (x ++ y) (l ++ t) ≡ false
    go [] l k h n = absurd (omega arith)
    go (a ∷ x) [] k h n = absurd (omega arith)
    go (a ∷ x) (b ∷ l) k h n = ap (λ (z : Bool). z && same (x ++ y) (l ++ t)) (ne_eqb a b n)

-- entries are written with MODEL first
models-first : (es : List Entry) (l t : List ℕ) → Long l → eqb (get_or l 0 0) 77 ≡ false → same (text_of_entries es) (l ++ t) ≡ false
unfolding entry_lines model_columns
models-first [] [] t h n = absurd (omega arith)
models-first [] (b ∷ l) t h n = refl
models-first (e ∷ es) l t h n =
    same_first (model_columns e.model) (concat_map line_of ((map atom_columns e.atoms ++ (end_columns ∷ [])) ++ lines_of es)) l t h (λ q. eqb-false (get_or l 0 0) 77 n (sym q))

-- ---- a line before others

-- where it fits, whether the line is taken and whether the rest is are told apart
apart : (g w f r s a b : Bool) → (f ≡ true → s ≡ a && b) → (g && w) && ((f && r) && s) ≡ (g && (f && a)) && (w && (r && b))
apart false w f r s a b h = refl
apart true w false r s a b h = and-false w
apart true w true r s a b h = ap (λ (z : Bool). w && (r && z)) (h refl) ∙ move a
  where
    move : (a : Bool) → w && (r && (a && b)) ≡ a && (w && (r && b))
    move true = refl
    move false = ap (λ (z : Bool). w && z) (and-false r) ∙ and-false w

line-apart : (g w : Bool) (cs : List Column) (ls : List (List Column)) (l t : List ℕ) → Eighty cs → Long l
    → (g && w) && (all (all fitting) (cs ∷ ls) && same (concat_map line_of (cs ∷ ls)) (l ++ t))
    ≡ (g && (all fitting cs && same (line_of cs) l)) && (w && (all (all fitting) ls && same (concat_map line_of ls) t))
line-apart g w cs ls l t e h =
    apart g w (all fitting cs) (all (all fitting) ls) (same (concat_map line_of (cs ∷ ls)) (l ++ t)) (same (line_of cs) l) (same (concat_map line_of ls) t)
    (λ f. same-split (line_of cs) (concat_map line_of ls) l t (line-length cs e f ∙ sym h))

differs : (w r : Bool) {s : Bool} → s ≡ false → w && (r && s) ≡ false
differs w r e = ap (λ (z : Bool). w && (r && z)) e ∙ ap (λ (z : Bool). w && z) (and-false r) ∙ and-false w

-- atoms and entries are good, and their columns fit and are written so
abbrev written : List AtomLine → List Entry → List (List Column) → List ℕ → Bool
written xs es cs t = (all good_line xs && all good_entry es) && (all (all fitting) cs && same (concat_map line_of cs) t)

-- so for what the rest of a text holds, where a model is open before it, and where none is
abbrev remains : Bool → Part → List ℕ → Bool
remains true p t = written p.0 p.1 (map atom_columns p.0 ++ (end_columns ∷ lines_of p.1)) t
remains false p t = is_empty p.0 && written [] p.1 (lines_of p.1) t

module _ (l t : List ℕ) (h : Long l) where
  model-outside : (p : Part) → taken_model l && remains true p t ≡ remains false ([], record { model = model_in l; atoms = p.0 } ∷ p.1) (l ++ t)
  unfolding taken_model
  model-outside p =
      let e : Entry = record { model = model_in l; atoms = p.0 } in
      let w = all good_line p.0 && all good_entry p.1 in
      sym (ap (λ (cs : List (List Column)). w && (all (all fitting) cs && same (concat_map line_of cs) (l ++ t))) (entry-lines e (lines_of p.1))
      ∙ line-apart true w (model_columns (model_in l)) (map atom_columns p.0 ++ (end_columns ∷ lines_of p.1)) l t (model-eighty (model_in l)) h)

  model-inside : (p : Part) → eqb (get_or l 0 0) 77 ≡ true → remains true ([], record { model = model_in l; atoms = p.0 } ∷ p.1) (l ++ t) ≡ false
  model-inside p m =
      let q = eqb-true (get_or l 0 0) 77 m in
      let es : List Entry = record { model = model_in l; atoms = p.0 } ∷ p.1 in
      differs (all good_entry es) (all (all fitting) (end_columns ∷ lines_of es)) (same_first end_columns (text_of_entries es) l t h (λ (z : 69 ≡ get_or l 0 0). omega arith))

  end-inside : (p : Part) → eqb (get_or l 0 0) 69 ≡ true → taken_end l && remains false p t ≡ remains true p (l ++ t)
  unfolding taken_end
  end-inside p m = go p.0 p.1
    where
      go : (xs : List AtomLine) (es : List Entry) → same (line_of end_columns) l && remains false (xs, es) t ≡ remains true (xs, es) (l ++ t)
      go [] es = sym (line-apart true (all good_entry es) end_columns (lines_of es) l t refl h)
      go (a ∷ xs) es =
          let rest = map atom_columns xs ++ (end_columns ∷ lines_of es) in
          and-false (same (line_of end_columns) l)
          ∙ sym (differs (all good_line (a ∷ xs) && all good_entry es) (all (all fitting) (atom_columns a ∷ rest)) (same_first (atom_columns a) (concat_map line_of rest) l t h
          (λ q. eqb-false (get_or (line_of (atom_columns a)) 0 0) 69 (atom-first a).no_end (q ∙ eqb-true (get_or l 0 0) 69 m))))

  outside : (p : Part) → eqb (get_or l 0 0) 77 ≡ false → remains false p (l ++ t) ≡ false
  outside p n = ap (λ (z : Bool). is_empty p.0 && z) (differs (all good_entry p.1) (writable p.1) (models-first p.1 l t h n)) ∙ and-false (is_empty p.0)

  atom-inside : (p : Part) → taken_atom l && remains true p t ≡ remains true (atom_in l ∷ p.0, p.1) (l ++ t)
  unfolding taken_atom
  atom-inside p =
      let a = atom_in l in
      let rest = map atom_columns p.0 ++ (end_columns ∷ lines_of p.1) in
      sym (ap (λ (z : Bool). z && (all (all fitting) (atom_columns a ∷ rest) && same (concat_map line_of (atom_columns a ∷ rest)) (l ++ t)))
      (and_assoc (good_line a) (all good_line p.0) (all good_entry p.1))
      ∙ line-apart (good_line a) (all good_line p.0 && all good_entry p.1) (atom_columns a) rest l t (atom-eighty a) h)

  one_line : (b : Bool) (p : Part) → taken_line b l && remains (opens b l) p t ≡ remains b (line_before l p) (l ++ t)
  unfolding taken_line
  one_line b p = go b (eqb (get_or l 0 0) 77) (eqb (get_or l 0 0) 69) refl refl
    where
      go : (b x y : Bool) → eqb (get_or l 0 0) 77 ≡ x → eqb (get_or l 0 0) 69 ≡ y
          → cond x (not b && taken_model l) (b && cond y (taken_end l) (taken_atom l)) && remains (cond x true (cond y false b)) p t
          ≡ remains b (cond x ([], record { model = model_in l; atoms = p.0 } ∷ p.1) (cond y p (atom_in l ∷ p.0, p.1))) (l ++ t)
      go true true y m e = sym (model-inside p m)
      go false true y m e = model-outside p
      go true false true m e = end-inside p e
      go false false true m e = sym (outside p m)
      go true false false m e = atom-inside p
      go false false false m e = refl

-- ---- all lines

abbrev joined : List (List ℕ) → List ℕ
joined ls = concat_map (λ l. l) ls

all_lines : (b : Bool) (ls : List (List ℕ)) → All Long ls → taken_from b ls ≡ remains b (part_in ls) (joined ls)
unfolding taken_from part_in
all_lines true [] h = refl
all_lines false [] h = refl
all_lines b (l ∷ ls) h = ap (λ (z : Bool). taken_line b l && z) (all_lines (opens b l) ls h.1) ∙ one_line l (joined ls) h.0 b (part_in ls)

-- atoms never stand outside a model
closed : (ls : List (List ℕ)) → All Long ls → same (text_of_entries (part_in ls).1) (joined ls) ≡ true → (part_in ls).0 ≡ []
unfolding part_in
closed [] h s = refl
closed (l ∷ ls) h s = go (eqb (get_or l 0 0) 77) refl
  where
    go : (x : Bool) → eqb (get_or l 0 0) 77 ≡ x → (line_before l (part_in ls)).0 ≡ []
    go true e = rw e
    go false e = absurd (false≢true (sym (models-first (line_before l (part_in ls)).1 l (joined ls) h.0 e) ∙ s))

-- ---- the lines of a text

lines_long : (n : ℕ) (t : List ℕ) → length t ≡ n * 81 → All Long (lines_in n t)
unfolding lines_in
lines_long zero t h = tt
lines_long (suc n) t h = (omega (arith, length-take 81 t), lines_long n (drop 81 t) (omega (arith, length-drop 81 t)))

lines-joined : (n : ℕ) (t : List ℕ) → length t ≡ n * 81 → joined (lines_in n t) ≡ t
unfolding lines_in
lines-joined zero [] h = refl
lines-joined zero (b ∷ t) h = absurd (omega arith)
lines-joined (suc n) t h = ap (λ (z : List ℕ). take 81 t ++ z) (lines-joined n (drop 81 t) (omega (arith, length-drop 81 t))) ∙ take-append-drop 81 t

-- ---- the text

-- the test of `read_text`
abbrev whole : List ℕ → Bool
whole t = all good_entry (entries_in t) && (writable (entries_in t) && same (text_of_entries (entries_in t)) t)

module _ (t : List ℕ) where
  abbrev ls : List (List ℕ)
  ls = lines_in (length t / 81) t

  multiple : eqb (length t % 81) 0 ≡ true → length t ≡ length t / 81 * 81
  multiple e = let r = eqb-true (length t % 81) 0 e in omega arith

  whole-lines : eqb (length t % 81) 0 ≡ true → is_empty (part_in ls).0 && whole t ≡ taken_from false ls
  whole-lines e = sym (all_lines false ls (lines_long (length t / 81) t (multiple e)) ∙ ap (remains false (part_in ls)) (lines-joined (length t / 81) t (multiple e)))

  whole-closed : eqb (length t % 81) 0 ≡ true → is_empty (part_in ls).0 && whole t ≡ whole t
  whole-closed e = go (same (text_of_entries (entries_in t)) t) refl
    where
      go : (s : Bool) → same (text_of_entries (entries_in t)) t ≡ s
          → is_empty (part_in ls).0 && (all good_entry (entries_in t) && (writable (entries_in t) && s)) ≡ all good_entry (entries_in t) && (writable (entries_in t) && s)
      go true s =
          let c = closed ls (lines_long (length t / 81) t (multiple e)) (ap (same (text_of_entries (entries_in t))) (lines-joined (length t / 81) t (multiple e)) ∙ s) in
          ap (λ (z : List AtomLine). is_empty z && (all good_entry (entries_in t) && (writable (entries_in t) && true))) c
      go false s =
          let d = differs (all good_entry (entries_in t)) (writable (entries_in t)) {s = false} refl in
          ap (λ (z : Bool). is_empty (part_in ls).0 && z) d ∙ and-false (is_empty (part_in ls).0) ∙ sym d

  -- a text that is written has whole lines only
  whole_length : whole t ≡ true → length t % 81 ≡ 0
  whole_length h =
      let p = and_both (all good_entry (entries_in t)) (writable (entries_in t) && same (text_of_entries (entries_in t)) t) h in
      let q = and_both (writable (entries_in t)) (same (text_of_entries (entries_in t)) t) p.1 in
      let n = lines-length (lines_of (entries_in t)) (entries-eighty (entries_in t)) q.0 in
      let s = ap length (same_true (text_of_entries (entries_in t)) t q.1) in
      omega arith

  whole-taken : whole t ≡ taken_text t
  unfolding taken_text
  whole-taken = go (eqb (length t % 81) 0) refl
    where
      go : (b : Bool) → eqb (length t % 81) 0 ≡ b → whole t ≡ b && taken_from false ls
      go true e = sym (whole-closed e) ∙ whole-lines e
      go false e = None (whole t) refl
        where
          None : (w : Bool) → whole t ≡ w → w ≡ false
          None false h = refl
          None true h = absurd (eqb-false (length t % 81) 0 e (whole_length h))

  -- the text as a whole, and line by line
  pub taken-text : is_some (read_text t) ≡ taken_text t
  unfolding read_text
  taken-text = go (whole t) ∙ whole-taken
    where
      go : (b : Bool) → is_some (cond b (Some (entries_in t)) None) ≡ b
      go true = refl
      go false = refl

  pub taken-entries : taken_text t ≡ true → read_text t ≡ Some (entries_in t)
  unfolding read_text
  taken-entries h = ap (λ (b : Bool). cond b (Some (entries_in t)) None) (whole-taken ∙ h)

  pub taken-good : taken_text t ≡ true → all good_entry (entries_in t) ≡ true
  taken-good h = (and_both (all good_entry (entries_in t)) (writable (entries_in t) && same (text_of_entries (entries_in t)) t) (whole-taken ∙ h)).0

  pub taken-closed : taken_text t ≡ true → (part_in (lines_in (length t / 81) t)).0 ≡ []
  unfolding taken_text
  taken-closed h =
      let p = and_both (eqb (length t % 81) 0) (taken_from false ls) h in
      None (part_in ls).0 (and_both (is_empty (part_in ls).0) (whole t) (whole-lines p.0 ∙ p.1)).0
    where
      None : (xs : List AtomLine) → is_empty xs ≡ true → xs ≡ []
      None [] e = refl
      None (x ∷ xs) e = absurd (false≢true e)
