-- What each return of the functions on one record needs. Assumes nothing.
use Prim.Native.Nat.{ℕ, ◌+◌, ◌≤◌}
use mathlib.Core.Path.{◌≡◌, sym, ap, ◌∙◌}
use mathlib.Core.Bool.{Bool, true, false, and-true}
use mathlib.Core.List.{List, [], ◌∷◌, ◌++◌, append-nil}
use native.Mathlib.Omega.{arith}
use lib.ListN.{length, get_or, length-append}
use borrow.Author.Tests.{ne_eqb}
use Rattle.machine.specs.Lists.{all, concat_map}
use Rattle.machine.specs.Text.{atom_name, stored_by}
use Rattle.machine.specs.Record.{Words, fields_of, good_values, good_fields}
use Rattle.machine.specs.Lines.{Column, fitting, line_of, atom_columns, model_columns, end_columns}
use Rattle.laws.specs.Lists.{and_both, concat_map-append}
use Rattle.laws.specs.Ordered.{record-parts}
use Rattle.laws.specs.Flat.{Parents, entered, line_under, ended, record_lines, line_count}
use Rattle.decimals.specs.Put.{put_at}
use Rattle.decimals.proofs.Laws.{put-none, put_then, put-room}
use Rattle.columns.specs.declared.Above.{Above}
use Rattle.columns.specs.Put.{GoodAtom}
use Rattle.writer.specs.Writer.{parents, GoodWords}

-- ---- what the atoms after a record stand under

module _ (a : Above) (r : Words) where
  pub enter-chain : get_or r 0 0 ≡ 2 → parents (record { chain = get_or r 1 0; serial = a.serial; code = a.code; name = a.name; location = a.location }) ≡ entered r (parents a)
  unfolding entered fields_of
  enter-chain k = rw k

  pub enter-residue : get_or r 0 0 ≡ 3 → parents (record { chain = a.chain; serial = get_or r 1 0; code = get_or r 2 0; name = a.name; location = a.location }) ≡ entered r (parents a)
  unfolding entered fields_of
  enter-residue k = rw k

  pub enter-conformer : get_or r 0 0 ≡ 4 → parents (record { chain = a.chain; serial = a.serial; code = a.code; name = get_or r 1 0; location = get_or r 2 0 }) ≡ entered r (parents a)
  unfolding entered fields_of
  enter-conformer k = rw k

  pub enter-none : (get_or r 0 0 ≡ 2 → ⊥) → (get_or r 0 0 ≡ 3 → ⊥) → (get_or r 0 0 ≡ 4 → ⊥) → parents a ≡ entered r (parents a)
  unfolding entered
  enter-none k l m = rw (ne_eqb (get_or r 0 0) 2 k, ne_eqb (get_or r 0 0) 3 l, ne_eqb (get_or r 0 0) 4 m)

-- ---- the lines of a record, by its kind

module _ (r : Words) where
  pub count-atom : get_or r 0 0 ≡ 5 → 1 ≡ line_count r
  unfolding line_count
  count-atom k = rw k

  pub count-model : get_or r 0 0 ≡ 1 → 2 ≡ line_count r
  unfolding line_count
  count-model k = rw k

  pub count_none : (get_or r 0 0 ≡ 5 → ⊥) → (get_or r 0 0 ≡ 1 → ⊥) → 0 ≡ line_count r
  unfolding line_count
  count_none k l = rw (ne_eqb (get_or r 0 0) 5 k, ne_eqb (get_or r 0 0) 1 l)

  pub good-atom : GoodWords r → get_or r 0 0 ≡ 5 → GoodAtom r
  unfolding good_fields
  good-atom g k =
      let a = fields_of 0 r in
      record { size = g.twelve; good = (and_both (stored_by atom_name a.name) (good_values a) (record-parts 0 r (rw k at g.good)).1).1 }

  module _ (p : Parents) (b : Bool) where
    abbrev atom_line : List Column
    atom_line = atom_columns (line_under p (fields_of 0 r))

    abbrev model_line : List Column
    model_line = model_columns (record { serial = get_or r 1 0 })

    is-atom : get_or r 0 0 ≡ 5 → record_lines b p r ≡ atom_line ∷ []
    unfolding record_lines
    is-atom k = rw k

    is-model : get_or r 0 0 ≡ 1 → record_lines b p r ≡ ended b ++ (model_line ∷ [])
    unfolding record_lines fields_of
    is-model k = rw k

    is_none : (get_or r 0 0 ≡ 5 → ⊥) → (get_or r 0 0 ≡ 1 → ⊥) → record_lines b p r ≡ []
    unfolding record_lines
    is_none k l = rw (ne_eqb (get_or r 0 0) 5 k, ne_eqb (get_or r 0 0) 1 l)

-- ---- whether they fit

module _ (p : Parents) (r : Words) where
  pub fits-atom : {b : Bool} → get_or r 0 0 ≡ 5 → b ≡ all fitting (atom_columns (line_under p (fields_of 0 r))) → b ≡ all (all fitting) (record_lines true p r)
  fits-atom k e = rw (is-atom r p true k, and-true) e

  pub fits-model : {b : Bool} → get_or r 0 0 ≡ 1 → b ≡ all fitting (model_columns (record { serial = get_or r 1 0 })) → b ≡ all (all fitting) (record_lines true p r)
  fits-model k e = rw (is-model r p true k, and-true) e

  pub fits-none : (get_or r 0 0 ≡ 5 → ⊥) → (get_or r 0 0 ≡ 1 → ⊥) → true ≡ all (all fitting) (record_lines true p r)
  fits-none k l = rw (is_none r p true k l)

-- ---- how they are put

module _ (b : Bool) (at : ℕ) (s : List ℕ) where
  module _ {line : List ℕ} (begun : b ≡ true) (e : line ≡ line_of end_columns) where
    end-text : concat_map line_of (ended b) ≡ line
    end-text = rw begun (append-nil (line_of end_columns) ∙ sym e)

    pub end-room : at + length (concat_map line_of (ended b)) ≤ length s → at + length line ≤ length s
    end-room h = rw end-text at h

    pub end-put : {x : ℕ × List ℕ} → x ≡ put_at line at s → x ≡ put_at (concat_map line_of (ended b)) at s
    end-put q = rw end-text q

  pub end_none : b ≡ false → (at, s) ≡ put_at (concat_map line_of (ended b)) at s
  end_none e = rw e (put-none at s)

module _ (p : Parents) (b : Bool) (r : Words) (at : ℕ) (s : List ℕ) where
  abbrev text : List ℕ
  text = concat_map line_of (record_lines b p r)

  module _ {line : List ℕ} (k : get_or r 0 0 ≡ 5) (e : line ≡ line_of (atom_columns (line_under p (fields_of 0 r)))) where
    atom-text : text ≡ line
    atom-text = rw (is-atom r p b k) (append-nil _ ∙ sym e)

    pub atom-room : at + length text ≤ length s → at + length line ≤ length s
    atom-room h = rw atom-text at h

    pub atom-put : {x : ℕ × List ℕ} → x ≡ put_at line at s → x ≡ put_at text at s
    atom-put q = rw atom-text q

  module _ (k : get_or r 0 0 ≡ 1) (h : at + length text ≤ length s) where
    abbrev before : List ℕ
    before = concat_map line_of (ended b)

    model-text : text ≡ before ++ line_of (model_columns (record { serial = get_or r 1 0 }))
    model-text = rw (is-model r p b k, concat_map-append line_of (ended b), append-nil)

    model-length : at + (length before + length (line_of (model_columns (record { serial = get_or r 1 0 })))) ≤ length s
    model-length = omega (arith, h, ap length model-text, length-append before (line_of (model_columns (record { serial = get_or r 1 0 }))))

    pub before-room : at + length before ≤ length s
    before-room = omega (arith, model-length)

    module _ {next : ℕ} {s₁ line : List ℕ} (q : (next, s₁) ≡ put_at before at s) (e : line ≡ line_of (model_columns (record { serial = get_or r 1 0 }))) where
      pub model-room : next + length line ≤ length s₁
      model-room = put-room at next (length before) (length line) before s s₁ (omega arith) (rw e model-length) q

      pub model-put : {x : ℕ × List ℕ} → x ≡ put_at line next s₁ → x ≡ put_at text at s
      model-put {x} q₂ = rw (model-text, ← e) (put_then at next x.0 before line s s₁ x.1 (omega (arith, before-room)) q q₂)

  pub none-put : (get_or r 0 0 ≡ 5 → ⊥) → (get_or r 0 0 ≡ 1 → ⊥) → (at, s) ≡ put_at text at s
  none-put k l = rw (is_none r p b k l) (put-none at s)

module _ (p : Parents) (r : Words) (h : all (all fitting) (record_lines true p r) ≡ true) where
  pub atom-fits : get_or r 0 0 ≡ 5 → all fitting (atom_columns (line_under p (fields_of 0 r))) ≡ true
  atom-fits k = rw (is-atom r p true k, and-true) at h

  pub model-fits : get_or r 0 0 ≡ 1 → all fitting (model_columns (record { serial = get_or r 1 0 })) ≡ true
  model-fits k = rw (is-model r p true k, and-true) at h
