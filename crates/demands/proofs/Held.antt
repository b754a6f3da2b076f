-- Change request §9: what a store of u64 words holds can be written and read back. Assumes nothing.
use Prim.Native.Nat.{ℕ, zero, suc}
use mathlib.Core.Path.{◌≡◌, sym, ap, ◌∙◌, subst}
use mathlib.Core.Bool.{true}
use mathlib.Core.List.{List, [], ◌∷◌, ◌++◌, map}
use lib.ListN.{take, drop, take-append-drop}
use Rattle.machine.specs.Lists.{all, concat_map}
use Rattle.machine.specs.Record.{Fields, words, good_fields}
use Rattle.machine.specs.Store.{Branch, Machine, flat, records, chunks}
use Rattle.machine.specs.Lines.{fitting, AtomLine, atom_columns, model_columns, end_columns, entry_lines, entry_of, lines_of, writable}
use Rattle.machine.specs.LinesIn.{good_line}
use Rattle.laws.specs.Lists.{All, All-map, All-over, All-append, All-left, All-right, and_both, and-true, all_split}
use Rattle.laws.specs.Good.{good_branch}
use Rattle.laws.specs.Places.{good-parts}
use Rattle.lines.specs.Fields.{Ready}
use Rattle.lines.specs.Text.{ReadyEntry}
use Rattle.building.specs.Build.{Item}
use Rattle.building.specs.Rebuild.{items, line_at, lines_are}
use Rattle.demands.specs.Reading.{U64}

-- ---- the words of a store are u64, and so are the fields that they hold

parts-small : (n : ℕ) (w : List ℕ) → U64 w → U64 (take n w) × U64 (drop n w)
parts-small n w h = let e = subst U64 (sym (take-append-drop n w)) h in (All-left _ (take n w) (drop n w) e, All-right _ (take n w) (drop n w) e)

pub chunks-small : (n : ℕ) (w : List ℕ) → U64 w → All U64 (chunks n w)
chunks-small zero w h = tt
chunks-small (suc n) w h = let p = parts-small 12 w h in (p.0, chunks-small n (drop 12 w) p.1)

-- a record of a store
record Held (k : ℕ) (f : Fields k) : Type 0 where
  good : good_fields k f ≡ true
  small : U64 (words k f)

-- ---- every line of a store's machine

abbrev HeldItem : (k : ℕ) → Item k → Type 0
HeldItem zero a = Held zero a
HeldItem (suc k) p = Held (suc k) p.0 × HeldItem k p.1

held_items : (k : ℕ) (ts : List (Branch k)) → all (good_branch k) ts ≡ true → All U64 (concat_map (flat k) ts) → All (HeldItem k) (items k ts)
unfolding items good_branch flat
held_items zero [] g s = tt
held_items zero (a ∷ as') g s =
    let b = and_both (good_branch 0 a) (all (good_branch 0) as') g in
    (record { good = b.0; small = s.0 }, held_items zero as' b.1 s.1)
held_items (suc k) [] g s = tt
held_items (suc k) (t ∷ ts) g s =
    let b = and_both (good_branch (suc k) t) (all (good_branch (suc k)) ts) g in
    let c = and_both (good_fields (suc k) t.0) (all (good_branch k) t.1) b.0 in
    let own = All-left U64 (flat (suc k) t) (concat_map (flat (suc k)) ts) s in
    let below = held_items k t.1 c.1 own.1 in
    let mine : Held (suc k) t.0 = record { good = c.0; small = own.0 } in
    All-append (HeldItem (suc k)) (map (λ p. (t.0, p)) (items k t.1)) (items (suc k) ts)
    (All-over (HeldItem (suc k)) (λ p. (t.0, p)) (items k t.1) (All-map (λ p h. (mine, h)) (items k t.1) below))
    (held_items (suc k) ts b.1 (All-right U64 (flat (suc k) t) (concat_map (flat (suc k)) ts) s))

line-ready : (p : Item 3) → HeldItem 3 p → all fitting (atom_columns (line_at p)) ≡ true → Ready (line_at p)
unfolding good_line words
line-ready p h f =
    let c = h.0 in
    let r = h.1.0 in
    let n = h.1.1.0 in
    let a = h.1.1.1 in
    record {
      good = and-true c.good (and-true r.good (and-true n.good a.good));
      fits = f;
      words =
          record {
            serial = record { fits = a.small.1.0 };
            residue = record { fits = r.small.1.0 };
            charge = record { fits = a.small.1.1.1.1.1.1.1.1.1.0 };
          };
    }

lines-ready : (ps : List (Item 3)) → All (HeldItem 3) ps → all (all fitting) (map atom_columns (map line_at ps)) ≡ true → All Ready (map line_at ps)
lines-ready [] h f = tt
lines-ready (p ∷ ps) h f =
    let b = and_both (all fitting (atom_columns (line_at p))) (all (all fitting) (map atom_columns (map line_at ps))) f in
    (line-ready p h.0 b.0, lines-ready ps h.1 b.1)

entry_ready : (t : Branch 4) → good_branch 4 t ≡ true → All U64 (flat 4 t) → all (all fitting) (entry_lines (entry_of t)) ≡ true → ReadyEntry (entry_of t)
unfolding flat words entry_of entry_lines
entry_ready t g s f =
    let b = and_both (all fitting (model_columns t.0)) (all (all fitting) (map atom_columns (entry_of t).atoms ++ (end_columns ∷ []))) f in
    let c = and_both (all (all fitting) (map atom_columns (entry_of t).atoms)) (all (all fitting) (end_columns ∷ []))
    (sym (all_split (all fitting) (map atom_columns (entry_of t).atoms) (end_columns ∷ [])) ∙ b.1) in
    let held = held_items 3 t.1 (good-parts 3 t g).1 s.1 in
    record {
      fits = b.0;
      serial = record { fits = s.0.1.0 };
      atoms = subst (All Ready) (sym (lines_are t)) (lines-ready (items 3 t.1) held
          (ap (λ (ls : List AtomLine). all (all fitting) (map atom_columns ls)) (sym (lines_are t)) ∙ c.0));
    }

pub entries-ready : (m : Machine) → all (good_branch 4) m ≡ true → All U64 (records m) → writable (map entry_of m) ≡ true → All ReadyEntry (map entry_of m)
entries-ready [] g s f = tt
entries-ready (t ∷ ts) g s f =
    let b = and_both (good_branch 4 t) (all (good_branch 4) ts) g in
    let c = and_both (all (all fitting) (entry_lines (entry_of t))) (writable (map entry_of ts))
    (sym (all_split (all fitting) (entry_lines (entry_of t)) (lines_of (map entry_of ts))) ∙ f) in
    (entry_ready t b.0 (All-left U64 (flat 4 t) (records ts) s) c.0, entries-ready ts b.1 (All-right U64 (flat 4 t) (records ts) s) c.1)
