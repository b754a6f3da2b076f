-- What each place of the code has to show, over words and records. Assumes nothing.
use Rattle.std.specs.Prelude.{Err, None, Ok, Option, Some}
use Prim.Native.Nat.{ℕ, zero, ◌+◌, ◌-◌, ◌*◌, ◌≤◌, ◌<◌}
use mathlib.Core.Path.{◌≡◌, refl, sym, ap, subst, ◌∙◌}
use mathlib.Core.Bool.{Bool, true, false, not}
use mathlib.Core.List.{List, [], ◌∷◌, ◌++◌}
use native.Mathlib.Omega.{arith}
use lib.ListN.{length, take, drop, get_or, length-drop}
use lib.Seq.{length-take-le}
use borrow.Author.Tests.{eq-eqb, ne_eqb}
use Rattle.machine.specs.Answer.{Result, edited_numbers}
use Rattle.machine.specs.Record.{Words, fields_of}
use Rattle.machine.specs.Store.{laid, records_of}
use Rattle.machine.specs.Kleene.{is_true}
use Rattle.machine.specs.Query.{Names, window, tree_value, read_tree, tables}
use Rattle.machine.specs.Find.{enter, nowhere}
use Rattle.machine.specs.Edit.{remove_atoms_by, step_by}
use Rattle.machine.specs.declared.RecordNumbers.{RecordNumbers}
use Rattle.machine.specs.declared.Tri.{Tri}
use Rattle.machine.specs.declared.Refusal.{Refusal}
use Rattle.machine.specs.declared.Refusal.TheVariants.{NoPosition}
use Rattle.laws.specs.Grouped.{concat}
use Rattle.moves.specs.Over.{over}
use Rattle.moves.proofs.Laws.{over-length}
use Rattle.seek.specs.Seek.{held, Good, Within, record_at, span}
use Rattle.seek.proofs.Below.{record-kind}
use Rattle.seek.proofs.Laws.{Stands, stands, missing}
use Rattle.terms.specs.Levels as Levels
use Rattle.search.specs.Nodes.{checked}
use Rattle.search.proofs.Laws.{tree-then, tree-refused}
use Rattle.empty_removals.specs.Prune.{Laid, Compacted, kept}
use Rattle.empty_removals.proofs.Words.{compact-start, compact-skip, compact-keep, below-within, atoms-gap, atoms-laid, atoms-removed}
use Rattle.tree_removals.specs.Keep.{keeps_atom, staying}

-- ---- `stays`

-- one record's number at all levels
abbrev pub alone : ℕ → RecordNumbers
alone n = record { model = n; chain = n; residue = n; conformer = n; atom = n }

alone-place : (w : List ℕ) (n : ℕ) → window 5 5 (Levels.place_at w (alone n)) ≡ enter zero (fields_of 0 (record_at n w)) nowhere
unfolding window enter Levels.place_at
alone-place w n = refl

module _ (w residues atoms tree : List ℕ) (n : ℕ) where
  pub stays-other : (get_or w (n * 12) 0 ≡ 5 → ⊥) → true ≡ staying residues atoms tree (record_at n w)
  stays-other e = rw (record-kind w n, ne_eqb (get_or w (n * 12) 0) 5 e)

  pub stays-atom : (v : Tri) (b : Bool) → get_or w (n * 12) 0 ≡ 5 → v ≡ tree_value (Levels.term_value_at w (alone n) 5 5 residues atoms) tree → b ≡ not (is_true v)
      → b ≡ staying residues atoms tree (record_at n w)
  unfolding keeps_atom
  stays-atom v b e f g = g ∙ rw (f, alone-place w n, record-kind w n, eq-eqb (get_or w (n * 12) 0) 5 e)

-- ---- `compact`

-- a turn of the loop: the records below `at` are done
pub record Passed (p : Words → Bool) (from end : ℕ) (w : List ℕ) (at to : ℕ) (s : List ℕ) : Type 0 where
  pub low : from ≤ at
  pub high : at ≤ end
  pub behind : to ≤ at
  pub size : length s ≡ length w
  pub done : Compacted p from at w to s

module _ (p : Words → Bool) (from end : ℕ) (w : List ℕ) (h : Within from end w) where
  pub pass-start : Passed p from end w from from w
  pass-start = record { low = omega arith; high = h.order; behind = omega arith; size = refl; done = compact-start p from w }

  module _ (at to : ℕ) (s : List ℕ) (i : Passed p from end w at to s) where
    within : Within from at w
    within = let r = h.room in let o = i.high in record { order = i.low; room = omega arith }

    pub pass-skip : (b : Bool) → at < end → b ≡ p (record_at at s) → b ≡ false → Passed p from end w (at + 1) to s
    pass-skip b l e f =
        let o = i.low in
        let t = i.behind in
        record {
          low = omega arith;
          high = omega arith;
          behind = omega arith;
          size = i.size;
          done = compact-skip p from w at to s within i.done (sym e ∙ f);
        }

    pub pass-keep : (b : Bool) (s' : List ℕ) → at < end → b ≡ p (record_at at s) → b ≡ true → s' ≡ over (to * 12) (take 12 (drop (at * 12) s)) s
        → Passed p from end w (at + 1) (to + 1) s'
    pass-keep b s' l e f g =
        let o = i.low in
        let t = i.behind in
        let r = h.room in
        let z = i.size in
        let n : length (record_at at s) ≡ 12 = length-take-le 12 (drop (at * 12) s) (rw length-drop (omega arith)) in
        record {
          low = omega arith;
          high = omega arith;
          behind = omega arith;
          size = ap length g ∙ over-length (to * 12) (record_at at s) s (omega arith) ∙ z;
          done = compact-keep p from w at to s within i.done s' (sym e ∙ f) g;
        }

    pub pass-end : end ≤ at → Compacted p from end w to s
    pass-end l = let o = i.high in let e : at ≡ end = omega arith in rw e at i.done

-- ---- `remove_atoms_by`

-- what follows the tree's check
module _ (w : List ℕ) (i : ℕ) (g : Good w) (r : Option (ℕ × ℕ)) (e : r ≡ span (i ∷ []) (held w)) where
  pub by-missing : (tree : List ℕ) → r ≡ None → (edited_numbers (Err NoPosition), w) ≡ step_by w (remove_atoms_by i tree)
  unfolding step_by remove_atoms_by
  by-missing tree f = let b = missing 0 4 (i ∷ []) 0 (held w) (sym e ∙ f) in rw (g, b)

  module _ (start stop : ℕ) (f : r ≡ Some (start, stop)) where
    there : Stands 0 4 (i ∷ []) 0 (held w) start stop
    there = stands 0 4 (i ∷ []) 0 (held w) start stop (sym e ∙ f)

    -- the records below the model's own
    pub model-within : Within (start + 1) stop w
    model-within = below-within w g 0 3 (i ∷ []) (held w) start stop refl there

    pub by-refused : (tree : List ℕ) (t : Result (Unit {0})) → t ≡ checked (read_tree tree) → (c : Refusal) → t ≡ Err c
        → (edited_numbers (Err c), w) ≡ step_by w (remove_atoms_by i tree)
    unfolding step_by remove_atoms_by
    by-refused tree t h c q = rw (g, there.there, tree-refused (read_tree tree) c (sym h ∙ q))

    module _ (tree residues atoms : List ℕ) (a : residues ≡ tables.residues) (b : atoms ≡ tables.atoms) (to : ℕ) (s : List ℕ)
        (c : Compacted (staying residues atoms tree) (start + 1) stop w to s) where
      among : Compacted (kept (keeps_atom tables tree)) (start + 1) stop w to s
      among = subst (λ (n : Names). Compacted (kept (keeps_atom n tree)) (start + 1) stop w to s) (λ k. record { residues = a k; atoms = b k }) c

      pub by-gap : Laid s × (to ≤ stop) × (stop ≤ length (records_of s))
      by-gap = atoms-gap w g i start stop there (keeps_atom tables tree) to s among

      pub by-done : (t : Result (Unit {0})) → t ≡ checked (read_tree tree) → t ≡ Ok tt
          → (v : List ℕ) → v ≡ laid (length s) (concat (take to (records_of s) ++ drop stop (records_of s)))
          → (edited_numbers (Ok (record { found = 1; removed = (stop - to) })), v) ≡ step_by w (remove_atoms_by i tree)
      unfolding step_by remove_atoms_by keeps_atom
      by-done t h q v u =
          let l = atoms-laid w g i start stop there (keeps_atom tables tree) to s among v u in
          let n = atoms-removed w g i start stop there (keeps_atom tables tree) to s among in
          rw (g, there.there, tree-then (read_tree tree) _ (sym h ∙ q), n, l)
