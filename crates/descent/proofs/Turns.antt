-- A tree's value at the records where a pass stands, and the turn that it gives. Assumes nothing.
use Rattle.std.specs.Prelude.{Ok}
use Prim.Native.Nat.{ℕ, ◌≤◌, ◌<◌}
use mathlib.Core.Path.{◌≡◌, sym, ap, ◌∙◌}
use mathlib.Core.List.{List}
use native.Mathlib.Omega.{arith}
use Rattle.machine.specs.Query.{Place, Names, read_tree, tree_value, term_value}
use Rattle.machine.specs.declared.RecordNumbers.{RecordNumbers}
use Rattle.machine.specs.declared.Tri.{Tri}
use Rattle.machine.specs.declared.Tri.TheVariants.{False, True, Undecided}
use Rattle.laws.specs.Kleene.{◌⊑◌}
use Rattle.laws.specs.Trees.{tree-grows}
use Rattle.laws.specs.Windows.{term-grows}
use Rattle.terms.specs.Levels.{place_at, term_value_at}
use Rattle.search.specs.Nodes.{checked, topmost_from}
use Rattle.search.proofs.Topmost.{below-topmost}
use Rattle.descent.specs.Descent.{value_by, Settled, Turned}
use Rattle.descent.proofs.Sites.{entered_at, known-above}

module _ (w t : List ℕ) (low : ℕ) (residues atoms : List ℕ) where
  abbrev by : RecordNumbers → ℕ → Tri
  by = value_by w t low residues atoms

  true-grows : (x y : Tri) → x ⊑ y → x ≡ True → y ≡ True
  true-grows False y g e = cc
  true-grows True y g e = g
  true-grows Undecided y g e = cc

  -- true with some kinds known, so true with more
  stays : (at : RecordNumbers) (s k : ℕ) → s ≤ k → by at s ≡ True → by at k ≡ True
  stays at s k l =
      let names : Names = record { residues = residues; atoms = atoms } in
      true-grows (by at s) (by at k) (tree-grows (term_value_at w at low s residues atoms) (term_value_at w at low k residues atoms) (term-grows low s k l names (place_at w at)) t)

  -- a record below the one at which it is true is entered
  pub settled-entered : (s k n : ℕ) (at to : RecordNumbers) → to ≡ entered_at k n at → 1 ≤ k → k ≤ 5 → Settled (by at) s 5 → Settled (by to) s k
  settled-entered s k n at to e l h i b =
      rw e (ap (λ (p : Place). tree_value (term_value (record { residues = residues; atoms = atoms }) p) t) (sym (known-above w low s k n at l h b)) ∙ i (omega arith))

  module _ (at : RecordNumbers) (k : ℕ) where
    pub turn-settled : (s : ℕ) → Settled (by at) s k → s < k → Turned (by at) k (record { live = k; settled = s })
    turn-settled s i b = record { live = rw (stays at s k (omega arith) (i b)); settled = λ z. i b }

    -- no kind that is known is one that the tree asks for
    pub turn-quiet : (topmost : ℕ) → checked (read_tree t) ≡ Ok tt → topmost ≡ topmost_from 5 t → k < topmost → Turned (by at) k (record { live = k; settled = 5 })
    turn-quiet topmost good e h =
        let u = below-topmost w at low k residues atoms t good (rw (← e) h) in
        record { live = rw (← u); settled = λ z. absurd (omega arith) }
