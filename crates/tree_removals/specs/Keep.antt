-- What the contracts of `src/` cite: the atoms that a tree leaves in a model. Assumes nothing.
use Rattle.std.specs.Prelude.{ℕ, zero, Bool, not, List}
use Rattle.machine.specs.Record.{Words, Atom}
use Rattle.machine.specs.Kleene.{is_true}
use Rattle.machine.specs.Query.{Names, tree_value, term_value}
use Rattle.machine.specs.Find.{enter, nowhere}
use Rattle.empty_removals.specs.Prune.{kept}

-- a tree isn't true at an atom, where nothing is known of the levels above. "Undecided atoms stay."
unfoldable pub keeps_atom : Names → List ℕ → Atom → Bool
keeps_atom names tree a = not (is_true (tree_value (term_value names (enter zero a nowhere)) tree))

-- a record that stays, by lists of residue names and of atom names
abbrev pub staying : List ℕ → List ℕ → List ℕ → Words → Bool
staying residues atoms tree = kept (keeps_atom (record { residues = residues; atoms = atoms }) tree)
