-- Change request §9, "PDB lines in": the reader. Assumes nothing.
use Rattle.std.specs.Prelude.{ℕ, zero, suc, Bool, true, false, not, ◌&&◌, cond, List, [], ◌∷◌, ◌++◌, map, length, eqb, Err, None, Ok, Option, Some}
use Rattle.machine.specs.Lists.{is_empty, all, any}
use Rattle.machine.specs.Answer.{Result, ◌>>=◌, ◌>>◌, need, if_refused, opened_numbers}
use Rattle.machine.specs.Text.{Optional, optional_of, text_of}
use Rattle.machine.specs.Record.{Fields}
use Rattle.machine.specs.Store.{Branch, Machine, good_length, lay_out}
use Rattle.machine.specs.Edit.{Addition, addition, Call, AddModel, AddAtom, machine_step}
use Rattle.machine.specs.Lines.{AtomLine, Entry}
use Rattle.machine.specs.LinesIn.{read_text}
use Rattle.machine.specs.declared.Refusal.TheVariants.{BadLength, BadText}

-- ---- "builds by model and atom additions"

-- what is absent has the flag 0
abbrev pub given : ℕ → Optional
given w = optional_of (cond (eqb w 0) 0 1) (text_of w)

-- the addition of a line's atom
unfoldable pub addition_of : AtomLine → Addition
addition_of l =
    addition (text_of l.chain.id) l.residue.serial (given l.residue.code) (text_of l.conformer.name)
    (given l.conformer.location) (text_of l.atom.name)
    (record {
      serial = l.atom.serial;
      x = l.atom.x;
      y = l.atom.y;
      z = l.atom.z;
      occupancy = l.atom.occupancy;
      b_factor = l.atom.b_factor;
      element = l.atom.element;
      charge = l.atom.charge;
      hetero = l.atom.hetero;
    })

-- each model, then its atoms, where i models stand before them
unfoldable pub calls_from : ℕ → List Entry → List Call
calls_from i [] = []
calls_from i (e ∷ es) = AddModel e.model.serial ∷ (map (λ l. AddAtom i (addition_of l)) e.atoms ++ calls_from (suc i) es)

-- calls one after the other in a store of n words, up to the first that is refused
unfoldable pub run_calls : ℕ → Machine → List Call → Result Machine
run_calls n m [] = Ok m
run_calls n m (c ∷ cs) = do
  change ← machine_step n m c
  run_calls n change.after cs

-- ---- the call

-- "Any other text gives 17"
abbrev pub or_bad_text : Option (List Entry) → Result (List Entry)
or_bad_text None = Err BadText
or_bad_text (Some es) = Ok es

-- what a text gives in a store of n words: 1, "17, before 8"
unfoldable pub text_machine : ℕ → List ℕ → Result Machine
text_machine n t = do
  need (good_length n) BadLength
  es ← or_bad_text (read_text t)
  run_calls n [] (calls_from 0 es)

-- read_pdb: the answer's numbers, and the store's words afterwards. "The reader opens the store that it fills, so old words there aren't checked, and it
-- refuses without touching it."
unfoldable pub read_run : List ℕ → List ℕ → List ℕ × List ℕ
read_run t w =
    if_refused (λ r. (opened_numbers (Err r), w)) (do
      m ← text_machine (length w) t
      Ok (opened_numbers (Ok tt), lay_out (length w) m))

-- ---- the structures that come back as they were

-- equal ids of two conformers, residues or chains; models are told apart by their place
abbrev pub same_id : (k : ℕ) → Fields (suc k) → Fields (suc k) → Bool
same_id zero f g = eqb g.name f.name && eqb g.location f.location
same_id (suc zero) f g = eqb g.serial f.serial && eqb g.code f.code
same_id (suc (suc zero)) f g = eqb g.id f.id
same_id (suc (suc (suc k))) f g = false

-- "no two siblings have equal ids"
unfoldable pub distinct : (k : ℕ) → List (Branch (suc k)) → Bool
distinct k [] = true
distinct k (t ∷ ts) = not (any (λ u. same_id k t.0 u.0) ts) && distinct k ts

-- "no chain, residue or conformer is empty", in branches of level k and below
unfoldable pub tidy : (k : ℕ) → List (Branch k) → Bool
tidy zero atoms = true
tidy (suc k) ts = distinct k ts && all (λ t. not (is_empty t.1) && tidy k t.1) ts

-- "a structure in which no two siblings have equal ids, no chain, residue or conformer is empty"
abbrev pub tidy_machine : Machine → Bool
tidy_machine m = all (λ t. tidy 3 t.1) m
