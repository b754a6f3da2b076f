-- An edit after the layout check: what a refused store answers, and what the cores' contracts say of a call. Assumes nothing.
use Rattle.std.specs.Prelude.{Err, IsErrAnd, Option}
use Rattle.laws.specs.Exits.{exit-err}
use Rattle.machine.specs.declared.Edited.{Edited}
use Rattle.machine.specs.declared.RecordNumbers.{RecordNumbers}
use Prim.Native.Nat.{ℕ}
use mathlib.Core.Path.{◌≡◌, sym, ◌∙◌}
use mathlib.Core.List.{List, [], ◌∷◌}
use lib.ListN.{length}
use Rattle.machine.specs.Answer.{Result, edited_numbers, looked_up_numbers}
use Rattle.machine.specs.Text.{Optional}
use Rattle.machine.specs.Store.{Machine, read_store}
use Rattle.machine.specs.Edit.{
  Call,
  Change,
  Addition,
  AddModel,
  AddAtom,
  RemoveChain,
  RemoveResidue,
  RemoveConformer,
  RemoveAtom,
  RemoveChainById,
  RemoveResidueById,
  RemoveConformerById,
  RemoveAtomBySerialNumber,
  RemoveAtomsBy,
  RemoveEmpty,
  JoinModels,
  JoinChains,
  JoinResidues,
  JoinConformers,
  SetElement,
  add_model,
  prepare,
  add_prepared,
  remove_atoms_by,
  remove_empty,
  machine_step,
  step_by,
  store_step,
}
use Rattle.machine.specs.Lookup.{lookup_run}
use Rattle.machine.specs.declared.Refusal.{Refusal}
use Rattle.machine.specs.declared.PreparedAddition.{PreparedAddition}
use Rattle.store.specs.Store.{checked_by}
use Rattle.store.proofs.Laws.{refused-step, refused-lookup}
use Rattle.seek.specs.Seek.{held, Good}
use Rattle.removals.specs.Removal.{removal}
use Rattle.removals.specs.Named.{chain_by_id, residue_by_id, conformer_by_id, atom_by_serial_number}
use Rattle.joins.specs.Join.{join}
use Rattle.settings.specs.Set.{element_set}
use Rattle.lookup.specs.Level as Level

-- ---- on a refused store

module _ {c : Result ℕ} {r : Refusal} (w : List ℕ) (h : c ≡ checked_by (read_store w)) (e : c ≡ Err r) where
  module _ (a : Result Edited) (out : IsErrAnd a (λ x. x ≡ r)) where
    pub refused-by : (step : Machine → Result Change) → (edited_numbers a, w) ≡ step_by w step
    refused-by step = rw (exit-err a r out) (sym (refused-step w (sym e ∙ h) step))

    pub refused-call : (call : Call) → (edited_numbers a, w) ≡ store_step w call
    unfolding store_step
    refused-call call = refused-by (λ m. machine_step (length w) m call)

  pub refused-looked-up : (a : Result (Option RecordNumbers)) → IsErrAnd a (λ x. x ≡ r) → (serial : ℕ) (location : Optional) → looked_up_numbers a ≡ lookup_run w serial location
  refused-looked-up a out serial location = rw (exit-err a r out) (sym (refused-lookup w (sym e ∙ h) serial location))

-- ---- on a good store

pub looked-up : (w : List ℕ) (serial : ℕ) (location : Optional) (x : List ℕ) → Good w → x ≡ Level.lookup_numbers serial location (held w) → x ≡ lookup_run w serial location
unfolding lookup_run
looked-up w serial location x g e = rw g e

-- ---- the step that a core does is its call's

module _ {x : List ℕ × List ℕ} (w : List ℕ) (i c r f a : ℕ) where
  pub model-added : x ≡ step_by w (add_model (length w) i) → x ≡ store_step w (AddModel i)
  unfolding store_step machine_step
  model-added e = e

  pub atom-added : (new : Addition) (p : Result PreparedAddition) → p ≡ prepare new → x ≡ step_by w (add_prepared (length w) i p) → x ≡ store_step w (AddAtom i new)
  unfolding store_step machine_step
  atom-added new p d e = e ∙ rw d

  pub chain-removed : x ≡ step_by w (removal (i ∷ c ∷ [])) → x ≡ store_step w (RemoveChain i c)
  unfolding store_step machine_step
  chain-removed e = e

  pub residue-removed : x ≡ step_by w (removal (i ∷ c ∷ r ∷ [])) → x ≡ store_step w (RemoveResidue i c r)
  unfolding store_step machine_step
  residue-removed e = e

  pub conformer-removed : x ≡ step_by w (removal (i ∷ c ∷ r ∷ f ∷ [])) → x ≡ store_step w (RemoveConformer i c r f)
  unfolding store_step machine_step
  conformer-removed e = e

  pub atom-removed : x ≡ step_by w (removal (i ∷ c ∷ r ∷ f ∷ a ∷ [])) → x ≡ store_step w (RemoveAtom i c r f a)
  unfolding store_step machine_step
  atom-removed e = e

  pub chain-by-id : (id : List ℕ) → x ≡ step_by w (chain_by_id i id) → x ≡ store_step w (RemoveChainById i id)
  unfolding store_step machine_step
  chain-by-id id e = e

  pub residue-by-id : (serial : ℕ) (code : Optional) → x ≡ step_by w (residue_by_id i c serial code) → x ≡ store_step w (RemoveResidueById i c serial code)
  unfolding store_step machine_step
  residue-by-id serial code e = e

  pub conformer-by-id : (name : List ℕ) (location : Optional) → x ≡ step_by w (conformer_by_id i c r name location) → x ≡ store_step w (RemoveConformerById i c r name location)
  unfolding store_step machine_step
  conformer-by-id name location e = e

  pub atom-by-serial : (serial : ℕ) → x ≡ step_by w (atom_by_serial_number i c r f serial) → x ≡ store_step w (RemoveAtomBySerialNumber i c r f serial)
  unfolding store_step machine_step
  atom-by-serial serial e = e

  pub atoms-removed : (tree : List ℕ) → x ≡ step_by w (remove_atoms_by i tree) → x ≡ store_step w (RemoveAtomsBy i tree)
  unfolding store_step machine_step
  atoms-removed tree e = e

  pub empty-removed : x ≡ step_by w (remove_empty i) → x ≡ store_step w (RemoveEmpty i)
  unfolding store_step machine_step
  empty-removed e = e

  pub element-set : (element : ℕ) → x ≡ step_by w (element_set (i ∷ c ∷ r ∷ f ∷ a ∷ []) element) → x ≡ store_step w (SetElement i c r f a element)
  unfolding store_step machine_step
  element-set element e = e

module _ {x : List ℕ × List ℕ} (w : List ℕ) (i c r f i' c' r' f' : ℕ) where
  pub models-joined : x ≡ step_by w (join (i ∷ []) (i' ∷ [])) → x ≡ store_step w (JoinModels i i')
  unfolding store_step machine_step
  models-joined e = e

  pub chains-joined : x ≡ step_by w (join (i ∷ c ∷ []) (i' ∷ c' ∷ [])) → x ≡ store_step w (JoinChains i c i' c')
  unfolding store_step machine_step
  chains-joined e = e

  pub residues-joined : x ≡ step_by w (join (i ∷ c ∷ r ∷ []) (i' ∷ c' ∷ r' ∷ [])) → x ≡ store_step w (JoinResidues i c r i' c' r')
  unfolding store_step machine_step
  residues-joined e = e

  pub conformers-joined : x ≡ step_by w (join (i ∷ c ∷ r ∷ f ∷ []) (i' ∷ c' ∷ r' ∷ f' ∷ [])) → x ≡ store_step w (JoinConformers i c r f i' c' r' f')
  unfolding store_step machine_step
  conformers-joined e = e
