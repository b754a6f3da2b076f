-- The second demand: "Elsewhere edits and hits equal the crate's on every input in its domain, and find equals Kleene's strong three-valued
-- reading." What is claimed stands here; it is proved in proofs/Demand.antt. Assumes nothing.
use Rattle.std.specs.Prelude.{◌≡◌, ℕ, zero, suc, ◌-◌, ◌≤◌, Bool, false, cond, List, [], ◌∷◌, ◌++◌, map, length, nat_le, slice_index, Ok, Some, Err}
use Rattle.machine.specs.Lists.{keep, filter, sum, same}
use Rattle.machine.specs.Answer.{edited_numbers}
use Rattle.machine.specs.Text.{trim}
use Rattle.machine.specs.Store.{stored, capacity, lay_out, open_run}
use Rattle.machine.specs.Kleene.{decided, not_t, apply_t}
use Rattle.machine.specs.Query.{read_tree, tree_value}
use Rattle.machine.specs.Find.{find_from}
use Rattle.machine.specs.Edit.{Addition, Call, AddModel, AddAtom, RemoveChain, RemoveResidue, RemoveConformer, RemoveAtom, RemoveChainById, RemoveResidueById, RemoveConformerById, RemoveAtomBySerialNumber, RemoveAtomsBy, RemoveEmpty, JoinModels, JoinChains, JoinResidues, JoinConformers, SetElement, store_step, store_after, store_answers}
use Rattle.machine.specs.Demand.{accepts, Accepted, list}
use Rattle.machine.specs.declared.Tri.{Tri}
use Rattle.machine.specs.declared.Term.{Term}
use Rattle.machine.specs.declared.Node.{Node}
use Rattle.machine.specs.declared.Node.TheVariants as Nodes
use Rattle.machine.specs.declared.Refusal.TheVariants.{NoCapacity}
use Rattle.pdbtbx.specs.Std.{Text}
use Rattle.pdbtbx.specs.Structs.{PDB, prepare_identifier_uppercase}
use Rattle.pdbtbx.specs.Words.{pdb_of, machine_from}
use Rattle.pdbtbx.specs.Search.{Search, Operator, Not, Single, Known}
use Rattle.pdbtbx.specs.Find.{count_of, find_at}
use Rattle.pdbtbx.specs.Calls.{search_of, search_for, edit, edits}

-- ---- trees and searches

-- "nodes in postfix order"
unfoldable pub postfix : Search Term → List Node
postfix (Operator o a b) = postfix a ++ (postfix b ++ (Nodes.Binary o ∷ []))
postfix (Not a) = postfix a ++ (Nodes.Not ∷ [])
postfix (Single t) = Nodes.Single t ∷ []
postfix (Known b) = Nodes.Known b ∷ []

-- "Kleene's strong three-valued reading" of a search, each term having the value that v gives it
unfoldable pub value : {T : Type 0} → (T → Tri) → Search T → Tri
value v (Operator o a b) = apply_t o (value v a) (value v b)
value v (Not a) = not_t (value v a)
value v (Single t) = v t
value v (Known b) = decided b

-- an accepted tree is the postfix form of its search, and has Kleene's value of it
pub record Reads (t : List ℕ) : Type 0 where
  pub nodes : read_tree t ≡ Ok (postfix (search_of t))
  pub kleene : (v : Term → Tri) → tree_value v t ≡ value v (search_of t)

-- ---- the domain

-- "identifiers of at most 8 bytes after trimming"
abbrev pub Short : Text → Type 0
Short t = length (trim t) ≤ 8

-- one that can be prepared is short; a location that can't be is absent, whatever its length
abbrev pub Fitting : Text → Type 0
Fitting t = (u : Text) → prepare_identifier_uppercase t ≡ Some u → Short t

-- an `Option` is absent or present, and what is present meets P
abbrev pub Flagged : ℕ → Type 0 → Type 0
Flagged zero P = Unit {0}
Flagged (suc zero) P = P
Flagged (suc (suc n)) P = ⊥

pub record Domain (a : Addition) : Type 0 where
  pub chain : Short a.chain
  pub code : Flagged a.code.flag (Short a.code.text)
  pub conformer : Short a.conformer
  pub location : Flagged a.location.flag (Fitting a.location.text)
  pub name : Short a.name
  -- an `Element`, a `bool`
  pub element : a.values.element ≤ 118
  pub hetero : a.values.hetero ≤ 1

-- beside "inputs on which the Rust doesn't panic": what Rust's types can say, with short identifiers; Rust can't join a thing with itself
abbrev pub InDomain : Call → Type 0
InDomain (AddModel serial) = Unit {0}
InDomain (AddAtom i a) = Domain a
InDomain (RemoveChain i c) = Unit {0}
InDomain (RemoveResidue i c r) = Unit {0}
InDomain (RemoveConformer i c r f) = Unit {0}
InDomain (RemoveAtom i c r f a) = Unit {0}
InDomain (RemoveChainById i id) = Unit {0}
InDomain (RemoveResidueById i c serial code) = Flagged code.flag (Unit {0})
InDomain (RemoveConformerById i c r name location) = Flagged location.flag (Unit {0})
InDomain (RemoveAtomBySerialNumber i c r f serial) = Unit {0}
InDomain (RemoveAtomsBy i tree) = Reads tree
InDomain (RemoveEmpty i) = Unit {0}
InDomain (JoinModels i i') = same (i ∷ []) (i' ∷ []) ≡ false
InDomain (JoinChains i c i' c') = same (i ∷ c ∷ []) (i' ∷ c' ∷ []) ≡ false
InDomain (JoinResidues i c r i' c' r') = same (i ∷ c ∷ r ∷ []) (i' ∷ c' ∷ r' ∷ []) ≡ false
InDomain (JoinConformers i c r f i' c' r' f') = same (i ∷ c ∷ r ∷ f ∷ []) (i' ∷ c' ∷ r' ∷ f' ∷ []) ≡ false
InDomain (SetElement i c r f a e) = (1 ≤ e) × (e ≤ 118)

-- ---- what is claimed: w is any words that opening accepts, and calls any list of edits, refused ones included

abbrev pub bit : Bool → ℕ
bit b = cond b 1 0

-- the field found of a result
abbrev pub found_by : List ℕ → ℕ
found_by numbers = slice_index numbers 1

-- the calls that were accepted, by their answers
unfoldable pub accepted_of : List Call → List (List ℕ) → List Call
accepted_of [] answers = []
accepted_of (c ∷ cs) [] = []
accepted_of (c ∷ cs) (a ∷ answers) = keep (accepts a) c (accepted_of cs answers)

-- a call that takes the crate from one structure to another, in a store of n words: the answer's numbers and the words afterwards, or refusal 8 where
-- the structure afterwards has no room
unfoldable pub outcome : ℕ → List ℕ → PDB → Bool → PDB → List ℕ × List ℕ
outcome n store pdb found after =
    cond (nat_le (sum (count_of 4) after) (capacity n))
    (edited_numbers (Ok (record { found = bit found; removed = stored (machine_from pdb) - stored (machine_from after) })), lay_out n (machine_from after))
    (edited_numbers (Err NoCapacity), store)

module _ (w : List ℕ) (calls : List Call) where
  -- the store after the calls, and their answers
  abbrev pub store : List ℕ
  store = store_after (open_run w).1 calls

  abbrev pub answers : List (List ℕ)
  answers = store_answers (open_run w).1 calls

  pub record Demand2 : Type 0 where
    -- the crate, given the accepted calls on an empty `PDB`, doesn't panic; what its calls return, and its structure afterwards
    pub bools : List Bool
    pub pdb : PDB
    pub ran : edits (accepted_of calls answers) [] ≡ Some (bools, pdb)
    -- the field found of each accepted result is what the crate's call returned
    pub founds : map found_by (filter accepts answers) ≡ map bit bools
    -- the store's words are the crate's structure, packed and laid out; its texts are the texts of those words, so packing lost nothing
    pub words : store ≡ lay_out (length w) (machine_from pdb)
    pub texts : pdb ≡ pdb_of (machine_from pdb)
    -- an accepted run of find, from any start, has a search of the crate's, and lists what the crate's `find` gives for it at that start: `PDB::find`, or the
    -- `find` of a model, a chain, a residue or a conformer. The search is given with And Not Hetero on Backbone and SideChain
    pub reads : (start t out : List ℕ) → Accepted (find_from store start t out) → Reads t
    pub hits : (start t out : List ℕ) → Accepted (find_from store start t out) → find_at start (search_for t) pdb ≡ Some (list (find_from store start t out))
    -- the other direction, for any call more: in the domain, what the crate takes the store takes, unless it has no room
    pub takes : (c : Call) → InDomain c → (found : Bool) (after : PDB) → edit c pdb ≡ Some (found, after) → store_step store c ≡ outcome (length w) store pdb found after
