-- The edits and trees given to pdbtbx 0.12.0: for each, the crate's own call. Assumes nothing.
use Rattle.std.specs.Prelude.{ℕ, zero, suc, Bool, true, false, cond, ◌&&◌, List, [], ◌∷◌, ◌==◌, Err, None, Ok, Option, Some, option_map}
use Rattle.machine.specs.Lists.{same, and_then}
use Rattle.machine.specs.Answer.{Result}
use Rattle.machine.specs.Text.{Optional}
use Rattle.machine.specs.Query.{read_tree}
use Rattle.machine.specs.Edit.{Addition, Call, AddModel, AddAtom, RemoveChain, RemoveResidue, RemoveConformer, RemoveAtom, RemoveChainById, RemoveResidueById, RemoveConformerById, RemoveAtomBySerialNumber, RemoveAtomsBy, RemoveEmpty, JoinModels, JoinChains, JoinResidues, JoinConformers, SetElement}
use Rattle.machine.specs.declared.Term.{Term}
use Rattle.machine.specs.declared.Term.TheVariants.{Hetero}
use Rattle.machine.specs.declared.Ops.TheVariants.{And}
use Rattle.machine.specs.declared.Node.{Node}
use Rattle.machine.specs.declared.Node.TheVariants as Nodes
use Rattle.demands.specs.Hetero.{is_side}
use Rattle.pdbtbx.specs.Std.{Text, same_option, is_none, Answer}
use Rattle.pdbtbx.specs.Structs.{Atom, Struct, PDB, prepare_identifier_uppercase}
use Rattle.pdbtbx.specs.Words.{option_element}
use Rattle.pdbtbx.specs.Search.{Search, Operator, Not, Single, Known, is_known, complete, add_info}
use Rattle.pdbtbx.specs.Matches.{matches_at}
use Rattle.pdbtbx.specs.Edits.{Arguments, add_atom, add_model, at_position, remove_at, remove_by_id, remove_atoms_by, remove_empty, join_at, set_element}

-- ---- arguments

-- an optional argument as an `Option<&str>`; a flag above 1 has none, and is refused
abbrev pub present : ℕ → Text → Option Text
present zero t = None
present (suc n) t = Some t

abbrev pub option_of : Optional → Option Text
option_of o = present o.flag o.text

-- change request §3: "The oracle is from now on given prepared codes and locations." A code that can't be prepared is given as it is, which is a panic
abbrev pub or_given : Text → Option Text → Text
or_given t None = t
or_given t (Some u) = u

abbrev pub prepared_code : Optional → Option Text
prepared_code o = option_map (λ t. or_given t (prepare_identifier_uppercase t)) (option_of o)

-- "a location that is bad or blank looks for an absent one"
abbrev pub prepared_location : Optional → Option Text
prepared_location o = and_then (option_of o) prepare_identifier_uppercase

abbrev pub arguments_of : Addition → Arguments
arguments_of a =
    record {
      chain = a.chain;
      residue = a.residue;
      code = prepared_code a.code;
      conformer = a.conformer;
      location = prepared_location a.location;
      hetero = (a.values.hetero == 1);
      serial = a.values.serial;
      name = a.name;
      x = a.values.x;
      y = a.values.y;
      z = a.values.z;
      occupancy = a.values.occupancy;
      b_factor = a.values.b_factor;
      element = option_element a.values.element;
      charge = a.values.charge;
    }

-- ---- a tree's nodes as a `Search`: operands on a stack, the upper one being the right one

abbrev pub Searches : Type 0
Searches = Option (List (Search Term))

unfoldable pub push : Node → List (Search Term) → Searches
push (Nodes.Single t) st = Some (Single t ∷ st)
push (Nodes.Known b) st = Some (Known b ∷ st)
push Nodes.Not [] = None
push Nodes.Not (a ∷ st) = Some (Not a ∷ st)
push (Nodes.Binary o) [] = None
push (Nodes.Binary o) (b ∷ []) = None
push (Nodes.Binary o) (b ∷ a ∷ st) = Some (Operator o a b ∷ st)

unfoldable pub build : List Node → List (Search Term) → Searches
build [] st = Some st
build (n ∷ ns) st = and_then (push n st) (build ns)

-- what isn't accepted as a tree is given to no call; Known(false) stands there
abbrev pub the_search : Searches → Search Term
the_search None = Known false
the_search (Some []) = Known false
the_search (Some (s ∷ [])) = s
the_search (Some (b ∷ a ∷ st)) = Known false

abbrev pub search_in : Result (List Node) → Search Term
search_in (Ok ns) = the_search (build ns [])
search_in (Err r) = Known false

unfoldable pub search_of : List ℕ → Search Term
search_of t = search_in (read_tree t)

-- change request §8: "The crate's side of the comparison gets And Not Hetero on both terms."
abbrev pub asked_by : Bool → Term → Search Term
asked_by true t = Operator And (Single t) (Not (Single Hetero))
asked_by false t = Single t

abbrev pub asked : Term → Search Term
asked t = asked_by (is_side t) t

unfoldable pub given : Search Term → Search Term
given (Operator o a b) = Operator o (given a) (given b)
given (Not a) = Not (given a)
given (Single t) = asked t
given (Known b) = Known b

-- the search that the crate is given for a tree
abbrev pub search_for : List ℕ → Search Term
search_for t = given (search_of t)

-- ---- the calls

-- |a| search.add_atom_info(a).complete() == Some(true)
abbrev pub chosen : Search Term → Atom → Bool
chosen s a = is_known true (complete (add_info (matches_at zero a) s))

-- chain.id() == id, residue.id() == id, conformer.id() == id, atom.serial_number() == serial_number
abbrev pub same_chain : Text → Struct 3 → Bool
same_chain id c = same c.0.id id

abbrev pub same_residue : ℕ → Option Text → Struct 2 → Bool
same_residue serial code r = r.0.serial == serial && same_option r.0.code code

abbrev pub same_conformer : Text → Option Text → Struct 1 → Bool
same_conformer name location f = same f.0.name name && same_option f.0.location location

abbrev pub same_atom : ℕ → Struct 0 → Bool
same_atom serial a = a.serial == serial

-- change request §6: "Setting it where one is present changes nothing and gives found 0." The crate's method overwrites, so it is asked where there
-- is none: if atom.element().is_none() { atom.set_element(element); true } else { false }
unfoldable pub fill_element : ℕ → Struct 0 → Answer (Struct 0)
fill_element element atom = cond (is_none atom.element) (Some (true, set_element element atom)) (Some (false, atom))

unfoldable pub edit : Call → PDB → Answer PDB
edit (AddModel serial) pdb = add_model serial pdb
edit (AddAtom i a) pdb = add_atom i (arguments_of a) pdb
edit (RemoveChain i c) pdb = remove_at 1 3 (i ∷ c ∷ []) pdb
edit (RemoveResidue i c r) pdb = remove_at 2 2 (i ∷ c ∷ r ∷ []) pdb
edit (RemoveConformer i c r f) pdb = remove_at 3 1 (i ∷ c ∷ r ∷ f ∷ []) pdb
edit (RemoveAtom i c r f a) pdb = remove_at 4 0 (i ∷ c ∷ r ∷ f ∷ a ∷ []) pdb
edit (RemoveChainById i id) pdb = at_position 0 4 (i ∷ []) (remove_by_id 3 (same_chain id)) pdb
edit (RemoveResidueById i c serial code) pdb = at_position 1 3 (i ∷ c ∷ []) (remove_by_id 2 (same_residue serial (option_of code))) pdb
edit (RemoveConformerById i c r name location) pdb = at_position 2 2 (i ∷ c ∷ r ∷ []) (remove_by_id 1 (same_conformer name (option_of location))) pdb
edit (RemoveAtomBySerialNumber i c r f serial) pdb = at_position 3 1 (i ∷ c ∷ r ∷ f ∷ []) (remove_by_id 0 (same_atom serial)) pdb
edit (RemoveAtomsBy i tree) pdb = at_position 0 4 (i ∷ []) (λ (m : Struct 4). Some (true, (m.0, remove_atoms_by 3 (chosen (search_for tree)) m.1))) pdb
edit (RemoveEmpty i) pdb = at_position 0 4 (i ∷ []) (λ (m : Struct 4). Some (true, remove_empty 2 m)) pdb
edit (JoinModels i i') pdb = join_at 0 3 (i ∷ []) (i' ∷ []) pdb
edit (JoinChains i c i' c') pdb = join_at 1 2 (i ∷ c ∷ []) (i' ∷ c' ∷ []) pdb
edit (JoinResidues i c r i' c' r') pdb = join_at 2 1 (i ∷ c ∷ r ∷ []) (i' ∷ c' ∷ r' ∷ []) pdb
edit (JoinConformers i c r f i' c' r' f') pdb = join_at 3 0 (i ∷ c ∷ r ∷ f ∷ []) (i' ∷ c' ∷ r' ∷ f' ∷ []) pdb
edit (SetElement i c r f a e) pdb = at_position 4 0 (i ∷ c ∷ r ∷ f ∷ a ∷ []) (fill_element e) pdb

-- one call after another, none of which panics: what they return, and the structure afterwards
unfoldable pub edits : List Call → PDB → Option (List Bool × PDB)
edits [] pdb = Some ([], pdb)
edits (c ∷ cs) pdb = and_then (edit c pdb) (λ r. and_then (edits cs r.1) (λ q. Some (r.0 ∷ q.0, q.1)))
