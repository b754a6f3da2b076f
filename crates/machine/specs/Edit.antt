-- Document 01, "Edits": the plain machine's calls, and a store's. Checks stand in the order of their refusals.
-- Assumes nothing.
use Rattle.std.specs.Prelude.{ℕ, zero, suc, ◌-◌, Bool, not, ◌&&◌, cond, List, [], ◌∷◌, ◌++◌, map, length, leb, eqb, Err, None, Ok, Option, Some}
use Rattle.machine.specs.Lists.{is_empty, filter, nth, splice, first_where, last_where, and_then, same}
use Rattle.machine.specs.Answer.{Result, ◌>>=◌, ◌>>◌, need, position, if_refused, bad_name, edited_numbers}
use Rattle.machine.specs.Text.{Optional, chain_id, insertion_code, conformer_name, alternative_location, atom_name, optional, good_flag, matches, matches_optional}
use Rattle.machine.specs.Record.{Fields, Atom, Conformer, Residue, Chain, is_element, good_values}
use Rattle.machine.specs.Store.{Branch, Machine, records, stored, capacity, lay_out, read_store}
use Rattle.machine.specs.Kleene.{is_true}
use Rattle.machine.specs.Query.{read_tree, tree_value, term_value, tables}
use Rattle.machine.specs.Find.{enter, nowhere}
use Rattle.machine.specs.declared.Prepared.{Prepared}
use Rattle.machine.specs.declared.Prepared.TheVariants.{Stored, Absent, Bad}
use Rattle.machine.specs.declared.Name.{Name}
use Rattle.machine.specs.declared.Name.TheVariants.{ChainId, InsertionCode, ConformerName, AlternativeLocation, AtomName}
use Rattle.machine.specs.declared.Refusal.TheVariants.{BadValue, NoCapacity, JoinWithItself}
use Rattle.machine.specs.declared.NewAtom.{NewAtom}
use Rattle.machine.specs.declared.PreparedAddition.{PreparedAddition}

-- ---- the calls, with their arguments other than the store

-- an atom to add: the ids of what it is put under, its name, and its values
pub record Addition : Type 0 where
  pub chain : List ℕ
  pub residue : ℕ
  pub code : Optional
  pub conformer : List ℕ
  pub location : Optional
  pub name : List ℕ
  pub values : NewAtom

abbrev pub addition : List ℕ → ℕ → Optional → List ℕ → Optional → List ℕ → NewAtom → Addition
addition chain residue code conformer location name values =
    record { chain = chain; residue = residue; code = code; conformer = conformer; location = location; name = name; values = values }

-- "The sixteen edit calls", and change request §6's. A position goes from the model down; texts and flags follow it
pub data Call : Type 0 where
  AddModel : (serial : ℕ) → Call
  AddAtom : (model : ℕ) → Addition → Call
  RemoveChain : (model chain : ℕ) → Call
  RemoveResidue : (model chain residue : ℕ) → Call
  RemoveConformer : (model chain residue conformer : ℕ) → Call
  RemoveAtom : (model chain residue conformer atom : ℕ) → Call
  RemoveChainById : (model : ℕ) → (id : List ℕ) → Call
  RemoveResidueById : (model chain : ℕ) → (serial : ℕ) → (code : Optional) → Call
  RemoveConformerById : (model chain residue : ℕ) → (name : List ℕ) → (location : Optional) → Call
  RemoveAtomBySerialNumber : (model chain residue conformer : ℕ) → (serial : ℕ) → Call
  RemoveAtomsBy : (model : ℕ) → (tree : List ℕ) → Call
  RemoveEmpty : (model : ℕ) → Call
  JoinModels : (first second : ℕ) → Call
  JoinChains : (model chain : ℕ) → (model' chain' : ℕ) → Call
  JoinResidues : (model chain residue : ℕ) → (model' chain' residue' : ℕ) → Call
  JoinConformers : (model chain residue conformer : ℕ) → (model' chain' residue' conformer' : ℕ) → Call
  SetElement : (model chain residue conformer atom : ℕ) → (element : ℕ) → Call

-- "Each result carries found", here with the machine afterwards
pub record Change : Type 0 where
  pub found : ℕ
  pub after : Machine

abbrev pub changed : Machine → Change
changed m = record { found = 1; after = m }

-- ---- positions: "A position is a list of indexes from 0."

-- d levels above level j
abbrev pub up : ℕ → ℕ → ℕ
up zero j = j
up (suc d) j = suc (up d j)

-- the branch of level j at a position, d levels down
unfoldable pub branch_at : (d j : ℕ) → List ℕ → List (Branch (up d j)) → Option (Branch j)
branch_at d j [] ts = None
branch_at zero j (i ∷ is) ts = nth i ts
branch_at (suc d) j (i ∷ is) ts = and_then (nth i ts) (λ t. branch_at d j is t.1)

-- that branch gives way to a list of branches
unfoldable pub replace_at : (d j : ℕ) → List ℕ → List (Branch j) → List (Branch (up d j)) → List (Branch (up d j))
replace_at d j [] new ts = ts
replace_at zero j (i ∷ is) new ts = splice i (λ t. new) ts
replace_at (suc d) j (i ∷ is) new ts = splice i (λ t. (t.0, replace_at d j is new t.1) ∷ []) ts

-- ---- additions

-- "8 records needed exceed capacity", in a store of n words
abbrev pub fits : ℕ → Machine → Result Change
fits n m = need (leb (length (records m)) (capacity n)) NoCapacity >> Ok (changed m)

-- "Add model: appended, given serial."
unfoldable pub add_model : ℕ → ℕ → Machine → Result Change
add_model n serial m = fits n (m ++ ((record { serial = serial }, []) ∷ []))

-- a name that is bad has its own refusal; what is absent is stored as 0
abbrev pub accept : Name → Prepared → Result ℕ
accept n (Stored w) = Ok w
accept n Absent = Ok 0
accept n Bad = Err (bad_name n)

-- "(chain, code, conformer, location, atom name)"; change request §2: "checked where 6 was checked for each"
unfoldable pub prepare : Addition → Result PreparedAddition
prepare a = do
  chain ← accept ChainId (chain_id a.chain)
  code ← accept InsertionCode (optional insertion_code a.code)
  conformer ← accept ConformerName (conformer_name a.conformer)
  location ← accept AlternativeLocation (optional alternative_location a.location)
  name ← accept AtomName (atom_name a.name)
  Ok (record { chain = chain; residue = a.residue; code = code; conformer = conformer; location = location; name = name; values = a.values })

-- the fields of what an addition may make anew
abbrev pub new_chain : PreparedAddition → Chain
new_chain p = record { id = p.chain }

abbrev pub new_residue : PreparedAddition → Residue
new_residue p = record { serial = p.residue; code = p.code }

abbrev pub new_conformer : PreparedAddition → Conformer
new_conformer p = record { name = p.conformer; location = p.location }

-- the values with a stored name
abbrev pub named_atom : NewAtom → ℕ → Atom
named_atom v name =
    record {
      serial = v.serial;
      name = name;
      x = v.x;
      y = v.y;
      z = v.z;
      occupancy = v.occupancy;
      b_factor = v.b_factor;
      element = v.element;
      charge = v.charge;
      hetero = v.hetero;
    }

abbrev pub new_atom : PreparedAddition → Atom
new_atom p = named_atom p.values p.name

pub data Which : Type 0 where
  first last : Which

abbrev pub pick : {A : Type 0} → Which → (A → Bool) → List A → Option ℕ
pick first p xs = first_where p xs
pick last p xs = last_where p xs

-- "What is missing is appended."
abbrev pub put_in : {A : Type 0} → Option ℕ → (A → A) → A → List A → List A
put_in None f new xs = xs ++ (new ∷ [])
put_in (Some i) f new xs = splice i (λ x. f x ∷ []) xs

-- the first or last branch whose fields p accepts has its children changed by f; where there is none, a new one gets them
unfoldable pub upsert : (k : ℕ) → Which → (Fields (suc k) → Bool) → Fields (suc k) → (List (Branch k) → List (Branch k)) → List (Branch (suc k)) → List (Branch (suc k))
upsert k w p new f ts = put_in (pick w (λ t. p t.0) ts) (λ t. (t.0, f t.1)) (new, f []) ts

-- "the FIRST conformer with the raised name and equal alternative location"; change request §3: "look for the prepared form"; "a location that is bad or
-- blank looks for an absent one", as it is stored as 0; "The atom is appended."
abbrev pub into_conformers : PreparedAddition → List (Branch 1) → List (Branch 1)
into_conformers p ts =
    upsert 0 first (λ c. eqb c.name p.conformer && eqb c.location p.location) (new_conformer p) (λ atoms. atoms ++ (new_atom p ∷ [])) ts

-- "the LAST residue whose serial and code equal the arguments", the code prepared
abbrev pub into_residues : PreparedAddition → List (Branch 2) → List (Branch 2)
into_residues p ts = upsert 1 last (λ r. eqb r.serial p.residue && eqb r.code p.code) (new_residue p) (into_conformers p) ts

-- "the FIRST chain with the trimmed id"
abbrev pub into_chains : PreparedAddition → List (Branch 3) → List (Branch 3)
into_chains p ts = upsert 2 first (λ c. eqb c.id p.chain) (new_chain p) (into_residues p) ts

-- an atom whose names are prepared, or refused: "5", then these, then "7" and "8"
unfoldable pub add_prepared : ℕ → ℕ → Result PreparedAddition → Machine → Result Change
add_prepared n i prepared m = do
  t ← position (branch_at 0 4 (i ∷ []) m)
  p ← prepared
  need (good_values (new_atom p)) BadValue
  fits n (replace_at 0 4 (i ∷ []) ((t.0, into_chains p t.1) ∷ []) m)

-- "Add atom, to a model"; change request §3: "An addition shall prepare code and alternative location first"
abbrev pub add_atom : ℕ → ℕ → Addition → Machine → Result Change
add_atom n i a m = add_prepared n i (prepare a) m

-- ---- removals

-- "Remove by position"
unfoldable pub remove_at : (d j : ℕ) → List ℕ → List (Branch (up d j)) → Result (List (Branch (up d j)))
remove_at d j pos m = do
  position (branch_at d j pos m)
  Ok (replace_at d j pos [] m)

abbrev pub root : (k : ℕ) → Branch k → Fields k
root zero a = a
root (suc k) t = t.0

-- the branch at a position with other children
abbrev pub with_children : (d j : ℕ) → List ℕ → Branch (suc j) → List (Branch j) → List (Branch (up d (suc j))) → List (Branch (up d (suc j)))
with_children d j pos t ts m = replace_at d (suc j) pos ((t.0, ts) ∷ []) m

-- "Remove the first by id within its parent": what stands at a position, without the child of index i. "None found: found 0"
abbrev pub without : (d j : ℕ) → List ℕ → Branch (suc j) → Option ℕ → List (Branch (up d (suc j))) → ℕ × List (Branch (up d (suc j)))
without d j pos t None m = (0, m)
without d j pos t (Some i) m = (1, with_children d j pos t (splice i (λ u. []) t.1) m)

-- the parent's position, what its flag gives, and the test of a child's fields
unfoldable pub remove_first : (d j : ℕ) → List ℕ → Result (Unit {0}) → (Fields j → Bool) → List (Branch (up d (suc j))) → Result (ℕ × List (Branch (up d (suc j))))
remove_first d j pos flag p m = do
  t ← position (branch_at d (suc j) pos m)
  flag
  Ok (without d j pos t (first_where (λ u. p (root j u)) t.1) m)

abbrev pub with_found : Result (ℕ × Machine) → Result Change
with_found r = r >>= λ c. Ok (record { found = c.0; after = c.1 })

-- without the atoms at which p is false
unfoldable pub keep_atoms : (k : ℕ) → (Atom → Bool) → List (Branch k) → List (Branch k)
keep_atoms zero p ts = filter p ts
keep_atoms (suc k) p ts = map (λ t. (t.0, keep_atoms k p t.1)) ts

-- "atoms at which a tree, with `add_atom_info` alone, is true: terms of the levels above are undecided"; "Undecided atoms stay."
unfoldable pub remove_atoms_by : ℕ → List ℕ → Machine → Result Change
remove_atoms_by i tree m = do
  t ← position (branch_at 0 4 (i ∷ []) m)
  read_tree tree
  Ok (changed (with_children 0 3 (i ∷ []) t (keep_atoms 3 (λ a. not (is_true (tree_value (term_value tables (enter zero a nowhere)) tree))) t.1) m))

-- "conformers without atoms, then residues without conformers, then chains without residues"
unfoldable pub non_empty : (k : ℕ) → List (Branch k) → List (Branch k)
non_empty zero ts = ts
non_empty (suc k) ts = filter (λ t. not (is_empty t.1)) (map (λ t. (t.0, non_empty k t.1)) ts)

unfoldable pub remove_empty : ℕ → Machine → Result Change
remove_empty i m = do
  t ← position (branch_at 0 4 (i ∷ []) m)
  Ok (changed (with_children 0 3 (i ∷ []) t (non_empty 3 t.1) m))

-- ---- joins: "the second's children are put after the first's, and the second's own record goes. Nothing is merged."

-- to put children in moves no position of the joined level, so the second is removed where it stood
unfoldable pub join_at : (d j : ℕ) → List ℕ → List ℕ → List (Branch (up d (suc j))) → Result (List (Branch (up d (suc j))))
join_at d j a b m = do
  t ← position (branch_at d (suc j) a m)
  u ← position (branch_at d (suc j) b m)
  need (not (same a b)) JoinWithItself
  Ok (replace_at d (suc j) b [] (with_children d j a t (t.1 ++ u.1) m))

abbrev pub with_machine : Result Machine → Result Change
with_machine r = r >>= λ m. Ok (changed m)

-- ---- one record's own fields

-- a branch with other fields
abbrev pub with_fields : (j : ℕ) → Fields j → Branch j → Branch j
with_fields zero f t = f
with_fields (suc k) f t = (f, t.1)

-- found 1 where the branch at a position gets other fields, and found 0 where it stays as it is
abbrev pub refielded : (d j : ℕ) → List ℕ → Branch j → Option (Fields j) → List (Branch (up d j)) → ℕ × List (Branch (up d j))
refielded d j pos t None m = (0, m)
refielded d j pos t (Some f) m = (1, replace_at d j pos (with_fields j f t ∷ []) m)

-- the position, then what f says of the fields there: a refusal, other fields, or none
unfoldable pub set_at : (d j : ℕ) → List ℕ → (Fields j → Result (Option (Fields j))) → List (Branch (up d j)) → Result (ℕ × List (Branch (up d j)))
set_at d j pos f m = do
  t ← position (branch_at d j pos m)
  o ← f (root j t)
  Ok (refielded d j pos t o m)

abbrev pub with_element : ℕ → Atom → Atom
with_element e a =
    record {
      serial = a.serial;
      name = a.name;
      x = a.x;
      y = a.y;
      z = a.z;
      occupancy = a.occupancy;
      b_factor = a.b_factor;
      element = e;
      charge = a.charge;
      hetero = a.hetero;
    }

-- change request §6: "an element outside 1 to 118 gives 7"; "Setting it where one is present changes nothing and gives found 0."
abbrev pub fill_in : ℕ → Atom → Result (Option Atom)
fill_in e a = need (is_element e) BadValue >> Ok (cond (eqb a.element 0) (Some (with_element e a)) None)

-- ---- one call

-- the machine, in a store of n words
unfoldable pub machine_step : ℕ → Machine → Call → Result Change
machine_step n m (AddModel serial) = add_model n serial m
machine_step n m (AddAtom i a) = add_atom n i a m
machine_step n m (RemoveChain i c) = with_machine (remove_at 1 3 (i ∷ c ∷ []) m)
machine_step n m (RemoveResidue i c r) = with_machine (remove_at 2 2 (i ∷ c ∷ r ∷ []) m)
machine_step n m (RemoveConformer i c r f) = with_machine (remove_at 3 1 (i ∷ c ∷ r ∷ f ∷ []) m)
machine_step n m (RemoveAtom i c r f a) = with_machine (remove_at 4 0 (i ∷ c ∷ r ∷ f ∷ a ∷ []) m)
machine_step n m (RemoveChainById i id) = with_found (remove_first 0 3 (i ∷ []) (Ok tt) (λ c. matches id c.id) m)
machine_step n m (RemoveResidueById i c serial code) =
    with_found (remove_first 1 2 (i ∷ c ∷ []) (need (good_flag code) (bad_name InsertionCode)) (λ r. eqb r.serial serial && matches_optional code r.code) m)
machine_step n m (RemoveConformerById i c r name location) =
    with_found (remove_first 2 1 (i ∷ c ∷ r ∷ []) (need (good_flag location) (bad_name AlternativeLocation)) (λ f. matches name f.name && matches_optional location f.location) m)
machine_step n m (RemoveAtomBySerialNumber i c r f serial) = with_found (remove_first 3 0 (i ∷ c ∷ r ∷ f ∷ []) (Ok tt) (λ a. eqb a.serial serial) m)
machine_step n m (RemoveAtomsBy i tree) = remove_atoms_by i tree m
machine_step n m (RemoveEmpty i) = remove_empty i m
machine_step n m (JoinModels i i') = with_machine (join_at 0 3 (i ∷ []) (i' ∷ []) m)
machine_step n m (JoinChains i c i' c') = with_machine (join_at 1 2 (i ∷ c ∷ []) (i' ∷ c' ∷ []) m)
machine_step n m (JoinResidues i c r i' c' r') = with_machine (join_at 2 1 (i ∷ c ∷ r ∷ []) (i' ∷ c' ∷ r' ∷ []) m)
machine_step n m (JoinConformers i c r f i' c' r' f') = with_machine (join_at 3 0 (i ∷ c ∷ r ∷ f ∷ []) (i' ∷ c' ∷ r' ∷ f' ∷ []) m)
machine_step n m (SetElement i c r f a e) = with_found (set_at 4 0 (i ∷ c ∷ r ∷ f ∷ a ∷ []) (fill_in e) m)

-- "removed, the atom records before minus those after; an addition gives removed 0", as natural numbers subtract
abbrev pub answer : Machine → Result Change → List ℕ
answer m (Ok c) = edited_numbers (Ok (record { found = c.found; removed = stored m - stored c.after }))
answer m (Err r) = edited_numbers (Err r)

-- "A refused call leaves it as it was"
abbrev pub next : Machine → Result Change → Machine
next m (Ok c) = c.after
next m (Err r) = m

-- an edit of a store, as the answer's numbers and the words afterwards: what the words hold takes a step, and is laid out again; a
-- refusal leaves the words
unfoldable pub step_by : List ℕ → (Machine → Result Change) → List ℕ × List ℕ
step_by w step =
    if_refused (λ r. (edited_numbers (Err r), w)) (do
      m ← read_store w
      c ← step m
      Ok (answer m (Ok c), lay_out (length w) c.after))

-- one of the calls
unfoldable pub store_step : List ℕ → Call → List ℕ × List ℕ
store_step w c = step_by w (λ m. machine_step (length w) m c)

-- ---- a list of calls: "Each call gets the store that the last one left"

unfoldable pub machine_after : ℕ → Machine → List Call → Machine
machine_after n m [] = m
machine_after n m (c ∷ cs) = machine_after n (next m (machine_step n m c)) cs

unfoldable pub machine_answers : ℕ → Machine → List Call → List (List ℕ)
machine_answers n m [] = []
machine_answers n m (c ∷ cs) = answer m (machine_step n m c) ∷ machine_answers n (next m (machine_step n m c)) cs

unfoldable pub store_after : List ℕ → List Call → List ℕ
store_after w [] = w
store_after w (c ∷ cs) = store_after (store_step w c).1 cs

unfoldable pub store_answers : List ℕ → List Call → List (List ℕ)
store_answers w [] = []
store_answers w (c ∷ cs) = (store_step w c).0 ∷ store_answers (store_step w c).1 cs
