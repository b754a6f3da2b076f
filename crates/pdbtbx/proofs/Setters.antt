-- A record's own fields set: the crate's call on a struct is document 01's on the branch's fields. Assumes nothing.
use Rattle.std.specs.Prelude.{None, Ok, Option, Some}
use Rattle.std.proofs.Common.{◌≡◌, ℕ, ◌≤◌, Bool, true, false, cond, eqb, List, [], ◌∷◌, sym, refl, ap, arith, ne_eqb, le-leb}
use Rattle.machine.specs.Lists.{is_some}
use Rattle.machine.specs.Record.{Fields, Atom}
use Rattle.machine.specs.Store.{Branch}
use Rattle.machine.specs.Edit.{up, branch_at, replace_at, with_fields, refielded, with_element, fill_in}
use Rattle.pdbtbx.specs.Words.{says_of, struct_of}
use Rattle.pdbtbx.specs.Calls.{fill_element}
use Rattle.pdbtbx.specs.Demand.{bit}
use Rattle.pdbtbx.proofs.Removals.{replace-self}

-- ---- at every level

-- a branch with other fields, or as it is
abbrev pub with_new : (j : ℕ) → Option (Fields j) → Branch j → Branch j
with_new j None t = t
with_new j (Some f) t = with_fields j f t

-- found 0 is the crate's false, and nothing changed
pub refielded-found : (d j : ℕ) (pos : List ℕ) (t : Branch j) (m : List (Branch (up d j))) → branch_at d j pos m ≡ Some t
    → (o : Option (Fields j)) → refielded d j pos t o m ≡ (bit (is_some o), replace_at d j pos (with_new j o t ∷ []) m)
refielded-found d j pos t m e None = ap (λ (l : List (Branch (up d j))). (0, l)) (sym (replace-self d j pos m t e))
refielded-found d j pos t m e (Some f) = refl

-- ---- an atom's element

-- what `fill_in` says of an atom, where the element is one
abbrev pub filled_in : ℕ → Atom → Option Atom
filled_in e a = cond (eqb a.element 0) (Some (with_element e a)) None

pub fill-in : (e : ℕ) → 1 ≤ e → e ≤ 118 → (a : Atom) → fill_in e a ≡ Ok (filled_in e a)
fill-in e l u a = rw (le-leb 1 e l, le-leb e 118 u)

pub fill-element : (e : ℕ) → 1 ≤ e → (a : Branch 0) → fill_element e (struct_of 0 a) ≡ Some (is_some (filled_in e a), struct_of 0 (with_new 0 (filled_in e a) a))
unfolding fill_element struct_of says_of
fill-element e l a = go (eqb a.element 0) refl
  where
    go : (b : Bool) → eqb a.element 0 ≡ b → fill_element e (struct_of 0 a) ≡ Some (is_some (cond b (Some (with_element e a)) None), struct_of 0 (with_new 0 (cond b (Some (with_element e a)) None) a))
    go true q = rw (q, ne_eqb e 0 (λ z. omega arith))
    go false q = rw q
