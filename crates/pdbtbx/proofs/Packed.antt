-- A machine that a store can hold is what its structure packs to. Assumes nothing.
use Rattle.std.specs.Prelude.{None, Some}
use Rattle.std.proofs.Common.{◌≡◌, ℕ, zero, suc, ◌≤◌, Bool, true, false, cond, ◌&&◌, eqb, leb, List, [], ◌∷◌, map, sym, refl, ap₂, arith, eqb-true, leb-true}
use Rattle.machine.specs.Lists.{all}
use Rattle.machine.specs.Text.{text_of, stored_by, atom_name}
use Rattle.machine.specs.Record.{Fields, finite, good_values, good_fields}
use Rattle.machine.specs.Store.{Branch, Machine}
use Rattle.laws.specs.Lists.{and_both}
use Rattle.laws.specs.Good.{good_branch}
use Rattle.laws.specs.Packing.{pack-text_of}
use Rattle.pdbtbx.specs.Words.{option_string, option_element, says_of, struct_of, pdb_of, pack_option, element_word, fields_from, branch_from, machine_from}

option_back : (w : ℕ) → pack_option (option_string w) ≡ w
option_back w = go (eqb w 0) refl
  where
    go : (b : Bool) → eqb w 0 ≡ b → pack_option (cond b None (Some (text_of w))) ≡ w
    go true e = sym (eqb-true w 0 e)
    go false e = pack-text_of w

element-back : (w : ℕ) → element_word (option_element w) ≡ w
element-back w = go (eqb w 0) refl
  where
    go : (b : Bool) → eqb w 0 ≡ b → element_word (cond b None (Some w)) ≡ w
    go true e = sym (eqb-true w 0 e)
    go false e = refl

bit-back : (h : ℕ) → h ≤ 1 → cond (eqb h 1) 1 0 ≡ h
bit-back zero l = refl
bit-back (suc zero) l = refl
bit-back (suc (suc h)) l = absurd (omega arith)

good-hetero : (a : Fields zero) → good_fields zero a ≡ true → a.hetero ≤ 1
unfolding good_fields good_values
good-hetero a h = leb-true a.hetero 1 (and_both (all finite (a.x ∷ a.y ∷ a.z ∷ a.occupancy ∷ a.b_factor ∷ []) && leb a.element 118) (leb a.hetero 1) (and_both (stored_by atom_name a.name) (good_values a) h).1).1

fields_back : (k : ℕ) → k ≤ 4 → (f : Fields k) → good_fields k f ≡ true → fields_from k (says_of k f) ≡ f
unfolding fields_from says_of
fields_back zero l a g =
    let h = good-hetero a g in
    λ i. record {
      serial = a.serial;
      name = pack-text_of a.name i;
      x = a.x;
      y = a.y;
      z = a.z;
      occupancy = a.occupancy;
      b_factor = a.b_factor;
      element = element-back a.element i;
      charge = a.charge;
      hetero = bit-back a.hetero h i;
    }
fields_back (suc zero) l c g = λ i. record { name = pack-text_of c.name i; location = option_back c.location i }
fields_back (suc (suc zero)) l r g = λ i. record { serial = r.serial; code = option_back r.code i }
fields_back (suc (suc (suc zero))) l c g = λ i. record { id = pack-text_of c.id i }
fields_back (suc (suc (suc (suc zero)))) l m g = refl
fields_back (suc (suc (suc (suc (suc k))))) l u g = absurd (omega arith)

map_back : {A B : Type 0} (f : B → A) (u : A → B) (p : A → Bool) → ((x : A) → p x ≡ true → f (u x) ≡ x) → (xs : List A) → all p xs ≡ true → map f (map u xs) ≡ xs
map_back f u p h [] g = refl
map_back f u p h (x ∷ xs) g = let b = and_both (p x) (all p xs) g in ap₂ ◌∷◌ (h x b.0) (map_back f u p h xs b.1)

branch_back : (k : ℕ) → k ≤ 4 → (t : Branch k) → good_branch k t ≡ true → branch_from k (struct_of k t) ≡ t
unfolding branch_from struct_of good_branch
branch_back zero l t g = fields_back zero l t g
branch_back (suc k) l t g =
    let b = and_both (good_fields (suc k) t.0) (all (good_branch k) t.1) g in
    λ i. (fields_back (suc k) l t.0 b.0 i, map_back (branch_from k) (struct_of k) (good_branch k) (branch_back k (omega arith)) t.1 b.1 i)

-- a machine that a store can hold is what its structure packs to
pub machine-back : (m : Machine) → all (good_branch 4) m ≡ true → machine_from (pdb_of m) ≡ m
machine-back m g = map_back (branch_from 4) (struct_of 4) (good_branch 4) (branch_back 4 (omega arith)) m g
