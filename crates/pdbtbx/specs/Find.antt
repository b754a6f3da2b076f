-- pdbtbx 0.12.0: `PDB::find`, `Model::find`, `Chain::find`, `Residue::find` and `Conformer::find`, one function by level, and all five at a position.
-- Assumes nothing.
-- Levels count from the atom, 0; `find k` goes over a list of things of level k, so it is the `find` of what stands one level above.
use Rattle.std.specs.Prelude.{ℕ, zero, suc, Bool, true, false, not, List, [], ◌∷◌, map, None, Option, Some, option_map}
use Rattle.machine.specs.Lists.{filter, nth, concat_map, concat_map_from, sum, and_then}
use Rattle.machine.specs.declared.Term.{Term}
use Rattle.pdbtbx.specs.Std.{unwrap_or}
use Rattle.pdbtbx.specs.Structs.{Says, Struct, PDB}
use Rattle.pdbtbx.specs.Search.{Search, is_known, complete, add_info}
use Rattle.pdbtbx.specs.Matches.{matches_at}

-- something of level k: a number to refer to it by, what it says, and its children
abbrev pub Item : (ℕ → Type 0) → ℕ → Type 0
Item F zero = ℕ × F zero
Item F (suc k) = ℕ × F (suc k) × List (Item F k)

-- over any structs F and any `optional_matches_..`
module _ (F : ℕ → Type 0) {T : Type 0} (matches : (k : ℕ) → F k → T → Option Bool) where
  -- self.atoms().filter(move |a| search.add_atom_info(a).complete().unwrap_or(true)); and above the atoms
  -- self.models().map(move |m| (m, search.clone().add_model_info(m))).filter(|(_m, search)| !matches!(search, Search::Known(false)))
  --   .flat_map(move |(m, search)| m.find(search).map(move |h| h.extend(m)))
  unfoldable pub find : (k : ℕ) → Search T → List (Item F k) → List (List ℕ)
  find zero s items = map (λ (a : Item F zero). a.0 ∷ []) (filter (λ (a : Item F zero). unwrap_or true (complete (add_info (matches zero a.1) s))) items)
  find (suc k) s items =
      concat_map (λ (p : Item F (suc k) × Search T). map (λ (h : List ℕ). p.0.0 ∷ h) (find k p.1 p.0.2))
      (filter (λ (p : Item F (suc k) × Search T). not (is_known false (complete p.1)))
      (map (λ (m : Item F (suc k)). (m, add_info (matches (suc k) m.1) s)) items))

  -- the `find` of what stands at a position: its indexes go into pdb.models().nth(..), model.chains().nth(..), chain.residues().nth(..) and
  -- residue.conformers().nth(..), and none is a None of these. A hit of that `find` refers only to what stands below; the caller, who went down there, knows the
  -- start and what is above it, and their numbers are put before the hit's
  unfoldable pub find_under : (k : ℕ) → List ℕ → Search T → List (Item F k) → Option (List (List ℕ))
  find_under k [] s items = Some (find k s items)
  find_under zero (i ∷ is) s items = None
  find_under (suc k) (i ∷ is) s items = and_then (nth i items) (λ (m : Item F (suc k)). option_map (map (λ (h : List ℕ). m.0 ∷ h)) (find_under k is s m.2))

-- ---- on the crate's structure: a hit's references are told by the numbers of what they point to, in hierarchy order from 0

unfoldable pub count_of : (k : ℕ) → Struct k → ℕ
count_of zero a = 1
count_of (suc k) t = suc (sum (count_of k) t.1)

unfoldable pub item : (k : ℕ) → ℕ → Struct k → Item Says k
item zero n a = (n, a)
item (suc k) n t = (n, t.0, concat_map_from (count_of k) (λ i u. item k i u ∷ []) (suc n) t.1)

abbrev pub items : (k : ℕ) → ℕ → List (Struct k) → List (Item Says k)
items k n ts = concat_map_from (count_of k) (λ i t. item k i t ∷ []) n ts

-- the five: `PDB::find` with no index, `Model::find` with one, and so on down to `Conformer::find` with four
abbrev pub find_at : List ℕ → Search Term → PDB → Option (List (List ℕ))
find_at start s pdb = find_under Says matches_at 4 start s (items 4 0 pdb)
