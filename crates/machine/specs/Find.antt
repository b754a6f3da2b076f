-- Document 01, "Trees and find": the stored atoms with their places, and find. Nothing here knows of pruning. Assumes nothing.
use Rattle.std.specs.Prelude.{ℕ, zero, suc, ◌+◌, ◌*◌, cond, List, [], ◌∷◌, ◌++◌, map, length, drop, leb, Err, None, Ok, Option, Some}
use Rattle.machine.specs.Lists.{filter, nth, concat_map, concat_map_from, and_then}
use Rattle.machine.specs.Answer.{Result, ◌>>=◌, ◌>>◌, position, counted_numbers}
use Rattle.machine.specs.Record.{Fields}
use Rattle.machine.specs.Store.{Branch, Machine, flat, read_store}
use Rattle.machine.specs.Kleene.{is_hit}
use Rattle.machine.specs.Query.{Place, Names, window, read_tree, tree_value, term_value, tables}
use Rattle.machine.specs.declared.Tri.{Tri}
use Rattle.machine.specs.declared.Refusal.TheVariants.{ShortOutput}

-- the record numbers from the model down, and what those records say
pub record Site : Type 0 where
  pub numbers : List ℕ
  pub place : Place

-- a place with the level k known too
unfoldable pub enter : (k : ℕ) → Fields k → Place → Place
enter zero a e = record { model = e.model; chain = e.chain; residue = e.residue; conformer = e.conformer; atom = Some a }
enter (suc zero) c e = record { model = e.model; chain = e.chain; residue = e.residue; conformer = Some c; atom = e.atom }
enter (suc (suc zero)) r e = record { model = e.model; chain = e.chain; residue = Some r; conformer = e.conformer; atom = e.atom }
enter (suc (suc (suc zero))) c e = record { model = e.model; chain = Some c; residue = e.residue; conformer = e.conformer; atom = e.atom }
enter (suc (suc (suc (suc zero)))) m e = record { model = Some m; chain = e.chain; residue = e.residue; conformer = e.conformer; atom = e.atom }
enter (suc (suc (suc (suc (suc k))))) u e = e

-- the site of record n, right below another
abbrev pub below : (k : ℕ) → ℕ → Fields k → Site → Site
below k n f s = record { numbers = s.numbers ++ (n ∷ []); place = enter k f s.place }

abbrev pub nowhere : Place
nowhere = record { model = None; chain = None; residue = None; conformer = None; atom = None }

-- above the models
abbrev pub top : Site
top = record { numbers = []; place = nowhere }

-- how many records a branch has
abbrev pub size : (k : ℕ) → Branch k → ℕ
size k t = length (flat k t)

-- branches with their record numbers, from n on
unfoldable pub numbered : (k : ℕ) → ℕ → List (Branch k) → List (ℕ × Branch k)
numbered k n [] = []
numbered k n (t ∷ ts) = (n, t) ∷ numbered k (n + size k t) ts

-- the atoms of a branch whose own record has number n, in hierarchy order
unfoldable pub atoms_in : (k : ℕ) → Site → ℕ → Branch k → List Site
atoms_in zero s n a = below zero n a s ∷ []
atoms_in (suc k) s n t = concat_map_from (size k) (atoms_in k (below (suc k) n t.0 s)) (suc n) t.1

-- "Stored atoms are those of the machine."
unfoldable pub atoms_of : Machine → List Site
atoms_of m = concat_map_from (size 4) (atoms_in 4 top) 0 m

-- change request §4: "stored atoms are then those under the start". A start is a position of none to four indexes, here among branches of level k that stand
-- under s and are numbered from n on; where nothing stands at it there is no list. "Hits still name all five records": a site has the numbers above it too
unfoldable pub atoms_under : (k : ℕ) → Site → ℕ → List ℕ → List (Branch k) → Option (List Site)
atoms_under k s n [] ts = Some (concat_map_from (size k) (atoms_in k s) n ts)
atoms_under zero s n (i ∷ is) ts = None
atoms_under (suc k) s n (i ∷ is) ts = and_then (nth i (numbered (suc k) n ts)) (λ t. atoms_under k (below (suc k) t.0 t.1.0 s) (suc t.0) is t.1.1)

-- the start with no index is the whole machine
abbrev pub atoms_from : List ℕ → Machine → Option (List Site)
atoms_from start m = atoms_under 4 top 0 start m

-- "Terms of the start's own level and above stay undecided": the first kind that is known. From a conformer its name isn't, so Backbone and SideChain go by the
-- atom alone
abbrev pub lowest : List ℕ → ℕ
lowest start = suc (length start)

-- "A tree's value at an atom comes from Kleene's tables", with the terms of the kinds from low on at their values there, and those above undecided
abbrev pub value_from : Names → ℕ → List ℕ → Site → Tri
value_from names low t s = tree_value (term_value names (window low 5 s.place)) t

-- "A hit is five words: the record numbers of model, chain, residue, conformer, atom."
abbrev pub hits_among : Names → ℕ → List ℕ → List Site → List (List ℕ)
hits_among names low t atoms = map (λ s. s.numbers) (filter (λ s. is_hit (value_from names low t s)) atoms)

-- the hits of a tree from a start; refused in the order 1, 2, 5, then the tree
unfoldable pub hits_from : List ℕ → List ℕ → List ℕ → Result (List (List ℕ))
hits_from w start t = do
  m ← read_store w
  atoms ← position (atoms_from start m)
  read_tree t
  Ok (hits_among tables (lowest start) t atoms)

-- on the whole store, "with the terms of all five levels at their values there"
abbrev pub hits_of : List ℕ → List ℕ → Result (List (List ℕ))
hits_of w t = hits_from w [] t

abbrev pub hit_words : List (List ℕ) → List ℕ
hit_words hs = concat_map (λ (h : List ℕ). h) hs

-- "10 output shorter than 5 words per hit", "Output words past the hits stay."
abbrev pub written : List ℕ → Result (List (List ℕ)) → List ℕ × List ℕ
written out (Err r) = (counted_numbers (Err r), out)
written out (Ok hs) =
    cond (leb (5 * length hs) (length out))
    (counted_numbers (Ok (length hs)), hit_words hs ++ drop (5 * length hs) out)
    (counted_numbers (Err ShortOutput), out)

-- find from a start: the answer's numbers, and the output's words afterwards
unfoldable pub find_from : List ℕ → List ℕ → List ℕ → List ℕ → List ℕ × List ℕ
find_from w start t out = written out (hits_from w start t)

-- find on the whole store
abbrev pub find_run : List ℕ → List ℕ → List ℕ → List ℕ × List ℕ
find_run w t out = find_from w [] t out
