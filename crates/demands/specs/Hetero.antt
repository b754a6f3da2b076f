-- Change request §8, "The old answers that change": what is claimed of terms, trees and lists of hits, by what they were before the request. It is proved in
-- proofs/Hetero.antt. Assumes nothing.
-- A place is what is known of an atom and of what stands above it. Find from a start asks a tree at each atom with the kinds below the start known, a tree
-- removal with the atom alone known, and where a search turns back the levels above an atom are known: each is a place.
use Rattle.std.specs.Prelude.{ℕ, ◌≡◌, Bool, true, false, not, List, map, Err, None, Ok, Option, Some}
use Rattle.machine.specs.Lists.{is_some, any, filter}
use Rattle.machine.specs.Answer.{Result}
use Rattle.machine.specs.Kleene.{not_t, and_t, xor_t, is_hit, is_true}
use Rattle.machine.specs.Query.{Place, Names, window, known, member, among_residues, term_value, read_tree, tree_value}
use Rattle.machine.specs.Find.{Site, hits_among}
use Rattle.machine.specs.declared.Tri.{Tri}
use Rattle.machine.specs.declared.Tri.TheVariants.{False, True}
use Rattle.machine.specs.declared.Term.{Term}
use Rattle.machine.specs.declared.Term.TheVariants.{ModelSerialNumber, ModelSerialNumberRange, ChainId, ChainIdRange, ResidueSerialNumber, ResidueSerialNumberRange, ResidueInsertionCode, ResidueId, ConformerName, ConformerAlternativeLocation, ConformerId, AtomSerialNumber, AtomSerialNumberRange, AtomName, Element, BFactor, BFactorRange, Occupancy, OccupancyRange, Backbone, SideChain, Hetero}
use Rattle.machine.specs.declared.Node.{Node}
use Rattle.machine.specs.declared.Node.TheVariants.{Single, Binary, Not, Known}

-- ---- the two terms

-- what each makes of whether an atom's name is one of the backbone's; no other term is one of the two
abbrev pub side_of : Term → Option (Bool → Bool)
side_of (ModelSerialNumber n) = None
side_of (ModelSerialNumberRange a b) = None
side_of (ChainId n) = None
side_of (ChainIdRange a b) = None
side_of (ResidueSerialNumber n) = None
side_of (ResidueSerialNumberRange a b) = None
side_of (ResidueInsertionCode n) = None
side_of (ResidueId a b) = None
side_of (ConformerName n) = None
side_of (ConformerAlternativeLocation n) = None
side_of (ConformerId a b) = None
side_of (AtomSerialNumber n) = None
side_of (AtomSerialNumberRange a b) = None
side_of (AtomName n) = None
side_of (Element n) = None
side_of (BFactor x) = None
side_of (BFactorRange a b) = None
side_of (Occupancy x) = None
side_of (OccupancyRange a b) = None
side_of Backbone = Some (λ b. b)
side_of SideChain = Some not
side_of Hetero = None

abbrev pub is_side : Term → Bool
is_side t = is_some (side_of t)

-- whether a tree has one of them
abbrev pub asks_side : Node → Bool
asks_side (Single t) = is_side t
asks_side (Binary o) = false
asks_side Not = false
asks_side (Known b) = false

abbrev pub asks_sides : Result (List Node) → Bool
asks_sides (Ok ns) = any asks_side ns
asks_sides (Err r) = false

-- ---- before the request

-- the two went by the conformer's name and the atom's, as they do in the crate; the other terms had the values that they have
abbrev pub former_by : Names → Place → Option (Bool → Bool) → Tri → Tri
former_by names e None value = value
former_by names e (Some f) value = among_residues names e.conformer (known e.atom (λ a. f (member names.atoms a.name)))

abbrev pub former_value : Names → Place → Term → Tri
former_value names e t = former_by names e (side_of t) (term_value names e t)

-- the hits of a tree among some atoms, with the kinds from low on known
abbrev pub former_hits : Names → ℕ → List ℕ → List Site → List (List ℕ)
former_hits names low t atoms = map (λ s. s.numbers) (filter (λ s. is_hit (tree_value (former_value names (window low 5 s.place)) t)) atoms)

-- ---- what is claimed, by any names

pub record HeteroFirst (names : Names) : Type 0 where
  -- what the two are now: "And Not Hetero on both terms"
  pub sides : (e : Place) (t : Term) → is_side t ≡ true → term_value names e t ≡ and_t (former_value names e t) (not_t (term_value names e Hetero))
  -- "on a hetero atom Backbone and SideChain are false", under any name
  pub settles : (e : Place) → term_value names e Hetero ≡ True → (t : Term) → is_side t ≡ true → term_value names e t ≡ False
  -- "true before in one of the two": in exactly one where the conformer has one of the names, or isn't known; in none elsewhere
  pub was-true : (e : Place) → term_value names e Hetero ≡ True → xor_t (former_value names e Backbone) (former_value names e SideChain) ≡ among_residues names e.conformer True
  -- nothing else changes: where the atom isn't hetero, or isn't known, every tree has the value that it had
  pub same-atoms : (e : Place) → is_true (term_value names e Hetero) ≡ false → (t : List ℕ) → tree_value (term_value names e) t ≡ tree_value (former_value names e) t
  -- and a tree without the two has it everywhere
  pub same-trees : (t : List ℕ) → asks_sides (read_tree t) ≡ false → (e : Place) → tree_value (term_value names e) t ≡ tree_value (former_value names e) t
  -- so it lists what it listed, and any tree does so of the atoms that aren't hetero
  pub same_lists : (t : List ℕ) → asks_sides (read_tree t) ≡ false → (low : ℕ) (atoms : List Site) → hits_among names low t atoms ≡ former_hits names low t atoms
  pub same-hits : (low : ℕ) (t : List ℕ) (atoms : List Site) → let others = filter (λ s. not (is_true (term_value names s.place Hetero))) atoms in hits_among names low t others ≡ former_hits names low t others
