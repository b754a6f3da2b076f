-- Document 01, "Trees and find": a tree's nodes, its refusals, and its value. Assumes nothing.
use Rattle.std.specs.Prelude.{ℕ, zero, suc, ◌%◌, Bool, true, false, not, ◌&&◌, cond, List, [], ◌∷◌, ◌++◌, map, length, leb, eqb, ℤ, negsuc, Float, Err, None, Ok, Option, Some}
use Prim.Native.String.{String}
use Rattle.std.specs.Int.Signed.{le_z}
use Rattle.std.specs.Float.{nan, inf, fin, binary64}
use Rattle.std.specs.Float.Ieee.{of_bits, sub, lt, le}
use Rattle.std.specs.Int.{w64}
use Rattle.std.proofs.Common.{to_z}
use Rattle.machine.specs.Lists.{any, nth, and_then, bytes}
use Rattle.machine.specs.Answer.{Result, ◌>>=◌, ◌>>◌, need}
use Rattle.machine.specs.Text.{pack, packed_text}
use Rattle.machine.specs.Record.{Model, Chain, Residue, Conformer, Atom, is_element, read_out}
use Rattle.machine.specs.Kleene.{decided, not_t, apply_t}
use Rattle.machine.specs.declared.Tri.{Tri}
use Rattle.machine.specs.declared.Tri.TheVariants.{False, Undecided}
use Rattle.machine.specs.declared.Term.{Term}
use Rattle.machine.specs.declared.Term.TheVariants.{ModelSerialNumber, ModelSerialNumberRange, ChainId, ChainIdRange, ResidueSerialNumber, ResidueSerialNumberRange, ResidueInsertionCode, ResidueId, ConformerName, ConformerAlternativeLocation, ConformerId, AtomSerialNumber, AtomSerialNumberRange, AtomName, Element, BFactor, BFactorRange, Occupancy, OccupancyRange, Backbone, SideChain, Hetero}
use Rattle.machine.specs.declared.Ops.TheVariants.{And, Or, Xor}
use Rattle.machine.specs.declared.Node.{Node}
use Rattle.machine.specs.declared.Node.TheVariants.{Single, Binary, Not, Known}
use Rattle.machine.specs.declared.Refusal.TheVariants.{TreeShape, TreeNode}

-- ---- nodes

-- what p or q is: "Numbers are u64 or i64, texts packed, floats any f64 bits, elements 1..118", "unused ones are 0"
pub data Parameter : Type 0 where
  unused number text float element : Parameter

abbrev pub good_parameter : Parameter → ℕ → Bool
good_parameter unused w = eqb w 0
good_parameter number w = true
good_parameter text w = packed_text w
good_parameter float w = true
good_parameter element w = is_element w

pub record Code : Type 0 where
  pub p : Parameter
  pub q : Parameter
  pub node : ℕ → ℕ → Node

abbrev signed : ℕ → ℤ
signed w = to_z w64 w

abbrev real : ℕ → Float
real w = of_bits binary64 w

abbrev single : Parameter → Parameter → (ℕ → ℕ → Term) → Code
single p q term = record { p = p; q = q; node = λ v w. Single (term v w) }

abbrev plain_node : Node → Code
plain_node n = record { p = unused; q = unused; node = λ v w. n }

-- "Codes 1..22 are `Term`'s cases in source order; 23 And, 24 Or, 25 Xor, 26 Not, 27 known false, 28 known true."
unfoldable pub codes : List Code
codes =
    single number unused (λ p q. ModelSerialNumber p)
    ∷ single number number (λ p q. ModelSerialNumberRange p q)
    ∷ single text unused (λ p q. ChainId p)
    ∷ single text text (λ p q. ChainIdRange p q)
    ∷ single number unused (λ p q. ResidueSerialNumber (signed p))
    ∷ single number number (λ p q. ResidueSerialNumberRange (signed p) (signed q))
    ∷ single text unused (λ p q. ResidueInsertionCode p)
    ∷ single number text (λ p q. ResidueId (signed p) q)
    ∷ single text unused (λ p q. ConformerName p)
    ∷ single text unused (λ p q. ConformerAlternativeLocation p)
    ∷ single text text (λ p q. ConformerId p q)
    ∷ single number unused (λ p q. AtomSerialNumber p)
    ∷ single number number (λ p q. AtomSerialNumberRange p q)
    ∷ single text unused (λ p q. AtomName p)
    ∷ single element unused (λ p q. Element p)
    ∷ single float unused (λ p q. BFactor (real p))
    ∷ single float float (λ p q. BFactorRange (real p) (real q))
    ∷ single float unused (λ p q. Occupancy (real p))
    ∷ single float float (λ p q. OccupancyRange (real p) (real q))
    ∷ single unused unused (λ p q. Backbone)
    ∷ single unused unused (λ p q. SideChain)
    ∷ single unused unused (λ p q. Hetero)
    ∷ plain_node (Binary And)
    ∷ plain_node (Binary Or)
    ∷ plain_node (Binary Xor)
    ∷ plain_node Not
    ∷ plain_node (Known false)
    ∷ plain_node (Known true)
    ∷ []

abbrev pub code_at : ℕ → Option Code
code_at zero = None
code_at (suc c) = nth c codes

-- "4 unknown code or bad parameter"
unfoldable pub node_of : ℕ → ℕ → ℕ → Result Node
node_of c p q = elim (code_at c) [ None ↦ Err TreeNode | Some k ↦ cond (good_parameter k.p p && good_parameter k.q q) (Ok (k.node p q)) (Err TreeNode) ]

-- "3 words each: code, p, q"
unfoldable pub nodes_of : List ℕ → Result (List Node)
nodes_of [] = Ok []
nodes_of (c ∷ []) = Err TreeShape
nodes_of (c ∷ p ∷ []) = Err TreeShape
nodes_of (c ∷ p ∷ q ∷ rest) = do
  n ← node_of c p q
  ns ← nodes_of rest
  Ok (n ∷ ns)

-- ---- postfix order: operands on a stack, the upper one being the right one; none where an operand is missing

abbrev pub Stack : Type 0
Stack = Option (List Tri)

abbrev pub negate : List Tri → Stack
negate [] = None
negate (a ∷ s) = Some (not_t a ∷ s)

abbrev pub combine : (Tri → Tri → Tri) → List Tri → Stack
combine f [] = None
combine f (b ∷ []) = None
combine f (b ∷ a ∷ s) = Some (f a b ∷ s)

-- one node, each term having the value that v gives it
abbrev pub step : (Term → Tri) → Node → List Tri → Stack
step v (Single t) s = Some (v t ∷ s)
step v (Binary o) s = combine (apply_t o) s
step v Not s = negate s
step v (Known b) s = Some (decided b ∷ s)

unfoldable pub run : (Term → Tri) → List Node → List Tri → Stack
run v [] s = Some s
run v (n ∷ ns) s = and_then (step v n s) (run v ns)

abbrev pub is_one : Stack → Bool
is_one None = false
is_one (Some []) = false
is_one (Some (a ∷ [])) = true
is_one (Some (a ∷ b ∷ s)) = false

-- whether the nodes leave exactly one operand; that they then do so whatever the terms' values are is a law (`run-one`, `laws`, Trees)
unfoldable pub leaves_one : List Node → Bool
leaves_one ns = is_one (run (λ (t : Term). Undecided) ns [])

-- "3 length not 3 to 381 words in threes, or postfix doesn't leave exactly one operand", in the order length 3, nodes 4, shape 3
unfoldable pub read_tree : List ℕ → Result (List Node)
read_tree t = do
  need (leb 3 (length t) && leb (length t) 381 && eqb (length t % 3) 0) TreeShape
  ns ← nodes_of t
  need (leaves_one ns) TreeShape
  Ok ns

-- the one operand that is left; what isn't accepted as a tree has no value, and Undecided stands there
abbrev pub the_one : Stack → Tri
the_one None = Undecided
the_one (Some []) = Undecided
the_one (Some (a ∷ [])) = a
the_one (Some (a ∷ b ∷ s)) = Undecided

abbrev pub value_of : (Term → Tri) → Result (List Node) → Tri
value_of v (Ok ns) = the_one (run v ns [])
value_of v (Err r) = Undecided

-- "A tree's value": from Kleene's tables, each term having the value that v gives it
unfoldable pub tree_value : (Term → Tri) → List ℕ → Tri
tree_value v t = value_of v (read_tree t)

-- "The tree "A and B" is A's nodes, then B's, then a node 23; "A or B" ends in 24 instead; "not A" is A's nodes, then 26."
abbrev pub and_tree : List ℕ → List ℕ → List ℕ
and_tree A B = A ++ (B ++ (23 ∷ 0 ∷ 0 ∷ []))

abbrev pub or_tree : List ℕ → List ℕ → List ℕ
or_tree A B = A ++ (B ++ (24 ∷ 0 ∷ 0 ∷ []))

abbrev pub not_tree : List ℕ → List ℕ
not_tree A = A ++ (26 ∷ 0 ∷ 0 ∷ [])

-- ---- the terms' values

-- what is known of an atom and of what stands above it, level by level
pub record Place : Type 0 where
  pub model : Option Model
  pub chain : Option Chain
  pub residue : Option Residue
  pub conformer : Option Conformer
  pub atom : Option Atom

abbrev pub only_if : {A : Type 0} → Bool → Option A → Option A
only_if true o = o
only_if false o = None

abbrev pub between : ℕ → ℕ → ℕ → Bool
between low high n = leb low n && leb n high

-- a place with the kinds from low to high alone known
unfoldable pub window : ℕ → ℕ → Place → Place
window low high e =
    record {
      model = only_if (between low high 1) e.model;
      chain = only_if (between low high 2) e.chain;
      residue = only_if (between low high 3) e.residue;
      conformer = only_if (between low high 4) e.conformer;
      atom = only_if (between low high 5) e.atom;
    }

-- a test of a level that may be known
abbrev pub known : {A : Type 0} → Option A → (A → Bool) → Tri
known None f = Undecided
known (Some x) f = decided (f x)

unfoldable pub drop_sign : Float → Float
drop_sign nan = nan
drop_sign (inf s) = inf false
drop_sign (fin s m e) = fin false m e

-- "one rounded subtraction, sign dropped, strictly below 2^-52"
unfoldable pub close : Float → Float → Bool
close a b = lt (drop_sign (sub binary64 a b)) (fin false 1 (negsuc 51))

-- equality of signed numbers
abbrev pub same_z : ℤ → ℤ → Bool
same_z n m = le_z n m && le_z m n

-- "Ranges include both ends."
abbrev pub between_z : ℤ → ℤ → ℤ → Bool
between_z low high n = le_z low n && le_z n high

abbrev pub between_f : Float → Float → Float → Bool
between_f low high n = le low n && le n high

-- "Element on an atom without one is undecided."
abbrev pub element_is : ℕ → Option Atom → Tri
element_is n None = Undecided
element_is n (Some a) = cond (eqb a.element 0) Undecided (decided (eqb a.element n))

pub record Names : Type 0 where
  pub residues : List ℕ
  pub atoms : List ℕ

abbrev pub member : List ℕ → ℕ → Bool
member names w = any (eqb w) names

-- "false where the conformer's name isn't among the 31 of `AMINO_ACIDS`"; else, or where the conformer isn't known, the second argument
abbrev pub among_residues : Names → Option Conformer → Tri → Tri
among_residues names None t = t
among_residues names (Some c) t = cond (member names.residues c.name) t False

-- change request §8, of Backbone and SideChain: "Hetero goes first: on a hetero atom" both "are false"
abbrev pub hetero_first : Atom → Bool → Bool
hetero_first a asked = not (read_out a).hetero && asked

-- "Each term has its value at its level, as the five `optional_matches_` functions give it."
unfoldable pub term_value : Names → Place → Term → Tri
term_value names e (ModelSerialNumber n) = known e.model (λ m. eqb m.serial n)
term_value names e (ModelSerialNumberRange low high) = known e.model (λ m. between low high m.serial)
term_value names e (ChainId t) = known e.chain (λ c. eqb c.id t)
term_value names e (ChainIdRange low high) = known e.chain (λ c. between low high c.id)
term_value names e (ResidueSerialNumber n) = known e.residue (λ r. same_z n (signed r.serial))
term_value names e (ResidueSerialNumberRange low high) = known e.residue (λ r. between_z low high (signed r.serial))
term_value names e (ResidueInsertionCode t) = known e.residue (λ r. eqb r.code t)
term_value names e (ResidueId n t) = known e.residue (λ r. same_z n (signed r.serial) && eqb r.code t)
term_value names e (ConformerName t) = known e.conformer (λ c. eqb c.name t)
term_value names e (ConformerAlternativeLocation t) = known e.conformer (λ c. eqb c.location t)
term_value names e (ConformerId n t) = known e.conformer (λ c. eqb c.name n && eqb c.location t)
term_value names e (AtomSerialNumber n) = known e.atom (λ a. eqb a.serial n)
term_value names e (AtomSerialNumberRange low high) = known e.atom (λ a. between low high a.serial)
term_value names e (AtomName t) = known e.atom (λ a. eqb a.name t)
term_value names e (Element n) = element_is n e.atom
term_value names e (BFactor x) = known e.atom (λ a. close (read_out a).b_factor x)
term_value names e (BFactorRange low high) = known e.atom (λ a. between_f low high (read_out a).b_factor)
term_value names e (Occupancy x) = known e.atom (λ a. close (read_out a).occupancy x)
term_value names e (OccupancyRange low high) = known e.atom (λ a. between_f low high (read_out a).occupancy)
term_value names e Backbone = among_residues names e.conformer (known e.atom (λ a. hetero_first a (member names.atoms a.name)))
term_value names e SideChain = among_residues names e.conformer (known e.atom (λ a. hetero_first a (not (member names.atoms a.name))))
term_value names e Hetero = known e.atom (λ a. (read_out a).hetero)

-- ---- the crate's two tables

abbrev pub packed_name : String → ℕ
packed_name s = pack (bytes s)

-- `AMINO_ACIDS` and `BACKBONE_NAMES`
unfoldable pub tables : Names
tables =
    record {
      residues = map packed_name
          ("ALA" ∷ "ARG" ∷ "ASH" ∷ "ASN" ∷ "ASP" ∷ "ASX" ∷ "CYS" ∷ "CYX" ∷ "GLH" ∷ "GLN" ∷ "GLU" ∷ "GLY" ∷ "HID" ∷ "HIE" ∷ "HIM" ∷ "HIP" ∷ "HIS" ∷ "ILE" ∷ "LEU" ∷ "LYN" ∷ "LYS" ∷ "MET" ∷ "PHE" ∷ "PRO" ∷ "SER" ∷ "THR" ∷ "TRP" ∷ "TYR" ∷ "VAL" ∷ "SEC" ∷ "PYL" ∷ []);
      atoms = map packed_name ("N" ∷ "CA" ∷ "C" ∷ "O" ∷ "H" ∷ "H1" ∷ "H2" ∷ "H3" ∷ "HA" ∷ "HA2" ∷ "HA3" ∷ []);
    }
