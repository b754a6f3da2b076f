-- A list of edits as words (docs/FORMATS.md). A call is its code, the number of words that follow, and these: first its numbers, then
-- its parts, each a length and as many words. A part is a text, a byte to a word, or a tree. Assumes nothing.
use Rattle.std.specs.Prelude.{ℕ, zero, suc, ◌+◌, Bool, ◌&&◌, ◌||◌, cond, List, [], ◌∷◌, length, get_or, take, drop, leb, ltb, None, Option, Some, option_map}
use Rattle.machine.specs.Lists.{is_empty, all, and_then}
use Rattle.machine.specs.Text.{optional_of}
use Rattle.machine.specs.Edit.{
  Call,
  Addition,
  addition,
  AddModel,
  AddAtom,
  RemoveChain,
  RemoveResidue,
  RemoveConformer,
  RemoveAtom,
  RemoveChainById,
  RemoveResidueById,
  RemoveConformerById,
  RemoveAtomBySerialNumber,
  RemoveAtomsBy,
  RemoveEmpty,
  JoinModels,
  JoinChains,
  JoinResidues,
  JoinConformers,
  SetElement,
}

-- ---- the calls, in the order of `Call`: code 1 is the first row's

-- a call has so many numbers, so many texts, and behind these so many trees; they make the call, where n k is number k and p k part k
pub record Row : Type 0 where
  pub numbers : ℕ
  pub texts : ℕ
  pub trees : ℕ
  pub call : (ℕ → ℕ) → (ℕ → List ℕ) → Call

abbrev row : ℕ → ℕ → ℕ → ((ℕ → ℕ) → (ℕ → List ℕ) → Call) → Row
row numbers texts trees call = record { numbers = numbers; texts = texts; trees = trees; call = call }

abbrev addition_of : (ℕ → ℕ) → (ℕ → List ℕ) → Addition
addition_of n p =
    addition (p 0) (n 1) (optional_of (n 2) (p 1)) (p 2) (optional_of (n 3) (p 3)) (p 4)
    (record { serial = n 4; x = n 5; y = n 6; z = n 7; occupancy = n 8; b_factor = n 9; element = n 10; charge = n 11; hetero = n 12 })

unfoldable pub rows : List Row
rows =
    row 1 0 0 (λ n p. AddModel (n 0))
    ∷ row 13 5 0 (λ n p. AddAtom (n 0) (addition_of n p))
    ∷ row 2 0 0 (λ n p. RemoveChain (n 0) (n 1))
    ∷ row 3 0 0 (λ n p. RemoveResidue (n 0) (n 1) (n 2))
    ∷ row 4 0 0 (λ n p. RemoveConformer (n 0) (n 1) (n 2) (n 3))
    ∷ row 5 0 0 (λ n p. RemoveAtom (n 0) (n 1) (n 2) (n 3) (n 4))
    ∷ row 1 1 0 (λ n p. RemoveChainById (n 0) (p 0))
    ∷ row 4 1 0 (λ n p. RemoveResidueById (n 0) (n 1) (n 2) (optional_of (n 3) (p 0)))
    ∷ row 4 2 0 (λ n p. RemoveConformerById (n 0) (n 1) (n 2) (p 0) (optional_of (n 3) (p 1)))
    ∷ row 5 0 0 (λ n p. RemoveAtomBySerialNumber (n 0) (n 1) (n 2) (n 3) (n 4))
    ∷ row 1 0 1 (λ n p. RemoveAtomsBy (n 0) (p 0))
    ∷ row 1 0 0 (λ n p. RemoveEmpty (n 0))
    ∷ row 2 0 0 (λ n p. JoinModels (n 0) (n 1))
    ∷ row 4 0 0 (λ n p. JoinChains (n 0) (n 1) (n 2) (n 3))
    ∷ row 6 0 0 (λ n p. JoinResidues (n 0) (n 1) (n 2) (n 3) (n 4) (n 5))
    ∷ row 8 0 0 (λ n p. JoinConformers (n 0) (n 1) (n 2) (n 3) (n 4) (n 5) (n 6) (n 7))
    ∷ row 6 0 0 (λ n p. SetElement (n 0) (n 1) (n 2) (n 3) (n 4) (n 5))
    ∷ []

abbrev pub is_code : ℕ → Bool
is_code code = leb 1 code && leb code (length rows)

-- for a number that is no code, which no list has a call of
abbrev pub no_row : Row
no_row = row 0 0 0 (λ n p. AddModel 0)

abbrev pub row_of : ℕ → Row
row_of code = get_or (no_row ∷ rows) code no_row

abbrev pub shape_of : Row → List ℕ
shape_of r = r.numbers ∷ r.texts ∷ r.trees ∷ []

abbrev pub numbers_in : ℕ → ℕ
numbers_in code = (row_of code).numbers

abbrev pub texts_in : ℕ → ℕ
texts_in code = (row_of code).texts

abbrev pub trees_in : ℕ → ℕ
trees_in code = (row_of code).trees

abbrev pub parts_in : ℕ → ℕ
parts_in code = texts_in code + trees_in code

-- the call of a code with its numbers and its parts
unfoldable pub call_of : List ℕ → List (List ℕ) → ℕ → Call
call_of numbers parts code = (row_of code).call (λ (k : ℕ). get_or numbers k 0) (λ (k : ℕ). get_or parts k [])

-- ---- reading

abbrev pub is_byte : ℕ → Bool
is_byte n = ltb n 256

-- a part's words are bytes, unless it is a tree: trees come last, and so many parts come later
abbrev pub good_part : ℕ → ℕ → List ℕ → Bool
good_part trees later p = ltb later trees || all is_byte p

-- k parts and no word more
unfoldable pub read_parts : ℕ → ℕ → List ℕ → Option (List (List ℕ))
read_parts trees zero [] = Some []
read_parts trees zero (w ∷ ws) = None
read_parts trees (suc k) [] = None
read_parts trees (suc k) (n ∷ ws) =
    cond (leb n (length ws) && good_part trees k (take n ws)) (option_map (λ (ps : List (List ℕ)). take n ws ∷ ps) (read_parts trees k (drop n ws))) None

-- the call of a code and the words behind its header
unfoldable pub read_call : ℕ → List ℕ → Option Call
read_call code ws =
    let n = numbers_in code in
    cond (is_code code && leb n (length ws))
    (option_map (λ (ps : List (List ℕ)). call_of (take n ws) ps code) (read_parts (trees_in code) (parts_in code) (drop n ws)))
    None

-- a call has at most so many words behind its header
abbrev pub longest : ℕ
longest = 1024

-- the calls, one after another to the last word: a call has two words at least, so as many steps as there are words are enough
unfoldable pub calls_in : ℕ → List ℕ → Option (List Call)
calls_in zero ws = cond (is_empty ws) (Some []) None
calls_in (suc steps) ws =
    let n = get_or ws 1 0 in
    cond (is_empty ws) (Some [])
    (cond (leb (2 + n) (length ws) && leb n longest)
    (and_then (read_call (get_or ws 0 0) (take n (drop 2 ws))) (λ (c : Call). option_map (λ (cs : List Call). c ∷ cs) (calls_in steps (drop (2 + n) ws))))
    None)

abbrev pub read_calls : List ℕ → Option (List Call)
read_calls ws = calls_in (length ws) ws
