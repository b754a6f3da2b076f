-- "A result is 0 with its fields, or one of these": the refusals' numbers, and the numbers of every answer. Assumes nothing.
use Rattle.std.specs.Prelude.{ℕ, Bool, true, false, List, [], ◌∷◌, Err, None, Ok, Option, Some}
use Rattle.std.specs.declared.result.Result as Std
use Rattle.machine.specs.declared.Refusal.{Refusal}
use Rattle.machine.specs.declared.Refusal.TheVariants.{BadLength, BrokenLayout, TreeShape, TreeNode, NoPosition, BadIdentifier, BadValue, NoCapacity, JoinWithItself, ShortOutput, BadFile, TooWide, ShortText, BadInsertionCode, BadConformer, BadAtomName, BadText, BadList, ShortAnswers}
use Rattle.machine.specs.declared.Name.{Name}
use Rattle.machine.specs.declared.Name.TheVariants.{ChainId, InsertionCode, ConformerName, AlternativeLocation, AtomName}
use Rattle.machine.specs.declared.Edited.{Edited}
use Rattle.machine.specs.declared.RecordNumbers.{RecordNumbers}
use Rattle.machine.specs.declared.EditAnswer.{EditAnswer}
use Rattle.machine.specs.declared.FindAnswer.{FindAnswer}
use Rattle.machine.specs.declared.WriteAnswer.{WriteAnswer}
use Rattle.machine.specs.declared.ApplyAnswer.{ApplyAnswer}
use Rattle.machine.specs.declared.LookupAnswer.{LookupAnswer}

-- "Refusal numbers by their cause"; a list of edits as one call has two above those that document 02 names
abbrev pub refusal_number : Refusal → ℕ
refusal_number BadLength = 1
refusal_number BrokenLayout = 2
refusal_number TreeShape = 3
refusal_number TreeNode = 4
refusal_number NoPosition = 5
refusal_number BadIdentifier = 6
refusal_number BadValue = 7
refusal_number NoCapacity = 8
refusal_number JoinWithItself = 9
refusal_number ShortOutput = 10
refusal_number BadFile = 11
refusal_number TooWide = 12
refusal_number ShortText = 13
refusal_number BadInsertionCode = 14
refusal_number BadConformer = 15
refusal_number BadAtomName = 16
refusal_number BadText = 17
refusal_number BadList = 22
refusal_number ShortAnswers = 23

-- change request §2: "Keep 6 for the chain id only. A refused insertion code or its flag now has its own answer, so has a conformer name or an
-- alternative location with its flag, and so has an atom name."
abbrev pub bad_name : Name → Refusal
bad_name ChainId = BadIdentifier
bad_name InsertionCode = BadInsertionCode
bad_name ConformerName = BadConformer
bad_name AlternativeLocation = BadConformer
bad_name AtomName = BadAtomName

-- a value, or the refusal of the first check that fails
abbrev pub Result : Type 0 → Type 0
Result A = Std.Result A Refusal

-- the number of a result without fields
abbrev pub result_number : {A : Type 0} → Result A → ℕ
result_number (Ok x) = 0
result_number (Err r) = refusal_number r

-- "A refusal gives its number, zero in every other field"
abbrev pub opened_numbers : Result (Unit {0}) → List ℕ
opened_numbers r = result_number r ∷ []

abbrev pub edited_numbers : Result Edited → List ℕ
edited_numbers (Ok e) = 0 ∷ e.found ∷ e.removed ∷ []
edited_numbers (Err r) = refusal_number r ∷ 0 ∷ 0 ∷ []

-- the number of hits, the length of a text or the number of edits in a list; change request §1: "The result holds the text's length in bytes"
abbrev pub counted_numbers : Result ℕ → List ℕ
counted_numbers (Ok n) = 0 ∷ n ∷ []
counted_numbers (Err r) = refusal_number r ∷ 0 ∷ []

-- "found 1 and five record numbers, or found 0 and zeros"
abbrev pub looked_up_numbers : Result (Option RecordNumbers) → List ℕ
looked_up_numbers (Ok (Some h)) = 0 ∷ 1 ∷ h.model ∷ h.chain ∷ h.residue ∷ h.conformer ∷ h.atom ∷ []
looked_up_numbers (Ok None) = 0 ∷ 0 ∷ 0 ∷ 0 ∷ 0 ∷ 0 ∷ 0 ∷ []
looked_up_numbers (Err r) = refusal_number r ∷ 0 ∷ 0 ∷ 0 ∷ 0 ∷ 0 ∷ 0 ∷ []

-- an answer's fields, in the order of its numbers
abbrev pub edit_fields : EditAnswer → List ℕ
edit_fields e = e.result ∷ e.found ∷ e.removed ∷ []

abbrev pub find_fields : FindAnswer → List ℕ
find_fields f = f.result ∷ f.hits ∷ []

abbrev pub write_fields : WriteAnswer → List ℕ
write_fields w = w.result ∷ w.length ∷ []

abbrev pub apply_fields : ApplyAnswer → List ℕ
apply_fields a = a.result ∷ a.calls ∷ []

abbrev pub lookup_fields : LookupAnswer → List ℕ
lookup_fields l = l.result ∷ l.found ∷ l.model ∷ l.chain ∷ l.residue ∷ l.conformer ∷ l.atom ∷ []

infixl 10 ◌>>=◌ ◌>>◌
abbrev pub ◌>>=◌ : {A B : Type 0} → Result A → (A → Result B) → Result B
Ok x >>= f = f x
Err r >>= f = Err r

abbrev pub ◌>>◌ : {A B : Type 0} → Result A → Result B → Result B
Ok x >> b = b
Err r >> b = Err r

abbrev pub need : Bool → Refusal → Result (Unit {0})
need true r = Ok tt
need false r = Err r

-- "5 no such position"
abbrev pub position : {A : Type 0} → Option A → Result A
position None = Err NoPosition
position (Some x) = Ok x

-- the value, or what the refusal gives
abbrev pub if_refused : {A : Type 0} → (Refusal → A) → Result A → A
if_refused f (Ok x) = x
if_refused f (Err r) = f r
