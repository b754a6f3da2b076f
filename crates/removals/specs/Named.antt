-- What the removals by id cite: the records that an id names, and the machine's removal by a parent's position of any length.
-- Assumes nothing.
use Rattle.std.specs.Prelude.{ℕ, zero, suc, Bool, true, false, ◌&&◌, cond, List, [], ◌∷◌, length, get_or, eqb, Err, Ok}
use Rattle.machine.specs.Answer.{Result, need, bad_name}
use Rattle.machine.specs.Text.{Optional, good_flag, matches, matches_optional}
use Rattle.machine.specs.Record.{Words, Fields, kind}
use Rattle.machine.specs.Store.{Machine}
use Rattle.machine.specs.Edit.{Change, remove_first, with_found}
use Rattle.machine.specs.declared.Refusal.{Refusal}
use Rattle.machine.specs.declared.Refusal.TheVariants.{NoPosition}
use Rattle.machine.specs.declared.Name.TheVariants.{InsertionCode, AlternativeLocation}

-- an id as given: a residue's or an atom's serial number; a chain's or a conformer's name; a residue's code or a conformer's location
pub record Id : Type 0 where
  pub serial : ℕ
  pub name : List ℕ
  pub other : Optional

abbrev pub id_of : ℕ → List ℕ → ℕ → List ℕ → Id
id_of serial name flag text = record { serial = serial; name = name; other = record { flag = flag; text = text } }

-- ---- over the records

-- words 1 and 2 of a record of a kind are those of an id
unfoldable pub is_named : ℕ → Id → ℕ → ℕ → Bool
is_named kind id one two =
    cond (eqb kind 2) (matches id.name one)
    (cond (eqb kind 4) (matches id.name one && matches_optional id.other two)
    (eqb one id.serial && cond (eqb kind 3) (matches_optional id.other two) true))

-- a record of the kind that the id names
abbrev pub sought : ℕ → Id → Words → Bool
sought h id r = eqb (kind r) h && is_named h id (get_or r 1 0) (get_or r 2 0)

-- how many stand before the first at which p holds
unfoldable pub count_before : (Words → Bool) → List Words → ℕ
count_before p [] = 0
count_before p (r ∷ rs) = cond (p r) 0 (suc (count_before p rs))

-- ---- over the machine

-- the test of a child's fields, as the four calls have it
abbrev pub names : (j : ℕ) → Id → Fields j → Bool
names zero id a = eqb a.serial id.serial
names (suc zero) id f = matches id.name f.name && matches_optional id.other f.location
names (suc (suc zero)) id r = eqb r.serial id.serial && matches_optional id.other r.code
names (suc (suc (suc zero))) id c = matches id.name c.id
names (suc (suc (suc (suc j)))) id f = false

-- a residue's id has a flag for its code, a conformer's one for its location; a call that takes no flag has 0
abbrev pub bad_flag : ℕ → Refusal
bad_flag kind = cond (eqb kind 3) (bad_name InsertionCode) (bad_name AlternativeLocation)

abbrev pub flag_of : ℕ → Id → Result (Unit {0})
flag_of kind id = need (good_flag id.other) (bad_flag kind)

-- the parent's position has one index for a model, four for a conformer
abbrev pub first_on : ℕ → List ℕ → Id → Machine → Result (ℕ × Machine)
first_on zero pos id m = Err NoPosition
first_on (suc zero) pos id m = remove_first 0 3 pos (flag_of 2 id) (names 3 id) m
first_on (suc (suc zero)) pos id m = remove_first 1 2 pos (flag_of 3 id) (names 2 id) m
first_on (suc (suc (suc zero))) pos id m = remove_first 2 1 pos (flag_of 4 id) (names 1 id) m
first_on (suc (suc (suc (suc zero)))) pos id m = remove_first 3 0 pos (flag_of 5 id) (names 0 id) m
first_on (suc (suc (suc (suc (suc n))))) pos id m = Err NoPosition

abbrev pub first_removal : List ℕ → Id → Machine → Result Change
first_removal pos id m = with_found (first_on (length pos) pos id m)

-- ---- the four calls: the machine's steps

abbrev pub chain_by_id : ℕ → List ℕ → Machine → Result Change
chain_by_id i id m = with_found (remove_first 0 3 (i ∷ []) (Ok tt) (λ c. matches id c.id) m)

abbrev pub residue_by_id : (model chain : ℕ) → ℕ → Optional → Machine → Result Change
residue_by_id i c serial code m =
    with_found (remove_first 1 2 (i ∷ c ∷ []) (need (good_flag code) (bad_name InsertionCode)) (λ r. eqb r.serial serial && matches_optional code r.code) m)

abbrev pub conformer_by_id : (model chain residue : ℕ) → List ℕ → Optional → Machine → Result Change
conformer_by_id i c r name location m =
    with_found (remove_first 2 1 (i ∷ c ∷ r ∷ []) (need (good_flag location) (bad_name AlternativeLocation)) (λ f. matches name f.name && matches_optional location f.location) m)

abbrev pub atom_by_serial_number : (model chain residue conformer : ℕ) → ℕ → Machine → Result Change
atom_by_serial_number i c r f serial m = with_found (remove_first 3 0 (i ∷ c ∷ r ∷ f ∷ []) (Ok tt) (λ a. eqb a.serial serial) m)
