-- Three calls as words, and lists that are none. Assumes nothing.
use Rattle.std.specs.Prelude.{Some}
use Prim.Native.Nat.{ℕ, suc}
use mathlib.Core.Path.{◌≡◌, refl}
use mathlib.Core.Bool.{true, false}
use mathlib.Core.List.{List, [], ◌∷◌}
use lib.ListN.{length, replicate}
use Rattle.machine.specs.Lists.{is_some, any, all}
use Rattle.machine.specs.Edit.{Call, RemoveResidueById, RemoveAtomsBy, JoinModels}
use Rattle.calls.specs.Format.{rows, read_parts, call_of, read_call, calls_in, read_calls}
use Rattle.calls.proofs.Writing.{form_of, write_calls}

abbrev three : List Call
three = RemoveResidueById 0 1 26 (record { flag = 1; text = 65 ∷ 66 ∷ [] }) ∷ JoinModels 0 2 ∷ RemoveAtomsBy 0 (1 ∷ 300 ∷ 0 ∷ []) ∷ []

abbrev words : List ℕ
words = 8 ∷ 7 ∷ 0 ∷ 1 ∷ 26 ∷ 1 ∷ 2 ∷ 65 ∷ 66 ∷ 13 ∷ 2 ∷ 0 ∷ 2 ∷ 11 ∷ 5 ∷ 0 ∷ 3 ∷ 1 ∷ 300 ∷ 0 ∷ []

pub written : write_calls three ≡ words
unfolding rows call_of form_of
written = refl

pub read : read_calls words ≡ Some three
unfolding rows read_parts call_of read_call calls_in
read = refl

-- a call of n words, of a tree of n - 2
abbrev long : ℕ → ℕ → List ℕ
long n tree = 11 ∷ n ∷ 0 ∷ tree ∷ replicate {A = ℕ} tree 300

abbrev bad : List (List ℕ)
bad =
    -- code 0, and the one behind the last row's
    (0 ∷ 0 ∷ [])
    ∷ (suc (length rows) ∷ 0 ∷ [])
    -- a header cut short, a call cut short, and a word behind the last call
    ∷ (12 ∷ [])
    ∷ (12 ∷ 1 ∷ [])
    ∷ (12 ∷ 1 ∷ 0 ∷ 12 ∷ [])
    -- too few numbers, and one too many
    ∷ (12 ∷ 0 ∷ [])
    ∷ (12 ∷ 2 ∷ 0 ∷ 0 ∷ [])
    -- a text that is missing, that ends past its call, or before it, and one with a word above 255
    ∷ (7 ∷ 1 ∷ 0 ∷ [])
    ∷ (7 ∷ 3 ∷ 0 ∷ 2 ∷ 65 ∷ 12 ∷ 1 ∷ 0 ∷ [])
    ∷ (7 ∷ 4 ∷ 0 ∷ 1 ∷ 65 ∷ 66 ∷ [])
    ∷ (7 ∷ 3 ∷ 0 ∷ 1 ∷ 256 ∷ [])
    -- 1,025 words behind a header
    ∷ long 1025 1023
    ∷ []

pub refused : any (λ (ws : List ℕ). is_some (read_calls ws)) bad ≡ false
unfolding rows read_parts call_of read_call calls_in
refused = refl

-- near them: no call, a word of 255, a text with none, 1,024 words
abbrev good : List (List ℕ)
good = [] ∷ (12 ∷ 1 ∷ 0 ∷ []) ∷ (7 ∷ 3 ∷ 0 ∷ 1 ∷ 255 ∷ []) ∷ (7 ∷ 2 ∷ 0 ∷ 0 ∷ []) ∷ long 1024 1022 ∷ []

pub taken : all (λ (ws : List ℕ). is_some (read_calls ws)) good ≡ true
unfolding rows read_parts call_of read_call calls_in
taken = refl
