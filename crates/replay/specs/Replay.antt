-- A recorded list of edits, run again. Assumes nothing.
use Rattle.std.specs.Prelude.{ℕ, ◌+◌, ◌/◌, ◌≡◌, ◌≤◌, ◌<◌, Bool, ◌&&◌, List, length, get_or, drop, replicate}
use Rattle.machine.specs.Lists.{same}
use Rattle.edits.specs.Apply.{Run, apply_run}
use Rattle.replay.specs.declared.Case.{Case}

abbrev pub ended : Run → List ℕ → List ℕ → Bool
ended run answers left = same run.out answers && same run.store left

-- a list applied to a store just opened gives these answers and leaves these words
abbrev pub as_recorded_lem : List ℕ → List ℕ → List ℕ → Bool
as_recorded_lem list answers left = ended (apply_run (replicate (length left) 0) list (replicate (length answers) 0)) answers left

-- a case at the start of the words, and the words behind it: its first three words say how many words the list, the answers and the
-- store have; a call has three words of answers; the case has some words, and its counts are no more than these
abbrev pub Sized : List ℕ → Case → List ℕ → Type 0
Sized words c behind =
    (behind ≡ drop (3 + get_or words 0 0 + get_or words 1 0 + get_or words 2 0) words)
    × (c.calls ≡ get_or words 1 0 / 3)
    × (length behind < length words)
    × (c.calls + length behind ≤ length words)
    × (c.accepted + length behind ≤ length words)
