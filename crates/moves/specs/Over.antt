-- What the contracts of `src/` cite: a list written over another, and parts of a list that change places. Assumes nothing.
use Rattle.std.specs.Prelude.{ℕ, ◌+◌, ◌-◌, ◌≡◌, List, ◌++◌, length, take, drop, replicate}
use Rattle.std.specs.List.{between}
use Rattle.machine.specs.Record.{Words}
use Rattle.laws.specs.Lists.{All}

-- of words, and in the laws of records too
module _ {A : Type 0} where
  -- s with b written over it from index `at`
  unfoldable pub over : ℕ → List A → List A → List A
  over at b s = take at s ++ (b ++ drop (at + length b) s)

  -- s with the elements from a to m and those from m to b exchanged
  unfoldable pub rotated : ℕ → ℕ → ℕ → List A → List A
  rotated a m b s = take a s ++ (between m b s ++ (between a m s ++ drop b s))

-- s with the words from `from` to `to` taken out of its first `end`, and as many zeros after those that are left
unfoldable pub taken_out : ℕ → ℕ → ℕ → List ℕ → List ℕ
taken_out from to end s = take from s ++ (between to end s ++ (replicate (to - from) 0 ++ drop end s))

-- s with n zeros put in at `at`, where the words up to `end` move up over the n that follow `end`
unfoldable pub gapped : ℕ → ℕ → ℕ → List ℕ → List ℕ
gapped at n end s = take at s ++ (replicate n 0 ++ (between at end s ++ drop (end + n) s))

-- records of twelve words each
abbrev pub Twelve : List Words → Type 0
Twelve rs = All (λ r. length r ≡ 12) rs
