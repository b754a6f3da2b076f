-- The words of a record by its number. Assumes nothing.
use Prim.Native.Nat.{ℕ, ◌+◌, ◌*◌, ◌/◌, ◌<◌}
use mathlib.Core.Path.{◌≡◌, sym}
use mathlib.Core.List.{List}
use lib.ListN.{length, get_or}
use borrow.Author.Tests.{lt-ltb}
use Rattle.seek.proofs.Below.{record-word}
use Rattle.hierarchy.specs.Hit.{record_of}

pub word-there : (w : List ℕ) (n i : ℕ) → n < length w / 12 → i < 12 → get_or w (n * 12 + i) 0 ≡ get_or (record_of w n) i 0
word-there w n i h b = rw (lt-ltb n (length w / 12) h) (sym (record-word w n i b))
