-- `input::read_full`: one more piece, put behind what was read so far. Assumes nothing.
use Rattle.std.proofs.Common.{◌≡◌, ℕ, ◌+◌, ◌≤◌, ◌-◌, ◌++◌, List, rules, length, take, sym, ◌∙◌, subst, drop_at, length-take-le}
use Rattle.std.proofs.lemmas.List.{take_at, take-append-le}
use Rattle.std.proofs.Math.Seq.{take-add}
use Rattle.std.specs.Io.KnownBytes.{Consumes}
use Rattle.std.proofs.KnownBytes.{Consumes-trans}
use borrow.Rule.Slice.PartMut.{put_mid}
use Rattle.input.proofs.read_full.Goals as goal

-- a piece of n bytes, of which more may have been written
take_piece : (a n k : ℕ) (old new : List ℕ) → a ≤ length old → n ≤ length new → take (a + n) (put_mid a k old new) ≡ take a old ++ take n new
take_piece a n k old new h g =
    let front = length-take-le a old h in
    take-add a n (put_mid a k old new) ∙ rw (take_at (take a old) _ a front, drop_at (take a old) _ a front, take-append-le n new _ g)

pub loop-done-preserved : goal.loop-done-preserved
loop-done-preserved g c =
    let at = c.loop-done.done in
    let room = length c.loop-done.buf - at in
    let joined = take_piece at c.in_ok-read.read room c.loop-done.buf c.read.new.buf c.loop-done.invariant.0 c.in_ok-read.ensures.bound.0 in
    (search rules, subst (Consumes _ _) (sym joined) (Consumes-trans _ _ _ _ _ c.loop-done.invariant.1 c.in_ok-read.ensures.bytes.0))
