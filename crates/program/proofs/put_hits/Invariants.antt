-- `program::put_hits` meets its contract. The loop's invariant: the lines of the hits passed stand in the text. Assumes nothing.
use Rattle.std.proofs.Common.{◌≡◌, ℕ, List}
use Rattle.decimals.specs.Put.{put_at}
use Rattle.program.specs.Text.{lines}
use Rattle.program.proofs.put_hits.Given as goal

abbrev pub invariant-loop-hit : goal.invariant-loop-hit
invariant-loop-hit l = ◌≡◌ {A = ℕ × List ℕ} (l.at, l.text) (put_at (lines l.hit-index l.fn.hits) 0 l.initial.text)
