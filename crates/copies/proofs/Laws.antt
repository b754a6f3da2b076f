-- The words that a copy leaves, and each of its answers. Assumes nothing.
use Prim.Native.Nat.{ℕ, ◌+◌, ◌-◌, ◌*◌, ◌/◌, ◌≤◌, ◌<◌}
use mathlib.Core.Path.{◌≡◌, sym, ap, ◌∙◌}
use mathlib.Core.List.{List, [], ◌∷◌, ◌++◌, append-nil}
use native.Mathlib.Omega.{arith}
use lib.ListN.{length, take, drop, replicate, set, length-append, length-replicate, drop_of_length-le}
use lib.Seq.{length-take-le, take-append_seam}
use borrow.Author.Tests.{le-leb}
use Rattle.std.specs.Prelude.{Ok, Err, IsErrAnd}
use Rattle.machine.specs.Answer.{Result, opened_numbers}
use Rattle.machine.specs.Store.{records, laid, lay_out, end, read_store}
use Rattle.machine.specs.declared.Refusal.{Refusal}
use Rattle.laws.specs.Grouped.{concat-chunks, chunks-length}
use Rattle.laws.specs.Layout.{read-parts, records-read}
use Rattle.moves.specs.Over.{over}
use Rattle.moves.proofs.Laws.{over-length, over-snoc}
use Rattle.seek.specs.Seek.{held, Good}
use Rattle.store.specs.Store.{checked_by}
use Rattle.store.proofs.Laws.{refused-store}
use Rattle.store.proofs.Steps.{good}
use Rattle.laws.specs.Exits.{exit-err}
use Rattle.copies.specs.Copy.{room, copied_into, copy_run}

-- ---- the words

module _ (end : ℕ) (to s : List ℕ) (fits : end < length to) (e : s ≡ over end (replicate (length to - 1 - end) 0) to) where
  abbrev zeros : List ℕ
  zeros = replicate (length to - 1 - end) 0

  pub ended : set s (length to - 1) end ≡ laid (length to) (take end to)
  unfolding laid over
  ended =
      let last : end + (length to - 1 - end) ≡ length to - 1 = omega arith in
      let n : length (take end to) ≡ end = length-take-le end to (omega arith) in
      let l : length (zeros ++ (end ∷ [])) ≡ length to - end = simp (length-append, length-replicate) (omega arith) in
      let all : length to ≤ end + length (zeros ++ (end ∷ [])) = omega arith in
      let trailer : set (over end zeros to) (length to - 1) end ≡ over end (zeros ++ (end ∷ [])) to =
      rw last at (over-snoc end zeros to end (length to - 1 - end) (length-replicate (length to - 1 - end) 0) (omega arith)) in
      rw (e, n) (trailer ∙ rw (drop_of_length-le to all, append-nil (zeros ++ (end ∷ []))))

over-front : (b to : List ℕ) → take (length b) (over 0 b to) ≡ b
unfolding over
over-front b to = take-append_seam b (drop (0 + length b) to)

pub laid_out : (b to s₁ s₂ : List ℕ) → length b < length to → s₁ ≡ over 0 b to → s₂ ≡ laid (length s₁) (take (length b) s₁) → s₂ ≡ laid (length to) b
laid_out b to s₁ s₂ fits e₁ e₂ = rw (e₂, e₁, over-length 0 b to (omega arith), over-front b to)

-- ---- the answers, where the store that is copied has n records

module _ (from to : List ℕ) (g : Good from) (n : ℕ) (count : n ≡ length (records (held from))) where
  words-end : n * 12 ≡ end from
  words-end =
      let e : length (records (held from)) ≡ end from / 12 = ap length (records-read from (held from) g) ∙ chunks-length (end from / 12) from in
      let m = (read-parts from (held from) g).multiple in
      omega arith

  pub words-there : length (take (n * 12) from) ≡ n * 12
  words-there = let e = words-end in let l = (read-parts from (held from) g).low in length-take-le (n * 12) from (omega arith)

  -- the records' words are the first ones
  copied-words : (k : ℕ) → lay_out k (held from) ≡ laid k (take (n * 12) from)
  unfolding lay_out
  copied-words k =
      let e = words-end in
      let q : 12 * (end from / 12) ≡ n * 12 = omega arith in
      rw (records-read from (held from) g, concat-chunks (end from / 12) from, q)

  pub copy_done : 1 ≤ length to → length to ≤ 1200001 → n ≤ (length to - 1) / 12 → (to' : List ℕ) → to' ≡ laid (length to) (take (n * 12) from)
      → (opened_numbers (Ok tt), to') ≡ copied_into to (room (length to) (held from))
  copy_done some most fits to' e =
      rw (le-leb 1 (length to) some, le-leb (length to) 1200001 most, le-leb (length (records (held from))) ((length to - 1) / 12) (omega arith), copied-words (length to))
      (ap (λ (w : List ℕ). (opened_numbers (Ok tt), w)) e)

module _ (from to : List ℕ) where
  pub copy-refused : {c : Result ℕ} {r : Refusal} → c ≡ checked_by (read_store from) → c ≡ Err r → (a : Result (Unit {0})) → IsErrAnd a (λ x. x ≡ r) → (opened_numbers a, to) ≡ copy_run from to
  unfolding copy_run
  copy-refused {r = r} h e a o = rw (exit-err a r o, refused-store from (sym e ∙ h))

  pub copied : Good from → {x : List ℕ × List ℕ} → x ≡ copied_into to (room (length to) (held from)) → x ≡ copy_run from to
  unfolding copy_run
  copied g e = rw g e

pub ruleset answered = (good, ended, laid_out, words-there, copy_done, copied)
