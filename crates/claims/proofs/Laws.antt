-- A tree that is put together, and the whole run. Assumes nothing.
use Rattle.std.specs.Prelude.{Err, None, Ok, Option, Some}
use Prim.Native.Nat.{ℕ, ◌+◌, ◌≤◌, ◌<◌}
use mathlib.Core.Path.{◌≡◌, refl, ap, ◌∙◌}
use mathlib.Core.Bool.{and-false}
use mathlib.Core.List.{List, [], ◌∷◌, ◌++◌, append_assoc}
use native.Mathlib.Omega.{arith}
use lib.ListN.{length, take, drop, length-append}
use lib.Seq.{take_at}
use borrow.Author.Tests.{lt-leb}
use Rattle.machine.specs.Answer.{Result, ◌>>=◌, ◌>>◌, position}
use Rattle.machine.specs.Store.{Machine, read_store, open_run}
use Rattle.machine.specs.Query.{read_tree, tables, and_tree, or_tree, not_tree}
use Rattle.machine.specs.Find.{Site, atoms_from, lowest, hits_among, hits_from, written, find_from}
use Rattle.machine.specs.declared.Refusal.TheVariants.{TreeShape}
use Rattle.moves.specs.Over.{over}
use Rattle.moves.proofs.Laws.{over-over}
use Rattle.edits.specs.Apply.{apply_run}
use Rattle.demands.specs.Queries.{Runs, runs_of}
use Rattle.claims.specs.Claim.{Seen, Claims, whole_run}
use Rattle.claims.proofs.Whole.{whole-claims}

-- ---- find_joined

long-tree : (t : List ℕ) → 381 < length t → read_tree t ≡ Err TreeShape
unfolding read_tree
long-tree t h = rw (lt-leb (length t) 381 h, and-false)

long-find : (w start t u out : List ℕ) → 381 < length t → 381 < length u → find_from w start t out ≡ find_from w start u out
unfolding find_from hits_from
long-find w start t u out h g = by-store (read_store w)
  where
    by-start : (o : Option (List Site)) → written out (position o >>= λ atoms. read_tree t >> Ok (hits_among tables (lowest start) t atoms)) ≡ written out (position o >>= λ atoms. read_tree u >> Ok (hits_among tables (lowest start) u atoms))
    by-start None = refl
    by-start (Some atoms) = rw (long-tree t h, long-tree u g)

    by-store : (r : Result Machine) → written out (r >>= λ m. position (atoms_from start m) >>= λ atoms. read_tree t >> Ok (hits_among tables (lowest start) t atoms)) ≡ written out (r >>= λ m. position (atoms_from start m) >>= λ atoms. read_tree u >> Ok (hits_among tables (lowest start) u atoms))
    by-store (Err e) = refl
    by-store (Ok m) = by-start (atoms_from start m)

module _ (w start A B out : List ℕ) (code : ℕ) (run : List ℕ × List ℕ) where
  pub too_long : (t : List ℕ) → run ≡ find_from w start t out → length t ≡ 384 → 381 < length A + length B → run ≡ find_from w start (A ++ (B ++ (code ∷ 0 ∷ 0 ∷ []))) out
  too_long t e l h =
      e ∙ long-find w start t (A ++ (B ++ (code ∷ 0 ∷ 0 ∷ []))) out (omega arith) (omega (arith, length-append A (B ++ (code ∷ 0 ∷ 0 ∷ [])), length-append B (code ∷ 0 ∷ 0 ∷ [])))

front : (x s : List ℕ) (n : ℕ) → length x ≡ n → take n (over 0 x s) ≡ x
unfolding over
front x s n e = take_at x (drop (0 + length x) s) n e

pub joined : (t t₁ t₂ t₃ A B k : List ℕ) → t₁ ≡ over 0 A t → t₂ ≡ over (length A) B t₁ → t₃ ≡ over (length A + length B) k t₂ → length A + length B + length k ≤ length t
    → take (length A + length B + length k) t₃ ≡ A ++ (B ++ k)
joined t t₁ t₂ t₃ A B k e₁ e₂ e₃ h =
    let z : 0 + length A ≡ length A = omega arith in
    let y : 0 + length (A ++ B) ≡ length A + length B = omega (arith, length-append A B) in
    let two : t₂ ≡ over 0 (A ++ B) t = e₂ ∙ rw (e₁, ← z) (over-over 0 A B t (omega arith)) in
    let three : t₃ ≡ over 0 ((A ++ B) ++ k) t = e₃ ∙ rw (two, ← y) (over-over 0 (A ++ B) k t (omega arith)) in
    rw three (front ((A ++ B) ++ k) t (length A + length B + length k) (omega (arith, length-append (A ++ B) k, length-append A B))) ∙ append_assoc A B k

pub joined-find : (t t₁ t₂ t₃ A B : List ℕ) (code : ℕ) (w start out : List ℕ) (run : List ℕ × List ℕ) → t₁ ≡ over 0 A t → t₂ ≡ over (length A) B t₁ → t₃ ≡ over (length A + length B) (code ∷ 0 ∷ 0 ∷ []) t₂
    → length A + length B + 3 ≤ length t → run ≡ find_from w start (take (length A + length B + 3) t₃) out → run ≡ find_from w start (A ++ (B ++ (code ∷ 0 ∷ 0 ∷ []))) out
joined-find t t₁ t₂ t₃ A B code w start out run e₁ e₂ e₃ h e = e ∙ ap (λ (u : List ℕ). find_from w start u out) (joined t t₁ t₂ t₃ A B (code ∷ 0 ∷ 0 ∷ []) e₁ e₂ e₃ h)

-- ---- find_all, edit_and_find

pub all_runs : (w start A B first second both either opposite : List ℕ) (r : Runs)
    → r.first ≡ find_from w start A first → r.second ≡ find_from w start B second → r.both ≡ find_from w start (and_tree A B) both
    → r.either ≡ find_from w start (or_tree A B) either → r.opposite ≡ find_from w start (not_tree A) opposite
    → r ≡ runs_of (find_from w start) A B first second both either opposite
all_runs w start A B first second both either opposite r a b c d e = rw (← a, ← b, ← c, ← d, ← e)

module _ (w w₁ list out start A B first second both either opposite : List ℕ) (s : Seen) where
  whole : (s.opened, w₁) ≡ open_run w → record { numbers = s.applied; store = s.store; out = s.answers } ≡ apply_run w₁ list out
      → s.runs ≡ runs_of (find_from s.store start) A B first second both either opposite
      → s ≡ whole_run w list out start A B first second both either opposite
  whole o r f = rw (← o, ← r, ← f)

  pub claimed : (s.opened, w₁) ≡ open_run w → record { numbers = s.applied; store = s.store; out = s.answers } ≡ apply_run w₁ list out
      → s.runs ≡ runs_of (find_from s.store start) A B first second both either opposite
      → Claims (length w) list start A B s × (s ≡ whole_run w list out start A B first second both either opposite)
  claimed o r f = (rw (whole o r f) (whole-claims w list out start A B first second both either opposite), whole o r f)
