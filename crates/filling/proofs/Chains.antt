-- The two loops over a model's lines: the lines of one chain, and the chains. Assumes nothing.
use Prim.Native.Nat.{ℕ, ◌+◌, ◌*◌, ◌≤◌, ◌<◌}
use mathlib.Core.Path.{◌≡◌, sym}
use mathlib.Core.Bool.{Bool, true, false}
use mathlib.Core.List.{List, [], ◌∷◌}
use Rattle.machine.specs.LinesIn.{atom_in}
use Rattle.lines.specs.Numbered.{line_count_in, line_at, atoms_back}
use Rattle.building.specs.Chains.{has_chain, by_chain}
use Rattle.seek.specs.Seek.{held}
use Rattle.filling.specs.Fill.{atoms_in, first_chain, in_model, Ready, Became}
use Rattle.filling.proofs.Lines.{slice, rest, own_from, own-none, own_line, other-line, chains_on, chains-start, chains-none, seen-line, new_line}
use Rattle.filling.proofs.Stores.{Going, going_start, going-as, going-ready, going-turn, going_end}

module _ (i : ℕ) (t w₀ : List ℕ) where
  -- ---- the lines of the first line's chain

  -- those from n on are still to be added
  abbrev pub Adding : ℕ → List ℕ → Type 0
  Adding n w = Going i (first_chain t) w₀ (own_from n t) w

  pub adding-start : Ready i (first_chain t) w₀ → Adding 0 w₀
  adding-start r = going_start i (first_chain t) w₀ r

  module _ (n : ℕ) (w : List ℕ) (g : Adding n w) where
    pub adding-end : line_count_in t ≤ n → Became (in_model i (first_chain t) (held w₀)) w₀ w
    adding-end h = going_end g (own-none t n h)

    module _ (h : n < line_count_in t) (chain r : ℕ) (e : chain ≡ (atom_in (line_at 0 t)).chain.id) (f : r ≡ (atom_in (line_at n t)).chain.id) where
      pub adding-ready : r ≡ chain → Ready i (atom_in (slice t n) ∷ []) w
      adding-ready q = going-ready g (atom_in (slice t n) ∷ []) (own_from (n + 1) t) (own_line t n h chain r e f q)

      pub adding-line : (w' : List ℕ) → r ≡ chain → Became (in_model i (atom_in (slice t n) ∷ []) (held w)) w w' → Adding (n + 1) w'
      adding-line w' q b = going-turn g (atom_in (slice t n) ∷ []) (own_from (n + 1) t) (own_line t n h chain r e f q) w' b

      pub adding_other : (r ≡ chain → ⊥) → Adding (n + 1) w
      adding_other q = going-as g (own_from (n + 1) t) (other-line t n h chain r e f q)

  -- ---- the chains

  -- those that begin at line n or later
  abbrev pub Chaining : ℕ → List ℕ → Type 0
  Chaining n w = Going i (by_chain (atoms_in t)) w₀ (chains_on n t) w

  pub chaining-start : Ready i (by_chain (atoms_in t)) w₀ → Chaining 0 w₀
  chaining-start r = going-as (going_start i (by_chain (atoms_in t)) w₀ r) (chains_on 0 t) (sym (chains-start t))

  module _ (n : ℕ) (w : List ℕ) (g : Chaining n w) where
    pub chaining-end : line_count_in t ≤ n → Became (in_model i (by_chain (atoms_in t)) (held w₀)) w₀ w
    chaining-end h = going_end g (chains-none t n h)

    module _ (h : n < line_count_in t) (r : Bool) (e : r ≡ has_chain (atoms_back n n t) (atom_in (line_at n t)).chain) where
      pub chaining-seen : r ≡ true → Chaining (n + 1) w
      chaining-seen q = going-as g (chains_on (n + 1) t) (seen-line t n h r e q)

      pub chaining-ready : r ≡ false → Ready i (first_chain (rest t (n * 81))) w
      chaining-ready q = going-ready g (first_chain (rest t (n * 81))) (chains_on (n + 1) t) (new_line t n h r e q)

      pub chaining-new : (w' : List ℕ) → r ≡ false → Became (in_model i (first_chain (rest t (n * 81))) (held w)) w w' → Chaining (n + 1) w'
      chaining-new w' q b = going-turn g (first_chain (rest t (n * 81))) (chains_on (n + 1) t) (new_line t n h r e q) w' b
