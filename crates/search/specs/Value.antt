-- The last operand among a tree's first nodes, each term having the value that v gives it. Assumes nothing.
use Rattle.std.specs.Prelude.{ℕ, ◌+◌, ◌≤◌, ◌%◌, ◌≡◌, Bool, true, false, List, [], ◌∷◌, length, take, None, Some}
use Rattle.machine.specs.Query.{Stack, run}
use Rattle.machine.specs.declared.Tri.{Tri}
use Rattle.machine.specs.declared.Term.{Term}
use Rattle.search.specs.Nodes.{nodes_in}
use Rattle.search.specs.declared.Part.{Part}

abbrev pub push : Tri → Stack → Stack
push a None = None
push a (Some s) = Some (a ∷ s)

abbrev pub has_operand : Stack → Bool
has_operand None = false
has_operand (Some []) = false
has_operand (Some (a ∷ s)) = true

abbrev pub stack_of : (Term → Tri) → List ℕ → Stack
stack_of v t = run v (nodes_in t) []

-- whole nodes that leave an operand
pub record Operand (v : Term → Tri) (t : List ℕ) : Type 0 where
  pub threes : length t % 3 ≡ 0
  pub one : has_operand (stack_of v t) ≡ true

-- its value, and where its nodes start
pub record Evaluated (v : Term → Tri) (t : List ℕ) (r : Part) : Type 0 where
  pub before : r.start + 3 ≤ length t
  pub threes : r.start % 3 ≡ 0
  pub top : stack_of v t ≡ push r.value (stack_of v (take r.start t))
