-- What the check of a tree says of what it reads. Assumes nothing.
use Rattle.std.specs.Prelude.{Err, Ok}
use Prim.Native.Nat.{ℕ}
use mathlib.Core.Path.{◌≡◌, refl}
use mathlib.Core.List.{List}
use native.Mathlib.Omega.{arith}
use Rattle.machine.specs.Answer.{Result, ◌>>◌}
use Rattle.machine.specs.declared.Node.{Node}
use Rattle.machine.specs.declared.Refusal.{Refusal}
use Rattle.search.specs.Nodes.{checked}

pub tree-then : {A : Type 0} (x : Result (List Node)) (y : Result A) → checked x ≡ Ok tt → (x >> y) ≡ y
tree-then (Ok ns) y e = refl
tree-then (Err c) y e = let z : ◌≡◌ {A = ℕ} 0 1 = cc in absurd (omega arith)

pub tree-refused : (x : Result (List Node)) (c : Refusal) → checked x ≡ Err c → x ≡ Err c
tree-refused (Ok ns) c e = let z : ◌≡◌ {A = ℕ} 0 1 = cc in absurd (omega arith)
tree-refused (Err d) c e = cc
