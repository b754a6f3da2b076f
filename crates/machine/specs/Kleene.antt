-- "Kleene's tables". Assumes nothing.
use Rattle.std.specs.Prelude.{Bool, true, false}
use Rattle.machine.specs.declared.Tri.{Tri}
use Rattle.machine.specs.declared.Tri.TheVariants.{False, True, Undecided}
use Rattle.machine.specs.declared.Ops.{Ops}
use Rattle.machine.specs.declared.Ops.TheVariants.{And, Or, Xor}

abbrev pub decided : Bool → Tri
decided true = True
decided false = False

-- "Xor and Not need all sides decided"
abbrev pub not_t : Tri → Tri
not_t False = True
not_t True = False
not_t Undecided = Undecided

-- "And is false if either side is, true if both are"
abbrev pub and_t : Tri → Tri → Tri
and_t False b = False
and_t True b = b
and_t Undecided False = False
and_t Undecided True = Undecided
and_t Undecided Undecided = Undecided

-- "Or is true if either is, false if both are"
abbrev pub or_t : Tri → Tri → Tri
or_t True b = True
or_t False b = b
or_t Undecided True = True
or_t Undecided False = Undecided
or_t Undecided Undecided = Undecided

abbrev pub xor_t : Tri → Tri → Tri
xor_t Undecided b = Undecided
xor_t False b = b
xor_t True b = not_t b

abbrev pub apply_t : Ops → Tri → Tri → Tri
apply_t And a b = and_t a b
apply_t Or a b = or_t a b
apply_t Xor a b = xor_t a b

-- "Undecided counts as a hit."
abbrev pub is_hit : Tri → Bool
is_hit False = false
is_hit True = true
is_hit Undecided = true

abbrev pub is_undecided : Tri → Bool
is_undecided False = false
is_undecided True = false
is_undecided Undecided = true

abbrev pub is_true : Tri → Bool
is_true False = false
is_true True = true
is_true Undecided = false
