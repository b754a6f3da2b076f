-- `floats::class_of` meets its contract: each arm is a line of `class_of_fields`. Assumes nothing.
use Rattle.std.proofs.Common.{eq-eqb, ne_eqb}
use Rattle.machine.specs.Classes.{class_of_fields, class_of}
use Rattle.floats.proofs.class_of.Goals as goal

pub returns-in-2047-eq0 : goal.returns-in-2047-eq0
unfolding class_of class_of_fields
returns-in-2047-eq0 c = simp (c.in-2047-eq0.is-0, eq-eqb _ _ c.in-2047-eq0.is-1)

pub returns-in-2047-default : goal.returns-in-2047-default
unfolding class_of class_of_fields
returns-in-2047-default c = simp (c.in-2047-default.is-0, ne_eqb _ _ c.in-2047-default.is-1.1)

pub returns-in-0-eq0 : goal.returns-in-0-eq0
unfolding class_of class_of_fields
returns-in-0-eq0 c = simp (c.in-0-eq0.is-0, eq-eqb _ _ c.in-0-eq0.is-1)

pub returns-in-0-default : goal.returns-in-0-default
unfolding class_of class_of_fields
returns-in-0-default c = simp (c.in-0-default.is-0, ne_eqb _ _ c.in-0-default.is-1.1)

pub returns-in_default : goal.returns-in_default
unfolding class_of class_of_fields
returns-in_default c = let r = c.in_default.is-0 in simp (ne_eqb _ _ r.0.1, ne_eqb _ _ r.1)
