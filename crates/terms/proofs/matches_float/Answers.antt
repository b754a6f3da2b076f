-- `terms::matches_float` meets its contract: the four terms by their case; the others ask for no float. Assumes nothing.
use Rattle.std.specs.Prelude.{Some}
use Rattle.std.proofs.Common.{refl, ◌++◌}
use Rattle.machine.specs.Record.{read_out}
use Rattle.machine.specs.Query.{window, term_value}
use Rattle.terms.specs.Levels.{at_atom}
use Rattle.terms.proofs.Terms.{cases, no-float}
use borrow.Enum.Refused.{opened}
use Rattle.terms.proofs.matches_float.Goals as goal

pub returns-in-BFactor : goal.returns-in-BFactor
unfolding read_out term_value
returns-in-BFactor c a e q names = simp (c.decided.ensures, c.close.ensures, c.in-BFactor.is, e)

pub returns-in-BFactorRange : goal.returns-in-BFactorRange
unfolding read_out term_value
returns-in-BFactorRange c a e q names = simp (c.decided-in-BFactorRange.ensures, c.between_floats.ensures, c.in-BFactorRange.is, e)

pub returns-in-Occupancy : goal.returns-in-Occupancy
unfolding read_out term_value
returns-in-Occupancy c a e q names = simp (c.decided-in-Occupancy.ensures, c.close-in-Occupancy.ensures, c.in-Occupancy.is, e)

pub returns-in-OccupancyRange : goal.returns-in-OccupancyRange
unfolding read_out term_value
returns-in-OccupancyRange c a e q names = simp (c.decided-in-OccupancyRange.ensures, c.between_floats-in-OccupancyRange.ensures, c.in-OccupancyRange.is, e)

pub returns-in_default : goal.returns-in_default
unfolding window
returns-in_default c a e q names = no-float names (at_atom (Some a)) (cases 0 15 ++ cases 19 3) c.args.t refl (opened c.in_default.in_default-own.keys5) q
