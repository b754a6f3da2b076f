-- `additions::add_atom` meets its contract, by that of `add_prepared`. Assumes nothing.
use Rattle.std.proofs.Common.{rules}
use Rattle.insertion.proofs.PointsInto.{nowhere-known}
use Rattle.additions.proofs.add_atom.Goals as goal

pub add_prepared-added-requires : goal.add_prepared-added-requires
add_prepared-added-requires c = search (rules, nowhere-known)
