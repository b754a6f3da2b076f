-- `insertion::residue_span` meets its contract: the place's residue, none above the top, or what `pick_child` finds. Assumes nothing.
use Rattle.std.proofs.Common.{rules}
use Rattle.insertion.proofs.PointsInto.{residue-room, residue-known, residue-new}
use Rattle.insertion.proofs.residue_span.Goals as goal

pub is_marked-requires : goal.is_marked-requires
is_marked-requires c = search (rules, residue-room)

pub returns-then-is_marked : goal.returns-then-is_marked
returns-then-is_marked c = search (rules, residue-known)

pub returns-then-cursor-rank_of : goal.returns-then-cursor-rank_of
returns-then-cursor-rank_of c = search (rules, residue-new)
