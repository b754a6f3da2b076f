-- `additions::put_atom` meets its contract: each return is a law's. Assumes nothing.
use Rattle.std.proofs.Common.{arith, rules}
use Rattle.additions.proofs.Laws.{good_length_lem, good-count, chains-within, model-few, atom-room, atom-full, atom-done}
use Rattle.additions.proofs.put_atom.Goals as goal

pub spot_of-spot-requires : goal.spot_of-spot-requires
spot_of-spot-requires c = search (rules, chains-within)

pub capacity_of-requires : goal.capacity_of-requires
capacity_of-requires c = search (rules, good_length_lem)

pub overflow_add-count : goal.overflow_add-count
overflow_add-count c =
    omega (arith, good-count _ c.requires.good, c.record_count-count.ensures)

pub returns-then-capacity_of-count : goal.returns-then-capacity_of-count
returns-then-capacity_of-count c =
    record { cursor_valid = c.requires.valid; store_after = atom-full _ c.requires.good c.args.model _ _ c.requires.span_held c.args.new c.requires.values_good _ c.spot_of-spot.ensures.spot_value c.spot_of-spot.ensures.lands _ c.record_count-count.ensures _ c.capacity_of.ensures c.if-capacity_of-count.true }

pub put_records-requires : goal.put_records-requires
put_records-requires c =
    atom-room _ c.requires.good c.args.model _ _ c.requires.span_held c.args.new c.requires.values_good _ c.spot_of-spot.ensures.spot_value c.spot_of-spot.ensures.lands _ c.record_count-count.ensures _ c.capacity_of.ensures c.if-capacity_of-count.false _

pub advanced-next-requires : goal.advanced-next-requires
advanced-next-requires c =
    (model-few _ c.requires.good c.args.model _ _ c.requires.span_held, c.spot_of-spot.ensures.lands.within, c.spot_of-spot.ensures.lands.depth)

pub returns : goal.returns
returns c =
    let both =
    atom-done _ c.requires.good c.args.model _ _ c.requires.span_held c.args.new c.requires.values_good _ c.spot_of-spot.ensures.spot_value c.spot_of-spot.ensures.lands _ c.record_count-count.ensures _ c.capacity_of.ensures c.if-capacity_of-count.false _ _ c.column_of-column.ensures c.put_records.ensures c.args.cursor _ c.requires.valid c.advanced-next.ensures
    in
    record { cursor_valid = both.0; store_after = both.1 }
