-- `dispatch::add_atom` meets its contract. Assumes nothing.
use Rattle.std.proofs.Common.{rules}
use Rattle.dispatch.proofs.Parted.{atom-fits, atom-fits₂, atom-fits₃, atom-fits₄, atom-fits₅, atom-call}
use Rattle.dispatch.proofs.add_atom.Goals as goal

pub part_end-chain-requires : goal.part_end-chain-requires
part_end-chain-requires c = search (rules, atom-fits)

pub part_end-code-requires : goal.part_end-code-requires
part_end-code-requires c = search (rules, atom-fits₂)

pub part_end-conformer-requires : goal.part_end-conformer-requires
part_end-conformer-requires c = search (rules, atom-fits₃)

pub part_end-location-requires : goal.part_end-location-requires
part_end-location-requires c = search (rules, atom-fits₄)

pub part_end-name-requires : goal.part_end-name-requires
part_end-name-requires c = search (rules, atom-fits₅)

pub returns : goal.returns
returns c =
    record {
      cursor_valid = c.add_prepared.ensures.cursor_valid;
      store_after =
          atom-call c.args.words.now c.requires.reads_call
          c.part_end-chain.result c.part_end-chain.ensures.0
          c.part_end-code.result c.part_end-code.ensures.0
          c.part_end-conformer.result c.part_end-conformer.ensures.0
          c.part_end-location.result c.part_end-location.ensures.0
          c.args.store.now c.args.bytes.now c.part_end-name.result c.requires.narrowed c.part_end-name.ensures.0
          c.values.result c.values.ensures _ c.prepare-prepared.ensures c.add_prepared.ensures.store_after;
    }
