-- `records::good_atom` meets its contract, by the law of `good_record` at the atoms' level. Assumes nothing.
use Rattle.records.proofs.Laws.{atom-record}
use Rattle.records.proofs.good_atom.Goals as goal

pub returns : goal.returns
returns c =
    cc (atom-record c.args.r.now c.requires)
