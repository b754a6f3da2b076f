-- `records::good_record` meets its contract: one law of `good_record` for each kind above the atoms, and one for all other words. Assumes nothing.
use Rattle.records.proofs.Laws.{conformer-record, residue-record, chain-record, model-record, no_record}
use Rattle.records.proofs.good_record.Goals as goal

pub returns-in-4 : goal.returns-in-4
returns-in-4 c =
    cc (conformer-record c.args.r.now c.requires.0 c.in-4.is)

pub returns-in-3 : goal.returns-in-3
returns-in-3 c =
    cc (residue-record c.args.r.now c.requires.0 c.in-3.is)

pub returns-in-2 : goal.returns-in-2
returns-in-2 c =
    cc (chain-record c.args.r.now c.requires.0 c.in-2.is)

pub returns-in-1 : goal.returns-in-1
returns-in-1 c =
    cc (model-record c.args.r.now c.requires.0 c.in-1.is)

pub returns-in_default : goal.returns-in_default
returns-in_default c =
    let no = c.in_default.in_default-own.rest in
    no_record c.args.r.now c.requires.1 no.0.0.0.1 no.0.0.1 no.0.1 no.1
