-- `writer::put_record` meets its contract. Assumes nothing.
use Rattle.std.proofs.Common.{rules}
use Rattle.writer.proofs.Laws.{good-atom, atom-fits, atom-room, atom-put, before-room, model-fits, model-room, model-put, none-put}
use Rattle.writer.proofs.put_record.Goals as goal

pub atom_line-line-requires : goal.atom_line-line-requires
atom_line-line-requires c =
    (good-atom _ c.requires.good_words c.if-kind-eq-ATOM.true, atom-fits _ _ c.requires.fits c.if-kind-eq-ATOM.true)

pub put_bytes-requires : goal.put_bytes-requires
put_bytes-requires c = search (rules, atom-room)

pub returns-then-kind-eq-ATOM : goal.returns-then-kind-eq-ATOM
returns-then-kind-eq-ATOM c = search (rules, atom-put)

pub put_end-next-requires : goal.put_end-next-requires
put_end-next-requires c = search (rules, before-room)

pub model_line-line-requires : goal.model_line-line-requires
model_line-line-requires c = search (rules, model-fits)

pub put_bytes-requires-then-kind-eq-MODEL : goal.put_bytes-requires-then-kind-eq-MODEL
put_bytes-requires-then-kind-eq-MODEL c = search (rules, model-room)

pub returns-then-kind-eq-MODEL : goal.returns-then-kind-eq-MODEL
returns-then-kind-eq-MODEL c = search (rules, model-put)

pub returns : goal.returns
returns c = search (rules, none-put)
