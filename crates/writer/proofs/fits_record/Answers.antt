-- `writer::fits_record` meets its contract. Assumes nothing.
use Rattle.std.proofs.Common.{rules}
use Rattle.writer.proofs.Laws.{good-atom, fits-atom, fits-model, fits-none}
use Rattle.writer.proofs.fits_record.Goals as goal

pub fits_atom-requires : goal.fits_atom-requires
fits_atom-requires c = search (rules, good-atom)

pub returns-then-kind-eq-ATOM : goal.returns-then-kind-eq-ATOM
returns-then-kind-eq-ATOM c = search (rules, fits-atom)

pub returns-then-kind-eq-MODEL : goal.returns-then-kind-eq-MODEL
returns-then-kind-eq-MODEL c = search (rules, fits-model)

pub returns : goal.returns
returns c = search (rules, fits-none)
