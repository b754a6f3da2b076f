-- `terms::word` meets its contract: the word at its place in the record. Assumes nothing.
use Rattle.terms.proofs.Records.{record-word}
use Rattle.terms.proofs.word.Goals as goal

pub returns : goal.returns
returns c = record-word c.args.words.now c.args.number c.args.k c.requires.1
