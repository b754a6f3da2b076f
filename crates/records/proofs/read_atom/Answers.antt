-- `records::read_atom` meets its contract: its calls, at the words of one record. Assumes nothing.
use Rattle.std.proofs.Common.{rules}
use Rattle.records.proofs.Laws.{atom-read}
use Rattle.records.proofs.read_atom.Goals as goal

pub returns : goal.returns
returns c = search (rules, atom-read)
