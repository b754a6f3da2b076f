-- `writer::put_end` meets its contract. Assumes nothing.
use Rattle.std.proofs.Common.{rules}
use Rattle.writer.proofs.Laws.{end-room, end-put, end_none}
use Rattle.writer.proofs.put_end.Goals as goal

pub put_bytes-requires : goal.put_bytes-requires
put_bytes-requires c = search (rules, end-room)

pub returns-then-begun : goal.returns-then-begun
returns-then-begun c = search (rules, end-put)

pub returns : goal.returns
returns c = search (rules, end_none)
