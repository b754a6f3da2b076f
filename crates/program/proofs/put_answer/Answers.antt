-- `program::put_answer` meets its contract: find had room for each hit. Assumes nothing.
use Rattle.std.proofs.Common.{arith, rules}
use lib.ListN.{length-replicate}
use Rattle.program.proofs.Laws.{few-found, hits-answer, refused-answer}
use Rattle.program.proofs.put_answer.Goals as goal

pub put_found-requires : goal.put_found-requires
put_found-requires c =
    let few = few-found _ _ _ _ c.requires.0 (simp length-replicate (omega arith)) _ c.find-found.ensures _ c.in-Ok.is in
    search rules

pub returns-in-Ok : goal.returns-in-Ok
returns-in-Ok c =
    hits-answer _ _ _ _ c.requires.0 (simp length-replicate (omega arith)) _ c.find-found.ensures _ c.in-Ok.is _ _ _ c.put_found.ensures

pub returns-in-Err : goal.returns-in-Err
returns-in-Err c =
    refused-answer _ _ _ _ c.requires.0 (simp length-replicate (omega arith)) _ c.find-found.ensures _ c.in-Err.is _ _ _ c.put_refused.ensures
