use Rattle.std.proofs.Common.{arith, rules}
use Rattle.columns.proofs.Words.{spell-start, spell-more, spell-turn, spell-end}
use Rattle.columns.proofs.put_word.Goals as goal

pub loop-rest-init : goal.loop-rest-init
loop-rest-init c = search (rules, spell-start)

pub nonzero_div-line : goal.nonzero_div-line
nonzero_div-line c = let m = spell-more _ _ _ _ _ _ _ c.loop-rest.invariant c.loop-rest-test.true in omega arith

pub overflow_cast-line : goal.overflow_cast-line
overflow_cast-line c = let m = spell-more _ _ _ _ _ _ _ c.loop-rest.invariant c.loop-rest-test.true in omega arith

pub bounds-line-i : goal.bounds-line-i
bounds-line-i c = let m = spell-more _ _ _ _ _ _ _ c.loop-rest.invariant c.loop-rest-test.true in omega arith

pub nonzero_rem-rest : goal.nonzero_rem-rest
nonzero_rem-rest c = let m = spell-more _ _ _ _ _ _ _ c.loop-rest.invariant c.loop-rest-test.true in omega arith

pub loop-rest-smaller : goal.loop-rest-smaller
loop-rest-smaller c = let m = spell-more _ _ _ _ _ _ _ c.loop-rest.invariant c.loop-rest-test.true in omega arith

pub loop-rest-preserved : goal.loop-rest-preserved
loop-rest-preserved c = search (rules, spell-turn)

pub returns : goal.returns
returns c = search (rules, spell-end)
