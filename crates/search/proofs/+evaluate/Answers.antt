-- `search::evaluate` meets its contract: the last node says which operands stand before it. The measure is the number of the tree's words, which falls.
-- Assumes nothing.
use Rattle.std.proofs.Common.{arith, refl, rules, sym}
use Rattle.search.proofs.Nodes.{has-term}
use Rattle.search.proofs.Postfix.{on-sort, on-none, shorter, three, single, constant, under-not, negated, under-right, right-start, under_left, joined}
use Rattle.search.proofs.+evaluate.Goals as goal

pub overflow_sub-i : goal.overflow_sub-i
overflow_sub-i t c = search (rules, three)

pub bounds-tree-i : goal.bounds-tree-i
bounds-tree-i t c = search (rules, three)

pub bounds-tree-i-in-Some-Single : goal.bounds-tree-i-in-Some-Single
bounds-tree-i-in-Some-Single t c = search (rules, three)

pub bounds-tree-i-in-Some-Single-2 : goal.bounds-tree-i-in-Some-Single-2
bounds-tree-i-in-Some-Single-2 t c = search (rules, three)

pub term_of-t-requires : goal.term_of-t-requires
term_of-t-requires t c = has-term _ 0 0 c.in-Some-Single.field-0-is (c.in-Some-Single.ensures 0 0)

pub evaluate-a-requires : goal.evaluate-a-requires
evaluate-a-requires t c =
    let l = three _ c.args.tree.now c.requires.0 in
    let m = c.decreases in
    let o = under-not _ _ c.requires.0 _ refl (on-sort c.args.tree.now _ c.in-Some-Not.ensures c.in-Some-Not.field-0-is) in
    rw c.anew.ensures (shorter c.args.tree.now _ m (omega arith), (o, c.requires.1))

pub evaluate-b-requires : goal.evaluate-b-requires
evaluate-b-requires t c =
    let l = three _ c.args.tree.now c.requires.0 in
    let m = c.decreases in
    let o = under-right _ _ c.requires.0 _ refl (on-sort c.args.tree.now _ c.in-Some-Binary.ensures c.in-Some-Binary.field-0-is) in
    rw c.anew-in-Some-Binary.ensures (shorter c.args.tree.now _ m (omega arith), (o, c.requires.1))

pub evaluate-a-requires-in-Some-Binary : goal.evaluate-a-requires-in-Some-Binary
evaluate-a-requires-in-Some-Binary t c =
    let l = three _ c.args.tree.now c.requires.0 in
    let m = c.decreases in
    let e = on-sort c.args.tree.now _ c.in-Some-Binary.ensures c.in-Some-Binary.field-0-is in
    let r = c.evaluate-b in
    let f = rw c.anew-in-Some-Binary.ensures at r.ensures in
    let s = right-start _ _ c.requires.0 _ refl e r.result f in
    rw c.anew-in-Some-Binary-2.ensures (shorter c.args.tree.now r.result.start m (omega arith), (under_left _ _ c.requires.0 _ refl e r.result f, c.requires.1))

pub returns-in-Some-Single : goal.returns-in-Some-Single
returns-in-Some-Single t c = single _ _ c.requires.0 _ refl (sym c.term_of-t.ensures) (rw c.numbers.ensures at c.term_value-v.ensures)

pub returns-in-Some-Known : goal.returns-in-Some-Known
returns-in-Some-Known t c = rw c.constant.ensures (constant _ _ c.requires.0 _ refl (on-sort c.args.tree.now _ c.in-Some-Known.ensures c.in-Some-Known.field-0-is))

pub returns-in-None : goal.returns-in-None
returns-in-None t c = rw c.constant-in-None.ensures (constant _ _ c.requires.0 _ refl (on-none c.args.tree.now _ c.in-None.ensures))

pub returns-in-Some-Not : goal.returns-in-Some-Not
returns-in-Some-Not t c =
    let e = on-sort c.args.tree.now _ c.in-Some-Not.ensures c.in-Some-Not.field-0-is in
    rw c.negation.ensures (negated _ _ c.requires.0 _ refl c.evaluate-a.result e (rw c.anew.ensures at c.evaluate-a.ensures) refl)

pub returns-in-Some-Binary : goal.returns-in-Some-Binary
returns-in-Some-Binary t c =
    let e = on-sort c.args.tree.now _ c.in-Some-Binary.ensures c.in-Some-Binary.field-0-is in
    let f = rw c.anew-in-Some-Binary.ensures at c.evaluate-b.ensures in
    let g = rw c.anew-in-Some-Binary-2.ensures at c.evaluate-a-in-Some-Binary.ensures in
    rw c.connection.ensures (joined _ _ c.requires.0 _ refl e c.evaluate-b.result f c.evaluate-a-in-Some-Binary.result g refl)
