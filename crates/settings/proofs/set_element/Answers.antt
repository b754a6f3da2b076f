-- `settings::set_element` meets its contract. Assumes nothing.
use Rattle.std.proofs.Common.{rules}
use Rattle.settings.proofs.Laws.{element-missing, element-bad, element-there, element-present, element-set}
use Rattle.settings.proofs.set_element.Goals as goal

pub returns-in_err-at : goal.returns-in_err-at
returns-in_err-at c =
    element-missing c.args.store.now c.args.position.now c.requires.good c.requires.position_len c.args.element _ c.locate.ensures
    _ c.in_err-at.was _ c.from_residual.ensures.1

pub returns-in_err-ok_or : goal.returns-in_err-ok_or
returns-in_err-ok_or c =
    element-bad c.args.store.now c.args.position.now c.requires.good c.requires.position_len c.args.element _ c.locate.ensures _ _ c.in_ok-at.was
    _ c.from_number.ensures _ c.ok_or.ensures.value _ c.in_err-ok_or.was _ c.from_residual-in_err-ok_or.ensures.1

pub word-requires : goal.word-requires
word-requires c = search (rules, element-there)

pub returns-then-word-gt0 : goal.returns-then-word-gt0
returns-then-word-gt0 c =
    element-present c.args.store.now c.args.position.now c.requires.good c.requires.position_len c.args.element _ c.locate.ensures _ _ c.in_ok-at.was
    _ c.from_number.ensures _ c.ok_or.ensures.value _ c.in_ok-ok_or.was _ c.word.ensures c.if-word-gt0.true

pub put_word-requires : goal.put_word-requires
put_word-requires c = search (rules, element-there)

pub returns : goal.returns
returns c =
    element-set c.args.store.now c.args.position.now c.requires.good c.requires.position_len c.args.element _ c.locate.ensures _ _ c.in_ok-at.was
    _ c.from_number.ensures _ c.ok_or.ensures.value _ c.in_ok-ok_or.was _ c.word.ensures c.if-word-gt0.false _ c.put_word.ensures
