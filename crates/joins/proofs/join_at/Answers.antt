-- `joins::join_at` meets its contract: a law for each return. Assumes nothing.
use Rattle.std.proofs.Common.{rules}
use Rattle.joins.proofs.Returns.{no-first, no_second, itself, behind-second, behind-turns, behind-done, ahead-second, ahead-first, ahead-turns, ahead-done}
use Rattle.joins.proofs.join_at.Goals as goal

pub returns-in_err-start : goal.returns-in_err-start
returns-in_err-start c =
    no-first _ _ _ c.requires.good _ _ _ c.requires.in_bounds.0 c.requires.in_bounds.1 c.requires.in_bounds.2
    c.in_err-start.was c.from_residual.ensures.1 c.locate.ensures

pub returns-in_err-from : goal.returns-in_err-from
returns-in_err-from c =
    no_second _ _ _ c.requires.good _ _ _ c.requires.in_bounds.0 c.requires.in_bounds.1 c.requires.in_bounds.2
    c.in_err-from.was c.from_residual-in_err-from.ensures.1 c.locate-2.ensures

pub returns-then-start-from : goal.returns-then-start-from
returns-then-start-from c = search (rules, itself)

pub overflow_sub-to : goal.overflow_sub-to
overflow_sub-to c =
    search (
      rules,
      behind-second c.args.store.now c.args.first.now c.args.second.now c.requires.good _ _ _ _ _ _ c.requires.in_bounds.0 c.requires.in_bounds.1 c.requires.in_bounds.2
          c.locate.ensures c.locate-2.ensures c.in_ok-start.was c.in_ok-from.was,
    )

pub cut_turn-requires : goal.cut_turn-requires
cut_turn-requires c =
    search (
      rules,
      behind-turns c.args.store.now c.args.first.now c.args.second.now c.requires.good _ _ _ _ _ _ c.requires.in_bounds.0 c.requires.in_bounds.1 c.requires.in_bounds.2
          c.locate.ensures c.locate-2.ensures c.in_ok-start.was c.in_ok-from.was,
    )

pub returns-then-start-from-2 : goal.returns-then-start-from-2
returns-then-start-from-2 c =
    search (
      rules,
      behind-done c.args.store.now c.args.first.now c.args.second.now c.requires.good _ _ _ _ _ _ c.requires.in_bounds.0 c.requires.in_bounds.1 c.requires.in_bounds.2
          c.locate.ensures c.locate-2.ensures c.in_ok-start.was c.in_ok-from.was,
    )

pub overflow_sub-to-2 : goal.overflow_sub-to-2
overflow_sub-to-2 c =
    search (
      rules,
      ahead-second c.args.store.now c.args.first.now c.args.second.now c.requires.good _ _ _ _ _ _ c.requires.in_bounds.0 c.requires.in_bounds.1 c.requires.in_bounds.2
          c.locate.ensures c.locate-2.ensures c.in_ok-start.was c.in_ok-from.was,
    )

pub overflow_sub-end : goal.overflow_sub-end
overflow_sub-end c =
    search (
      rules,
      ahead-first c.args.store.now c.args.first.now c.args.second.now c.requires.good _ _ _ _ _ _ c.requires.in_bounds.0 c.requires.in_bounds.1 c.requires.in_bounds.2
          c.locate.ensures c.locate-2.ensures c.in_ok-start.was c.in_ok-from.was,
    )

pub cut_turn-requires-2 : goal.cut_turn-requires-2
cut_turn-requires-2 c =
    search (
      rules,
      ahead-turns c.args.store.now c.args.first.now c.args.second.now c.requires.good _ _ _ _ _ _ c.requires.in_bounds.0 c.requires.in_bounds.1 c.requires.in_bounds.2
          c.locate.ensures c.locate-2.ensures c.in_ok-start.was c.in_ok-from.was,
    )

pub returns : goal.returns
returns c =
    search (
      rules,
      ahead-done c.args.store.now c.args.first.now c.args.second.now c.requires.good _ _ _ _ _ _ c.requires.in_bounds.0 c.requires.in_bounds.1 c.requires.in_bounds.2
          c.locate.ensures c.locate-2.ensures c.in_ok-start.was c.in_ok-from.was,
    )
