-- `edits::apply_good` meets its contract. Assumes nothing.
use Rattle.std.proofs.Common.{arith, length, ◌/◌, ◌<◌}
use Rattle.edits.proofs.Lists.{bad-list, list-reads, short-answers, answers-room, list_done}
use Rattle.edits.proofs.apply_good.Goals as goal

pub returns-in_err-calls : goal.returns-in_err-calls
returns-in_err-calls c =
    bad-list c.args.list.now c.count_calls.ensures c.ok_or.ensures.value c.args.store.now c.args.out.now c.in_err-calls.was _ c.from_residual.ensures.1

pub returns-then-room-calls : goal.returns-then-room-calls
returns-then-room-calls c =
    let l : length c.args.out.now / 3 < c.in_ok-calls.calls = omega arith in
    short-answers c.args.list.now c.count_calls.ensures c.ok_or.ensures.value c.in_ok-calls.was c.args.store.now c.args.out.now l

pub apply_all-requires : goal.apply_all-requires
apply_all-requires c =
    record {
      good = c.requires;
      reads_list = list-reads c.args.list.now c.count_calls.ensures c.ok_or.ensures.value c.in_ok-calls.was;
      answers_room = answers-room c.args.list.now c.count_calls.ensures c.ok_or.ensures.value c.in_ok-calls.was c.args.out.now (omega arith);
    }

pub returns : goal.returns
returns c =
    list_done c.args.list.now c.count_calls.ensures c.ok_or.ensures.value c.in_ok-calls.was
    c.args.store.now c.args.out.now _ _ (omega arith) c.apply_all.ensures
