use Rattle.std.proofs.Common.{arith, rules}
use Rattle.store.proofs.Turns.{behind-none, first-atom, atom-bad, kind-jumps, record-above, record-not, behind-next, first_kind, all-good}
use Rattle.store.proofs.check_records.Goals as goal

pub loop-at-init : goal.loop-at-init
loop-at-init c = search (rules, behind-none)

pub returns-then-from-eq0 : goal.returns-then-from-eq0
returns-then-from-eq0 c = search (rules, first-atom)

pub returns-then-k-gt-CONFORMER : goal.returns-then-k-gt-CONFORMER
returns-then-k-gt-CONFORMER c = search (rules, atom-bad)

pub returns-then-k-following : goal.returns-then-k-following
returns-then-k-following c =
    kind-jumps c.loop-at.invariant c.loop-at-test.true c.atoms_start-from.result c.atoms_start-from.ensures c.if-from-eq0.false c.following.ensures (omega arith)

pub good_record-requires : goal.good_record-requires
good_record-requires c =
    record-above c.loop-at.invariant c.loop-at-test.true c.atoms_start-from.result c.atoms_start-from.ensures c.if-from-eq0.false (omega arith)

pub loop-at-preserved : goal.loop-at-preserved
loop-at-preserved c =
    behind-next c.loop-at.invariant c.loop-at-test.true c.atoms_start-from.result c.atoms_start-from.ensures c.if-from-eq0.false c.good_record.ensures (omega arith) c.following.ensures (omega arith) c.if-good_record.true

pub returns-else-good_record : goal.returns-else-good_record
returns-else-good_record c = search (rules, record-not)

pub returns-then-next-gt-MODEL : goal.returns-then-next-gt-MODEL
returns-then-next-gt-MODEL c = first_kind c.loop-at.invariant (omega arith) (omega arith)

pub returns : goal.returns
returns c = search (rules, all-good)
