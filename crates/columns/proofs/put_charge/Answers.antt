-- `columns::put_charge` meets its contract. Assumes nothing.
use Rattle.std.proofs.Common.{arith}
use Rattle.columns.proofs.Words.{two_is, charge-small, charge-none, charge-plus, charge-minus}
use Rattle.columns.proofs.put_charge.Goals as goal

pub overflow_cast-size_of : goal.overflow_cast-size_of
overflow_cast-size_of c = omega (arith, charge-small c.args.charge c.size_of.result c.requires.0 c.size_of.ensures)

pub overflow_add-size_of : goal.overflow_add-size_of
overflow_add-size_of c = omega (arith, charge-small c.args.charge c.size_of.result c.requires.0 c.size_of.ensures)

pub overflow_cast-size_of-else-charge-lt9223372036854775808 : goal.overflow_cast-size_of-else-charge-lt9223372036854775808
overflow_cast-size_of-else-charge-lt9223372036854775808 c = omega (arith, charge-small c.args.charge c.size_of-else-charge-lt9223372036854775808.result c.requires.0 c.size_of-else-charge-lt9223372036854775808.ensures)

pub overflow_add-size_of-else-charge-lt9223372036854775808 : goal.overflow_add-size_of-else-charge-lt9223372036854775808
overflow_add-size_of-else-charge-lt9223372036854775808 c = omega (arith, charge-small c.args.charge c.size_of-else-charge-lt9223372036854775808.result c.requires.0 c.size_of-else-charge-lt9223372036854775808.ensures)

pub returns-then-charge-eq0 : goal.returns-then-charge-eq0
returns-then-charge-eq0 c = two_is _ _ _ _ _ _ c.put_two.ensures (charge-none _ c.if-charge-eq0.true)

pub returns-then-charge-lt9223372036854775808 : goal.returns-then-charge-lt9223372036854775808
returns-then-charge-lt9223372036854775808 c = two_is _ _ _ _ _ _ c.put_two-then-charge-lt9223372036854775808.ensures (charge-plus _ _ (omega arith) c.if-charge-lt9223372036854775808.true (charge-small c.args.charge c.size_of.result c.requires.0 c.size_of.ensures) c.size_of.ensures)

pub returns-else-charge-lt9223372036854775808 : goal.returns-else-charge-lt9223372036854775808
returns-else-charge-lt9223372036854775808 c = two_is _ _ _ _ _ _ c.put_two-else-charge-lt9223372036854775808.ensures (charge-minus _ _ c.if-charge-lt9223372036854775808.false (charge-small c.args.charge c.size_of-else-charge-lt9223372036854775808.result c.requires.0 c.size_of-else-charge-lt9223372036854775808.ensures) c.size_of-else-charge-lt9223372036854775808.ensures)
