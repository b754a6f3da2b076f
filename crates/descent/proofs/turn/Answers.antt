-- `descent::turn` meets its contract: a tree that is true above a record is true there, one that asks for no kind that is known is undecided, and else its value says what is below. Assumes nothing.
use Rattle.seek.specs.Seek.{five_numbers}
use Rattle.descent.proofs.Turns.{turn-settled, turn-quiet}
use Rattle.descent.proofs.turn.Goals as goal

pub returns-then-settled-kind : goal.returns-then-settled-kind
returns-then-settled-kind c =
    let a = c.args in
    rw c.new.ensures (turn-settled a.store.now a.tree.now a.low a.residues.now a.atoms.now (five_numbers a.at.now) a.kind a.settled c.requires.3 c.if-settled-kind.true)

pub returns-then-kind-topmost : goal.returns-then-kind-topmost
returns-then-kind-topmost c =
    let a = c.args in
    rw c.new-then-kind-topmost.ensures (turn-quiet a.store.now a.tree.now a.low a.residues.now a.atoms.now (five_numbers a.at.now) a.kind a.topmost c.requires.0 c.requires.4 c.if-kind-topmost.true)
