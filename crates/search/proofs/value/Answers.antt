-- `search::value` meets its contract: the whole tree is one operand. Assumes nothing.
use Rattle.machine.specs.declared.Tri.{Tri}
use Rattle.machine.specs.declared.Term.{Term}
use Rattle.seek.specs.Seek.{five_numbers}
use Rattle.terms.specs.Levels.{term_value_at}
use Rattle.search.proofs.Postfix.{tree-operand, tree-value}
use Rattle.search.proofs.value.Goals as goal

pub evaluate-p-requires : goal.evaluate-p-requires
evaluate-p-requires c =
    let a = c.args in
    let v : Term → Tri = term_value_at a.words.now (five_numbers a.place.now) a.low a.high a.residues.now a.atoms.now in
    (tree-operand v a.tree.now c.requires.0, c.requires.1)

pub returns : goal.returns
returns c =
    let a = c.args in
    let v : Term → Tri = term_value_at a.words.now (five_numbers a.place.now) a.low a.high a.residues.now a.atoms.now in
    tree-value v a.tree.now c.requires.0 c.evaluate-p.result c.evaluate-p.ensures
