-- `search::check_tree` meets its contract: its four tests are those of the definition, in its order. Assumes nothing.
use Rattle.std.proofs.Common.{sym, ◌∙◌}
use Rattle.laws.specs.Exits.{exit-or}
use Rattle.search.proofs.Depth.{too_short, too_long, no-threes, bad-node, good-tree, bad-shape}
use Rattle.search.proofs.check_tree.Goals as goal

pub returns-then-n-lt3 : goal.returns-then-n-lt3
returns-then-n-lt3 c = too_short c.args.tree.now c.if-n-lt3.true

pub returns-then-n-gt381 : goal.returns-then-n-gt381
returns-then-n-gt381 c = too_long c.args.tree.now c.if-n-lt3.false c.if-n-gt381.true

pub returns-then-n-ne0 : goal.returns-then-n-ne0
returns-then-n-ne0 c = no-threes c.args.tree.now c.if-n-lt3.false c.if-n-gt381.false c.if-n-ne0.true

pub returns-in_err-d : goal.returns-in_err-d
returns-in_err-d c =
    exit-or _ c.in_err-d.ensures.value c.from_residual.ensures.1
    ∙ bad-node c.args.tree.now c.if-n-lt3.false c.if-n-gt381.false c.if-n-ne0.false (sym c.depth_of.ensures ∙ c.in_err-d.ensures.ok_part)

pub returns-then-d-eq2 : goal.returns-then-d-eq2
returns-then-d-eq2 c = good-tree c.args.tree.now c.if-n-lt3.false c.if-n-gt381.false c.if-n-ne0.false _ (sym c.depth_of.ensures ∙ c.in_ok-d.ensures.ok_part) c.if-d-eq2.true

pub returns-else-d-eq2 : goal.returns-else-d-eq2
returns-else-d-eq2 c = bad-shape c.args.tree.now c.if-n-lt3.false c.if-n-gt381.false c.if-n-ne0.false _ (sym c.depth_of.ensures ∙ c.in_ok-d.ensures.ok_part) c.if-d-eq2.false
