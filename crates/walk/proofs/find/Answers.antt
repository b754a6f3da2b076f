-- `walk::find` meets its contract, by the answers of its checks. Assumes nothing.
use Rattle.std.proofs.Common.{rules, sym, ◌∙◌}
use Rattle.laws.specs.Exits.{exit-or}
use Rattle.walk.proofs.Laws.{no_store, no-position, held-good, asked-law, found-run}
use Rattle.walk.proofs.find.Goals as goal

pub part_under-requires : goal.part_under-requires
part_under-requires c = search (rules, held-good)

pub find_part-requires : goal.find_part-requires
find_part-requires c = asked-law _ _ c.in_ok-total.ensures _ (sym c.part_under.ensures ∙ c.in_ok-part.ensures.ok_part)

pub returns-in_err-total : goal.returns-in_err-total
returns-in_err-total c = no_store _ _ _ _ _ c.in_err-total.ensures c.from_residual.ensures.1

pub returns-in_err-part : goal.returns-in_err-part
returns-in_err-part c =
    rw (exit-or _ c.in_err-part.ensures.value c.from_residual-in_err-part.ensures.1)
    (no-position _ _ c.in_ok-total.ensures _ _ (sym c.part_under.ensures ∙ c.in_err-part.ensures.ok_part))

pub returns : goal.returns
returns c = found-run _ _ c.in_ok-total.ensures _ (sym c.part_under.ensures ∙ c.in_ok-part.ensures.ok_part) _ _ c.find_part.ensures
