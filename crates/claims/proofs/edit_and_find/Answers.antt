-- `claims::edit_and_find` meets its contract. Assumes nothing.
use Rattle.claims.proofs.Laws.{claimed}
use Rattle.claims.proofs.edit_and_find.Goals as goal

pub returns : goal.returns
returns c =
    let both = claimed _ _ _ _ _ _ _ _ _ _ _ _ _ c.open-opened.ensures c.apply-applied.ensures c.find_all-finds.ensures in
    record { demand3 = both.0; whole = both.1 }
