-- `helper::valid_text` asks every byte. Assumes nothing.
use Rattle.std.proofs.Common.{rules, tests}
use Rattle.std.proofs.lemmas.Iterator.{YieldsList-from_slice}
use Rattle.std.proofs.lemmas.Iterator.Search.{all_from_yields_List}
use Rattle.machine.specs.Text.{plain}
use Rattle.helper.proofs.Laws.{all-plain}
use Rattle.helper.proofs.valid_text.Goals as goal

pub returns : goal.returns
returns c =
    let t = c.args.text.now in
    all-plain t _ (all_from_yields_List plain _ _ _ c.all.ensures.ran (YieldsList-from_slice t cc) (λ x b q k. search (rules, tests)))
