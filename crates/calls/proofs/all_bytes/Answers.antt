-- `calls::all_bytes` meets its contract. Assumes nothing.
use Rattle.std.proofs.Common.{refl, rules, tests, ◌&&◌, ◌∙◌}
use Rattle.std.specs.List.{list_all}
use Rattle.std.proofs.lemmas.Iterator.{YieldsList-from_slice}
use Rattle.std.proofs.lemmas.Iterator.Search.{all_from_yields_List}
use Rattle.std.proofs.lemmas.List.Recursion.{same_from_clauses}
use Rattle.machine.specs.Lists.{all}
use Rattle.calls.specs.Format.{is_byte}
use Rattle.calls.proofs.all_bytes.Goals as goal

pub returns : goal.returns
returns c =
    let words = c.args.words.now in
    all_from_yields_List is_byte _ _ _ c.all.ensures.ran (YieldsList-from_slice words cc) (λ x b q k. search (rules, tests))
    ∙ same_from_clauses (list_all is_byte) (all is_byte) (λ w r. is_byte w && r) refl (λ w ws. refl) (λ w ws. refl) words
