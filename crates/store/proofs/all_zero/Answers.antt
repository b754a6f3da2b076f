-- `store::all_zero` meets its contract. Assumes nothing.
use Rattle.std.proofs.Common.{refl, rules, tests, eqb, ◌&&◌, ◌∙◌}
use Rattle.std.specs.List.{list_all}
use Rattle.std.proofs.lemmas.Iterator.{YieldsList-from_slice}
use Rattle.std.proofs.lemmas.Iterator.Search.{all_from_yields_List}
use Rattle.std.proofs.lemmas.List.Recursion.{same_from_clauses}
use Rattle.machine.specs.Lists.{all}
use Rattle.store.proofs.all_zero.Goals as goal

pub returns : goal.returns
returns c =
    let words = c.args.s.now in
    all_from_yields_List (eqb 0) _ _ _ c.all.ensures.ran (YieldsList-from_slice words cc) (λ x b q k. search (rules, tests))
    ∙ same_from_clauses (list_all (eqb 0)) (all (eqb 0)) (λ w r. eqb 0 w && r) refl (λ w ws. refl) (λ w ws. refl) words
