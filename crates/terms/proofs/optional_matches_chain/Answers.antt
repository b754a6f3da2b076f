-- `terms::optional_matches_chain` meets its contract: each term of the level by its case, and the others are undecided. Assumes nothing.
use Rattle.std.specs.Prelude.{Some}
use Rattle.std.proofs.Common.{refl, ◌++◌}
use Rattle.machine.specs.Query.{window, term_value}
use Rattle.terms.specs.Levels.{at_chain}
use Rattle.terms.proofs.Terms.{cases, elsewhere}
use borrow.Enum.Refused.{opened}
use Rattle.terms.proofs.optional_matches_chain.Goals as goal

pub returns-in-ChainId : goal.returns-in-ChainId
unfolding term_value
returns-in-ChainId c names = simp (c.decided.ensures, c.in-ChainId.is)

pub returns-in-ChainIdRange : goal.returns-in-ChainIdRange
unfolding term_value
returns-in-ChainIdRange c names = simp (c.decided-in-ChainIdRange.ensures, c.between.ensures, c.in-ChainIdRange.is)

pub returns-in_default : goal.returns-in_default
unfolding window
returns-in_default c names = elsewhere names 2 (at_chain (Some (record { id = c.args.id }))) (cases 0 2 ++ cases 4 18) c.args.t refl (opened c.in_default.in_default-own.keys3)
