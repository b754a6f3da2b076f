-- `terms::optional_matches_conformer` meets its contract: each term of the level by its case, and the others are undecided. Assumes nothing.
use Rattle.std.specs.Prelude.{Some}
use Rattle.std.proofs.Common.{refl, ◌++◌}
use Rattle.machine.specs.Query.{window, term_value}
use Rattle.terms.specs.Levels.{at_conformer}
use Rattle.terms.proofs.Terms.{cases, elsewhere}
use borrow.Enum.Refused.{opened}
use Rattle.terms.proofs.optional_matches_conformer.Goals as goal

pub returns-in-ConformerName : goal.returns-in-ConformerName
unfolding term_value
returns-in-ConformerName c others = simp (c.decided.ensures, c.in-ConformerName.is)

pub returns-in-ConformerAlternativeLocation : goal.returns-in-ConformerAlternativeLocation
unfolding term_value
returns-in-ConformerAlternativeLocation c others = simp (c.decided-in-ConformerAlternativeLocation.ensures, c.in-ConformerAlternativeLocation.is)

pub returns-in-ConformerId : goal.returns-in-ConformerId
unfolding term_value
returns-in-ConformerId c others = simp (c.decided-in-ConformerId.ensures, c.in-ConformerId.is)

pub returns-in-Backbone : goal.returns-in-Backbone
unfolding term_value
returns-in-Backbone c others = simp (c.outside.ensures, c.in-Backbone.is)

pub returns-in-SideChain : goal.returns-in-SideChain
unfolding term_value
returns-in-SideChain c others = simp (c.outside-in-SideChain.ensures, c.in-SideChain.is)

pub returns-in_default : goal.returns-in_default
unfolding window
returns-in_default c others =
    let a = c.args in
    elsewhere (record { residues = a.residues.now; atoms = others }) 4 (at_conformer (Some (record { name = a.name; location = a.location }))) (cases 0 8 ++ (cases 11 8 ++ cases 21 1)) a.t refl (opened c.in_default.in_default-own.keys6)
