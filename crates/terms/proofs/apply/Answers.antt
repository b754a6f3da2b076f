-- `terms::apply` meets its contract: each operator has its own function. Assumes nothing.
use Rattle.terms.proofs.apply.Goals as goal

pub returns-in-And : goal.returns-in-And
returns-in-And c = simp (c.and_tri.ensures, c.in-And.is)

pub returns-in-Or : goal.returns-in-Or
returns-in-Or c = simp (c.or_tri.ensures, c.in-Or.is)

pub returns-in-Xor : goal.returns-in-Xor
returns-in-Xor c = simp (c.xor_tri.ensures, c.in-Xor.is)
