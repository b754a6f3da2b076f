-- `terms::matches_hetero` meets its contract: the three terms by their case, on a hetero atom and on others; no other term asks so. Assumes nothing.
use Rattle.std.proofs.Common.{Bool, ap, false, refl, sym, true, ◌∙◌, ◌≡◌}
use mathlib.Core.Bool.{false≢true}
use Rattle.machine.specs.Record.{Atom, read_out}
use Rattle.machine.specs.Query.{term_value}
use Rattle.machine.specs.declared.AtomRec.{AtomRec}
use Rattle.terms.proofs.Terms.{cases, by_less}
use borrow.Enum.Refused.{opened}
use Rattle.terms.proofs.matches_hetero.Goals as goal

-- what the code tested of the atom as it was read out
hetero-is : (a : Atom) (r : AtomRec) (b : Bool) → r ≡ read_out a → r.hetero ≡ b → (read_out a).hetero ≡ b
hetero-is a r b e h = ap (λ (x : AtomRec). x.hetero) (sym e) ∙ h

pub returns-in-Backbone : goal.returns-in-Backbone
unfolding read_out term_value
returns-in-Backbone c a e q others = simp (c.in-Backbone.is, hetero-is a _ true e c.if-atom.true)

pub returns-in-SideChain : goal.returns-in-SideChain
unfolding read_out term_value
returns-in-SideChain c a e q others = simp (c.in-SideChain.is, hetero-is a _ true e c.if-atom.true)

pub returns-in-Hetero : goal.returns-in-Hetero
unfolding read_out term_value
returns-in-Hetero c a e q others = simp (c.in-Hetero.is, hetero-is a _ true e c.if-atom.true)

pub returns-in_default : goal.returns-in_default
returns-in_default c a e q others = absurd (false≢true (sym (by_less 3 (cases 0 19) c.args.t (opened c.in_default.in_default-own.keys4) refl) ∙ q))

pub returns-in-Backbone-t : goal.returns-in-Backbone-t
unfolding read_out term_value
returns-in-Backbone-t c a e q others = simp (c.decided.ensures, c.contains.ensures, c.in-Backbone-t.is, hetero-is a _ false e c.if-atom.false, e)

pub returns-in-SideChain-t : goal.returns-in-SideChain-t
unfolding read_out term_value
returns-in-SideChain-t c a e q others = simp (c.decided-in-SideChain-t.ensures, c.contains-in-SideChain-t.ensures, c.in-SideChain-t.is, hetero-is a _ false e c.if-atom.false, e)

pub returns-in-Hetero-t : goal.returns-in-Hetero-t
unfolding read_out term_value
returns-in-Hetero-t c a e q others = simp (c.in-Hetero-t.is, hetero-is a _ false e c.if-atom.false)

pub returns-in_default-t : goal.returns-in_default-t
returns-in_default-t c a e q others = absurd (false≢true (sym (by_less 3 (cases 0 19) c.args.t (opened c.in_default-t.in_default-t-own.keys4) refl) ∙ q))
