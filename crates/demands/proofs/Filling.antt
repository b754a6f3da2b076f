-- What a missing element that is set does to runs of find, proved for every accepted call on any words. Assumes nothing.
use Rattle.std.specs.Prelude.{Err, Ok, Some}
use Prim.Native.Nat.{ℕ, suc, ◌*◌, ◌≤◌}
use mathlib.Core.Path.{◌≡◌, refl, sym, ap, ◌∙◌}
use mathlib.Core.Bool.{Bool, true, false, false≢true}
use mathlib.Core.Logic.{inl, inr}
use mathlib.Core.List.{List, ◌∷◌}
use native.Mathlib.Omega.{arith}
use lib.ListN.{length, length-append}
use lib.Dec.{leb}
use borrow.Author.Tests.{leb-true, le-leb}
use Rattle.machine.specs.Answer.{Result}
use Rattle.machine.specs.Store.{Machine, lay_out, read_store}
use Rattle.machine.specs.Query.{tables}
use Rattle.machine.specs.Find.{Site, atoms_from, lowest, hits_among, written, hits_from, find_from}
use Rattle.machine.specs.Edit.{Call, SetElement, Change, machine_step, step_by, store_step}
use Rattle.machine.specs.Demand.{Accepted, count, list, StaysOrLoses}
use Rattle.laws.specs.Good.{Fit}
use Rattle.laws.specs.Layout.{read_length, read-fit, read-lay_out}
use Rattle.laws.specs.Steps.{refusal-number, step_keeps}
use Rattle.laws.specs.Elements.{Filled, filled-step, filled-hits, atom_site, under-conformer, Falls}
use Rattle.demands.specs.Filling.{Saved, filled, Filling}
use Rattle.demands.proofs.Queries.{Listed}
use Rattle.demands.proofs.Demand.{find-listed, start-found}

-- ---- an accepted call

record Done (w : List ℕ) (c : Call) : Type 0 where
  machine : Machine
  holds : read_store w ≡ Ok machine
  change : Change
  steps : machine_step (length w) machine c ≡ Ok change
  words : (store_step w c).1 ≡ lay_out (length w) change.after

done : (w : List ℕ) (c : Call) → Accepted (store_step w c) → Done w c
unfolding store_step step_by
done w c a = go (read_store w) refl a
  where
    stepped : (m : Machine) → read_store w ≡ Ok m → (s : Result Change) → machine_step (length w) m c ≡ s → Accepted (store_step w c) → Done w c
    stepped m e (Ok x) k h = record { machine = m; holds = e; change = x; steps = k; words = rw (e, k) }
    stepped m e (Err x) k h = absurd (false≢true (sym (refusal-number x) ∙ (rw (e, k) at h)))

    go : (r : Result Machine) → read_store w ≡ r → Accepted (store_step w c) → Done w c
    go (Ok m) e h = stepped m e (machine_step (length w) m c) refl h
    go (Err x) e h = absurd (false≢true (sym (refusal-number x) ∙ (rw e at h)))

-- what it leaves is a store again
read-after : (w : List ℕ) (c : Call) (d : Done w c) → read_store (store_step w c).1 ≡ Ok d.change.after
read-after w c d =
    let fit : Fit (length w) d.change.after = rw d.steps at (step_keeps (length w) d.machine c (read-fit w d.machine d.holds)) in
    ap read_store d.words ∙ read-lay_out (length w) d.change.after (read_length w d.machine d.holds) fit

-- ---- lists that stay or lose one hit

few : (hit : List ℕ) (gs hs : List (List ℕ)) → StaysOrLoses hit gs hs → (length hs ≤ length gs) × (length gs ≤ suc (length hs))
few hit gs hs (inl e) = let l = ap length e in (omega arith, omega arith)
few hit gs hs (inr l) =
    let e = ap length l.was ∙ length-append l.ahead (hit ∷ l.behind) in
    let g = ap length l.is ∙ length-append l.ahead l.behind in
    (omega arith, omega arith)

saved-runs : (hit : List ℕ) (before after : List ℕ × List ℕ) → count before ≡ length (list before) → count after ≡ length (list after) → StaysOrLoses hit (list before) (list after) → Saved hit before after
saved-runs hit before after n k h = let b = few hit (list before) (list after) h in record { hits = h; falls = (omega (arith, b.0), omega (arith, b.1)) }

-- an output that was long enough for more hits is
room : (out : List ℕ) (hs : List (List ℕ)) → Accepted (written out (Ok hs)) → 5 * length hs ≤ length out
room out hs a = go (leb (5 * length hs) (length out)) refl
  where
    go : (b : Bool) → leb (5 * length hs) (length out) ≡ b → 5 * length hs ≤ length out
    go true e = leb-true _ _ e
    go false e = absurd (false≢true (rw e at a))

fits : (out : List ℕ) (hs : List (List ℕ)) → 5 * length hs ≤ length out → Accepted (written out (Ok hs))
fits out hs l = rw (le-leb _ _ l) refl

-- ---- the theorem

module _ (w : List ℕ) (i c r f a e : ℕ) (accepted : Accepted (store_step w (SetElement i c r f a e))) where
  d : Done w (SetElement i c r f a e)
  d = done w (SetElement i c r f a e) accepted

  x : Filled (length w) d.machine i c r f a e d.change.after
  x = filled-step (length w) d.machine i c r f a e d.change d.steps

  held : read_store (filled w i c r f a e) ≡ Ok d.change.after
  held = read-after w (SetElement i c r f a e) d

  abbrev atom : Site
  atom = atom_site d.machine i c r f a x.atom x.there

  module _ (start t out : List ℕ) (b : Accepted (find_from w start t out)) where
    its : (atoms : List Site) × (atoms_from start d.machine ≡ Some atoms)
    its = start-found d.machine w d.holds start (atoms_from start d.machine) refl t out b

    before : Listed tables (lowest start) its.0 t (find_from w start t out)
    before = find-listed d.machine w d.holds start its.0 its.1 t out b

    falls : Falls atom.numbers d.change.after tables (lowest start) t start its.0
    falls = filled-hits (length w) d.machine i c r f a e d.change.after x tables (lowest start) t start its.0 its.1

    still : Accepted (find_from (filled w i c r f a e) start t out)
    unfolding find_from hits_from
    still =
        let gs = hits_among tables (lowest start) t its.0 in
        let hs = hits_among tables (lowest start) t falls.0 in
        let l = room out gs (rw (d.holds, its.1, before.tree) at b) in
        rw (held, falls.1, before.tree) (fits out hs (omega (arith, (few atom.numbers gs hs falls.2).0)))

    both : (out' : List ℕ) → Accepted (find_from (filled w i c r f a e) start t out') → Saved atom.numbers (find_from w start t out) (find_from (filled w i c r f a e) start t out')
    both out' h =
        let after = find-listed d.change.after (filled w i c r f a e) held start falls.0 falls.1 t out' h in
        saved-runs atom.numbers _ _ before.number after.number (rw (before.hits, after.hits) falls.2)

  pub filling : Filling w i c r f a e
  filling =
      let u = under-conformer d.machine i c r f a x.atom x.there in
      record {
        machine = d.machine;
        holds = d.holds;
        atoms = u.0;
        under = u.1;
        atom = atom;
        there = u.2;
        again = still;
        saved = λ start t before after b h. both start t before b after h;
      }
