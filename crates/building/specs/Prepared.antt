-- Change request §9, "builds by model and atom additions": an addition takes the names of a good line as they stand. Assumes nothing.
use Rattle.std.specs.Prelude.{ℕ, ◌≡◌, refl, Bool, true, false, ◌||◌, cond, List, eqb, Ok}
use Rattle.std.proofs.Common.{sym, ap, eqb-true}
use Rattle.std.proofs.lemmas.Bool.{false≢true}
use Rattle.machine.specs.Text.{text_of, chain_id, insertion_code, conformer_name, alternative_location, atom_name, stores, stored_by, absent_or, by_flag, optional}
use Rattle.machine.specs.Record.{good_fields}
use Rattle.machine.specs.Edit.{prepare, accept}
use Rattle.machine.specs.Lines.{AtomLine}
use Rattle.machine.specs.LinesIn.{good_line}
use Rattle.machine.specs.Read.{given, addition_of}
use Rattle.machine.specs.declared.Prepared.{Prepared}
use Rattle.machine.specs.declared.Prepared.TheVariants.{Stored, Absent, Bad}
use Rattle.machine.specs.declared.Name.{Name}
use Rattle.machine.specs.declared.Name.TheVariants.{ChainId, InsertionCode, ConformerName, AlternativeLocation, AtomName}
use Rattle.machine.specs.declared.PreparedAddition.{PreparedAddition}
use Rattle.laws.specs.Lists.{and_both}

-- the addition of a line's atom, with the line's words
unfoldable pub prepared_of : AtomLine → PreparedAddition
prepared_of l =
    record {
      chain = l.chain.id;
      residue = l.residue.serial;
      code = l.residue.code;
      conformer = l.conformer.name;
      location = l.conformer.location;
      name = l.atom.name;
      values =
          record {
            serial = l.atom.serial;
            x = l.atom.x;
            y = l.atom.y;
            z = l.atom.z;
            occupancy = l.atom.occupancy;
            b_factor = l.atom.b_factor;
            element = l.atom.element;
            charge = l.atom.charge;
            hetero = l.atom.hetero;
          };
    }

stores-is : (w : ℕ) (p : Prepared) → stores w p ≡ true → p ≡ Stored w
stores-is w (Stored v) h = ap Stored (eqb-true v w h)
stores-is w Absent h = absurd (false≢true h)
stores-is w Bad h = absurd (false≢true h)

taken : (n : Name) (rule : List ℕ → Prepared) (w : ℕ) → stored_by rule w ≡ true → accept n (rule (text_of w)) ≡ Ok w
unfolding stored_by
taken n rule w h = ap (accept n) (stores-is w (rule (text_of w)) h)

taken-optional : (n : Name) (rule : List ℕ → Prepared) (w : ℕ) → absent_or rule w ≡ true → accept n (optional rule (given w)) ≡ Ok w
taken-optional n rule w h = go (eqb w 0) refl h
  where
    go : (b : Bool) → eqb w 0 ≡ b → b || stored_by rule w ≡ true → accept n (by_flag (cond b 0 1) (rule (text_of w))) ≡ Ok w
    go true e f = ap Ok (sym (eqb-true w 0 e))
    go false e f = taken n rule w f

pub prepared : (l : AtomLine) → good_line l ≡ true → prepare (addition_of l) ≡ Ok (prepared_of l)
unfolding prepare addition_of prepared_of good_line good_fields
prepared l g =
    let p = and_both (good_fields 3 l.chain) _ g in
    let q = and_both (good_fields 2 l.residue) _ p.1 in
    let r = and_both (good_fields 1 l.conformer) (good_fields 0 l.atom) q.1 in
    let s = and_both (stored_by conformer_name l.conformer.name) (absent_or alternative_location l.conformer.location) r.0 in
    let t = and_both (stored_by atom_name l.atom.name) _ r.1 in
    rw (
      taken ChainId chain_id l.chain.id p.0,
      taken-optional InsertionCode insertion_code l.residue.code q.0,
      taken ConformerName conformer_name l.conformer.name s.0,
      taken-optional AlternativeLocation alternative_location l.conformer.location s.1,
      taken AtomName atom_name l.atom.name t.0,
    )
