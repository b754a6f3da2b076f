-- What the contracts of `src/` cite: the parts of a line's atom, given by words. Assumes nothing.
use Rattle.std.specs.Prelude.{ℕ, Bool, ◌&&◌, cond, List, ltb, eqb}
use Rattle.machine.specs.Text.{chain_id, insertion_code, conformer_name, alternative_location, stored_by, absent_or}
use Rattle.machine.specs.Record.{Atom}
use Rattle.machine.specs.Lines.{AtomLine}
use Rattle.machine.specs.LinesIn.{columns, figures, has_minus}
use Rattle.machine.specs.declared.NewAtom.{NewAtom}
use Rattle.building.specs.Prepared.{prepared_of}
use Rattle.columns.specs.declared.Above.{Above}
use Rattle.columns.specs.declared.Decimal.{Decimal}
use Rattle.columns.specs.declared.Decimals.{Decimals}

-- a line's numbers
abbrev pub values_of : AtomLine → NewAtom
values_of l = (prepared_of l).values

-- the words of the chain, the residue and the conformer that a line's atom stands under
abbrev pub above_in : AtomLine → Above
above_in l =
    record { chain = l.chain.id; serial = l.residue.serial; code = l.residue.code; name = l.conformer.name; location = l.conformer.location }

-- a decimal as it stands in its columns. "a value that rounds to zero has no minus"
abbrev pub decimal_in : List ℕ → Decimal
decimal_in t = record { minus = has_minus t && ltb 0 (figures t); size = figures t }

unfoldable pub decimals_in : List ℕ → Decimals
decimals_in l =
    record {
      x = decimal_in (columns 31 38 l);
      y = decimal_in (columns 39 46 l);
      z = decimal_in (columns 47 54 l);
      occupancy = decimal_in (columns 55 60 l);
      b_factor = decimal_in (columns 61 66 l);
    }

-- an atom with 0 in place of its f64 values
unfoldable pub without_floats : Atom → Atom
without_floats a =
    record {
      serial = a.serial;
      name = a.name;
      x = 0;
      y = 0;
      z = 0;
      occupancy = 0;
      b_factor = 0;
      element = a.element;
      charge = a.charge;
      hetero = a.hetero;
    }

-- these words are in stored form
abbrev pub good_above : Above → Bool
good_above u = stored_by chain_id u.chain && absent_or insertion_code u.code && stored_by conformer_name u.name && absent_or alternative_location u.location

-- `lacks` by words
abbrev pub lacks_above : Above → Above → ℕ
lacks_above b a =
    cond (eqb a.chain b.chain)
    (cond (eqb a.serial b.serial && eqb a.code b.code) (cond (eqb a.name b.name && eqb a.location b.location) 1 2) 3)
    4
