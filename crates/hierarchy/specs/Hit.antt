-- Document 01, "Vec, Box and borrowed hits": "a hit that borrows the store and names five records". Assumes nothing.
use Rattle.std.specs.Prelude.{ℕ, ◌+◌, ◌*◌, ◌/◌, Bool, ◌&&◌, cond, List, [], length, get_or, ltb, eqb, None, Option, Some}
use Rattle.std.specs.Borrow.{Bor}
use Rattle.std.specs.Int.{w64}
use Rattle.std.proofs.Common.{to_z}
use Rattle.machine.specs.Record.{Words, kind, fields_of, read_out}
use Rattle.machine.specs.declared.AtomRec.{AtomRec}
use Rattle.machine.specs.declared.RecordNumbers.{RecordNumbers}
use Rattle.seek.specs.Seek.{record_at}
use Rattle.hierarchy.specs.declared.Hit.{Hit}
use Rattle.hierarchy.specs.declared.ModelRec.{ModelRec}
use Rattle.hierarchy.specs.declared.ChainRec.{ChainRec}
use Rattle.hierarchy.specs.declared.ResidueRec.{ResidueRec}
use Rattle.hierarchy.specs.declared.ConformerRec.{ConformerRec}

-- the twelve words of the record of a number, or none where they don't all stand in the store's words
abbrev pub record_of : List ℕ → ℕ → Words
record_of w r = cond (ltb r (length w / 12)) (record_at r w) []

-- ---- which words are a hit

unfoldable pub is_kind : List ℕ → ℕ → ℕ → Bool
is_kind w r k = eqb (kind (record_of w r)) k

-- "A hit is five words: the record numbers of model, chain, residue, conformer, atom."
abbrev pub numbers_at : List ℕ → ℕ → RecordNumbers
numbers_at out i =
    record {
      model = get_or out (i * 5) 0;
      chain = get_or out (i * 5 + 1) 0;
      residue = get_or out (i * 5 + 2) 0;
      conformer = get_or out (i * 5 + 3) 0;
      atom = get_or out (i * 5 + 4) 0;
    }

-- each of the five is the number of a record of its kind
unfoldable pub are_kinds : List ℕ → RecordNumbers → Bool
are_kinds w n = ((is_kind w n.model 1 && is_kind w n.chain 2) && (is_kind w n.residue 3 && is_kind w n.conformer 4)) && is_kind w n.atom 5

unfoldable pub named_by : List ℕ → RecordNumbers → Option RecordNumbers
named_by w n = cond (are_kinds w n) (Some n) None

-- the i-th hit of an output
unfoldable pub nth_of : List ℕ → List ℕ → ℕ → Option RecordNumbers
nth_of w out i = cond (ltb i (length out / 5)) (named_by w (numbers_at out i)) None

-- a hit that borrows the store and names the records of five numbers
abbrev pub hit_of : Bor (List ℕ) → RecordNumbers → Hit
hit_of store at =
    record { store = store; model = at.model; chain = at.chain; residue = at.residue; conformer = at.conformer; atom = at.atom }

-- ---- the records of a hit, read out; where there is no record, all is 0

unfoldable pub model_of : List ℕ → ℕ → ModelRec
model_of w r = record { serial = (fields_of 4 (record_of w r)).serial }

unfoldable pub chain_of : List ℕ → ℕ → ChainRec
chain_of w r = record { id = (fields_of 3 (record_of w r)).id }

unfoldable pub residue_of : List ℕ → ℕ → ResidueRec
residue_of w r = record { serial = to_z w64 (fields_of 2 (record_of w r)).serial; code = (fields_of 2 (record_of w r)).code }

unfoldable pub conformer_of : List ℕ → ℕ → ConformerRec
conformer_of w r = record { name = (fields_of 1 (record_of w r)).name; location = (fields_of 1 (record_of w r)).location }

unfoldable pub atom_of : List ℕ → ℕ → AtomRec
atom_of w r = read_out (fields_of 0 (record_of w r))
