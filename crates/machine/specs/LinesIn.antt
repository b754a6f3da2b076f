-- Change request §9, "PDB lines in": what the reader takes a text for. Each field is read from its columns whatever else stands there, and the
-- whole is then written again by §1's definition: it must come out as it was. So "The reader takes exactly the text that the writer of §1,
-- with §5, could make". Assumes nothing.
use Rattle.std.specs.Prelude.{ℕ, zero, suc, ◌+◌, ◌-◌, ◌*◌, ◌/◌, ◌%◌, ◌^◌, Bool, ◌&&◌, cond, List, [], ◌∷◌, length, get_or, take, drop, leb, eqb, None, Option, Some}
use Rattle.machine.specs.Lists.{all, any, same, first_where}
use Rattle.machine.specs.Text.{pack, trim}
use Rattle.machine.specs.Record.{Model, good_fields}
use Rattle.machine.specs.Rounding.{nearest_bits}
use Rattle.machine.specs.Lines.{at_right, column_text, AtomLine, Entry, symbols, writable, text_of_entries}

-- ---- fields

-- columns a to b of a line, counted from 1
abbrev pub columns : ℕ → ℕ → List ℕ → List ℕ
columns a b l = take (b - (a - 1)) (drop (a - 1) l)

abbrev pub is_digit : ℕ → Bool
is_digit b = leb 48 b && leb b 57

abbrev pub with_figure : ℕ → ℕ → ℕ
with_figure n b = cond (is_digit b) (n * 10 + (b - 48)) n

unfoldable pub figures_from : ℕ → List ℕ → ℕ
figures_from n [] = n
figures_from n (b ∷ bs) = figures_from (with_figure n b) bs

-- the number that the digits among some bytes make
abbrev pub figures : List ℕ → ℕ
figures t = figures_from 0 t

abbrev pub has_minus : List ℕ → Bool
has_minus t = any (eqb 45) t

-- a signed number's bits, in two's complement
unfoldable pub signed_bits : List ℕ → ℕ
signed_bits t = cond (has_minus t) ((2 ^ 64 - figures t) % 2 ^ 64) (figures t)

-- "Decimals become the nearest f64, halves to even", here with d of them after the point
unfoldable pub decimal_bits : ℕ → List ℕ → ℕ
decimal_bits d t = nearest_bits d (has_minus t) (figures t)

-- an identifier, packed
unfoldable pub word : List ℕ → ℕ
word t = pack (trim t)

abbrev pub or_zero : Option ℕ → ℕ
or_zero None = 0
or_zero (Some n) = n

-- the number of the element whose symbol stands so in its two columns; 0, a missing one, where there is none
unfoldable pub element_of : List ℕ → ℕ
element_of t = or_zero (first_where (λ symbol. same t (column_text (at_right 2 symbol))) ([] ∷ symbols))

-- ---- lines

-- a line as an atom's, by the columns of "ATOM and HETATM records"; H is the first byte of HETATM
unfoldable pub atom_in : List ℕ → AtomLine
atom_in l =
    record {
      chain = record { id = word (columns 22 22 l) };
      residue = record { serial = signed_bits (columns 23 26 l); code = word (columns 27 27 l) };
      conformer = record { name = word (columns 18 20 l); location = word (columns 17 17 l) };
      atom =
          record {
            serial = figures (columns 7 11 l);
            name = word (columns 13 16 l);
            x = decimal_bits 3 (columns 31 38 l);
            y = decimal_bits 3 (columns 39 46 l);
            z = decimal_bits 3 (columns 47 54 l);
            occupancy = decimal_bits 2 (columns 55 60 l);
            b_factor = decimal_bits 2 (columns 61 66 l);
            element = element_of (columns 77 78 l);
            charge = signed_bits (columns 79 80 l);
            hetero = cond (eqb (get_or l 0 0) 72) 1 0;
          };
    }

unfoldable pub model_in : List ℕ → Model
model_in l = record { serial = figures (columns 11 14 l) }

-- ---- the whole text

-- "every line has 80 columns and a newline": the first n lines of a text
unfoldable pub lines_in : ℕ → List ℕ → List (List ℕ)
lines_in zero t = []
lines_in (suc n) t = take 81 t ∷ lines_in n (drop 81 t)

-- what some lines hold: atoms of a model that began before them, then models with their atoms
abbrev pub Part : Type 0
Part = List AtomLine × List Entry

-- a line before such lines. M begins a model, and E, which ends one, adds nothing; any other is an atom's
abbrev pub line_before : List ℕ → Part → Part
line_before l p =
    cond (eqb (get_or l 0 0) 77) ([], record { model = model_in l; atoms = p.0 } ∷ p.1)
    (cond (eqb (get_or l 0 0) 69) p (atom_in l ∷ p.0, p.1))

unfoldable pub part_in : List (List ℕ) → Part
part_in [] = ([], [])
part_in (l ∷ ls) = line_before l (part_in ls)

abbrev pub entries_in : List ℕ → List Entry
entries_in t = (part_in (lines_in (length t / 81) t)).1

-- "Identifiers hold their stored form", and the values are good
unfoldable pub good_line : AtomLine → Bool
good_line l = good_fields 3 l.chain && (good_fields 2 l.residue && (good_fields 1 l.conformer && good_fields 0 l.atom))

abbrev pub good_entry : Entry → Bool
good_entry e = all good_line e.atoms

-- a text that the writer could make: what it holds could stand in a store, the writer accepts it, and writes this text
unfoldable pub read_text : List ℕ → Option (List Entry)
read_text t =
    let es = entries_in t in
    cond (all good_entry es && (writable es && same (text_of_entries es) t)) (Some es) None
