-- A call of a list by its words. Assumes nothing.
use Rattle.std.specs.Prelude.{ℕ, ◌+◌, ◌%◌, ◌≤◌, ◌≡◌, List, map, length, get_or, take}
use Rattle.machine.specs.declared.NewAtom as Values

abbrev pub low_byte : ℕ → ℕ
low_byte n = n % 256

-- the bytes begin with the words: a text's words are bytes
pub record Narrowed (ws bytes : List ℕ) : Type 0 where
  pub room : length ws ≤ length bytes
  pub same : take (length ws) bytes ≡ map low_byte ws

-- where the part that starts at a word ends: after its length, and as many words
abbrev pub part_end : List ℕ → ℕ → ℕ
part_end ws at = at + 1 + get_or ws at 0

-- the values of a new atom among the numbers of its call
abbrev pub values_in : List ℕ → Values.NewAtom
values_in ws =
    record {
      serial = get_or ws 4 0;
      x = get_or ws 5 0;
      y = get_or ws 6 0;
      z = get_or ws 7 0;
      occupancy = get_or ws 8 0;
      b_factor = get_or ws 9 0;
      element = get_or ws 10 0;
      charge = get_or ws 11 0;
      hetero = get_or ws 12 0;
    }
