-- The cursor, which is where the previous addition went, and what it says of a store. Assumes nothing.
use Rattle.std.specs.Prelude.{ℕ, ◌+◌, ◌-◌, ◌≤◌, ◌<◌, ◌≡◌, true, cond, List, [], ◌∷◌, ◌++◌, length, get_or, drop, ltb, None, Some}
use Rattle.machine.specs.Record.{Words, words, kind}
use Rattle.machine.specs.Store.{records_of}
use Rattle.machine.specs.Edit.{new_chain, new_residue, new_conformer, new_atom}
use Rattle.machine.specs.declared.PreparedAddition.{PreparedAddition}
use Rattle.laws.specs.Lists.{All}
use Rattle.seek.specs.Seek.{Good, records_in, child_span}
use Rattle.insertion.specs.Pick.{pick_span, chain_key}
use Rattle.insertion.specs.declared.Cursor as Cursor
use Rattle.insertion.specs.declared.Spot as Spot

-- a serial's bits, in the order of the signed numbers that they are
unfoldable pub rank : ℕ → ℕ
rank serial = cond (ltb serial 0x8000_0000_0000_0000) (serial + 0x8000_0000_0000_0000) (serial - 0x8000_0000_0000_0000)

abbrev pub Ranked : ℕ → Words → Type 0
Ranked top r = kind r ≡ 3 → rank (get_or r 1 0) ≤ top

-- what a cursor that is known says of a store
pub record PointsInto (p : Cursor.Cursor) (w : List ℕ) : Type 0 where
  -- the model's span, by its index
  pub model : child_span 1 p.model 0 (records_of w) ≡ Some (p.start, p.model_end)
  -- in it, the span of the first chain with the id
  pub chain : pick_span (chain_key p.id) (p.start + 1) (records_in (p.start + 1) p.model_end w) ≡ Some (p.chain, p.chain_end)
  -- one of the chain's records, after which no residue comes
  pub low : p.chain < p.residue
  pub high : p.residue < p.chain_end
  pub last : All (λ r. 3 < kind r) (records_in (p.residue + 1) p.chain_end w)
  -- no residue of the chain ranks above the top
  pub top : p.topped ≡ true → All (Ranked p.top) (records_in (p.chain + 1) p.chain_end w)

abbrev pub Valid : Cursor.Cursor → List ℕ → Type 0
Valid p w = p.known ≡ true → PointsInto p w

-- ---- an addition

-- a spot in the model from `start` up to `end`, for a chain of the id
pub record Lands (start end id : ℕ) (w : List ℕ) (s : Spot.Spot) : Type 0 where
  pub depth : s.depth ≤ 3
  pub high : s.at ≤ s.chain_end
  pub within : s.chain_end ≤ end
  -- without such a chain, at the model's end
  pub missing : s.depth ≡ 0 → pick_span (chain_key id) (start + 1) (records_in (start + 1) end w) ≡ None
  pub last : s.depth ≡ 0 → s.at ≡ end
  -- with one, below it, and at its end if there is no residue to take
  pub chain : 1 ≤ s.depth → pick_span (chain_key id) (start + 1) (records_in (start + 1) end w) ≡ Some (s.chain, s.chain_end)
  pub low : 1 ≤ s.depth → s.chain < s.at
  pub residue : s.depth ≡ 1 → s.at ≡ s.chain_end

-- the records of a new chain, residue, conformer and atom, one below the other
abbrev pub column : PreparedAddition → List Words
column a = words 3 (new_chain a) ∷ words 2 (new_residue a) ∷ words 1 (new_conformer a) ∷ words 0 (new_atom a) ∷ []

-- new records among a store's, at a number
pub record Grown (at : ℕ) (new : List Words) (w w' : List ℕ) : Type 0 where
  pub front : List Words
  pub back : List Words
  pub was : records_of w ≡ front ++ back
  pub is : records_of w' ≡ front ++ (new ++ back)
  pub number : length front ≡ at

-- what a cursor says of a store before an addition, another says after it
abbrev pub Advances : Cursor.Cursor → ℕ → ℕ → ℕ → PreparedAddition → Spot.Spot → Cursor.Cursor → Type 0
Advances p model start end a s q =
    (w w' : List ℕ) → Good w → Valid p w → child_span 1 model 0 (records_of w) ≡ Some (start, end) → Lands start end a.chain w s
    → Grown s.at (drop s.depth (column a)) w w' → Valid q w'
