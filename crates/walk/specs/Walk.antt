-- What the contracts of `src/` cite: what is found from where a pass stands on, and what it may start from. Assumes nothing.
use Rattle.std.specs.Prelude.{ℕ, ◌+◌, ◌*◌, ◌/◌, ◌≤◌, ◌≡◌, Bool, cond, List, map, length, take, leb, ltb, None, Ok, Option}
use Rattle.machine.specs.Answer.{Result, ◌>>◌}
use Rattle.machine.specs.Record.{Words, kind}
use Rattle.machine.specs.Store.{Machine}
use Rattle.machine.specs.Kleene.{is_hit}
use Rattle.machine.specs.Query.{Names, read_tree, tables}
use Rattle.machine.specs.Find.{Site, value_from, hits_among, hit_words}
use Rattle.machine.specs.declared.RecordNumbers.{RecordNumbers}
use Rattle.laws.specs.Lists.{All}
use Rattle.moves.specs.Over.{over}
use Rattle.seek.specs.Seek.{Within, records_in, atom_records, part_of}
use Rattle.seek.specs.declared.Part.{Part}
use Rattle.search.specs.Nodes.{checked}
use Rattle.descent.specs.Descent.{site_at, UpTo}
use Rattle.walk.specs.PrunedPass.{pruned_pass}

-- ---- what is found

-- a tree isn't false, where the kinds from low on are known as far as the site goes
unfoldable pub may_hit : ℕ → Names → List ℕ → Site → Bool
may_hit low names t s = is_hit (value_from names low t s)

-- the hits among the records from number `from` up to `end`
unfoldable pub found_in : List ℕ → ℕ → ℕ → List ℕ → ℕ → ℕ → RecordNumbers → List ℕ → List ℕ → List (List ℕ)
found_in w from end t low d at residues atoms =
    map (λ s. s.numbers) (pruned_pass (may_hit low (record { residues = residues; atoms = atoms }) t) from (site_at w d at) (records_in from end w))

-- those of a part; "Terms of the start's own level and above stay undecided"
abbrev pub found_below : List ℕ → Part → List ℕ → List ℕ → List ℕ → List (List ℕ)
found_below w p t residues atoms = found_in w p.from p.end t (p.depth + 1) p.depth p.path residues atoms

-- by the crate's tables, where the tree is accepted
abbrev pub asked_below : List ℕ → Part → List ℕ → Result (List (List ℕ))
asked_below w p t = read_tree t >> Ok (found_below w p t tables.residues tables.atoms)

-- the output's words with the hit of a number written, where they have room for it
abbrev pub put_hit : ℕ → List ℕ → List ℕ → List ℕ
put_hit n hit out = cond (ltb n (length out / 5)) (over (n * 5) hit out) out

-- how many hits there are, and the output's words with them written from the first on, as many as there is room for
abbrev pub wrote : List (List ℕ) → List ℕ → ℕ × List ℕ
wrote hits out = (length hits, over 0 (hit_words (take (length out / 5) hits)) out)

-- ---- what a walk may start from

-- what stands under a start of at most four indexes
abbrev pub part_under : List ℕ → Machine → Option Part
part_under start m = cond (leb (length start) 4) (part_of start m) None

pub record Levelled (r : Words) : Type 0 where
  pub low : 1 ≤ kind r
  pub high : kind r ≤ 5

-- a part whose records are there, each of one of the five kinds, below four others at most
pub record Walkable (w : List ℕ) (p : Part) : Type 0 where
  pub within : Within p.from p.end w
  pub kinds : All Levelled (records_in p.from p.end w)
  pub depth : p.depth ≤ 4
  pub numbers : UpTo p.from p.path

-- with a tree that was accepted
pub record Ready (w : List ℕ) (p : Part) (t : List ℕ) : Type 0 where
  pub part : Walkable w p
  pub tree : checked (read_tree t) ≡ Ok tt

-- a part has these atoms, and what is found there are the hits among them
pub record Holds (w : List ℕ) (p : Part) (atoms : List Site) : Type 0 where
  pub part : Walkable w p
  pub five : All (λ s. length s.numbers ≡ 5) atoms
  pub counted : length atoms ≡ atom_records (records_in p.from p.end w)
  pub found : (t : List ℕ) (names : Names) → found_below w p t names.residues names.atoms ≡ hits_among names (p.depth + 1) t atoms

-- a part, of all or of some of the n atoms that a store has
pub record Asked (w : List ℕ) (p : Part) (n : ℕ) : Type 0 where
  pub atoms : List Site
  pub holds : Holds w p atoms
  pub few : length atoms ≤ n
  pub whole : p.depth ≡ 0 → length atoms ≡ n
