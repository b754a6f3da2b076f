-- The records that a text needs, counted line by line: exactly, and between two bounds that are found with less. Assumes nothing.
use Rattle.std.specs.Prelude.{ℕ, suc, ◌+◌, ◌≤◌, min, ◌≡◌, refl, Bool, true, false, ◌||◌, ◌&&◌, cond, List, [], ◌∷◌, length, get_or, eqb}
use Rattle.std.proofs.Common.{sym, ap, ◌∙◌, le_refl, zero-add, arith, eqb-true}
use Rattle.machine.specs.Lists.{sum}
use Rattle.machine.specs.Store.{records}
use Rattle.machine.specs.Lines.{AtomLine, Entry}
use Rattle.machine.specs.LinesIn.{atom_in, model_in, Part, part_in}
use Rattle.machine.specs.Read.{same_id}
use Rattle.building.specs.Lacks.{lacks, needed, ends, looked, records_from}
use Rattle.building.specs.Bounds.{adding_lines}
use Rattle.building.specs.Build.{build}
use Rattle.building.specs.Count.{total}
use Rattle.building.specs.Run.{build-count}

-- ---- one look back

lacks-low : (b a : AtomLine) → 1 ≤ lacks b a
unfolding lacks
lacks-low b a = go (same_id 2 b.chain a.chain) (same_id 1 b.residue a.residue) (same_id 0 b.conformer a.conformer)
  where
    go : (x y z : Bool) → 1 ≤ cond x (cond y (cond z 1 2) 3) 4
    go true true true = omega arith
    go true true false = omega arith
    go true false z = omega arith
    go false y z = omega arith

needed-low : (a : AtomLine) (bs : List AtomLine) → 1 ≤ needed a bs
unfolding needed
needed-low a [] = omega arith
needed-low a (b ∷ bs) = let h = needed-low a bs in let l = lacks-low b a in omega arith

pub looked-exact : (a : AtomLine) (bs : List AtomLine) → looked false a bs ≡ needed a bs
unfolding looked needed
looked-exact a [] = refl
looked-exact a (b ∷ bs) = go (eqb (lacks b a) 1) refl (looked-exact a bs)
  where
    go : (t : Bool) → eqb (lacks b a) 1 ≡ t → looked false a bs ≡ needed a bs → cond (t || (false && eqb (lacks b a) 3)) (lacks b a) (min (lacks b a) (looked false a bs)) ≡ min (lacks b a) (needed a bs)
    go true e r = let k = eqb-true (lacks b a) 1 e in let l = needed-low a bs in omega arith
    go false e r = ap (min (lacks b a)) r

pub looked-above : (near : Bool) (a : AtomLine) (bs : List AtomLine) → needed a bs ≤ looked near a bs
unfolding looked needed
looked-above near a [] = le_refl 4
looked-above near a (b ∷ bs) = go (ends near (lacks b a)) (looked-above near a bs)
  where
    go : (t : Bool) → needed a bs ≤ looked near a bs → min (lacks b a) (needed a bs) ≤ cond t (lacks b a) (min (lacks b a) (looked near a bs))
    go true r = omega arith
    go false r = omega arith

-- ---- all lines

-- the records of whole models
abbrev entries_total : List Entry → ℕ
entries_total es = sum (λ e. suc (total [] e.atoms)) es

pub records-exact : (before : List AtomLine) (ls : List (List ℕ))
    → records_from false before ls ≡ total before (part_in ls).0 + sum (λ e. suc (total [] e.atoms)) (part_in ls).1
unfolding records_from part_in
records-exact before [] = refl
records-exact before (l ∷ ls) =
    go (eqb (get_or l 0 0) 77) (eqb (get_or l 0 0) 69) (records-exact [] ls) (records-exact before ls) (records-exact (atom_in l ∷ before) ls)
  where
    part : Part
    part = part_in ls

    go : (m e : Bool)
        → records_from false [] ls ≡ total [] part.0 + entries_total part.1
        → records_from false before ls ≡ total before part.0 + entries_total part.1
        → records_from false (atom_in l ∷ before) ls ≡ total (atom_in l ∷ before) part.0 + entries_total part.1
        → cond m (suc (records_from false [] ls)) (cond e (records_from false before ls) (looked false (atom_in l) before + records_from false (atom_in l ∷ before) ls))
        ≡ total before (cond m ([], record { model = model_in l; atoms = part.0 } ∷ part.1) (cond e part (atom_in l ∷ part.0, part.1))).0
        + entries_total (cond m ([], record { model = model_in l; atoms = part.0 } ∷ part.1) (cond e part (atom_in l ∷ part.0, part.1))).1
    go true e r s t = omega arith
    go false true r s t = s
    go false false r s t = let k = looked-exact (atom_in l) before in omega arith

pub records-above : (before : List AtomLine) (ls : List (List ℕ)) → records_from false before ls ≤ records_from true before ls
unfolding records_from
records-above before [] = le_refl 0
records-above before (l ∷ ls) =
    go (eqb (get_or l 0 0) 77) (eqb (get_or l 0 0) 69) (records-above [] ls) (records-above before ls) (records-above (atom_in l ∷ before) ls)
  where
    a : AtomLine
    a = atom_in l

    go : (m e : Bool) → records_from false [] ls ≤ records_from true [] ls → records_from false before ls ≤ records_from true before ls → records_from false (a ∷ before) ls ≤ records_from true (a ∷ before) ls
        → cond m (suc (records_from false [] ls)) (cond e (records_from false before ls) (looked false a before + records_from false (a ∷ before) ls))
        ≤ cond m (suc (records_from true [] ls)) (cond e (records_from true before ls) (looked true a before + records_from true (a ∷ before) ls))
    go true e r s t = omega arith
    go false true r s t = s
    go false false r s t = let k = looked-exact a before in let h = looked-above true a before in omega arith

pub records-least : (near : Bool) (before : List AtomLine) (ls : List (List ℕ)) → adding_lines ls ≤ records_from near before ls
unfolding records_from adding_lines
records-least near before [] = le_refl 0
records-least near before (l ∷ ls) =
    go (eqb (get_or l 0 0) 77) (eqb (get_or l 0 0) 69) (records-least near [] ls) (records-least near before ls) (records-least near (atom_in l ∷ before) ls)
  where
    a : AtomLine
    a = atom_in l

    go : (m e : Bool) → adding_lines ls ≤ records_from near [] ls → adding_lines ls ≤ records_from near before ls → adding_lines ls ≤ records_from near (a ∷ before) ls
        → cond e (adding_lines ls) (suc (adding_lines ls)) ≤ cond m (suc (records_from near [] ls)) (cond e (records_from near before ls) (looked near a before + records_from near (a ∷ before) ls))
    go true true r s t = omega arith
    go true false r s t = omega arith
    go false true r s t = s
    go false false r s t = let k = needed-low a before in let h = looked-above near a before in omega arith

-- where no atom stands before the first model, the count is that of what is built
pub text-size : (ls : List (List ℕ)) → (part_in ls).0 ≡ [] → records_from false [] ls ≡ length (records (build (part_in ls).1))
text-size ls e =
    records-exact [] ls
    ∙ ap (λ (as' : List AtomLine). total [] as' + entries_total (part_in ls).1) e
    ∙ zero-add (entries_total (part_in ls).1)
    ∙ sym (build-count (part_in ls).1)
