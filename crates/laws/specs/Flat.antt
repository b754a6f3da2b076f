-- The lines of a machine are what one pass over its records gives, an atom's chain, residue and conformer being the last ones seen; and how
-- long the text is. Assumes nothing.
use Rattle.std.specs.Prelude.{ℕ, zero, suc, ◌+◌, ◌*◌, ◌≤◌, ◌≡◌, refl, Bool, true, false, cond, List, [], ◌∷◌, ◌++◌, map, length, eqb}
use Rattle.std.proofs.Common.{sym, ap, ◌∙◌, append_assoc, append-nil, zero-add, arith, length-append, ne_eqb}
use Rattle.std.proofs.lemmas.List.{map-append}
use Rattle.machine.specs.Lists.{sum, concat_map}
use Rattle.machine.specs.Record.{Chain, Residue, Conformer, Atom, Words, words, kind, fields_of}
use Rattle.machine.specs.Store.{Branch, Machine, flat, records, atom_count, stored}
use Rattle.machine.specs.Lines.{Column, AtomLine, atom_columns, model_columns, end_columns, entry_lines, entry_of, lines_of, writable, machine_text}
use Rattle.laws.specs.Lists.{sum-append, sum-concat_map}
use Rattle.laws.specs.Grouped.{words-kind}
use Rattle.laws.specs.Columns.{lines-length, entries-eighty}

-- ---- the pass

-- what an atom stands under
pub record Parents : Type 0 where
  pub chain : Chain
  pub residue : Residue
  pub conformer : Conformer

-- what the atoms after a record stand under, given what those before it did. A model changes nothing: its chains follow it
unfoldable pub entered : Words → Parents → Parents
entered r p =
    cond (eqb (kind r) 2) (record { chain = fields_of 3 r; residue = p.residue; conformer = p.conformer })
    (cond (eqb (kind r) 3) (record { chain = p.chain; residue = fields_of 2 r; conformer = p.conformer })
    (cond (eqb (kind r) 4) (record { chain = p.chain; residue = p.residue; conformer = fields_of 1 r })
    p))

abbrev pub line_under : Parents → Atom → AtomLine
line_under p a = record { chain = p.chain; residue = p.residue; conformer = p.conformer; atom = a }

-- ENDMDL of the model before, where there is one
abbrev pub ended : Bool → List (List Column)
ended b = cond b (end_columns ∷ []) []

-- what a record gives. b says that records stand before it: the first one is a model, so that then a model was begun
unfoldable pub record_lines : Bool → Parents → Words → List (List Column)
record_lines b p r =
    cond (eqb (kind r) 5) (atom_columns (line_under p (fields_of 0 r)) ∷ [])
    (cond (eqb (kind r) 1) (ended b ++ (model_columns (fields_of 4 r) ∷ [])) [])

unfoldable pub flat_lines : Bool → Parents → List Words → List (List Column)
flat_lines b p [] = ended b
flat_lines b p (r ∷ rs) = record_lines b p r ++ flat_lines true (entered r p) rs

-- a pass over rs and a rest, from p on: rs gives the lines ls, and the rest is passed from parents of which P holds
record Gives (P : Parents → Type 0) (p : Parents) (rs : List Words) (ls : List AtomLine) (rest : List Words) : Type 0 where
  after : Parents
  stays : P after
  lines : flat_lines true p (rs ++ rest) ≡ map atom_columns ls ++ flat_lines true after rest

abbrev Giving : (Parents → Type 0) → List Words → List AtomLine → Type 0
Giving P rs ls = (p : Parents) → P p → (rest : List Words) → Gives P p rs ls rest

siblings : {A : Type 0} (P : Parents → Type 0) (f : A → List Words) (g : A → List AtomLine) → ((x : A) → Giving P (f x) (g x)) → (xs : List A) → Giving P (concat_map f xs) (concat_map g xs)
siblings P f g h [] p i rest = record { after = p; stays = i; lines = refl }
siblings P f g h (x ∷ xs) p i rest =
    let a = h x p i (concat_map f xs ++ rest) in
    let b = siblings P f g h xs a.after a.stays rest in
    record { after = b.after; stays = b.stays; lines = rw (append_assoc (f x), a.lines, b.lines, map-append, append_assoc) }

-- a record without lines, and what stands below it
parent : (P Q : Parents → Type 0) (r : Words) (rs : List Words) (ls : List AtomLine) → ((p : Parents) → record_lines true p r ≡ [])
    → ((p : Parents) → P p → Q (entered r p)) → ((p : Parents) → Q p → P p) → Giving Q rs ls → Giving P (r ∷ rs) ls
unfolding flat_lines
parent P Q r rs ls none enter leave below p i rest =
    let a = below (entered r p) (enter p i) rest in
    record { after = a.after; stays = leave a.after a.stays; lines = rw (none p) a.lines }

-- what holds of the parents among the children of a chain, of a residue and of a conformer
abbrev OfChain : Chain → Parents → Type 0
OfChain c p = p.chain ≡ c

abbrev OfResidue : Chain → Residue → Parents → Type 0
OfResidue c r p = (p.chain ≡ c) × (p.residue ≡ r)

abbrev OfConformer : Parents → Parents → Type 0
OfConformer q p = p ≡ q

atoms-pass : (q : Parents) (as' : List Atom) → Giving (OfConformer q) (concat_map (flat 0) as') (map (line_under q) as')
unfolding flat_lines record_lines entered flat words fields_of
atoms-pass q [] p i rest = record { after = p; stays = i; lines = refl }
atoms-pass q (a ∷ as') p i rest =
    let b = atoms-pass q as' p i rest in
    record {
      after = b.after;
      stays = b.stays;
      lines = ap (λ (z : Parents). atom_columns (line_under z a) ∷ flat_lines true p (concat_map (flat 0) as' ++ rest)) i ∙ ap (λ (z : List (List Column)). atom_columns (line_under q a) ∷ z) b.lines;
    }

conformer-pass : (c : Chain) (r : Residue) (t : Branch 1) → Giving (OfResidue c r) (flat 1 t) (map (λ a. record { chain = c; residue = r; conformer = t.0; atom = a }) t.1)
unfolding record_lines entered flat words fields_of
conformer-pass c r t =
    let q : Parents = record { chain = c; residue = r; conformer = t.0 } in
    parent (OfResidue c r) (OfConformer q) _ _ _ (λ p. refl) (λ p i j. record { chain = i.0 j; residue = i.1 j; conformer = t.0 }) (λ p i. (ap (λ (z : Parents). z.chain) i, ap (λ (z : Parents). z.residue) i)) (atoms-pass q t.1)

residue-pass : (c : Chain) (t : Branch 2) → Giving (OfChain c) (flat 2 t) (concat_map (λ f. map (λ a. record { chain = c; residue = t.0; conformer = f.0; atom = a }) f.1) t.1)
unfolding record_lines entered flat words fields_of
residue-pass c t =
    parent (OfChain c) (OfResidue c t.0) _ _ _ (λ p. refl) (λ p i. (i, refl)) (λ p i. i.0) (siblings (OfResidue c t.0) (flat 1) _ (conformer-pass c t.0) t.1)

chain-pass : (t : Branch 3) → Giving (λ p. Unit {0}) (flat 3 t) (concat_map (λ r. concat_map (λ f. map (λ a. record { chain = t.0; residue = r.0; conformer = f.0; atom = a }) f.1) r.1) t.1)
unfolding record_lines entered flat words fields_of
chain-pass t =
    parent (λ p. Unit {0}) (OfChain t.0) _ _ _ (λ p. refl) (λ p i. refl) (λ p i. tt) (siblings (OfChain t.0) (flat 2) _ (residue-pass t.0) t.1)

models-pass : (b : Bool) (p : Parents) (m : Machine) → flat_lines b p (records m) ≡ ended b ++ lines_of (map entry_of m)
unfolding flat_lines record_lines entered flat words fields_of entry_lines entry_of
models-pass b p [] = sym (append-nil (ended b))
models-pass b p (t ∷ ts) =
    let a = siblings (λ q. Unit {0}) (flat 3) _ chain-pass t.1 p tt (records ts) in
    rw (a.lines, models-pass true a.after ts, append_assoc (ended b), append_assoc (map atom_columns (entry_of t).atoms))

-- the pass gives the lines of the machine, whatever parents it starts with
pub lines-flat : (p : Parents) (m : Machine) → flat_lines false p (records m) ≡ lines_of (map entry_of m)
lines-flat p m = models-pass false p m

-- ---- the text's length

-- how many lines a record makes: a model makes MODEL and ENDMDL
unfoldable pub line_count : Words → ℕ
line_count r = cond (eqb (kind r) 5) 1 (cond (eqb (kind r) 1) 2 0)

record-count : (p : Parents) (r : Words) → length (record_lines true p r) ≡ line_count r
unfolding record_lines line_count
record-count p r = go (eqb (kind r) 5) (eqb (kind r) 1)
  where
    go : (a b : Bool) → length (cond a (atom_columns (line_under p (fields_of 0 r)) ∷ []) (cond b (ended true ++ (model_columns (fields_of 4 r) ∷ [])) [])) ≡ cond a 1 (cond b 2 0)
    go true b = refl
    go false true = refl
    go false false = refl

begun-count : (p : Parents) (rs : List Words) → length (flat_lines true p rs) ≡ suc (sum line_count rs)
unfolding flat_lines
begun-count p [] = refl
begun-count p (r ∷ rs) =
    omega (arith, length-append (record_lines true p r) (flat_lines true (entered r p) rs), record-count p r, begun-count (entered r p) rs)

lines-count : (p : Parents) (m : Machine) → length (flat_lines false p (records m)) ≡ sum line_count (records m)
unfolding flat_lines record_lines entered line_count flat words
lines-count p [] = refl
lines-count p (t ∷ ts) = omega (arith, begun-count p (concat_map (flat 3) t.1 ++ records ts))

branch-count : (k : ℕ) → k ≤ 3 → (t : Branch k) → sum line_count (flat k t) ≡ atom_count k t
unfolding line_count flat atom_count
branch-count zero l t = rw (words-kind zero (omega arith) t)
branch-count (suc k) l t =
    let n = words-kind (suc k) (omega arith) t.0 in
    rw (ne_eqb (kind (words (suc k) t.0)) 5 (λ q. omega arith), ne_eqb (kind (words (suc k) t.0)) 1 (λ q. omega arith), zero-add)
    (sum-concat_map line_count (flat k) (atom_count k) (branch-count k (omega arith)) t.1)

pub lines_stored : (m : Machine) → sum line_count (records m) ≡ 2 * length m + stored m
unfolding line_count flat words atom_count
lines_stored [] = refl
lines_stored (t ∷ ts) =
    omega (arith, sum-append line_count (concat_map (flat 3) t.1) (records ts), sum-concat_map line_count (flat 3) (atom_count 3) (branch-count 3 (omega arith)) t.1, lines_stored ts)

pub text-length : (m : Machine) → writable (map entry_of m) ≡ true → length (machine_text m) ≡ 81 * (2 * length m + stored m)
text-length m h =
    let p : Parents = record { chain = record { id = 0 }; residue = record { serial = 0; code = 0 }; conformer = record { name = 0; location = 0 } } in
    omega (arith, lines-length (lines_of (map entry_of m)) (entries-eighty (map entry_of m)) h, ap length (lines-flat p m), lines-count p m, lines_stored m)
