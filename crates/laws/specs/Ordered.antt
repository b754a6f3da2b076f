-- Records in hierarchy order: a good machine has them, and what they group to is good and has them again. Assumes nothing.
use Prim.Native.Nat.{ℕ, zero, suc, ◌+◌, ◌-◌, ◌≤◌}
use Rattle.std.specs.Prelude.{◌≡◌, Bool, ◌&&◌, leb}
use Rattle.std.proofs.Math.Path.{refl}
use Rattle.std.proofs.Common.{sym, ◌∙◌}
use Rattle.std.proofs.Math.Bool.{true, false}
use mathlib.Core.List.{List, [], ◌∷◌, ◌++◌, map, append_assoc, append-nil}
use native.Mathlib.Omega.{arith}
use borrow.Author.Tests.{eqb-true, eqb-false, leb-true, le-leb}
use Rattle.machine.specs.Lists.{all, concat_map, same}
use Rattle.machine.specs.Record.{Fields, Words, words, kind, fields_of, good_fields, good_record}
use Rattle.machine.specs.Store.{Branch, Machine, flat, records, in_order, Sections, add_to_sections, sections, group}
use Rattle.laws.specs.Lists.{and_both, and-true, same_true, All}
use Rattle.laws.specs.Good.{good_branch}
use Rattle.laws.specs.Grouped.{words-kind, words-good, heads}

-- r, then rs, stand in order after a record of kind q
pub record HeadParts (q : ℕ) (r : Words) (rs : List Words) : Type 0 where
  pub least : 1 ≤ kind r
  pub most : kind r ≤ 5
  pub step : kind r ≤ q + 1
  pub good : good_record (5 - kind r) r ≡ true
  pub rest : in_order (kind r) rs ≡ true

pub head-parts : (q : ℕ) (r : Words) (rs : List Words) → in_order q (r ∷ rs) ≡ true → HeadParts q r rs
unfolding in_order
head-parts q r rs h =
    let a = and_both (leb 1 (kind r) && leb (kind r) 5 && leb (kind r) (q + 1)) (good_record (5 - kind r) r && in_order (kind r) rs) h in
    let b = and_both (leb 1 (kind r) && leb (kind r) 5) (leb (kind r) (q + 1)) a.0 in
    let c = and_both (leb 1 (kind r)) (leb (kind r) 5) b.0 in
    let d = and_both (good_record (5 - kind r) r) (in_order (kind r) rs) a.1 in
    record {
      least = leb-true _ _ c.0;
      most = leb-true _ _ c.1;
      step = leb-true _ _ b.1;
      good = d.0;
      rest = d.1;
    }

pub parts-head : (q : ℕ) (r : Words) (rs : List Words) → HeadParts q r rs → in_order q (r ∷ rs) ≡ true
unfolding in_order
parts-head q r rs p =
    and-true (and-true (and-true (le-leb _ _ p.least) (le-leb _ _ p.most)) (le-leb _ _ p.step)) (and-true p.good p.rest)

-- ---- a good machine's records are in order

words-order : (k : ℕ) → k ≤ 4 → (f : Fields k) → good_fields k f ≡ true → (rs : List Words) → in_order (5 - k) rs ≡ true → (q : ℕ) → 5 - k ≤ q + 1 → in_order q (words k f ∷ rs) ≡ true
words-order k l f g rs o q s =
    let e = words-kind k l f in
    let j : 5 - kind (words k f) ≡ k = omega arith in
    parts-head q (words k f) rs record { least = omega arith; most = omega arith; step = omega arith; good = rw (j, words-good k l f) g; rest = rw e o }

-- rs may follow any record whose kind plus 1 is at least j
abbrev After : ℕ → List Words → Type 0
After j rs = (q : ℕ) → j ≤ q + 1 → in_order q rs ≡ true

after-all : {A : Type 0} (f : A → List Words) (p : A → Bool) (j : ℕ) → ((x : A) → p x ≡ true → (rest : List Words) → After j rest → After j (f x ++ rest)) → (xs : List A) → all p xs ≡ true → (rest : List Words) → After j rest → After j (concat_map f xs ++ rest)
after-all f p j h [] g rest a = a
after-all f p j h (x ∷ xs) g rest a =
    let b = and_both (p x) (all p xs) g in
    rw append_assoc (h x b.0 (concat_map f xs ++ rest) (after-all f p j h xs b.1 rest a))

after-flat : (k : ℕ) → k ≤ 4 → (t : Branch k) → good_branch k t ≡ true → (rest : List Words) → After (5 - k) rest → After (5 - k) (flat k t ++ rest)
unfolding good_branch flat
after-flat zero l t g rest a = words-order zero l t g rest (a 5 (omega arith))
after-flat (suc k) l t g rest a =
    let b = and_both (good_fields (suc k) t.0) (all (good_branch k) t.1) g in
    words-order (suc k) l t.0 b.0 (concat_map (flat k) t.1 ++ rest)
    (after-all (flat k) (good_branch k) (5 - k) (after-flat k (omega arith)) t.1 b.1 rest (λ q i. a q (omega arith)) (5 - suc k) (omega arith))

pub records-order : (m : Machine) → all (good_branch 4) m ≡ true → in_order 0 (records m) ≡ true
unfolding in_order
records-order m g = rw append-nil at (after-all (flat 4) (good_branch 4) 1 (after-flat 4 (omega arith)) m g [] (λ q i. refl) 0 (omega arith))

-- ---- what records in order group to

-- records in order after one of kind q, all of level k or lower
abbrev Under : ℕ → ℕ → List Words → Type 0
Under k q rs = (in_order q rs ≡ true) × All (λ r. 5 ≤ kind r + k) rs

-- a good record of level k + 1, and records under it
abbrev Part : ℕ → Words × List Words → Type 0
Part k x = (good_record (suc k) x.0 ≡ true) × Under k (4 - k) x.1

abbrev Cuts : ℕ → ℕ → Sections → Type 0
Cuts k q c = Under k q c.0 × All (Part k) c.1

module _ (k : ℕ) (l : suc k ≤ 4) where
  cut_step : (q : ℕ) (r : Words) (rs : List Words) (c : Sections) → HeadParts q r rs → 5 ≤ kind r + suc k → Cuts k (kind r) c → (b : Bool) → heads k r ≡ b → Cuts k q (add_to_sections b r c)
  unfolding in_order
  cut_step q r rs c p a i true e =
      let h : kind r ≡ 4 - k = eqb-true _ _ e in
      let j : 5 - kind r ≡ suc k = omega arith in
      ((refl, tt), ((rw j at p.good, (rw h at i.0.0, i.0.1)), i.1))
  cut_step q r rs c p a i false e =
      let h = eqb-false (kind r) (4 - k) e in
      let o = parts-head q r c.0 record { least = p.least; most = p.most; step = p.step; good = p.good; rest = i.0.0 } in
      ((o, (omega arith, i.0.1)), i.1)

  cut_parts : (q : ℕ) (rs : List Words) → Under (suc k) q rs → Cuts k q (sections (heads k) rs)
  unfolding sections in_order
  cut_parts q [] u = ((refl, tt), tt)
  cut_parts q (r ∷ rs) u =
      let p = head-parts q r rs u.0 in
      cut_step q r rs (sections (heads k) rs) p u.1.0 (cut_parts (kind r) rs (p.rest, u.1.1)) (heads k r) refl

  no_lead : (q : ℕ) (rs : List Words) → q + suc k ≤ 4 → Under k q rs → rs ≡ []
  no_lead q [] s u = refl
  no_lead q (r ∷ rs) s u = let p = head-parts q r rs u.0 in absurd (omega arith)

abbrev whole : Words × List Words → List Words
whole x = x.0 ∷ x.1

cut-whole : (p : Words → Bool) (rs : List Words) → (sections p rs).0 ++ concat_map whole (sections p rs).1 ≡ rs
unfolding sections
cut-whole p [] = refl
cut-whole p (r ∷ rs) = go (p r) (sections p rs) (cut-whole p rs)
  where
    go : (b : Bool) (c : Sections) → c.0 ++ concat_map whole c.1 ≡ rs → (add_to_sections b r c).0 ++ concat_map whole (add_to_sections b r c).1 ≡ r ∷ rs
    go true c e = rw e
    go false c e = rw e

pub record-parts : (k : ℕ) (r : Words) → good_record k r ≡ true → (words k (fields_of k r) ≡ r) × (good_fields k (fields_of k r) ≡ true)
unfolding good_record
record-parts k r g =
    let b = and_both (same r (words k (fields_of k r))) (good_fields k (fields_of k r)) g in
    (sym (same_true r (words k (fields_of k r)) b.0), b.1)

-- rs are the records of the good branches that they group to
record Groups (k : ℕ) (rs : List Words) : Type 0 where
  back : concat_map (flat k) (group k rs) ≡ rs
  good : all (good_branch k) (group k rs) ≡ true

atoms-grouped : (q : ℕ) (rs : List Words) → Under 0 q rs → Groups 0 rs
unfolding group flat good_branch
atoms-grouped q [] u = record { back = refl; good = refl }
atoms-grouped q (r ∷ rs) u =
    let p = head-parts q r rs u.0 in
    let j : 5 - kind r ≡ 0 = omega arith in
    let w = record-parts 0 r (rw j at p.good) in
    let i = atoms-grouped (kind r) rs (p.rest, u.1.1) in
    record { back = rw (w.0, i.back); good = and-true w.1 i.good }

abbrev branches : (k : ℕ) → List (Words × List Words) → List (Branch (suc k))
branches k xs = map (λ x. (fields_of (suc k) x.0, group k x.1)) xs

-- the same for parts, from what their children's records group to
parts-grouped : (k : ℕ) → ((rs : List Words) → Under k (4 - k) rs → Groups k rs) → (xs : List (Words × List Words)) → All (Part k) xs → (concat_map (flat (suc k)) (branches k xs) ≡ concat_map whole xs) × (all (good_branch (suc k)) (branches k xs) ≡ true)
unfolding flat good_branch
parts-grouped k f [] a = (refl, refl)
parts-grouped k f (x ∷ xs) a =
    let w = record-parts (suc k) x.0 a.0.0 in
    let g = f x.1 a.0.1 in
    let i = parts-grouped k f xs a.1 in
    (rw (w.0, g.back, i.0), and-true (and-true w.1 g.good) i.1)

grouped : (k : ℕ) → k ≤ 4 → (q : ℕ) → q + k ≤ 4 → (rs : List Words) → Under k q rs → Groups k rs
unfolding group
grouped zero l q s rs u = atoms-grouped q rs u
grouped (suc k) l q s rs u =
    let c = cut_parts k l q rs u in
    let i = parts-grouped k (grouped k (omega arith) (4 - k) (omega arith)) (sections (heads k) rs).1 c.1 in
    let w : concat_map whole (sections (heads k) rs).1 ≡ rs = rw (no_lead k l q (sections (heads k) rs).0 s c.0) at (cut-whole (heads k) rs) in
    record { back = i.0 ∙ w; good = i.1 }

kinds : (q : ℕ) (rs : List Words) → in_order q rs ≡ true → All (λ r. 5 ≤ kind r + 4) rs
kinds q [] o = tt
kinds q (r ∷ rs) o = let p = head-parts q r rs o in (omega arith, kinds (kind r) rs p.rest)

module _ (rs : List Words) (o : in_order 0 rs ≡ true) where
  -- records in order are the records of the machine that they group to
  pub flats-group : records (group 4 rs) ≡ rs
  flats-group = (grouped 4 (omega arith) 0 (omega arith) rs (o, kinds 0 rs o)).back

  -- and that machine is good
  pub good-group : all (good_branch 4) (group 4 rs) ≡ true
  good-group = (grouped 4 (omega arith) 0 (omega arith) rs (o, kinds 0 rs o)).good
