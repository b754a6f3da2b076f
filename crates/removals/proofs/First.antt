-- The first child that an id names: its record among those below its parent, and its branch among the parent's children. Assumes nothing.
use Rattle.std.specs.Prelude.{None, Option, Some, option_map}
use Prim.Native.Nat.{ℕ, suc, ◌+◌, ◌≤◌, ◌<◌}
use mathlib.Core.Path.{◌≡◌, refl, sym, ap, ◌∙◌}
use mathlib.Core.Bool.{Bool, true, false, cond}
use mathlib.Core.List.{List, [], ◌∷◌, ◌++◌, append_assoc}
use native.Mathlib.Omega.{arith}
use lib.ListN.{length, drop, length-append}
use lib.Seq.{drop_at}
use Rattle.machine.specs.Lists.{concat_map, first_where, splice}
use Rattle.machine.specs.Record.{Words, Fields, words, kind}
use Rattle.machine.specs.Store.{Branch, flat}
use Rattle.machine.specs.Find.{size}
use Rattle.machine.specs.Edit.{up, root, with_children}
use Rattle.laws.specs.Lists.{All, concat_map-append}
use Rattle.laws.specs.Scan.{ends-branches}
use Rattle.laws.specs.Places.{Around}
use Rattle.seek.specs.Seek.{descendants}
use Rattle.seek.proofs.Below.{under, flat-root, under-kinds, descendants-over}
use Rattle.seek.proofs.Laws.{Stands}
use Rattle.removals.specs.Named.{count_before}
use Rattle.removals.proofs.Cut.{CutOut}

-- a child by its index, and by how many records stand before its own
pub record Child (j : ℕ) (ts : List (Branch j)) (i o : ℕ) : Type 0 where
  pub branch : Branch j
  pub around : Around i ts branch
  pub offset : o ≡ length (concat_map (flat j) around.before)

module _ (j : ℕ) (ts : List (Branch j)) (i o : ℕ) (c : Child j ts i o) where
  child-flats : concat_map (flat j) ts ≡ concat_map (flat j) c.around.before ++ (flat j c.branch ++ concat_map (flat j) c.around.after)
  child-flats = ap (concat_map (flat j)) c.around.was ∙ concat_map-append (flat j) c.around.before (c.branch ∷ c.around.after)

  pub child-low : o < length (concat_map (flat j) ts)
  child-low =
      let b = concat_map (flat j) c.around.before in
      let f = flat j c.branch in
      omega (arith, c.offset, ap length child-flats, length-append b (f ++ concat_map (flat j) c.around.after), length-append f (concat_map (flat j) c.around.after), ap length (flat-root j c.branch))

  -- where its descendants end
  pub child-stop : (h : ℕ) → h + j ≡ 5 → 1 ≤ h → suc o + descendants h (drop (suc o) (concat_map (flat j) ts)) ≡ o + size j c.branch
  child-stop h e l =
      let b = concat_map (flat j) c.around.before in
      let r = words j (root j c.branch) in
      let u = under j c.branch in
      let a = concat_map (flat j) c.around.after in
      let n : length (b ++ (r ∷ [])) ≡ suc o = omega (arith, length-append b (r ∷ []), c.offset) in
      let f : concat_map (flat j) ts ≡ (b ++ (r ∷ [])) ++ (u ++ a) = child-flats ∙ rw (flat-root j c.branch) (sym (append_assoc b (r ∷ []) (u ++ a))) in
      rw (f, drop_at (b ++ (r ∷ [])) (u ++ a) (suc o) n, descendants-over h u a (under-kinds h j e c.branch) (ends-branches h j e (omega arith) c.around.after))
      (omega (arith, ap length (flat-root j c.branch)))

-- its records go with it
pub cut-child : (d j : ℕ) (pos : List ℕ) (ts : List (Branch (up d (suc j)))) (p q : ℕ) (s : Stands d (suc j) pos 0 ts p q) (i o : ℕ) (c : Child j s.branch.1 i o) (at stop : ℕ)
    → at ≡ p + 1 + o → stop ≡ at + size j c.branch
    → CutOut (concat_map (flat (up d (suc j))) ts) (concat_map (flat (up d (suc j))) (with_children d j pos s.branch (splice i (λ u. []) s.branch.1) ts)) at stop
unfolding flat
cut-child d j pos ts p q s i o c at stop e f =
    let b = concat_map (flat j) c.around.before in
    let a = concat_map (flat j) c.around.after in
    let r = words (suc j) s.branch.0 in
    let k : concat_map (flat j) (splice i (λ u. []) s.branch.1) ≡ b ++ a = ap (concat_map (flat j)) (c.around.is (λ u. [])) ∙ concat_map-append (flat j) c.around.before c.around.after in
    record {
      pre = s.spot.pre ++ (r ∷ b);
      mid = flat j c.branch;
      post = a ++ s.spot.post;
      was = s.spot.was ∙ rw (child-flats j s.branch.1 i o c) (simp append_assoc);
      is = s.spot.is _ ∙ rw k (simp append_assoc);
      first = omega (arith, length-append s.spot.pre (r ∷ b), s.first, c.offset);
      last = f;
    }

-- ---- the scan over the records finds the first child at which p holds

-- by what the machine picks
abbrev pub Picked : (j : ℕ) → Option ℕ → List (Branch j) → ℕ → Type 0
Picked j None ts o = o ≡ length (concat_map (flat j) ts)
Picked j (Some i) ts o = Child j ts i o

module _ (h j : ℕ) (level : h + j ≡ 5) (p : Fields j → Bool) (test : Words → Bool) (agree : (f : Fields j) → test (words j f) ≡ p f)
    (deeper : (r : Words) → h < kind r → test r ≡ false) where
  count_before-under : (rs rest : List Words) → All (λ r. h < kind r) rs → count_before test (rs ++ rest) ≡ length rs + count_before test rest
  unfolding count_before
  count_before-under [] rest a = omega arith
  count_before-under (r ∷ rs) rest a = rw (deeper r a.0, count_before-under rs rest a.1) (omega arith)

  count_before-yes : (t : Branch j) (rest : List Words) → p (root j t) ≡ true → count_before test (flat j t ++ rest) ≡ 0
  unfolding count_before
  count_before-yes t rest e = rw (flat-root j t, agree (root j t), e)

  count_before-no : (t : Branch j) (rest : List Words) → p (root j t) ≡ false → count_before test (flat j t ++ rest) ≡ length (flat j t) + count_before test rest
  unfolding count_before
  count_before-no t rest e = rw (flat-root j t, agree (root j t), e, count_before-under (under j t) rest (under-kinds h j level t)) (omega arith)

  pick-on : (t : Branch j) (ts : List (Branch j)) (b : Bool) → p (root j t) ≡ b → (o : Option ℕ) → Picked j o ts (count_before test (concat_map (flat j) ts))
      → Picked j (cond b (Some 0) (option_map suc o)) (t ∷ ts) (count_before test (flat j t ++ concat_map (flat j) ts))
  pick-on t ts true e o x = record { branch = t; around = record { before = []; after = ts; was = refl; is = λ f. refl }; offset = count_before-yes t (concat_map (flat j) ts) e }
  pick-on t ts false e None x = count_before-no t (concat_map (flat j) ts) e ∙ rw x (sym (length-append (flat j t) (concat_map (flat j) ts)))
  pick-on t ts false e (Some i) x =
      let a = x.around in
      record {
        branch = x.branch;
        around = record { before = t ∷ a.before; after = a.after; was = ap (λ (l : List (Branch j)). t ∷ l) a.was; is = λ f. ap (λ (l : List (Branch j)). t ∷ l) (a.is f) };
        offset = count_before-no t (concat_map (flat j) ts) e ∙ rw x.offset (sym (length-append (flat j t) (concat_map (flat j) a.before)));
      }

  pub picked : (ts : List (Branch j)) → Picked j (first_where (λ u. p (root j u)) ts) ts (count_before test (concat_map (flat j) ts))
  unfolding count_before
  picked [] = refl
  picked (t ∷ ts) = pick-on t ts (p (root j t)) refl (first_where (λ u. p (root j u)) ts) (picked ts)
