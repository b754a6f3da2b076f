-- A join at every level, by where its two branches stand among the records. Assumes nothing.
use Rattle.std.specs.Prelude.{Err, None, Ok, Option, Some}
use Prim.Native.Nat.{ℕ, zero, suc, ◌+◌, ◌-◌, ◌≤◌, ◌<◌}
use mathlib.Core.Path.{◌≡◌, refl, sym, ap, ◌∙◌, subst}
use mathlib.Core.Bool.{Bool, true, false}
use mathlib.Core.List.{List, [], ◌∷◌, ◌++◌, append_assoc, append-nil}
use native.Mathlib.Omega.{arith}
use lib.ListN.{length, length-append}
use Rattle.machine.specs.Lists.{sum, concat_map, same}
use Rattle.machine.specs.Answer.{Result}
use Rattle.machine.specs.Record.{Words, words}
use Rattle.machine.specs.Store.{Branch, Machine, flat, records, atom_count, stored}
use Rattle.machine.specs.Find.{size}
use Rattle.machine.specs.Edit.{up, branch_at, replace_at, join_at}
use Rattle.machine.specs.declared.Refusal.TheVariants.{NoPosition, JoinWithItself}
use Rattle.laws.specs.Lists.{sum-append, concat_map-append, same_true, same_refl}
use Rattle.laws.specs.Places.{Spot, replace-sum, atom-splits, flat-splits, branch_at-other}
use Rattle.laws.specs.Places as places
use Rattle.seek.specs.Seek.{span_at, span_on, span}
use Rattle.seek.proofs.Laws.{Stands, stands, missing, Stood, span-some, spot-length, span-inj}
use Rattle.joins.specs.Join.{join_on, cut_turned}
use Rattle.joins.proofs.Shift.{Apart, later, earlier, apart}
use Rattle.joins.proofs.Blocks.{TurnedBlocks, turned}

-- ---- what a join gives, by the spans of its two positions

-- one branch stands from p up to q, another after it from p' up to q', among n records
pub record Ordered (p q p' q' n : ℕ) : Type 0 where
  pub first : p < q
  pub order : q ≤ p'
  pub second : p' < q'
  pub room : q' ≤ n

-- two branches so ordered are joined, and the records are rs
pub record Joined {A : Type 0} (flats : A → List Words) (count : A → ℕ) (m : A) (p q p' q' : ℕ) (rs : List Words) (out : Result A) : Type 0 where
  pub ordered : Ordered p q p' q' (length (flats m))
  pub after : A
  pub done : out ≡ Ok after
  pub atoms : count after ≡ count m
  pub joined : flats after ≡ rs

-- the checks in their order, 5 and 9, and then the join with the second behind the first or ahead of it
pub record Rules {A : Type 0} (flats : A → List Words) (count : A → ℕ) (m : A) (s t : Option (ℕ × ℕ)) (out : Result A) : Type 0 where
  pub no-first : s ≡ None → out ≡ Err NoPosition
  pub no_second : t ≡ None → out ≡ Err NoPosition
  pub itself : (pa qa pb qb : ℕ) → s ≡ Some (pa, qa) → t ≡ Some (pb, qb) → pa ≡ pb → out ≡ Err JoinWithItself
  pub behind : (pa qa pb qb : ℕ) → s ≡ Some (pa, qa) → t ≡ Some (pb, qb) → pa < pb
      → Joined flats count m pa qa pb qb (cut_turned pb qa pb (qb - 1) (flats m)) out
  pub ahead : (pa qa pb qb : ℕ) → s ≡ Some (pa, qa) → t ≡ Some (pb, qb) → pb < pa
      → Joined flats count m pb qb pa qa (cut_turned pb pb (qb - 1) (qa - 1) (flats m)) out

-- ---- at one level, d levels down, whose branches have children of level j

module _ (d j : ℕ) (a b : List ℕ) (la : length a ≡ suc d) (lb : length b ≡ suc d) (m : List (Branch (up d (suc j)))) where
  abbrev flats : List (Branch (up d (suc j))) → List Words
  flats ts = concat_map (flat (up d (suc j))) ts

  abbrev count : List (Branch (up d (suc j))) → ℕ
  count ts = sum (atom_count (up d (suc j))) ts

  -- the first with the second's children, and then without the second
  abbrev grown : Branch (suc j) → Branch (suc j) → List (Branch (up d (suc j)))
  grown t u = replace_at d (suc j) a ((t.0, t.1 ++ u.1) ∷ []) m

  abbrev result : Branch (suc j) → Branch (suc j) → List (Branch (up d (suc j)))
  result t u = replace_at d (suc j) b [] (grown t u)

  refused-first : branch_at d (suc j) a m ≡ None → join_at d j a b m ≡ Err NoPosition
  unfolding join_at
  refused-first e = rw e

  refused-second : (o : Option (Branch (suc j))) → branch_at d (suc j) a m ≡ o → branch_at d (suc j) b m ≡ None → join_at d j a b m ≡ Err NoPosition
  unfolding join_at
  refused-second None e f = rw e
  refused-second (Some t) e f = rw (e, f)

  module _ (t u : Branch (suc j)) (ta : branch_at d (suc j) a m ≡ Some t) (ub : branch_at d (suc j) b m ≡ Some u) where
    refused-itself : same a b ≡ true → join_at d j a b m ≡ Err JoinWithItself
    unfolding join_at
    refused-itself e = rw (ta, ub, e)

    accepted : same a b ≡ false → join_at d j a b m ≡ Ok (result t u)
    unfolding join_at
    accepted e = rw (ta, ub, e)

    still : same a b ≡ false → branch_at d (suc j) b (grown t u) ≡ Some u
    still e = branch_at-other d (suc j) a b (t.0, t.1 ++ u.1) m la lb e ∙ ub

    -- the atoms are the same
    kept : same a b ≡ false → count (result t u) ≡ count m
    kept e =
        let x = replace-sum places.atoms d (suc j) a ((t.0, t.1 ++ u.1) ∷ []) m t ta in
        let y = replace-sum places.atoms d (suc j) b [] (grown t u) u (still e) in
        omega (arith, atom-splits j t, atom-splits j u, atom-splits j (t.0, t.1 ++ u.1), sum-append (atom_count j) t.1 u.1)

  -- the second's children stand after the first's records
  grown-flats : (t u : Branch (suc j)) (s : Spot d (suc j) a m t) → flats (grown t u) ≡ (s.pre ++ flat (suc j) t) ++ (concat_map (flat j) u.1 ++ s.post)
  unfolding flat
  grown-flats t u s = s.is ((t.0, t.1 ++ u.1) ∷ []) ∙ rw (concat_map-append (flat j) t.1 u.1) (simp (append_assoc, append-nil))

  module _ (pa qa pb qb : ℕ) (ea : span_at d (suc j) a 0 m ≡ Some (pa, qa)) (eb : span_at d (suc j) b 0 m ≡ Some (pb, qb)) where
    abbrev sa : Stands d (suc j) a 0 m pa qa
    sa = stands d (suc j) a 0 m pa qa ea

    abbrev sb : Stands d (suc j) b 0 m pb qb
    sb = stands d (suc j) b 0 m pb qb eb

    same_start : pa ≡ pb → same a b ≡ true
    same_start e =
        let f : span_at d (suc j) b 0 m ≡ Some (pa, qb) = rw e eb in
        let x = span-inj d (suc j) a b 0 m pa qa qb la lb ea f in
        rw x (same_refl b)

    other-start : (pa ≡ pb → ⊥) → (c : Bool) → same a b ≡ c → same a b ≡ false
    other-start h true e =
        let x = same_true a b e in
        let f : span_at d (suc j) b 0 m ≡ Some (pa, qa) = rw x at ea in
        let p : ◌≡◌ {A = ℕ × ℕ} (pa, qa) (pb, qb) = cc in
        absurd (h (ap (λ (z : ℕ × ℕ). z.0) p))
    other-start h false e = e

    -- the second, where the first has grown
    module _ (e : same a b ≡ false) where
      abbrev kids : List Words
      kids = concat_map (flat j) sb.branch.1

      stood : Stood d (suc j) b 0 (grown sa.branch sb.branch) sb.branch
      stood = span-some d (suc j) b 0 (grown sa.branch sb.branch) sb.branch (still sa.branch sb.branch sa.there sb.there e)

      more : pa + size (suc j) (sa.branch.0, sa.branch.1 ++ sb.branch.1) ≡ qa + length kids
      unfolding flat
      more = omega (arith, sa.last, length-append (concat_map (flat j) sa.branch.1) kids, ap length (concat_map-append (flat j) sa.branch.1 sb.branch.1))

      order : Apart d (suc j) b 0 (length kids) (grown sa.branch sb.branch) pa qa pb qb
      order = apart d (suc j) a b 0 (length kids) m _ pa qa pb qb la lb e more ea eb

      blocks : TurnedBlocks kids (flats m) stood.spot.pre stood.spot.post pb qa qb
      unfolding flat
      blocks =
          let x = sa.spot in
          let y = sb.spot in
          let z = stood.spot in
          let l = sa.last in
          let k = sb.last in
          turned (words (suc j) sb.branch.0) kids (flats m) (flats (grown sa.branch sb.branch)) (x.pre ++ flat (suc j) sa.branch) x.post
          y.pre y.post z.pre z.post pb qa qb
          (x.was ∙ sym (append_assoc x.pre (flat (suc j) sa.branch) x.post))
          y.was
          (grown-flats sa.branch sb.branch x)
          z.was
          (omega (arith, length-append x.pre (flat (suc j) sa.branch), sa.first))
          (omega (arith, sb.first))
          (omega arith)

      stood-first : (p q : ℕ) → span_at d (suc j) b 0 (grown sa.branch sb.branch) ≡ Some (p, q) → length stood.spot.pre ≡ p
      stood-first p q f =
          let n : ℕ = length stood.spot.pre in
          let g = stood.span in
          let h : ◌≡◌ {A = ℕ × ℕ} (0 + n, 0 + n + size (suc j) sb.branch) (p, q) = cc in
          omega (arith, ap (λ (v : ℕ × ℕ). v.0) h)

      some-records : (pa < qa) × (pb < qb) × (qa ≤ length (flats m)) × (qb ≤ length (flats m))
      some-records =
          let x = flat-splits j sa.branch in
          let y = flat-splits j sb.branch in
          let k = spot-length d (suc j) a m sa.branch sa.spot in
          let l = spot-length d (suc j) b m sb.branch sb.spot in
          (omega (arith, sa.last), omega (arith, sb.last), omega (arith, sa.first, sa.last), omega (arith, sb.first, sb.last))

      with-records : (p q p' q' : ℕ) (rs : List Words) → Ordered p q p' q' (length (flats m)) → stood.spot.pre ++ stood.spot.post ≡ rs
          → Joined flats count m p q p' q' rs (join_at d j a b m)
      with-records p q p' q' rs o f =
          record {
            ordered = o;
            after = result sa.branch sb.branch;
            done = accepted sa.branch sb.branch sa.there sb.there e;
            atoms = kept sa.branch sb.branch sa.there sb.there e;
            joined = stood.spot.is [] ∙ f;
          }

      joined-behind : pa < pb → Apart d (suc j) b 0 (length kids) (grown sa.branch sb.branch) pa qa pb qb
          → Joined flats count m pa qa pb qb (cut_turned pb qa pb (qb - 1) (flats m)) (join_at d j a b m)
      joined-behind o (later l f) =
          let r = some-records in
          with-records pa qa pb qb _ (record { first = r.0; order = l; second = r.1; room = r.3 }) (blocks.later l (stood-first _ _ f))
      joined-behind o (earlier l f) = absurd (omega (arith, some-records.1))

      joined-ahead : pb < pa → Apart d (suc j) b 0 (length kids) (grown sa.branch sb.branch) pa qa pb qb
          → Joined flats count m pb qb pa qa (cut_turned pb pb (qb - 1) (qa - 1) (flats m)) (join_at d j a b m)
      joined-ahead o (later l f) = absurd (omega (arith, some-records.0))
      joined-ahead o (earlier l f) =
          let r = some-records in
          with-records pb qb pa qa _ (record { first = r.1; order = l; second = r.0; room = r.2 }) (blocks.earlier (omega arith) (stood-first _ _ f))

  rules : Rules flats count m (span_at d (suc j) a 0 m) (span_at d (suc j) b 0 m) (join_at d j a b m)
  rules =
      record {
        no-first = λ e. refused-first (missing d (suc j) a 0 m e);
        no_second = λ e. refused-second (branch_at d (suc j) a m) refl (missing d (suc j) b 0 m e);
        itself = λ pa qa pb qb e f o.
            let x = e in
            let y = f in
            let s = sa pa qa pb qb x y in
            let t = sb pa qa pb qb x y in
            refused-itself s.branch t.branch s.there t.there (same_start pa qa pb qb x y o);
        behind = λ pa qa pb qb e f o.
            let x = e in
            let y = f in
            let n = other-start pa qa pb qb x y (λ z. omega arith) (same a b) refl in
            joined-behind pa qa pb qb x y n o (order pa qa pb qb x y n);
        ahead = λ pa qa pb qb e f o.
            let x = e in
            let y = f in
            let n = other-start pa qa pb qb x y (λ z. omega arith) (same a b) refl in
            joined-ahead pa qa pb qb x y n o (order pa qa pb qb x y n);
      }

-- ---- at the level that the positions' length gives

on-level : (n : ℕ) → 1 ≤ n → n ≤ 4 → (a b : List ℕ) → length a ≡ n → length b ≡ n → (m : Machine) → Rules records stored m (span_on n a m) (span_on n b m) (join_on n a b m)
on-level zero lo hi a b la lb m = absurd (omega arith)
on-level (suc zero) lo hi a b la lb m = rules 0 3 a b la lb m
on-level (suc (suc zero)) lo hi a b la lb m = rules 1 2 a b la lb m
on-level (suc (suc (suc zero))) lo hi a b la lb m = rules 2 1 a b la lb m
on-level (suc (suc (suc (suc zero)))) lo hi a b la lb m = rules 3 0 a b la lb m
on-level (suc (suc (suc (suc (suc n))))) lo hi a b la lb m = absurd (omega arith)

pub join-rules : (a b : List ℕ) (m : Machine) → 1 ≤ length a → length a ≤ 4 → length a ≡ length b → Rules records stored m (span a m) (span b m) (join_on (length a) a b m)
join-rules a b m lo hi e =
    subst (λ (n : ℕ). Rules records stored m (span a m) (span_on n b m) (join_on (length a) a b m)) e (on-level (length a) lo hi a b refl (sym e) m)
