-- A record that is looked at: what is found from it on, by where the pass stands after it. Assumes nothing.
use Prim.Native.Nat.{ℕ, zero, suc, ◌+◌, ◌-◌, ◌*◌, ◌≤◌, ◌<◌}
use mathlib.Core.Path.{◌≡◌, refl, ap, ◌∙◌}
use mathlib.Core.Bool.{Bool, true, false, cond}
use mathlib.Core.List.{List, [], ◌∷◌, map}
use native.Mathlib.Omega.{arith}
use native.Mathlib.Numerals.{add-one}
use lib.ListN.{take, get_or, length-take}
use lib.Dec.{eqb}
use borrow.Author.Tests.{le-ltb, lt-ltb, ne_eqb}
use Rattle.machine.specs.Lists.{keep}
use Rattle.machine.specs.Record.{Words, kind, fields_of}
use Rattle.machine.specs.Kleene.{is_hit}
use Rattle.machine.specs.Query.{Names, tree_value}
use Rattle.machine.specs.Find.{Site, below}
use Rattle.machine.specs.declared.RecordNumbers.{RecordNumbers}
use Rattle.machine.specs.declared.Tri.{Tri}
use Rattle.laws.specs.Scan.{above}
use Rattle.seek.specs.Seek.{record_at, records_in}
use Rattle.seek.proofs.Below.{record-kind, records_in-cons, records_in-nil}
use Rattle.terms.specs.Levels.{place_at, term_value_at}
use Rattle.descent.specs.Descent.{five, site_at, depth_after}
use Rattle.descent.proofs.Sites.{window-from, entered_at, site-above, site_left, site-below}
use Rattle.walk.specs.PrunedPass.{depth, pruned_pass}
use Rattle.walk.specs.Walk.{may_hit, found_in}

site-depth : (w : List ℕ) (d : ℕ) (at : RecordNumbers) → d ≤ 5 → depth (site_at w d at) ≡ d
unfolding site_at
site-depth w d at l = simp length-take (omega arith)

-- a hit's five numbers
five-kept : (k : ℕ) → k ≤ 5 → (at : RecordNumbers) (l : List (List ℕ)) → keep (eqb k 5) (take k (five at)) l ≡ keep (eqb k 5) (five at) l
five-kept zero h at l = refl
five-kept (suc zero) h at l = refl
five-kept (suc (suc zero)) h at l = refl
five-kept (suc (suc (suc zero))) h at l = refl
five-kept (suc (suc (suc (suc zero)))) h at l = refl
five-kept (suc (suc (suc (suc (suc zero))))) h at l = refl
five-kept (suc (suc (suc (suc (suc (suc k)))))) h at l = absurd (omega arith)

map-keep : {A B : Type 0} (f : A → B) (b : Bool) (x : A) (l : List A) → map f (keep b x l) ≡ keep b (f x) (map f l)
map-keep f true x l = refl
map-keep f false x l = refl

module _ (w t residues atoms : List ℕ) (low end n d : ℕ) (at : RecordNumbers) where
  abbrev names : Names
  names = record { residues = residues; atoms = atoms }

  abbrev hit : Site → Bool
  hit = may_hit low names t

  abbrev numbers : List Site → List (List ℕ)
  numbers = map (λ (s : Site). s.numbers)

  abbrev k : ℕ
  k = get_or w (n * 12) 0

  abbrev rest : List Words
  rest = records_in (suc n) end w

  pub found-end : end ≤ n → found_in w n end t low d at residues atoms ≡ []
  unfolding found_in pruned_pass
  found-end h = rw (records_in-nil w end n h)

  module _ (more : n < end) (high : d ≤ 5) where
    first : found_in w n end t low d at residues atoms ≡ numbers (pruned_pass hit n (site_at w d at) (record_at n w ∷ rest))
    unfolding found_in
    first = rw (records_in-cons w end n more, add-one)

    is-kind : kind (record_at n w) ≡ k
    is-kind = record-kind w n

    pub found-deep : d + 1 < k → found_in w n end t low d at residues atoms ≡ found_in w (n + 1) end t low d at residues atoms
    unfolding found_in pruned_pass
    found-deep h = first ∙ rw (site-depth w d at high, is-kind, lt-ltb (suc d) k (omega arith), add-one)

    -- the record, not too deep, entered
    module _ (least : 1 ≤ k) (most : k ≤ 5) (near : k ≤ d + 1) where
      to : RecordNumbers
      to = entered_at k n at

      upper : above k (site_at w d at) ≡ site_at w (k - 1) to
      unfolding to
      upper = site-above w k d at (omega arith) ∙ site_left w k n at least most

      here : below (5 - k) n (fields_of (5 - k) (record_at n w)) (above k (site_at w d at)) ≡ site_at w k to
      unfolding to
      here = ap (below (5 - k) n (fields_of (5 - k) (record_at n w))) (site-above w k d at (omega arith)) ∙ site-below w k n at least most

      value : Tri
      value = tree_value (term_value_at w to low k residues atoms) t

      is-hit : hit (site_at w k to) ≡ is_hit value
      unfolding may_hit site_at value
      is-hit = rw (window-from low k (place_at w to))

      abbrev looked : Bool → Site → Site → List Site
      looked b y u = cond b (keep (eqb k 5) y (pruned_pass hit (suc n) y rest)) (pruned_pass hit (suc n) u rest)

      looks : pruned_pass hit n (site_at w d at) (record_at n w ∷ rest) ≡ looked (is_hit value) (site_at w k to) (site_at w (k - 1) to)
      unfolding pruned_pass
      looks =
          rw (site-depth w d at high, is-kind, le-ltb (suc d) k (omega arith))
          (ap (λ (y : Site). looked (hit y) y (above k (site_at w d at))) here
          ∙ ap (λ (u : Site). looked (hit (site_at w k to)) (site_at w k to) u) upper
          ∙ ap (λ (b : Bool). looked b (site_at w k to) (site_at w (k - 1) to)) is-hit)

      kept : (l : List (List ℕ)) → keep (eqb k 5) (site_at w k to).numbers l ≡ keep (eqb k 5) (five to) l
      unfolding site_at
      kept l = five-kept k most to l

      told : (b : Bool) → numbers (looked b (site_at w k to) (site_at w (k - 1) to)) ≡ keep (eqb (cond b k (k - 1)) 5) (five to) (found_in w (n + 1) end t low (cond b k (k - 1)) to residues atoms)
      unfolding found_in
      told true =
          rw add-one
          (map-keep (λ (s : Site). s.numbers) (eqb k 5) (site_at w k to) (pruned_pass hit (suc n) (site_at w k to) rest)
          ∙ kept (numbers (pruned_pass hit (suc n) (site_at w k to) rest)))
      told false = rw (ne_eqb (k - 1) 5 (λ z. omega arith), add-one)

      pub found-next : (to' : RecordNumbers) (d' : ℕ) → to' ≡ entered_at k n at → d' ≡ depth_after k (tree_value (term_value_at w to' low k residues atoms) t)
          → found_in w n end t low d at residues atoms ≡ keep (eqb d' 5) (five to') (found_in w (n + 1) end t low d' to' residues atoms)
      unfolding to value
      found-next to' d' e f = rw (f, e) (first ∙ ap numbers looks ∙ told (is_hit value))
