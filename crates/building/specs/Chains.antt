-- The atoms of a model may be added chain by chain: additions to different chains commute but for the order in which chains begin. Assumes nothing.
use Rattle.std.specs.Prelude.{ℕ, zero, suc, ◌≡◌, Bool, ◌||◌, cond, None, Option, Some}
use Rattle.std.proofs.Math.Path.{refl, sym, ap, subst}
use Rattle.std.proofs.Common.{◌∙◌, le_refl, arith}
use Rattle.std.proofs.Math.Bool.{true, false}
use Rattle.std.proofs.lemmas.Bool.{false≢true}
use mathlib.Core.List.{List, [], ◌∷◌, ◌++◌, map, map-append}
use Rattle.machine.specs.Lists.{all, any, nth, keep, filter}
use Rattle.machine.specs.Record.{Fields, Chain}
use Rattle.machine.specs.Store.{Branch}
use Rattle.machine.specs.Edit.{Which, first, pick, put_in, upsert}
use Rattle.machine.specs.Lines.{AtomLine}
use Rattle.machine.specs.Read.{same_id}
use Rattle.laws.specs.Lists.{and_both, and-true, All, All-map}
use Rattle.laws.specs.Places.{all_append}
use Rattle.building.specs.Picks.{change, Seen, pick-seen, pick-miss, pick-change, picks-apart}
use Rattle.building.specs.Build.{adds, adds-append, into, into-is, into_all, item_of, insert, id-self, id-is, id-apart}

-- ---- lines chain by chain, a chain where its first line stands

-- one of some lines is of the chain
abbrev pub has_chain : List AtomLine → Chain → Bool
has_chain seen c = any (λ b. same_id 2 b.chain c) seen

unfoldable pub chains_from : List AtomLine → List AtomLine → List AtomLine
chains_from seen [] = []
chains_from seen (l ∷ ls) =
    cond (any (λ b. same_id 2 b.chain l.chain) seen) (chains_from seen ls)
    ((l ∷ filter (λ a. same_id 2 l.chain a.chain) ls) ++ chains_from (l ∷ seen) ls)

abbrev pub by_chain : List AtomLine → List AtomLine
by_chain ls = chains_from [] ls

-- ---- tests that some element passes

module _ {A : Type 0} (p : A → Bool) where
  any_left : (xs ys : List A) → any p xs ≡ true → any p (xs ++ ys) ≡ true
  any_left [] ys h = absurd (false≢true h)
  any_left (x ∷ xs) ys h = go (p x) h (any_left xs ys)
    where
      go : (b : Bool) → b || any p xs ≡ true → (any p xs ≡ true → any p (xs ++ ys) ≡ true) → b || any p (xs ++ ys) ≡ true
      go true e r = refl
      go false e r = r e

  or_right : (a : Bool) → a || true ≡ true
  or_right true = refl
  or_right false = refl

  any_last : (xs : List A) (y : A) → p y ≡ true → any p (xs ++ (y ∷ [])) ≡ true
  any_last [] y h = rw h
  any_last (x ∷ xs) y h = rw (any_last xs y h) (or_right (p x))

  any_at : (i : ℕ) (xs : List A) (x : A) → nth i xs ≡ Some x → p x ≡ true → any p xs ≡ true
  any_at i [] x e h = let z : ◌≡◌ {A = ℕ} 0 1 = cc in absurd (omega arith)
  any_at zero (y ∷ xs) x e h = let q : y ≡ x = cc in rw (q, h)
  any_at (suc i) (y ∷ xs) x e h = rw (any_at i xs x e h) (or_right (p y))

  any-change : (g : A → A) → ((x : A) → p (g x) ≡ p x) → (i : ℕ) (xs : List A) → any p (change i g xs) ≡ any p xs
  any-change g keeps i [] = refl
  any-change g keeps zero (x ∷ xs) = rw (keeps x)
  any-change g keeps (suc i) (x ∷ xs) = rw (any-change g keeps i xs)

  none_passes : (xs : List A) → All (λ x. p x ≡ false) xs → any p xs ≡ false
  none_passes [] h = refl
  none_passes (x ∷ xs) h = rw h.0 (none_passes xs h.1)

  picked : (w : Which) (xs : List A) → any p xs ≡ true → (i : ℕ) × (pick w p xs ≡ Some i)
  picked w xs h = go (pick w p xs) refl (pick-seen p w xs)
    where
      go : (o : Option ℕ) → pick w p xs ≡ o → Seen p xs o → (i : ℕ) × (pick w p xs ≡ Some i)
      go None e s = absurd (false≢true (sym (none_passes xs s) ∙ h))
      go (Some i) e s = (i, e)

-- ---- two changes commute

module _ {A : Type 0} where
  change-both : (i j : ℕ) (f g : A → A) → (i ≡ j → ⊥) → (xs : List A) → change i f (change j g xs) ≡ change j g (change i f xs)
  change-both i j f g n [] = refl
  change-both zero zero f g n (x ∷ xs) = absurd (n refl)
  change-both zero (suc j) f g n (x ∷ xs) = refl
  change-both (suc i) zero f g n (x ∷ xs) = refl
  change-both (suc i) (suc j) f g n (x ∷ xs) = ap (λ (z : List A). x ∷ z) (change-both i j f g (λ e. n (ap suc e)) xs)

  change-append : (i : ℕ) (f : A → A) (xs ys : List A) (x : A) → nth i xs ≡ Some x → change i f (xs ++ ys) ≡ change i f xs ++ ys
  change-append i f [] ys x e = let z : ◌≡◌ {A = ℕ} 0 1 = cc in absurd (omega arith)
  change-append zero f (y ∷ xs) ys x e = refl
  change-append (suc i) f (y ∷ xs) ys x e = ap (λ (z : List A). y ∷ z) (change-append i f xs ys x e)

-- an addition under an id that stands, and one under another id
module _ (k : ℕ) (w : Which) (p q : Fields (suc k) → Bool) (a b : Fields (suc k)) (f g : List (Branch k) → List (Branch k)) where
  abbrev P : Branch (suc k) → Bool
  P t = p t.0

  abbrev Q : Branch (suc k) → Bool
  Q t = q t.0

  abbrev F : Branch (suc k) → Branch (suc k)
  F t = (t.0, f t.1)

  abbrev G : Branch (suc k) → Branch (suc k)
  G t = (t.0, g t.1)

  stays : (ts : List (Branch (suc k))) → any P ts ≡ true → any P (upsert k w q b g ts) ≡ true
  unfolding upsert
  stays ts h = go (pick w Q ts)
    where
      go : (o : Option ℕ) → any P (put_in o G (b, g []) ts) ≡ true
      go None = any_left P ts ((b, g []) ∷ []) h
      go (Some j) = any-change P G (λ t. refl) j ts ∙ h

  begins : q b ≡ true → (ts : List (Branch (suc k))) → any Q (upsert k w q b g ts) ≡ true
  unfolding upsert
  begins self ts = go (pick w Q ts) (pick-seen Q w ts)
    where
      go : (o : Option ℕ) → Seen Q ts o → any Q (put_in o G (b, g []) ts) ≡ true
      go None s = any_last Q ts (b, g []) self
      go (Some j) s = any-change Q G (λ t. refl) j ts ∙ any_at Q j ts s.0 s.1 s.2

  upsert-both : ((x : Fields (suc k)) → p x ≡ true → q x ≡ false) → p b ≡ false → (ts : List (Branch (suc k))) → any P ts ≡ true
      → upsert k w q b g (upsert k w p a f ts) ≡ upsert k w p a f (upsert k w q b g ts)
  unfolding upsert
  upsert-both apart miss ts h = go (picked P w ts h)
    where
      go : ((i : ℕ) × (pick w P ts ≡ Some i)) → put_in (pick w Q (put_in (pick w P ts) F (a, f []) ts)) G (b, g []) (put_in (pick w P ts) F (a, f []) ts)
          ≡ put_in (pick w P (put_in (pick w Q ts) G (b, g []) ts)) F (a, f []) (put_in (pick w Q ts) G (b, g []) ts)
      go (i, e) =
          ap (λ (o : Option ℕ). put_in (pick w Q (put_in o F (a, f []) ts)) G (b, g []) (put_in o F (a, f []) ts)) e
          ∙ ap (λ (o : Option ℕ). put_in o G (b, g []) (change i F ts)) (pick-change Q F (λ t. refl) w i ts)
          ∙ each (pick w Q ts) (pick-seen Q w ts)
        where
          seen : Seen P ts (Some i)
          seen = subst (Seen P ts) e (pick-seen P w ts)

          each : (o : Option ℕ) → Seen Q ts o → put_in o G (b, g []) (change i F ts) ≡ put_in (pick w P (put_in o G (b, g []) ts)) F (a, f []) (put_in o G (b, g []) ts)
          each None s =
              sym (change-append i F ts ((b, g []) ∷ []) seen.0 seen.1)
              ∙ ap (λ (o : Option ℕ). put_in o F (a, f []) (ts ++ ((b, g []) ∷ []))) (sym (pick-miss P (b, g []) miss w ts ∙ e))
          each (Some j) s =
              sym (change-both i j F G (picks-apart P Q (λ x. apart x.0) ts i j seen s) ts)
              ∙ ap (λ (o : Option ℕ). put_in o F (a, f []) (change j G ts)) (sym (pick-change P G (λ t. refl) w j ts ∙ e))

-- ---- chains

-- the chain of a line stands
abbrev stands : Chain → List (Branch 3) → Bool
stands c ts = any (λ (t : Branch 3). same_id 2 c t.0) ts

abbrev Standing : List AtomLine → List (Branch 3) → Type 0
Standing seen ts = All (λ b. stands b.chain ts ≡ true) seen

abbrev Into : Type 0
Into = List (Branch 3) → List (Branch 3)

still : (c : Chain) (l : AtomLine) (ts : List (Branch 3)) → stands c ts ≡ true → stands c (into l ts) ≡ true
still c l ts h =
    ap (λ (f : Into). stands c (f ts)) (into-is l)
    ∙ stays 2 first (same_id 2 c) (same_id 2 l.chain) c l.chain (λ us. us) (insert 2 (item_of l).1) ts h

still-all : (seen : List AtomLine) (l : AtomLine) (ts : List (Branch 3)) → Standing seen ts → Standing seen (into l ts)
still-all seen l ts h = All-map (λ b e. still b.chain l ts e) seen h

begun : (l : AtomLine) (ts : List (Branch 3)) → stands l.chain (into l ts) ≡ true
begun l ts =
    ap (λ (f : Into). stands l.chain (f ts)) (into-is l)
    ∙ begins 2 first (same_id 2 l.chain) (same_id 2 l.chain) l.chain l.chain (λ us. us) (insert 2 (item_of l).1) (id-self 2 (le_refl 2) l.chain) ts

into-both : (x l : AtomLine) → same_id 2 x.chain l.chain ≡ false → (ts : List (Branch 3)) → stands x.chain ts ≡ true → into l (into x ts) ≡ into x (into l ts)
into-both x l e ts h =
    (λ i. into-is l i (into-is x i ts))
    ∙ upsert-both 2 first (same_id 2 x.chain) (same_id 2 l.chain) x.chain l.chain (insert 2 (item_of x).1) (insert 2 (item_of l).1) (id-apart 2 x.chain l.chain e) e ts h
    ∙ (λ i. sym (into-is x) i (sym (into-is l) i ts))

-- a chain of the lines that were seen stands
seen-stands : (seen : List AtomLine) (c : Chain) (ts : List (Branch 3)) → Standing seen ts → has_chain seen c ≡ true → stands c ts ≡ true
seen-stands [] c ts h e = absurd (false≢true e)
seen-stands (b ∷ seen) c ts h e = go (same_id 2 b.chain c) refl e (seen-stands seen c ts h.1)
  where
    go : (t : Bool) → same_id 2 b.chain c ≡ t → t || has_chain seen c ≡ true → (has_chain seen c ≡ true → stands c ts ≡ true) → stands c ts ≡ true
    go true f n r = ap (λ (z : Chain). stands z ts) (sym (id-is 2 b.chain c f)) ∙ h.0
    go false f n r = r n

seen_apart : (seen : List AtomLine) (c d : Chain) → has_chain seen c ≡ true → has_chain seen d ≡ false → same_id 2 c d ≡ false
seen_apart seen c d h n = go (same_id 2 c d) refl
  where
    go : (t : Bool) → same_id 2 c d ≡ t → t ≡ false
    go false e = refl
    go true e = absurd (false≢true (sym n ∙ ap (has_chain seen) (sym (id-is 2 c d e)) ∙ h))

-- the lines of the chains that were seen
abbrev seen_of : List AtomLine → List AtomLine → List AtomLine
seen_of seen ls = filter (λ a. has_chain seen a.chain) ls

-- an addition to another chain goes past them
past : (seen : List AtomLine) (l : AtomLine) → has_chain seen l.chain ≡ false → (ls : List AtomLine) (ts : List (Branch 3)) → Standing seen ts
    → into l (into_all (seen_of seen ls) ts) ≡ into_all (seen_of seen ls) (into l ts)
past seen l n [] ts h = refl
past seen l n (a ∷ ls) ts h = go (has_chain seen a.chain) refl (past seen l n ls)
  where
    go : (t : Bool) → has_chain seen a.chain ≡ t → ((us : List (Branch 3)) → Standing seen us → into l (into_all (seen_of seen ls) us) ≡ into_all (seen_of seen ls) (into l us))
        → into l (into_all (keep t a (seen_of seen ls)) ts) ≡ into_all (keep t a (seen_of seen ls)) (into l ts)
    go true e r =
        r (into a ts) (still-all seen a ts h)
        ∙ ap (into_all (seen_of seen ls)) (into-both a l (seen_apart seen a.chain l.chain e n) ts (seen-stands seen a.chain ts h e))
    go false e r = r ts h

-- so one more chain goes behind them
behind : (seen : List AtomLine) (l : AtomLine) → has_chain seen l.chain ≡ false → (ls : List AtomLine) (ts : List (Branch 3)) → Standing seen ts
    → into_all (seen_of (l ∷ seen) ls) ts ≡ into_all (filter (λ a. same_id 2 l.chain a.chain) ls) (into_all (seen_of seen ls) ts)
behind seen l n [] ts h = refl
behind seen l n (a ∷ ls) ts h = go (same_id 2 l.chain a.chain) (has_chain seen a.chain) refl refl (behind seen l n ls)
  where
    own : List AtomLine
    own = filter (λ c. same_id 2 l.chain c.chain) ls

    go : (s t : Bool) → same_id 2 l.chain a.chain ≡ s → has_chain seen a.chain ≡ t
        → ((us : List (Branch 3)) → Standing seen us → into_all (seen_of (l ∷ seen) ls) us ≡ into_all own (into_all (seen_of seen ls) us))
        → into_all (keep (s || t) a (seen_of (l ∷ seen) ls)) ts ≡ into_all (keep s a own) (into_all (keep t a (seen_of seen ls)) ts)
    go true true e f r = absurd (false≢true (sym n ∙ ap (has_chain seen) (id-is 2 l.chain a.chain e) ∙ f))
    go true false e f r = r (into a ts) (still-all seen a ts h) ∙ ap (into_all own) (sym (past seen a f ls ts h))
    go false true e f r = r (into a ts) (still-all seen a ts h)
    go false false e f r = r ts h

pub into_all-append : (xs ys : List AtomLine) (ts : List (Branch 3)) → into_all (xs ++ ys) ts ≡ into_all ys (into_all xs ts)
into_all-append xs ys ts = ap (λ (fs : List Into). adds fs ts) (map-append into xs ys) ∙ adds-append (map into xs) (map into ys) ts

chains-order : (seen ls : List AtomLine) (ts : List (Branch 3)) → Standing seen ts → into_all ls ts ≡ into_all (chains_from seen ls) (into_all (seen_of seen ls) ts)
unfolding chains_from
chains-order seen [] ts h = refl
chains-order seen (l ∷ ls) ts h = go (has_chain seen l.chain) refl (λ s. chains-order s ls (into l ts))
  where
    own : List AtomLine
    own = l ∷ filter (λ a. same_id 2 l.chain a.chain) ls

    go : (t : Bool) → has_chain seen l.chain ≡ t → ((s : List AtomLine) → Standing s (into l ts) → into_all ls (into l ts) ≡ into_all (chains_from s ls) (into_all (seen_of s ls) (into l ts)))
        → into_all ls (into l ts) ≡ into_all (cond t (chains_from seen ls) (own ++ chains_from (l ∷ seen) ls)) (into_all (keep t l (seen_of seen ls)) ts)
    go true e r = r seen (still-all seen l ts h)
    go false e r =
        r (l ∷ seen) (begun l ts, still-all seen l ts h)
        ∙ ap (into_all (chains_from (l ∷ seen) ls))
        (behind seen l e ls (into l ts) (still-all seen l ts h) ∙ ap (into_all (filter (λ a. same_id 2 l.chain a.chain) ls)) (sym (past seen l e ls ts h)))
        ∙ sym (into_all-append own (chains_from (l ∷ seen) ls) (into_all (seen_of seen ls) ts))

none_seen : (ls : List AtomLine) → seen_of [] ls ≡ []
none_seen [] = refl
none_seen (l ∷ ls) = none_seen ls

-- THE CHAIN LAW
pub chain-by-chain : (ls : List AtomLine) → into_all (by_chain ls) [] ≡ into_all ls []
chain-by-chain ls = ap (λ (xs : List AtomLine). into_all (by_chain ls) (into_all xs [])) (sym (none_seen ls)) ∙ sym (chains-order [] ls [] tt)

-- ---- lines looked back at

-- which chains began is all that matters of the lines that were seen
chains-agree : (s s' : List AtomLine) → ((c : Chain) → has_chain s c ≡ has_chain s' c) → (ls : List AtomLine) → chains_from s ls ≡ chains_from s' ls
unfolding chains_from
chains-agree s s' h [] = refl
chains-agree s s' h (l ∷ ls) =
    let more : (c : Chain) → has_chain (l ∷ s) c ≡ has_chain (l ∷ s') c = λ c. ap (λ (b : Bool). same_id 2 l.chain c || b) (h c) in
    let own = l ∷ filter (λ a. same_id 2 l.chain a.chain) ls in
    λ i. cond (h l.chain i) (chains-agree s s' h ls i) (own ++ chains-agree (l ∷ s) (l ∷ s') more ls i)

module _ (seen : List AtomLine) (l : AtomLine) (ls : List AtomLine) where
  -- a line of a chain that began is left out
  pub chains-seen : has_chain seen l.chain ≡ true → chains_from seen (l ∷ ls) ≡ chains_from (l ∷ seen) ls
  unfolding chains_from
  chains-seen h = rw h (chains-agree seen (l ∷ seen) (λ c. sym (go c (same_id 2 l.chain c) refl)) ls)
    where
      go : (c : Chain) (b : Bool) → same_id 2 l.chain c ≡ b → b || has_chain seen c ≡ has_chain seen c
      go c true e = sym (ap (has_chain seen) (sym (id-is 2 l.chain c e)) ∙ h)
      go c false e = refl

  -- the first line of a chain brings all of the chain's
  pub chains-new : has_chain seen l.chain ≡ false → chains_from seen (l ∷ ls) ≡ filter (λ a. same_id 2 l.chain a.chain) (l ∷ ls) ++ chains_from (l ∷ seen) ls
  unfolding chains_from
  chains-new h = rw (h, id-self 2 (le_refl 2) l.chain)

module _ (p : AtomLine → Bool) where
  filter-all : (q : AtomLine → Bool) (ls : List AtomLine) → all p ls ≡ true → all p (filter q ls) ≡ true
  filter-all q [] h = refl
  filter-all q (l ∷ ls) h = let e = and_both (p l) (all p ls) h in go (q l) e.0 (filter-all q ls e.1)
    where
      go : (b : Bool) → p l ≡ true → all p (filter q ls) ≡ true → all p (keep b l (filter q ls)) ≡ true
      go true e r = and-true e r
      go false e r = r

  -- what holds for all lines holds chain by chain
  pub chains-all : (seen ls : List AtomLine) → all p ls ≡ true → all p (chains_from seen ls) ≡ true
  unfolding chains_from
  chains-all seen [] h = refl
  chains-all seen (l ∷ ls) h =
      let e = and_both (p l) (all p ls) h in
      go (has_chain seen l.chain) (and-true e.0 (filter-all (λ a. same_id 2 l.chain a.chain) ls e.1)) (chains-all seen ls e.1) (chains-all (l ∷ seen) ls e.1)
    where
      own : List AtomLine
      own = l ∷ filter (λ a. same_id 2 l.chain a.chain) ls

      go : (b : Bool) → all p own ≡ true → all p (chains_from seen ls) ≡ true → all p (chains_from (l ∷ seen) ls) ≡ true
          → all p (cond b (chains_from seen ls) (own ++ chains_from (l ∷ seen) ls)) ≡ true
      go true o r s = r
      go false o r s = all_append p own (chains_from (l ∷ seen) ls) o s
