-- What the loops go by: records among the words, below a kind, and those of branches. Assumes nothing.
use Rattle.std.specs.Prelude.{None, Option, Some, option_map}
use Prim.Native.Nat.{ℕ, zero, suc, ◌+◌, ◌-◌, ◌*◌, ◌≤◌, ◌<◌}
use mathlib.Core.Path.{◌≡◌, refl, ap, ◌∙◌}
use mathlib.Core.Bool.{Bool, true, false, cond}
use mathlib.Core.List.{List, [], ◌∷◌, ◌++◌, append_assoc, append-nil}
use native.Mathlib.Nat.{add-zero, zero-add, add-suc, suc-add}
use native.Mathlib.Numerals.{add-one}
use native.Mathlib.Omega.{arith}
use lib.ListN.{length, take, drop, get_or, set, length-drop, drop_of_length-le}
use lib.Seq.{drop-cons, drop-drop, get_or-take, get_or-drop}
use lib.Dec.{ltb, eqb}
use borrow.Author.Tests.{le-ltb, lt-ltb, eq-eqb, ne_eqb}
use Rattle.machine.specs.Lists.{concat_map, nth, and_then}
use Rattle.machine.specs.Record.{Words, words, kind}
use Rattle.machine.specs.Store.{Branch, Machine, flat, records, chunks}
use Rattle.machine.specs.Find.{size, numbered}
use Rattle.machine.specs.Edit.{up, root}
use Rattle.laws.specs.Lists.{All}
use Rattle.laws.specs.Grouped.{words-kind, flats-kinds, chunks-length}
use Rattle.laws.specs.Scan.{Ends, ends_more, ends-flats}
use Rattle.seek.specs.Seek.{Within, record_at, records_in, five_numbers, descendants, child, at_child, to_end, child_span, part_in, span_at, span}
use Rattle.seek.specs.declared.Part.{Part}

-- ---- records among the words

chunk-at : (c p : ℕ) (w : List ℕ) → p < c → get_or (chunks c w) p [] ≡ record_at p w
chunk-at zero p w h = absurd (omega arith)
chunk-at (suc c) zero w h = refl
chunk-at (suc c) (suc p) w h =
    let e : suc p * 12 ≡ 12 + p * 12 = omega arith in
    rw (chunk-at c p (drop 12 w) (omega arith), drop-drop (p * 12) 12 w, e)

-- the first records are the front of more
pub chunks-take : (e c : ℕ) (w : List ℕ) → e ≤ c → chunks e w ≡ take e (chunks c w)
chunks-take zero c w l = refl
chunks-take (suc e) zero w l = absurd (omega arith)
chunks-take (suc e) (suc c) w l = ap (λ (rs : List Words). take 12 w ∷ rs) (chunks-take e c (drop 12 w) (omega arith))

-- and the others stand behind them
pub chunks-add : (m n : ℕ) (w : List ℕ) → chunks (m + n) w ≡ chunks m w ++ chunks n (drop (m * 12) w)
chunks-add zero n w = rw (zero-add n)
chunks-add (suc m) n w =
    let i : suc m + n ≡ suc (m + n) = omega arith in
    let d : 12 + m * 12 ≡ suc m * 12 = omega arith in
    rw (i, chunks-add m n (drop 12 w), drop-drop (m * 12) 12 w, d)

pub chunks-snoc : (n : ℕ) (w : List ℕ) → chunks (suc n) w ≡ chunks n w ++ (record_at n w ∷ [])
chunks-snoc n w = let e : suc n ≡ n + 1 = omega arith in ap (λ (k : ℕ). chunks k w) e ∙ chunks-add n 1 w

-- a word of a record, and its kind
pub record-word : (w : List ℕ) (at i : ℕ) → i < 12 → get_or (record_at at w) i 0 ≡ get_or w (at * 12 + i) 0
record-word w at i l = get_or-take 12 (drop (at * 12) w) i 0 l ∙ get_or-drop (at * 12) w i 0

pub record-kind : (w : List ℕ) (at : ℕ) → kind (record_at at w) ≡ get_or w (at * 12) 0
record-kind w at = record-word w at 0 (omega arith) ∙ ap (λ (x : ℕ). get_or w x 0) (add-zero (at * 12))

module _ (w : List ℕ) (end at : ℕ) where
  pub records_in-cons : at < end → records_in at end w ≡ record_at at w ∷ records_in (at + 1) end w
  records_in-cons h =
      let l : at < length (chunks end w) = rw chunks-length h in
      rw (drop-cons (chunks end w) at [], chunk-at end at w h, add-one)

  pub records_in-nil : end ≤ at → records_in at end w ≡ []
  records_in-nil h = let l : length (chunks end w) ≤ at = rw chunks-length h in drop_of_length-le (chunks end w) l

-- ---- below a kind

pub descendants-over : (h : ℕ) (b rest : List Words) → All (λ r. h < kind r) b → Ends h rest → descendants h (b ++ rest) ≡ length b
unfolding descendants
descendants-over h [] [] a e = refl
descendants-over h [] (r ∷ rest) a e = rw (le-ltb h (kind r) e)
descendants-over h (r ∷ b) rest a e = rw (lt-ltb h (kind r) a.0, descendants-over h b rest a.1 e)

descendants-within : (h : ℕ) (rs : List Words) → descendants h rs ≤ length rs
unfolding descendants
descendants-within h [] = omega arith
descendants-within h (r ∷ rs) = go (ltb h (kind r)) (descendants-within h rs)
  where
    go : (b : Bool) → descendants h rs ≤ length rs → cond b (suc (descendants h rs)) 0 ≤ suc (length rs)
    go true l = omega arith
    go false l = omega arith

pub end-within : (w : List ℕ) (from end h : ℕ) → Within from end w → from + descendants h (records_in from end w) ≤ end
end-within w from end h b = omega (arith, b.order, descendants-within h (records_in from end w), length-drop from (chunks end w), chunks-length end w)

-- the i-th record of a kind, by the kind of the first record
module _ {A : Type 0} (h : ℕ) (f : ℕ → List Words → Option A) where
  shift : (n : ℕ) (r : Words) (rs : List Words) (c : Option ℕ)
      → and_then (option_map suc c) (λ o. f (n + o) (drop (suc o) (r ∷ rs))) ≡ and_then c (λ o. f (suc n + o) (drop (suc o) rs))
  shift n r rs None = refl
  shift n r rs (Some o) = rw (add-suc, suc-add)

  pub child-pass : (i n : ℕ) (r : Words) (rs : List Words) → h < kind r → at_child h i f n (r ∷ rs) ≡ at_child h i f (suc n) rs
  unfolding child
  child-pass zero n r rs l = rw (le-ltb (kind r) h (omega arith), ne_eqb (kind r) h (λ e. omega arith)) (shift n r rs (child h zero rs))
  child-pass (suc i) n r rs l = rw (le-ltb (kind r) h (omega arith), ne_eqb (kind r) h (λ e. omega arith)) (shift n r rs (child h (suc i) rs))

  pub child-next : (i n : ℕ) (r : Words) (rs : List Words) → kind r ≡ h → at_child h (suc i) f n (r ∷ rs) ≡ at_child h i f (suc n) rs
  unfolding child
  child-next i n r rs e = rw (le-ltb (kind r) h (omega arith), eq-eqb (kind r) h e) (shift n r rs (child h i rs))

  pub child-here : (n : ℕ) (r : Words) (rs : List Words) → kind r ≡ h → at_child h zero f n (r ∷ rs) ≡ f n rs
  unfolding child
  child-here n r rs e = rw (le-ltb (kind r) h (omega arith), eq-eqb (kind r) h e, add-zero)

  pub child-low : (i n : ℕ) (r : Words) (rs : List Words) → kind r < h → at_child h i f n (r ∷ rs) ≡ None
  unfolding child
  child-low zero n r rs l = rw (lt-ltb (kind r) h l)
  child-low (suc i) n r rs l = rw (lt-ltb (kind r) h l)

  pub child-nil : (i n : ℕ) → at_child h i f n [] ≡ None
  unfolding child
  child-nil i n = refl

  pub child-over : (i n : ℕ) (b rest : List Words) → All (λ r. h < kind r) b → at_child h i f n (b ++ rest) ≡ at_child h i f (n + length b) rest
  child-over i n [] rest a = rw add-zero
  child-over i n (r ∷ b) rest a = child-pass i n r (b ++ rest) a.0 ∙ rw (child-over i (suc n) b rest a.1, add-suc, suc-add)

map-within : (c : Option ℕ) (n : ℕ) → ((o : ℕ) → c ≡ Some o → o < n) → (o : ℕ) → option_map suc c ≡ Some o → o < suc n
map-within None n f o e = let z : ◌≡◌ {A = ℕ} 0 1 = cc in absurd (omega arith)
map-within (Some x) n f o e = let q : suc x ≡ o = cc in omega (arith, f x refl)

child-within : (h i : ℕ) (rs : List Words) (o : ℕ) → child h i rs ≡ Some o → o < length rs
unfolding child
child-within h i [] o e = let z : ◌≡◌ {A = ℕ} 0 1 = cc in absurd (omega arith)
child-within h zero (r ∷ rs) o e = go (ltb (kind r) h) (eqb (kind r) h) (child-within h zero rs) e
  where
    go : (a b : Bool) → ((x : ℕ) → child h zero rs ≡ Some x → x < length rs) → cond a None (cond b (Some 0) (option_map suc (child h zero rs))) ≡ Some o → o < suc (length rs)
    go true b f q = let z : ◌≡◌ {A = ℕ} 0 1 = cc in absurd (omega arith)
    go false true f q = let y : 0 ≡ o = cc in omega arith
    go false false f q = map-within (child h zero rs) (length rs) f o q
child-within h (suc i) (r ∷ rs) o e = go (ltb (kind r) h) (eqb (kind r) h) (child-within h i rs) (child-within h (suc i) rs) e
  where
    go : (a b : Bool) → ((x : ℕ) → child h i rs ≡ Some x → x < length rs) → ((x : ℕ) → child h (suc i) rs ≡ Some x → x < length rs) → cond a None (option_map suc (cond b (child h i rs) (child h (suc i) rs))) ≡ Some o → o < suc (length rs)
    go true b f g q = let z : ◌≡◌ {A = ℕ} 0 1 = cc in absurd (omega arith)
    go false true f g q = map-within (child h i rs) (length rs) f o q
    go false false f g q = map-within (child h (suc i) rs) (length rs) g o q

pub child-below : (w : List ℕ) (h i from end o : ℕ) → Within from end w → child h i (records_in from end w) ≡ Some o → from + o < end
child-below w h i from end o b e = omega (arith, b.order, child-within h i (records_in from end w) o e, length-drop from (chunks end w), chunks-length end w)

-- ---- the records of branches

-- the records below a branch's own
abbrev pub under : (k : ℕ) → Branch k → List Words
under zero a = []
under (suc k) t = concat_map (flat k) t.1

pub flat-root : (k : ℕ) (t : Branch k) → flat k t ≡ words k (root k t) ∷ under k t
unfolding flat
flat-root zero t = refl
flat-root (suc k) t = refl

pub under-kinds : (h k : ℕ) → h + k ≡ 5 → (t : Branch k) → All (λ r. h < kind r) (under k t)
under-kinds h zero l t = tt
under-kinds h (suc k) l t = flats-kinds h k (omega arith) t.1

root-kind : (g k : ℕ) → g + k ≡ 4 → (t : Branch k) → kind (words k (root k t)) ≡ suc g
root-kind g k l t = omega (arith, words-kind k (omega arith) (root k t))

-- ---- from the records to the machine

-- where f and f' agree on a branch of level k, so do the i-th record of its kind and the i-th branch
module _ {A : Type 0} (g k : ℕ) (level : g + k ≡ 4) (f : ℕ → List Words → Option A) (f' : ℕ × Branch k → Option A)
    (agree : (n : ℕ) (t : Branch k) (rest : List Words) → Ends (suc g) rest → f n (under k t ++ rest) ≡ f' (n, t)) where
  at-end : (i n : ℕ) (rest : List Words) → Ends g rest → at_child (suc g) i f n rest ≡ None
  at-end i n [] e = child-nil (suc g) f i n
  at-end i n (r ∷ rest) e = child-low (suc g) f i n r rest (omega arith)

  pub child-branch : (i n : ℕ) (ts : List (Branch k)) (rest : List Words) → Ends g rest
      → at_child (suc g) i f n (concat_map (flat k) ts ++ rest) ≡ and_then (nth i (numbered k n ts)) f'
  unfolding numbered
  child-branch i n [] rest e = at-end i n rest e
  child-branch zero n (t ∷ ts) rest e =
      let more = concat_map (flat k) ts ++ rest in
      rw (append_assoc (flat k t), flat-root k t) (child-here (suc g) f n _ _ (root-kind g k level t) ∙ agree n t more (ends-flats (suc g) k (omega arith) (omega arith) ts rest (ends_more g (suc g) (omega arith) rest e)))
  child-branch (suc i) n (t ∷ ts) rest e =
      let more = concat_map (flat k) ts ++ rest in
      let s : length (flat k t) ≡ suc (length (under k t)) = ap length (flat-root k t) in
      let p : suc n + length (under k t) ≡ n + length (flat k t) = omega arith in
      let first : at_child (suc g) (suc i) f n ((flat k t ++ concat_map (flat k) ts) ++ rest) ≡ at_child (suc g) i f (suc n + length (under k t)) more =
      rw (append_assoc (flat k t), flat-root k t) (child-next (suc g) f i n _ _ (root-kind g k level t) ∙ child-over (suc g) f i (suc n) (under k t) more (under-kinds (suc g) k (omega arith) t)) in
      first ∙ rw p (child-branch i (n + length (flat k t)) ts rest e)

descendants-under : (g k : ℕ) → g + k ≡ 4 → (m : ℕ) (t : Branch k) (after : List Words) → Ends (suc g) after → suc m + descendants (suc g) (under k t ++ after) ≡ m + size k t
descendants-under g k l m t after e =
    let q = ap length (flat-root k t) in
    rw (descendants-over (suc g) (under k t) after (under-kinds (suc g) k (omega arith) t) e) (omega arith)

-- the i-th branch's span
pub child-span : (g k : ℕ) → g + k ≡ 4 → (i n : ℕ) (ts : List (Branch k)) (rest : List Words) → Ends g rest → child_span (suc g) i n (concat_map (flat k) ts ++ rest) ≡ span_at 0 k (i ∷ []) n ts
unfolding span_at
child-span g k l i n ts rest e =
    child-branch g k l (to_end (suc g)) (λ t. Some (t.0, t.0 + size k t.1)) (λ m t after a. ap (λ (x : ℕ). Some (m, x)) (descendants-under g k l m t after a)) i n ts rest e

-- the span that a position has among the records, below one of kind g: with no index left it is that of the record before them
unfoldable pub span_in : ℕ → List ℕ → ℕ → List Words → Option (ℕ × ℕ)
span_in g [] n rs = Some (n - 1, n + descendants g rs)
span_in g (i ∷ is) n rs = at_child (suc g) i (λ m after. span_in (suc g) is (suc m) after) n rs

pub span-among : (d j g : ℕ) (pos : List ℕ) (n : ℕ) (ts : List (Branch (up d j))) (rest : List Words) → g + up d j ≡ 4 → length pos ≡ suc d → Ends g rest
    → span_in g pos n (concat_map (flat (up d j)) ts ++ rest) ≡ span_at d j pos n ts
unfolding span_in span_at
span-among d j g [] n ts rest level len e = absurd (omega arith)
span-among zero j g (i ∷ (x ∷ is)) n ts rest level len e = absurd (omega arith)
span-among zero j g (i ∷ []) n ts rest level len e = child-branch g j level (λ m after. span_in (suc g) [] (suc m) after) (λ t. Some (t.0, t.0 + size j t.1)) agree i n ts rest e
  where
    agree : (m : ℕ) (t : Branch j) (after : List Words) → Ends (suc g) after → span_in (suc g) [] (suc m) (under j t ++ after) ≡ Some (m, m + size j t)
    agree m t after e = let p : suc m - 1 ≡ m = omega arith in rw (p, descendants-under g j level m t after e)
span-among (suc d) j g (i ∷ is) n ts rest level len e =
    child-branch g (suc (up d j)) level (λ m after. span_in (suc g) is (suc m) after) (λ t. span_at d j is (suc t.0) t.1.1)
    (λ m t after a. span-among d j (suc g) is (suc m) t.1 after (omega arith) (omega arith) a)
    i n ts rest e

-- at every level at once
pub span-machine : (pos : List ℕ) (m : Machine) → 1 ≤ length pos → length pos ≤ 5 → span_in 0 pos 0 (records m) ≡ span pos m
span-machine [] m lo hi = absurd (omega arith)
span-machine (i ∷ []) m lo hi = rw append-nil at (span-among 0 4 0 (i ∷ []) 0 m [] refl refl tt)
span-machine (i ∷ (c ∷ [])) m lo hi = rw append-nil at (span-among 1 3 0 (i ∷ (c ∷ [])) 0 m [] refl refl tt)
span-machine (i ∷ (c ∷ (r ∷ []))) m lo hi = rw append-nil at (span-among 2 2 0 (i ∷ (c ∷ (r ∷ []))) 0 m [] refl refl tt)
span-machine (i ∷ (c ∷ (r ∷ (f ∷ [])))) m lo hi = rw append-nil at (span-among 3 1 0 (i ∷ (c ∷ (r ∷ (f ∷ [])))) 0 m [] refl refl tt)
span-machine (i ∷ (c ∷ (r ∷ (f ∷ (a ∷ []))))) m lo hi = rw append-nil at (span-among 4 0 0 (i ∷ (c ∷ (r ∷ (f ∷ (a ∷ []))))) 0 m [] refl refl tt)
span-machine (i ∷ (c ∷ (r ∷ (f ∷ (a ∷ (x ∷ is)))))) m lo hi = absurd (omega arith)

-- the records below a position, over branches of level k that stand below g records
unfoldable pub part_at : (k g : ℕ) → List ℕ → ℕ → List ℕ → List (Branch k) → Option Part
part_at k g path n [] ts = Some (record { from = n; end = n + length (concat_map (flat k) ts); depth = g; path = five_numbers path })
part_at zero g path n (i ∷ is) ts = None
part_at (suc k) g path n (i ∷ is) ts = and_then (nth i (numbered (suc k) n ts)) (λ t. part_at k (suc g) (set path g t.0) (suc t.0) is t.1.1)

pub part-among : (k g : ℕ) → g + k ≡ 4 → (path : List ℕ) (n : ℕ) (is : List ℕ) → length is ≤ k → (ts : List (Branch k)) (rest : List Words) → Ends g rest
    → part_in g path is n (concat_map (flat k) ts ++ rest) ≡ part_at k g path n is ts
unfolding part_in part_at
part-among k g level path n [] few ts rest e = rw (descendants-over g (concat_map (flat k) ts) rest (flats-kinds g k (omega arith) ts) e)
part-among zero g level path n (i ∷ is) few ts rest e = absurd (omega arith)
part-among (suc k) g level path n (i ∷ is) few ts rest e =
    child-branch g (suc k) level (λ m after. part_in (suc g) (set path g m) is (suc m) after) (λ t. part_at k (suc g) (set path g t.0) (suc t.0) is t.1.1)
    (λ m t after a. part-among k (suc g) (omega arith) (set path g m) (suc m) is (omega arith) t.1 after a)
    i n ts rest e
