-- What stands under a start: the part of a store that `follow` answers has the start's atoms, and the pruned pass over it finds the hits among them.
-- Assumes nothing.
use Rattle.std.specs.Prelude.{None, Option, Some}
use Prim.Native.Nat.{ℕ, zero, suc, ◌+◌, ◌-◌, ◌≤◌, ◌<◌}
use mathlib.Core.Path.{◌≡◌, refl, sym, ap, ◌∙◌}
use mathlib.Core.Bool.{Bool, true, false, cond}
use mathlib.Core.List.{List, [], ◌∷◌, ◌++◌, map, append_assoc, append-nil}
use native.Mathlib.Omega.{arith}
use lib.ListN.{length, drop, set, replicate, drop_of_length-le, length-append, length-set}
use lib.Seq.{take_at, drop_at}
use lib.Dec.{leb}
use borrow.Author.Tests.{leb-true, leb-false}
use Rattle.machine.specs.Lists.{filter, nth, concat_map, concat_map_from, and_then}
use Rattle.machine.specs.Record.{Fields, Words, words, kind, fields_of}
use Rattle.machine.specs.Store.{Branch, flat, records, atom_count, stored, in_order}
use Rattle.machine.specs.Kleene.{is_hit}
use Rattle.machine.specs.Query.{Names, tree_value, term_value, window}
use Rattle.machine.specs.Find.{Site, below, top, size, numbered, atoms_in, atoms_of, atoms_under, atoms_from, hits_among}
use Rattle.machine.specs.declared.Tri.{Tri}
use Rattle.machine.specs.declared.Tri.TheVariants.{False, True, Undecided}
use Rattle.laws.specs.Lists.{All, concat_map-append, sum-concat_map}
use Rattle.laws.specs.Grouped.{words-kind, fields-words}
use Rattle.laws.specs.Layout.{read-parts, records-read}
use Rattle.laws.specs.Ordered.{head-parts, parts-head}
use Rattle.laws.specs.Windows.{pruned}
use Rattle.laws.specs.Scan.{above, scan, Over, above-self, over_below, scan-flats, scan-branch}
use Rattle.laws.specs.Numbers.{numbered-at, branches-five, branches-count, atoms-stored, whole-start, under-start, too-deep}
use Rattle.seek.specs.Seek.{Good, held, record_at, records_in, five_numbers, is_atom, atom_records, part_of}
use Rattle.seek.specs.declared.Part.{Part}
use Rattle.seek.proofs.Below.{records_in-cons, chunks-take, part_at, part-among}
use Rattle.seek.proofs.Laws.{atoms-branch, whole-within, whole-records}
use Rattle.seek.proofs.Turns.{part-led}
use Rattle.descent.specs.Descent.{site_at, UpTo}
use Rattle.descent.proofs.Sites.{window-from, entered_at, site-below, up-entered, up_more, five-is, entered-five}
use Rattle.walk.specs.PrunedPass.{depth, pruned_pass}
use Rattle.walk.specs.Walk.{may_hit, found_in, found_below, Levelled, Holds, part_under}
use Rattle.walk.proofs.Pruned.{Grows, pruned_pass-filter}

-- ---- trees

no_hit : (v : Tri) → is_hit v ≡ false → v ≡ False
no_hit False e = refl
no_hit True e = cc
no_hit Undecided e = cc

-- a tree that is false at a site is false below it
hits-grow : (low : ℕ) (names : Names) (t : List ℕ) → Grows (may_hit low names t)
unfolding may_hit
hits-grow low names t j l s h =
    let e = window-from low (j - 1) s.place in
    let f : tree_value (term_value names (window low (j - 1) s.place)) t ≡ False = no_hit _ (rw e at h) in
    ap is_hit (pruned low (j - 1) 5 (omega arith) names s.place t f)

-- ---- parts of records in order

order-levels : (q : ℕ) (rs : List Words) → in_order q rs ≡ true → All Levelled rs
order-levels q [] o = tt
order-levels q (r ∷ rs) o =
    let p = head-parts q r rs o in (record { low = p.least; high = p.most }, order-levels (kind r) rs p.rest)

order-after : (q : ℕ) (before : List Words) (r : Words) (rest : List Words) → in_order q (before ++ (r ∷ rest)) ≡ true → in_order (kind r) rest ≡ true
order-after q [] r rest h = (head-parts q r rest h).rest
order-after q (x ∷ before) r rest h = order-after (kind x) before r rest (head-parts q x (before ++ (r ∷ rest)) h).rest

order-front : (q : ℕ) (front rest : List Words) → in_order q (front ++ rest) ≡ true → in_order q front ≡ true
unfolding in_order
order-front q [] rest h = refl
order-front q (x ∷ front) rest h =
    let p = head-parts q x (front ++ rest) h in
    parts-head q x front (record { least = p.least; most = p.most; step = p.step; good = p.good; rest = order-front (kind x) front rest p.rest })

-- ---- a site and its part, along a position

module _ (w : List ℕ) (good : Good w) where
  abbrev rs : List Words
  rs = records (held w)

  whole-order : in_order 0 rs ≡ true
  whole-order = rw (records-read w (held w) good) (read-parts w (held w) good).order

  -- the record at a number
  record_is : (before rest : List Words) (r : Words) → rs ≡ before ++ (r ∷ rest) → record_at (length before) w ≡ r
  record_is before rest r e =
      let n = length before in
      let l : n < length rs = omega (arith, ap length e, length-append before (r ∷ rest)) in
      let c : drop n rs ≡ record_at n w ∷ records_in (n + 1) (length rs) w = ap (drop n) (sym (whole-records w good)) ∙ records_in-cons w (length rs) n l in
      let d : drop n rs ≡ r ∷ rest = ap (drop n) e ∙ drop_at before (r ∷ rest) n refl in
      cc

  -- branches of level k below the g records of a path, whose site is s; their records stand from number n on
  record Placed (k g : ℕ) (path : List ℕ) (s : Site) (n : ℕ) (ts : List (Branch k)) : Type 0 where
    level : g + k ≡ 4
    over : Over k s
    five : length path ≡ 5
    site : site_at w g (five_numbers path) ≡ s
    numbers : UpTo n (five_numbers path)
    before : List Words
    after : List Words
    was : rs ≡ before ++ (concat_map (flat k) ts ++ after)
    number : length before ≡ n
    order : in_order g (concat_map (flat k) ts ++ after) ≡ true

  top_placed : Placed 4 0 (replicate {A = ℕ} 5 0) top 0 (held w)
  unfolding site_at window
  top_placed =
      record {
        level = refl;
        over = record { depth = refl; place = refl };
        five = refl;
        site = refl;
        numbers = record { model = omega arith; chain = omega arith; residue = omega arith; conformer = omega arith; atom = omega arith };
        before = [];
        after = [];
        was = sym (append-nil rs);
        number = refl;
        order = rw append-nil whole-order;
      }

  -- one index down
  module _ (k g : ℕ) (path : List ℕ) (s : Site) (n : ℕ) (ts : List (Branch (suc k))) (a : Placed (suc k) g path s n ts) (i : ℕ) (u : ℕ × Branch (suc k)) (e : nth i (numbered (suc k) n ts) ≡ Some u) where
    abbrev own : Words
    own = words (suc k) u.1.0

    lead : List Words
    lead = a.before ++ concat_map (flat (suc k)) (numbered-at (suc k) i n ts u e).0.before

    behind : List Words
    behind = concat_map (flat (suc k)) (numbered-at (suc k) i n ts u e).0.after ++ a.after

    splits : rs ≡ lead ++ (own ∷ (concat_map (flat k) u.1.1 ++ behind))
    unfolding flat lead behind
    splits =
        let x = (numbered-at (suc k) i n ts u e).0 in
        a.was
        ∙ ap (λ (z : List (Branch (suc k))). a.before ++ (concat_map (flat (suc k)) z ++ a.after)) x.was
        ∙ rw (concat_map-append (flat (suc k)) x.before (u.1 ∷ x.after)) (simp append_assoc)

    lead_is : length lead ≡ u.0
    unfolding lead
    lead_is =
        let x = numbered-at (suc k) i n ts u e in
        omega (arith, length-append a.before (concat_map (flat (suc k)) x.0.before), a.number, x.1)

    fields : fields_of (suc k) (record_at u.0 w) ≡ u.1.0
    fields =
        let l = a.level in
        ap (λ (z : ℕ). fields_of (suc k) (record_at z w)) (sym lead_is)
        ∙ ap (fields_of (suc k)) (record_is lead (concat_map (flat k) u.1.1 ++ behind) own splits)
        ∙ fields-words (suc k) (omega arith) u.1.0

    entered : five_numbers (set path g u.0) ≡ entered_at (suc g) u.0 (five_numbers path)
    entered =
        let l = a.level in
        let q : suc g - 1 ≡ g = omega arith in
        ap (λ (x : List ℕ). five_numbers (set x g u.0)) (five-is path a.five) ∙ rw q at (entered-five (suc g) u.0 (five_numbers path) (omega arith) (omega arith))

    site-down : site_at w (suc g) (five_numbers (set path g u.0)) ≡ below (suc k) u.0 u.1.0 s
    site-down =
        let l = a.level in
        let q : 5 - suc g ≡ suc k = omega arith in
        let p : suc g - 1 ≡ g = omega arith in
        ap (site_at w (suc g)) entered
        ∙ sym (rw (q, p) at (site-below w (suc g) u.0 (five_numbers path) (omega arith) (omega arith)))
        ∙ ap (λ (f : Fields (suc k)). below (suc k) u.0 f (site_at w g (five_numbers path))) fields
        ∙ ap (below (suc k) u.0 u.1.0) a.site

    down : Placed k (suc g) (set path g u.0) (below (suc k) u.0 u.1.0 s) (suc u.0) u.1.1
    down =
        let l = a.level in
        let x = (numbered-at (suc k) i n ts u e).1 in
        let kinds : kind own ≡ suc g = words-kind (suc k) (omega arith) u.1.0 ∙ omega arith in
        record {
          level = omega arith;
          over = over_below k u.0 u.1.0 s a.over;
          five = length-set path g u.0 ∙ a.five;
          site = site-down;
          numbers = rw entered (up_more u.0 (suc u.0) _ (omega arith) (up-entered (suc g) u.0 (five_numbers path) (up_more n u.0 (five_numbers path) (omega arith) a.numbers)));
          before = lead ++ (own ∷ []);
          after = behind;
          was = splits ∙ sym (append_assoc lead (own ∷ []) _);
          number = omega (arith, length-append lead (own ∷ []), lead_is);
          order = rw kinds at (order-after 0 lead own _ (rw splits at whole-order));
        }

  -- ---- the part of branches that are placed

  module _ (k g : ℕ) (path : List ℕ) (s : Site) (n : ℕ) (ts : List (Branch k)) (a : Placed k g path s n ts) where
    abbrev part : Part
    part = record { from = n; end = n + length (concat_map (flat k) ts); depth = g; path = five_numbers path }

    abbrev atoms : List Site
    atoms = concat_map_from (size k) (atoms_in k s) n ts

    stop-low : n + length (concat_map (flat k) ts) ≤ length rs
    stop-low =
        omega (arith, ap length a.was, a.number, length-append a.before (concat_map (flat k) ts ++ a.after), length-append (concat_map (flat k) ts) a.after)

    part-records : records_in n (n + length (concat_map (flat k) ts)) w ≡ concat_map (flat k) ts
    part-records =
        let own = concat_map (flat k) ts in
        let l : length (a.before ++ own) ≡ n + length own = omega (arith, length-append a.before own, a.number) in
        rw (chunks-take (n + length own) (length rs) w stop-low, whole-records w good, a.was, ← append_assoc a.before, take_at (a.before ++ own) a.after (n + length own) l)
        (drop_at a.before own n a.number)

    in_order_lem : in_order g (concat_map (flat k) ts) ≡ true
    in_order_lem = order-front g (concat_map (flat k) ts) a.after a.order

    deep : depth s ≡ g
    deep = let l = a.level in let d = a.over.depth in omega arith

    pass : (h : Site → Bool) → Grows h → pruned_pass h n s (concat_map (flat k) ts) ≡ filter h atoms
    unfolding scan
    pass h grows =
        let l = a.level in
        let q : 5 - k ≡ suc (depth s) = omega (arith, deep) in
        let self : s ≡ above (suc (depth s)) s = rw q at (sym (above-self k s a.over)) in
        pruned_pass-filter h grows (concat_map (flat k) ts) n s s (record { upper = self; within = omega arith; dead = λ z. absurd (omega arith) }) (rw deep in_order_lem)
        ∙ ap (filter h) (rw (append-nil, append-nil) at (scan-flats k (omega arith) (scan-branch k (omega arith)) ts s a.over n [] tt))

    placed-found : (t : List ℕ) (names : Names) → found_below w part t names.residues names.atoms ≡ hits_among names (g + 1) t atoms
    unfolding found_in may_hit
    placed-found t names = rw (part-records, a.site) (ap (map (λ (x : Site). x.numbers)) (pass (may_hit (g + 1) names t) (hits-grow (g + 1) names t)))

    placed-holds : Holds w part atoms
    unfolding atom_records
    placed-holds =
        let l = a.level in
        let r = (whole-within w good).room in
        let o = stop-low in
        let d : length s.numbers + k ≡ 4 = a.over.depth in
        record {
          part = record {
            within = record { order = omega arith; room = omega arith };
            kinds = rw part-records (order-levels g (concat_map (flat k) ts) in_order_lem);
            depth = omega arith;
            numbers = a.numbers;
          };
          five = branches-five k s d n ts;
          counted = branches-count k s d n ts ∙ rw part-records (sym (sum-concat_map is_atom (flat k) (atom_count k) (atoms-branch k (omega arith)) ts));
          found = placed-found;
        }

  -- there is a part exactly where there is a start, and it holds the start's atoms
  abbrev Agree : Option Part → Option (List Site) → Type 0
  Agree None None = Unit {0}
  Agree None (Some atoms) = ⊥
  Agree (Some p) None = ⊥
  Agree (Some p) (Some atoms) = Holds w p atoms

  then-agree : {A : Type 0} (f : A → Option Part) (g : A → Option (List Site)) (o : Option A) → ((x : A) → o ≡ Some x → Agree (f x) (g x)) → Agree (and_then o f) (and_then o g)
  then-agree f g None h = tt
  then-agree f g (Some x) h = h x refl

  agree : (k g : ℕ) (path : List ℕ) (s : Site) (n : ℕ) (is : List ℕ) (ts : List (Branch k)) → Placed k g path s n ts → Agree (part_at k g path n is ts) (atoms_under k s n is ts)
  unfolding part_at atoms_under
  agree k g path s n [] ts a = placed-holds k g path s n ts a
  agree zero g path s n (i ∷ is) ts a = tt
  agree (suc k) g path s n (i ∷ is) ts a =
      then-agree _ _ (nth i (numbered (suc k) n ts)) (λ u e. agree k (suc g) (set path g u.0) (below (suc k) u.0 u.1.0 s) (suc u.0) is u.1.1 (down k g path s n ts a i u e))

  agree-start : (start : List ℕ) (b : Bool) → leb (length start) 4 ≡ b → Agree (cond b (part_of start (held w)) None) (atoms_from start (held w))
  agree-start start true e =
      let l = leb-true (length start) 4 e in
      rw (rw append-nil at (part-among 4 0 refl (replicate {A = ℕ} 5 0) 0 start l (held w) [] tt)) (agree 4 0 (replicate {A = ℕ} 5 0) top 0 start (held w) top_placed)
  agree-start start false e = rw (too-deep 4 top 0 start (held w) (omega (arith, leb-false (length start) 4 e))) tt

  -- ---- what a start's part tells

  agree-none : (o : Option (List Site)) → Agree None o → o ≡ None
  agree-none None a = refl
  agree-none (Some atoms) a = absurd a

  agree-some : (p : Part) (o : Option (List Site)) → Agree (Some p) o → (atoms : List Site) × (o ≡ Some atoms) × Holds w p atoms
  agree-some p None a = absurd a
  agree-some p (Some atoms) a = (atoms, refl, a)

  module _ (start : List ℕ) where
    agrees : (o : Option Part) → part_under start (held w) ≡ o → Agree o (atoms_from start (held w))
    agrees o e = rw e at (agree-start start (leb (length start) 4) refl)

    pub no_start : part_under start (held w) ≡ None → atoms_from start (held w) ≡ None
    no_start e = agree-none (atoms_from start (held w)) (agrees None e)

    -- the start's atoms, no more than the store has, and with no index all of them
    pub record Started (p : Part) : Type 0 where
      pub atoms : List Site
      pub there : atoms_from start (held w) ≡ Some atoms
      pub holds : Holds w p atoms
      pub depth : p.depth ≡ length start
      pub few : length atoms ≤ stored (held w)
      pub whole : length start ≡ 0 → length atoms ≡ stored (held w)

    all-atoms : (atoms : List Site) → atoms_from start (held w) ≡ Some atoms → length start ≡ 0 → length atoms ≡ stored (held w)
    all-atoms atoms e l =
        let z : length start ≤ 0 = omega arith in
        let n : start ≡ [] = drop_of_length-le start z in
        let f : Some (atoms_of (held w)) ≡ Some atoms = sym (whole-start (held w)) ∙ ap (λ (i : List ℕ). atoms_from i (held w)) (sym n) ∙ e in
        let q : atoms_of (held w) ≡ atoms = cc in
        ap length (sym q) ∙ atoms-stored (held w)

    part-start : (p : Part) (b : Bool) → cond b (part_of start (held w)) None ≡ Some p → part_of start (held w) ≡ Some p
    part-start p true e = e
    part-start p false e = let z : ◌≡◌ {A = ℕ} 0 1 = cc in absurd (omega arith)

    pub started : (p : Part) → part_under start (held w) ≡ Some p → Started p
    started p e =
        let a = agree-some p (atoms_from start (held w)) (agrees (Some p) e) in
        record {
          atoms = a.0;
          there = a.1;
          holds = a.2;
          depth = omega (arith, (part-led 0 (replicate {A = ℕ} 5 0) start 0 rs p (part-start p (leb (length start) 4) e)).depth);
          few = (under-start start (held w) a.0 a.1).few;
          whole = all-atoms a.0 a.1;
        }
