-- The atoms of branches are what one pass over their records finds, the last record of each kind being the place.
-- Assumes nothing.
use Rattle.std.specs.Prelude.{ℕ, zero, suc, ◌+◌, ◌-◌, ◌≤◌, ◌<◌, ◌≡◌, refl, List, [], ◌∷◌, ◌++◌, length, take, eqb}
use Rattle.std.proofs.Common.{ap, ◌∙◌, append_assoc, append-nil, add_assoc, add-zero, arith, length-append, take_all, ne_eqb}
use Rattle.std.proofs.lemmas.List.{take-append-le}
use Rattle.std.proofs.lemmas.Bool.{lt-leb}
use Rattle.machine.specs.Lists.{keep, concat_map, concat_map_from}
use Rattle.machine.specs.Record.{Fields, Words, words, kind, fields_of}
use Rattle.machine.specs.Store.{Branch, flat}
use Rattle.machine.specs.Query.{Place, window}
use Rattle.machine.specs.Find.{Site, enter, below, size, atoms_in}
use Rattle.laws.specs.Grouped.{words-kind}

-- what stands above a record of kind h
abbrev pub above : ℕ → Site → Site
above h s = record { numbers = take (h - 1) s.numbers; place = window 1 (h - 1) s.place }

-- the site of record n, given the site of the record before it
abbrev pub site_of : ℕ → Site → Words → Site
site_of n s r = below (5 - kind r) n (fields_of (5 - kind r) r) (above (kind r) s)

-- the sites of the atoms, from record n on
unfoldable pub scan : ℕ → Site → List Words → List Site
scan n s [] = []
scan n s (r ∷ rs) = keep (eqb (kind r) 5) (site_of n s r) (scan (suc n) (site_of n s r) rs)

-- records that may follow what stands below a kind
abbrev pub Ends : ℕ → List Words → Type 0
Ends h [] = Unit {0}
Ends h (r ∷ rs) = kind r ≤ h

-- a site whose levels from k down aren't known
pub record Over (k : ℕ) (s : Site) : Type 0 where
  pub depth : length s.numbers + k ≡ 4
  pub place : window 1 (4 - k) s.place ≡ s.place

-- a level that is entered doesn't show above it
pub window-enter : (k h : ℕ) → k ≤ 4 → h + k < 5 → (f : Fields k) (e : Place) → window 1 h (enter k f e) ≡ window 1 h e
unfolding window enter
window-enter zero h l b f e = rw (lt-leb 5 h (omega arith))
window-enter (suc zero) h l b f e = rw (lt-leb 4 h (omega arith))
window-enter (suc (suc zero)) h l b f e = rw (lt-leb 3 h (omega arith))
window-enter (suc (suc (suc zero))) h l b f e = rw (lt-leb 2 h (omega arith))
window-enter (suc (suc (suc (suc zero)))) h l b f e = rw (lt-leb 1 h (omega arith))
window-enter (suc (suc (suc (suc (suc k))))) h l b f e = absurd (omega arith)

above-below : (k h : ℕ) → k ≤ 4 → h + k ≤ 5 → (n : ℕ) (f : Fields k) (s : Site) → length s.numbers + k ≡ 4 → above h (below k n f s) ≡ above h s
above-below k h l b n f s d =
    let p = take-append-le (h - 1) s.numbers (n ∷ []) (omega arith) in
    let q = window-enter k (h - 1) l (omega arith) f s.place in
    λ i. record { numbers = p i; place = q i }

-- a pass goes by what stands above its first record
scan-above : (h n : ℕ) (s s' : Site) (rs : List Words) → Ends h rs → ((g : ℕ) → g ≤ h → above g s ≡ above g s') → scan n s rs ≡ scan n s' rs
unfolding scan
scan-above h n s s' [] e f = refl
scan-above h n s s' (r ∷ rs) e f =
    ap (λ (z : Site). let y = below (5 - kind r) n (fields_of (5 - kind r) r) z in keep (eqb (kind r) 5) y (scan (suc n) y rs)) (f (kind r) e)

pub above-self : (k : ℕ) (s : Site) → Over k s → above (5 - k) s ≡ s
above-self k s o =
    let d = o.depth in
    let e : 5 - k - 1 ≡ 4 - k = omega arith in
    let p : take (5 - k - 1) s.numbers ≡ s.numbers = take_all (5 - k - 1) s.numbers (omega arith) in
    let q : window 1 (5 - k - 1) s.place ≡ s.place = rw e o.place in
    λ i. record { numbers = p i; place = q i }

-- entering a level leaves only those below it unknown
pub enter-over : (k : ℕ) → k ≤ 3 → (f : Fields (suc k)) (e : Place) → window 1 (4 - suc k) e ≡ e → window 1 (4 - k) (enter (suc k) f e) ≡ enter (suc k) f e
unfolding window enter
enter-over zero l f e p = ap (enter 1 f) p
enter-over (suc zero) l f e p = ap (enter 2 f) p
enter-over (suc (suc zero)) l f e p = ap (enter 3 f) p
enter-over (suc (suc (suc zero))) l f e p = ap (enter 4 f) p
enter-over (suc (suc (suc (suc k)))) l f e p = absurd (omega arith)

pub over_below : (k n : ℕ) (f : Fields (suc k)) (s : Site) → Over (suc k) s → Over k (below (suc k) n f s)
over_below k n f s o =
    let d = o.depth in
    record {
      depth = omega (arith, length-append s.numbers (n ∷ []));
      place = enter-over k (omega arith) f s.place o.place;
    }

site-words : (k n : ℕ) (f : Fields k) (s : Site) → Over k s → site_of n s (words k f) ≡ below k n f s
unfolding words fields_of
site-words zero n f s o = ap (below zero n f) (above-self zero s o)
site-words (suc zero) n f s o = ap (below 1 n f) (above-self 1 s o)
site-words (suc (suc zero)) n f s o = ap (below 2 n f) (above-self 2 s o)
site-words (suc (suc (suc zero))) n f s o = ap (below 3 n f) (above-self 3 s o)
site-words (suc (suc (suc (suc zero)))) n f s o = ap (below 4 n f) (above-self 4 s o)
site-words (suc (suc (suc (suc (suc k))))) n f s o = let d = o.depth in absurd (omega arith)

scan-words : (k n : ℕ) (f : Fields k) (s : Site) (rs : List Words) → Over k s → scan n s (words k f ∷ rs) ≡ keep (eqb (5 - k) 5) (below k n f s) (scan (suc n) (below k n f s) rs)
unfolding scan
scan-words k n f s rs o =
    let d = o.depth in
    ap (λ (z : Site). keep (eqb (kind (words k f)) 5) z (scan (suc n) z rs)) (site-words k n f s o)
    ∙ ap (λ (h : ℕ). keep (eqb h 5) (below k n f s) (scan (suc n) (below k n f s) rs)) (words-kind k (omega arith) f)

pub ends_more : (g h : ℕ) → g ≤ h → (rs : List Words) → Ends g rs → Ends h rs
ends_more g h l [] e = tt
ends_more g h l (r ∷ rs) e = omega arith

-- branches, and what may follow them, start with a kind of at most their own
pub ends-flats : (h k : ℕ) → h + k ≡ 5 → k ≤ 4 → (ts : List (Branch k)) (rest : List Words) → Ends h rest → Ends h (concat_map (flat k) ts ++ rest)
unfolding flat
ends-flats h k level l [] rest e = e
ends-flats h zero level l (t ∷ ts) rest e = omega (arith, words-kind zero l t)
ends-flats h (suc k) level l (t ∷ ts) rest e = omega (arith, words-kind (suc k) l t.0)

pub ends-branches : (h k : ℕ) → h + k ≡ 5 → k ≤ 4 → (ts : List (Branch k)) → Ends h (concat_map (flat k) ts)
ends-branches h k level l ts = rw append-nil at (ends-flats h k level l ts [] tt)

-- what a pass over a branch and a rest finds
abbrev pub Passes : (k : ℕ) → Branch k → Type 0
Passes k t = (s : Site) → Over k s → (n : ℕ) (rest : List Words) → Ends (5 - k) rest → scan n s (flat k t ++ rest) ≡ atoms_in k s n t ++ scan (n + size k t) s rest

pub scan-flats : (k : ℕ) → k ≤ 4 → ((t : Branch k) → Passes k t) → (ts : List (Branch k)) (s : Site) → Over k s → (n : ℕ) (rest : List Words) → Ends (5 - k) rest
    → scan n s (concat_map (flat k) ts ++ rest) ≡ concat_map_from (size k) (atoms_in k s) n ts ++ scan (n + length (concat_map (flat k) ts)) s rest
scan-flats k l f [] s o n rest e = rw add-zero
scan-flats k l f (t ∷ ts) s o n rest e =
    rw (append_assoc (flat k t), f t s o n (concat_map (flat k) ts ++ rest) (ends-flats (5 - k) k (omega arith) l ts rest e), scan-flats k l f ts s o (n + size k t) rest e, length-append (flat k t), add_assoc n, append_assoc (atoms_in k s n t))

-- the bridge: a branch's records, then a rest, are the branch's atoms with their places, then what the rest has
pub scan-branch : (k : ℕ) → k ≤ 4 → (t : Branch k) → Passes k t
unfolding flat atoms_in
scan-branch zero l t s o n rest e =
    let d = o.depth in
    let i = scan-above 5 (suc n) (below zero n t s) s rest e (λ g b. above-below zero g l (omega arith) n t s d) in
    let j : n + 1 ≡ suc n = omega arith in
    rw (j, ← i) (scan-words zero n t s rest o)
scan-branch (suc k) l t s o n rest e =
    let d = o.depth in
    let b = below (suc k) n t.0 s in
    let ends : Ends (5 - k) rest = ends_more (5 - suc k) (5 - k) (omega arith) rest e in
    let i = scan-above (5 - suc k) (suc n + length (concat_map (flat k) t.1)) b s rest e (λ g h. above-below (suc k) g l (omega arith) n t.0 s d) in
    let j : n + suc (length (concat_map (flat k) t.1)) ≡ suc n + length (concat_map (flat k) t.1) = omega arith in
    scan-words (suc k) n t.0 s (concat_map (flat k) t.1 ++ rest) o
    ∙ rw (ne_eqb (5 - suc k) 5 (λ z. omega arith), j, ← i) (scan-flats k (omega arith) (λ u. scan-branch k (omega arith) u) t.1 b (over_below k n t.0 s o) (suc n) rest ends)
