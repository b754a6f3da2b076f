-- Find's hits, from any start, are hits here (`find-named`), and the records of a stored atom's numbers say what its place says (`sites-shown`), at which find's tree is valued.
-- Assumes nothing.
use Rattle.std.specs.Prelude.{Err, None, Ok, Option, Some}
use Prim.Native.Nat.{ℕ, zero, suc, ◌+◌, ◌-◌, ◌*◌, ◌/◌, ◌<◌}
use mathlib.Core.Path.{◌≡◌, refl, sym, ap, ◌∙◌}
use mathlib.Core.Bool.{Bool, true, false}
use mathlib.Core.List.{List, [], ◌∷◌, ◌++◌, append_assoc, append-nil}
use native.Mathlib.Omega.{arith}
use lib.ListN.{length, get_or, take, drop, replicate, length-append, length-drop}
use lib.Seq.{drop-drop, drop-append_seam, get_or-drop}
use lib.Dec.{leb}
use borrow.Author.Tests.{lt-ltb}
use Rattle.machine.specs.Lists.{filter, concat_map, concat_map_from}
use Rattle.machine.specs.Answer.{Result, ◌>>=◌, ◌>>◌, position}
use Rattle.machine.specs.Record.{Fields, Words, words, fields_of}
use Rattle.machine.specs.Store.{Branch, Machine, flat, records, stored, laid, lay_out, read_store}
use Rattle.machine.specs.Kleene.{is_hit}
use Rattle.machine.specs.Query.{tables, read_tree}
use Rattle.machine.specs.declared.Node.{Node}
use Rattle.machine.specs.declared.Refusal.{Refusal}
use Rattle.machine.specs.declared.Refusal.TheVariants.{NoPosition, ShortOutput}
use Rattle.machine.specs.Find.{Site, enter, below, top, size, atoms_in, atoms_of, atoms_from, lowest, value_from, hits_among, hits_from, hit_words, written, find_from}
use Rattle.laws.specs.Lists.{All, All-append, All-map, All-over}
use Rattle.laws.specs.Counting.{filter-All}
use Rattle.laws.specs.Grouped.{concat, twelve-words}
use Rattle.laws.specs.Numbers.{under-start, All-start, under-five, hits-five, five-words}
use Rattle.laws.specs.Layout.{lay_out-read, read_length, read-fit, fit_words}
use Rattle.moves.proofs.Records.{record-at}
use Rattle.hierarchy.specs.Hit.{record_of, is_kind, are_kinds, numbers_at, named_by, nth_of}

-- ---- the records of the stored atoms' sites

-- record n, of rs, is r
pub record Is (rs : List Words) (n : ℕ) (r : Words) : Type 0 where
  pub within : n < length rs
  pub same : get_or rs n [] ≡ r

module _ (rs : List Words) where
  is-head : (n : ℕ) (r : Words) (xs : List Words) → drop n rs ≡ r ∷ xs → Is rs n r
  is-head n r xs e =
      let l : length rs - n ≡ suc (length xs) = sym (length-drop n rs) ∙ ap length e in
      let z : n + 0 ≡ n = omega arith in
      record { within = omega arith; same = rw z at (sym (get_or-drop n rs 0 []) ∙ ap (λ (ys : List Words). get_or ys 0 []) e) }

  is-tail : (n : ℕ) (r : Words) (xs : List Words) → drop n rs ≡ r ∷ xs → drop (suc n) rs ≡ xs
  is-tail n r xs e =
      let z : n + 1 ≡ suc n = omega arith in
      rw z at (sym (drop-drop 1 n rs) ∙ ap (drop 1) e)

  -- what holds of the sites of each branch, at its number, holds of those of a list of branches
  each : (P : Site → Type 0) (k : ℕ) (f : ℕ → Branch k → List Site) → ((n : ℕ) (t : Branch k) (rest : List Words) → drop n rs ≡ flat k t ++ rest → All P (f n t))
      → (n : ℕ) (ts : List (Branch k)) (rest : List Words) → drop n rs ≡ concat_map (flat k) ts ++ rest → All P (concat_map_from (size k) f n ts)
  each P k f h n [] rest e = tt
  each P k f h n (t ∷ ts) rest e =
      let e' : drop n rs ≡ flat k t ++ (concat_map (flat k) ts ++ rest) = e ∙ append_assoc (flat k t) (concat_map (flat k) ts) rest in
      let next : drop (n + size k t) rs ≡ concat_map (flat k) ts ++ rest = sym (drop-drop (size k t) n rs) ∙ ap (drop (size k t)) e' ∙ drop-append_seam (flat k t) (concat_map (flat k) ts ++ rest) in
      All-append P (f n t) (concat_map_from (size k) f (n + size k t) ts) (h n t (concat_map (flat k) ts ++ rest) e') (each P k f h (n + size k t) ts rest next)

  -- the same of a branch, for those of its children
  down : (P : Site → Type 0) (k : ℕ) (s : Site) (n : ℕ) (t : Branch (suc k)) (rest : List Words) → drop n rs ≡ flat (suc k) t ++ rest
      → (Is rs n (words (suc k) t.0) → (i : ℕ) (x : Branch k) (rest : List Words) → drop i rs ≡ flat k x ++ rest → All P (atoms_in k (below (suc k) n t.0 s) i x))
      → All P (atoms_in (suc k) s n t)
  unfolding atoms_in flat
  down P k s n t rest e h =
      each P k (atoms_in k (below (suc k) n t.0 s)) (h (is-head n (words (suc k) t.0) (concat_map (flat k) t.1 ++ rest) e)) (suc n) t.1 rest
      (is-tail n (words (suc k) t.0) (concat_map (flat k) t.1 ++ rest) e)

-- ---- what a site's numbers name

-- what the store's words say at a site's five numbers: they are a hit, and their records' fields are the site's
pub record Shown (w : List ℕ) (s : Site) : Type 0 where
  pub named : named_by w (numbers_at s.numbers 0) ≡ Some (numbers_at s.numbers 0)
  pub model : Some (fields_of 4 (record_of w (numbers_at s.numbers 0).model)) ≡ s.place.model
  pub chain : Some (fields_of 3 (record_of w (numbers_at s.numbers 0).chain)) ≡ s.place.chain
  pub residue : Some (fields_of 2 (record_of w (numbers_at s.numbers 0).residue)) ≡ s.place.residue
  pub conformer : Some (fields_of 1 (record_of w (numbers_at s.numbers 0).conformer)) ≡ s.place.conformer
  pub atom : Some (fields_of 0 (record_of w (numbers_at s.numbers 0).atom)) ≡ s.place.atom

module _ (w : List ℕ) (m : Machine) (h : read_store w ≡ Ok m) where
  record-words : (n : ℕ) (r : Words) → Is (records m) n r → record_of w n ≡ r
  unfolding lay_out laid
  record-words n r i =
      let fits = fit_words (length w) m (read_length w m h) (read-fit w m h) in
      let b = i.within in
      let c : 12 * n ≡ n * 12 = omega arith in
      let whole : take 12 (drop (n * 12) (lay_out (length w) m)) ≡ r = rw c at (record-at (records m) (replicate (length w - 1 - length (concat (records m))) 0 ++ (length (concat (records m)) ∷ [])) n (twelve-words m) b ∙ i.same) in
      rw (lt-ltb n (length w / 12) (omega arith)) (rw (lay_out-read w m h) at whole)

  module _ (a b c d e : ℕ) (f₄ : Fields 4) (f₃ : Fields 3) (f₂ : Fields 2) (f₁ : Fields 1) (f₀ : Fields 0) (i₄ : Is (records m) a (words 4 f₄)) (i₃ : Is (records m) b (words 3 f₃))
      (i₂ : Is (records m) c (words 2 f₂)) (i₁ : Is (records m) d (words 1 f₁)) (i₀ : Is (records m) e (words 0 f₀)) where
    shown-at : Shown w (below 0 e f₀ (below 1 d f₁ (below 2 c f₂ (below 3 b f₃ (below 4 a f₄ top)))))
    unfolding enter named_by are_kinds is_kind words fields_of
    shown-at =
        record {
          named = rw (record-words a _ i₄, record-words b _ i₃, record-words c _ i₂, record-words d _ i₁, record-words e _ i₀);
          model = rw (record-words a _ i₄);
          chain = rw (record-words b _ i₃);
          residue = rw (record-words c _ i₂);
          conformer = rw (record-words d _ i₁);
          atom = rw (record-words e _ i₀);
        }

  -- every stored atom's site
  pub sites-shown : All (Shown w) (atoms_of m)
  unfolding atoms_of atoms_in flat
  sites-shown =
      let rs = records m in
      each rs (Shown w) 4 (atoms_in 4 top)
      (λ a t₄ r₄ e₄. down rs (Shown w) 3 top a t₄ r₄ e₄
      (λ i₄ b t₃ r₃ e₃. down rs (Shown w) 2 (below 4 a t₄.0 top) b t₃ r₃ e₃
      (λ i₃ c t₂ r₂ e₂. down rs (Shown w) 1 (below 3 b t₃.0 (below 4 a t₄.0 top)) c t₂ r₂ e₂
      (λ i₂ d t₁ r₁ e₁. down rs (Shown w) 0 (below 2 c t₂.0 (below 3 b t₃.0 (below 4 a t₄.0 top))) d t₁ r₁ e₁
      (λ i₁ e t₀ r₀ e₀. (shown-at a b c d e t₄.0 t₃.0 t₂.0 t₁.0 t₀ i₄ i₃ i₂ i₁ (is-head rs e (words 0 t₀) r₀ e₀), tt))))))
      0 m [] (sym (append-nil (concat_map (flat 4) m)))

-- ---- find's output

of-five : (P : List ℕ → Type 0) → ((a b c d e : ℕ) → P (a ∷ b ∷ c ∷ d ∷ e ∷ [])) → (h : List ℕ) → length h ≡ 5 → P h
of-five P p [] l = absurd (omega arith)
of-five P p (a ∷ []) l = absurd (omega arith)
of-five P p (a ∷ b ∷ []) l = absurd (omega arith)
of-five P p (a ∷ b ∷ c ∷ []) l = absurd (omega arith)
of-five P p (a ∷ b ∷ c ∷ d ∷ []) l = absurd (omega arith)
of-five P p (a ∷ b ∷ c ∷ d ∷ e ∷ []) l = p a b c d e
of-five P p (a ∷ b ∷ c ∷ d ∷ e ∷ f ∷ hs) l = absurd (omega arith)

first-numbers : (h rest : List ℕ) → length h ≡ 5 → numbers_at (h ++ rest) 0 ≡ numbers_at h 0
first-numbers h rest = of-five (λ x. numbers_at (x ++ rest) 0 ≡ numbers_at x 0) (λ a b c d e. refl) h

next-numbers : (h rest : List ℕ) (i : ℕ) → length h ≡ 5 → numbers_at (h ++ rest) (suc i) ≡ numbers_at rest i
next-numbers h rest i =
    let after : ℕ → ℕ = λ n. suc (suc (suc (suc (suc n)))) in
    let q₁ : suc i * 5 + 1 ≡ after (i * 5 + 1) = omega arith in
    let q₂ : suc i * 5 + 2 ≡ after (i * 5 + 2) = omega arith in
    let q₃ : suc i * 5 + 3 ≡ after (i * 5 + 3) = omega arith in
    let q₄ : suc i * 5 + 4 ≡ after (i * 5 + 4) = omega arith in
    let q₀ : suc i * 5 ≡ after (i * 5) = omega arith in
    of-five (λ x. numbers_at (x ++ rest) (suc i) ≡ numbers_at rest i) (λ a b c d e. rw (q₁, q₂, q₃, q₄, q₀)) h

hit-numbers : (hs : List (List ℕ)) → All (λ h. length h ≡ 5) hs → (i : ℕ) → i < length hs → (rest : List ℕ) → numbers_at (hit_words hs ++ rest) i ≡ numbers_at (get_or hs i []) 0
hit-numbers [] ls i l rest = absurd (omega arith)
hit-numbers (h ∷ hs) ls zero l rest = rw (append_assoc h (hit_words hs) rest) (first-numbers h (hit_words hs ++ rest) ls.0)
hit-numbers (h ∷ hs) ls (suc i) l rest =
    rw (append_assoc h (hit_words hs) rest) (next-numbers h (hit_words hs ++ rest) i ls.0 ∙ hit-numbers hs ls.1 i (omega arith) rest)

All-at : (P : List ℕ → Type 0) (hs : List (List ℕ)) → All P hs → (i : ℕ) → i < length hs → P (get_or hs i [])
All-at P [] a i l = absurd (omega arith)
All-at P (h ∷ hs) a zero l = a.0
All-at P (h ∷ hs) a (suc i) l = All-at P hs a.1 i (omega arith)

hits-named : (w : List ℕ) (low : ℕ) (t : List ℕ) (atoms : List Site) → All (Shown w) atoms → All (λ h. named_by w (numbers_at h 0) ≡ Some (numbers_at h 0)) (hits_among tables low t atoms)
hits-named w low t atoms shown =
    let hit : Site → Bool = λ s. is_hit (value_from tables low t s) in
    All-over (λ h. named_by w (numbers_at h 0) ≡ Some (numbers_at h 0)) (λ (s : Site). s.numbers) (filter hit atoms)
    (filter-All (λ s. named_by w (numbers_at s.numbers 0) ≡ Some (numbers_at s.numbers 0)) hit atoms (All-map (λ s x. x.named) atoms shown))

module _ (w out : List ℕ) (n i : ℕ) (low : i < n) where
  -- a run that gives n hits has an i-th, and this names its records
  abbrev Names : List ℕ × List ℕ → Type 0
  Names run = run.0 ≡ 0 ∷ n ∷ [] → nth_of w run.1 i ≡ Some (numbers_at run.1 i)

  -- a refused one gives none
  by-refusal : (c : Refusal) → Names (written out (Err c))
  by-refusal c e = let z : 0 ≡ n = ap (λ (l : List ℕ). get_or l 1 0) e in absurd (omega arith)

  by-room : (hs : List (List ℕ)) → All (λ h. length h ≡ 5) hs → All (λ h. named_by w (numbers_at h 0) ≡ Some (numbers_at h 0)) hs → (b : Bool) → leb (5 * length hs) (length out) ≡ b → Names (written out (Ok hs))
  unfolding nth_of
  by-room hs fs ns true q e =
      let words = hit_words hs ++ drop (5 * length hs) out in
      let listed : 0 ∷ length hs ∷ [] ≡ 0 ∷ n ∷ [] = rw q at e in
      let count : length hs ≡ n = ap (λ (l : List ℕ). get_or l 1 0) listed in
      let room : i < length words / 5 = omega (arith, length-append (hit_words hs) (drop (5 * length hs) out), five-words hs fs) in
      let same : numbers_at words i ≡ numbers_at (get_or hs i []) 0 = hit-numbers hs fs i (omega arith) (drop (5 * length hs) out) in
      rw (q, lt-ltb i (length words / 5) room, same) (All-at (λ h. named_by w (numbers_at h 0) ≡ Some (numbers_at h 0)) hs ns i (omega arith))
  by-room hs fs ns false q e = rw q (by-refusal ShortOutput (rw q at e))

  module _ (start t : List ℕ) where
    by-tree : (atoms : List Site) → All (λ s. length s.numbers ≡ 5) atoms → All (Shown w) atoms → (x : Result (List Node)) → Names (written out (x >> Ok (hits_among tables (lowest start) t atoms)))
    by-tree atoms five shown (Ok ns) = by-room (hits_among tables (lowest start) t atoms) (hits-five tables (lowest start) t atoms five) (hits-named w (lowest start) t atoms shown) _ refl
    by-tree atoms five shown (Err c) = by-refusal c

    by-start : (m : Machine) → read_store w ≡ Ok m → (x : Option (List Site)) → atoms_from start m ≡ x → Names (written out (position x >>= (λ atoms. read_tree t >> Ok (hits_among tables (lowest start) t atoms))))
    by-start m h (Some atoms) e = by-tree atoms (under-five (stored m) atoms (under-start start m atoms e)) (All-start (Shown w) start m atoms e (sites-shown w m h)) (read_tree t)
    by-start m h None e = by-refusal NoPosition

    by-store : (x : Result Machine) → read_store w ≡ x → Names (written out (x >>= (λ m. position (atoms_from start m) >>= (λ atoms. read_tree t >> Ok (hits_among tables (lowest start) t atoms)))))
    by-store (Ok m) h = by-start m h (atoms_from start m) refl
    by-store (Err c) h = by-refusal c

    -- every hit of an accepted run of find names its records
    pub find-named : Names (find_from w start t out)
    unfolding find_from hits_from
    find-named = by-store (read_store w) refl
