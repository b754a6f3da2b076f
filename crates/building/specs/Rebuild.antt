-- A machine's lines, added one by one, build it again where no two siblings have equal ids and nothing is empty. Assumes nothing.
use Rattle.std.specs.Prelude.{ℕ, zero, suc, ◌≤◌, ◌≡◌, refl, Bool, true, false, not, ◌&&◌, ◌||◌, List, [], ◌∷◌, ◌++◌, map, Option}
use Rattle.std.proofs.Common.{sym, ◌∙◌, append_assoc, append-nil, le_refl, arith}
use Rattle.std.proofs.Math.Path.{ap}
use Rattle.std.proofs.lemmas.Bool.{false≢true}
use Rattle.std.proofs.lemmas.List.{map-append}
use Rattle.std.proofs.lemmas.Simd.{map-map}
use Rattle.machine.specs.Lists.{is_empty, all, any, concat_map}
use Rattle.machine.specs.Record.{Fields}
use Rattle.machine.specs.Store.{Branch, Machine}
use Rattle.machine.specs.Edit.{put_in, upsert}
use Rattle.machine.specs.Lines.{AtomLine, entry_of}
use Rattle.machine.specs.Read.{same_id, distinct, tidy, tidy_machine}
use Rattle.laws.specs.Lists.{All, All-of, All-map, All-append, and_both}
use Rattle.building.specs.Picks.{NoneOf, pick-none, pick_end, change-end}
use Rattle.building.specs.Build.{adds, adds-append, into, into-is, into_all, build, Item, which_at, insert, id-self, id-apart}

-- ---- the atoms of some branches, with what they stand under

unfoldable pub items : (k : ℕ) → List (Branch k) → List (Item k)
items zero atoms = atoms
items (suc k) ts = concat_map (λ t. map (λ p. (t.0, p)) (items k t.1)) ts

abbrev pub line_at : Item 3 → AtomLine
line_at p = record { chain = p.0; residue = p.1.0; conformer = p.1.1.0; atom = p.1.1.1 }

-- what G makes of each
abbrev spread : {B : Type 0} (k : ℕ) → (Item k → B) → List (Branch k) → List B
spread zero G atoms = map G atoms
spread (suc k) G ts = concat_map (λ t. spread k (λ p. G (t.0, p)) t.1) ts

map-concat_map : {A B C : Type 0} (f : B → C) (g : A → List B) (h : A → List C) → ((x : A) → map f (g x) ≡ h x) → (xs : List A) → map f (concat_map g xs) ≡ concat_map h xs
map-concat_map f g h e [] = refl
map-concat_map f g h e (x ∷ xs) = map-append f (g x) (concat_map g xs) ∙ (λ i. e x i ++ map-concat_map f g h e xs i)

items-spread : {B : Type 0} (k : ℕ) (G : Item k → B) (ts : List (Branch k)) → map G (items k ts) ≡ spread k G ts
unfolding items
items-spread zero G ts = refl
items-spread (suc k) G ts =
    map-concat_map G (λ t. map (λ p. (t.0, p)) (items k t.1)) (λ t. spread k (λ p. G (t.0, p)) t.1)
    (λ t. map-map G (λ (p : Item k). (t.0, p)) (items k t.1) ∙ items-spread k (λ p. G (t.0, p)) t.1) ts

-- a model's lines
pub lines_are : (t : Branch 4) → (entry_of t).atoms ≡ map line_at (items 3 t.1)
unfolding entry_of
lines_are t = sym (items-spread 3 line_at t.1)

-- ---- additions to one branch

abbrev Full : {A : Type 0} → List A → Type 0
Full xs = not (is_empty xs) ≡ true

full-append : {A : Type 0} (xs ys : List A) → Full xs → Full (xs ++ ys)
full-append [] ys h = absurd (false≢true h)
full-append (x ∷ xs) ys h = refl

full-map : {A B : Type 0} (f : A → B) (xs : List A) → Full xs → Full (map f xs)
full-map f [] h = absurd (false≢true h)
full-map f (x ∷ xs) h = refl

abbrev under : (k : ℕ) → Fields (suc k) → Item k → Item (suc k)
under k f p = (f, p)

module _ (k : ℕ) (low : k ≤ 2) (f : Fields (suc k)) (done : List (Branch (suc k))) (fresh : NoneOf (λ (t : Branch (suc k)). same_id k f t.0) done) where
  grow : (us : List (Branch k)) (p : Item k) → insert (suc k) (f, p) (done ++ ((f, us) ∷ [])) ≡ done ++ ((f, insert k p us) ∷ [])
  unfolding upsert
  grow us p =
      ap (λ (o : Option ℕ). put_in o (λ t. (t.0, insert k p t.1)) (f, insert k p []) (done ++ ((f, us) ∷ [])))
      (pick_end (λ (t : Branch (suc k)). same_id k f t.0) (which_at k) done (f, us) fresh (id-self k low f))
      ∙ change-end (λ t. (t.0, insert k p t.1)) done (f, us)

  start : (p : Item k) → insert (suc k) (f, p) done ≡ done ++ ((f, insert k p []) ∷ [])
  unfolding upsert
  start p =
      ap (λ (o : Option ℕ). put_in o (λ t. (t.0, insert k p t.1)) (f, insert k p []) done)
      (pick-none (λ (t : Branch (suc k)). same_id k f t.0) (which_at k) done fresh)

  grows : (us : List (Branch k)) (ps : List (Item k)) → adds (map (insert (suc k)) (map (under k f) ps)) (done ++ ((f, us) ∷ [])) ≡ done ++ ((f, adds (map (insert k) ps) us) ∷ [])
  grows us [] = refl
  grows us (p ∷ ps) = ap (adds (map (insert (suc k)) (map (under k f) ps))) (grow us p) ∙ grows (insert k p us) ps

  one-branch : (ps : List (Item k)) → Full ps → adds (map (insert (suc k)) (map (under k f) ps)) done ≡ done ++ ((f, adds (map (insert k) ps) []) ∷ [])
  one-branch [] h = absurd (false≢true h)
  one-branch (p ∷ ps) h = ap (adds (map (insert (suc k)) (map (under k f) ps))) (start p) ∙ grows (insert k p []) ps

-- ---- and to a list of them

-- the children's additions give the children
record Whole (k : ℕ) (t : Branch (suc k)) : Type 0 where
  some : Full (items k t.1)
  whole : adds (map (insert k) (items k t.1)) [] ≡ t.1

-- no id of the second list is one of the first
abbrev Apart : (k : ℕ) → List (Branch (suc k)) → List (Branch (suc k)) → Type 0
Apart k done ts = All (λ u. NoneOf (λ (t : Branch (suc k)). same_id k u.0 t.0) done) ts

none_any : {A : Type 0} (p : A → Bool) (xs : List A) → not (any p xs) ≡ true → NoneOf p xs
none_any p [] h = tt
none_any p (x ∷ xs) h = go (p x) refl h (none_any p xs)
  where
    go : (b : Bool) → p x ≡ b → not (b || any p xs) ≡ true → (not (any p xs) ≡ true → NoneOf p xs) → NoneOf p (x ∷ xs)
    go true e f r = absurd (false≢true f)
    go false e f r = (e, r f)

both-All : {A : Type 0} {P Q R : A → Type 0} → ((x : A) → P x → Q x → R x) → (xs : List A) → All P xs → All Q xs → All R xs
both-All g [] p q = tt
both-All g (x ∷ xs) p q = (g x p.0 q.0, both-All g xs p.1 q.1)

-- one more before the rest
apart_next : (k : ℕ) → k ≤ 2 → (done : List (Branch (suc k))) (t : Branch (suc k)) (ts : List (Branch (suc k))) → Apart k done ts → not (any (λ u. same_id k t.0 u.0) ts) ≡ true
    → Apart k (done ++ (t ∷ [])) ts
apart_next k low done t ts h d =
    both-All (λ u n e. All-append _ done (t ∷ []) n (id-apart k t.0 u.0 e t.0 (id-self k low t.0), tt)) ts h (none_any (λ u. same_id k t.0 u.0) ts d)

rebuild-from : (k : ℕ) → k ≤ 2 → (done ts : List (Branch (suc k))) → Apart k done ts → distinct k ts ≡ true → All (Whole k) ts → adds (map (insert (suc k)) (items (suc k) ts)) done ≡ done ++ ts
unfolding items distinct
rebuild-from k low done [] h d o = sym (append-nil done)
rebuild-from k low done (t ∷ ts) h d o =
    let b = and_both (not (any (λ u. same_id k t.0 u.0) ts)) (distinct k ts) d in
    let mine = map (under k t.0) (items k t.1) in
    let rest = items (suc k) ts in
    ap (λ (fs : List (List (Branch (suc k)) → List (Branch (suc k)))). adds fs done) (map-append (insert (suc k)) mine rest)
    ∙ adds-append (map (insert (suc k)) mine) (map (insert (suc k)) rest) done
    ∙ ap (adds (map (insert (suc k)) rest)) (one-branch k low t.0 done h.0 (items k t.1) o.0.some ∙ ap (λ (us : List (Branch k)). done ++ ((t.0, us) ∷ [])) o.0.whole)
    ∙ rebuild-from k low (done ++ (t ∷ [])) ts (apart_next k low done t ts h.1 b.0) b.1 o.1
    ∙ append_assoc done (t ∷ []) ts

append-all : (done atoms : List (Branch 0)) → adds (map (insert 0) atoms) done ≡ done ++ atoms
append-all done [] = sym (append-nil done)
append-all done (a ∷ atoms) = append-all (done ++ (a ∷ [])) atoms ∙ append_assoc done (a ∷ []) atoms

all-false : {A : Type 0} {P : A → Type 0} → ((x : A) → P x) → (xs : List A) → All P xs
all-false g [] = tt
all-false g (x ∷ xs) = (g x, all-false g xs)

-- every branch has an atom
some-items : (k : ℕ) (ts : List (Branch k)) → tidy k ts ≡ true → Full ts → Full (items k ts)
unfolding items tidy
some-items zero ts h n = n
some-items (suc k) [] h n = absurd (false≢true n)
some-items (suc k) (t ∷ ts) h n =
    let b = and_both (distinct k (t ∷ ts)) _ h in
    let c = and_both (not (is_empty t.1) && tidy k t.1) _ b.1 in
    let d = and_both (not (is_empty t.1)) (tidy k t.1) c.0 in
    full-append (map (under k t.0) (items k t.1)) (items (suc k) ts) (full-map (under k t.0) (items k t.1) (some-items k t.1 d.1 d.0))

-- THE LAW, over the level
rebuild : (k : ℕ) → k ≤ 3 → (ts : List (Branch k)) → tidy k ts ≡ true → adds (map (insert k) (items k ts)) [] ≡ ts
unfolding tidy items
rebuild zero h ts d = append-all [] ts
rebuild (suc k) h ts d =
    let b = and_both (distinct k ts) (all (λ t. not (is_empty t.1) && tidy k t.1) ts) d in
    rebuild-from k (omega arith) [] ts (all-false (λ u. tt) ts) b.0 (All-map (λ t c.
    let e = and_both (not (is_empty t.1)) (tidy k t.1) c in
    record { some = some-items k t.1 e.1 e.0; whole = rebuild k (omega arith) t.1 e.1 }) ts (All-of (λ t. not (is_empty t.1) && tidy k t.1) ts b.1))

-- ---- a model, and a machine

into-items : (ps : List (Item 3)) → map into (map line_at ps) ≡ map (insert 3) ps
into-items [] = refl
into-items (p ∷ ps) = λ i. into-is (line_at p) i ∷ into-items ps i

model-back : (t : Branch 4) → tidy 3 t.1 ≡ true → into_all (entry_of t).atoms [] ≡ t.1
model-back t h =
    ap (λ (ls : List AtomLine). into_all ls []) (lines_are t)
    ∙ ap (λ (fs : List (List (Branch 3) → List (Branch 3))). adds fs []) (into-items (items 3 t.1))
    ∙ rebuild 3 (le_refl 3) t.1 h

pub build-back : (m : Machine) → tidy_machine m ≡ true → build (map entry_of m) ≡ m
unfolding build entry_of
build-back [] h = refl
build-back (t ∷ ts) h =
    let b = and_both (tidy 3 t.1) (tidy_machine ts) h in
    (λ i. (t.0, model-back t b.0 i) ∷ build-back ts b.1 i)
