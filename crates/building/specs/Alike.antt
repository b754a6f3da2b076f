-- What a text builds where every atom is changed, and nothing else: the same branches with the changed atoms. Assumes nothing.
use Rattle.std.specs.Prelude.{ℕ, zero, suc, ◌≡◌, refl, Bool, true, List, [], ◌∷◌, ◌++◌, map, length, None, Option, Some}
use Rattle.std.proofs.Common.{sym, ap, ◌∙◌, arith, length-append}
use Rattle.std.proofs.lemmas.List.{map-append}
use Rattle.std.proofs.lemmas.Simd.{map-map}
use Rattle.machine.specs.Lists.{concat_map, first_where, last_where}
use Rattle.machine.specs.Record.{Atom}
use Rattle.machine.specs.Store.{Branch, Machine, flat, records}
use Rattle.machine.specs.Edit.{Which, first, last, pick, put_in, upsert}
use Rattle.machine.specs.Lines.{AtomLine, Entry, entry_of}
use Rattle.machine.specs.Read.{same_id, tidy_machine}
use Rattle.building.specs.Picks.{change}
use Rattle.building.specs.Build.{into, into-is, into_all, build, Item, item_of, which_at, insert}
use Rattle.building.specs.Rebuild.{items, line_at, lines_are, build-back}

-- a branch, a line and an entry with f done to every atom
unfoldable pub map_atoms : (k : ℕ) → (Atom → Atom) → Branch k → Branch k
map_atoms zero f a = f a
map_atoms (suc k) f t = (t.0, map (map_atoms k f) t.1)

abbrev pub on_atom : (Atom → Atom) → AtomLine → AtomLine
on_atom f l = record { chain = l.chain; residue = l.residue; conformer = l.conformer; atom = f l.atom }

abbrev pub on_atoms : (Atom → Atom) → Entry → Entry
on_atoms f e = record { model = e.model; atoms = map (on_atom f) e.atoms }

abbrev on_item : (k : ℕ) → (Atom → Atom) → Item k → Item k
on_item zero f a = f a
on_item (suc k) f p = (p.0, on_item k f p.1)

-- ---- places stay

module _ {A B : Type 0} (g : A → B) where
  module _ (p : A → Bool) (q : B → Bool) (keeps : (x : A) → q (g x) ≡ p x) where
    first-map : (xs : List A) → first_where q (map g xs) ≡ first_where p xs
    first-map [] = refl
    first-map (x ∷ xs) = rw (keeps x, first-map xs)

    last-map : (xs : List A) → last_where q (map g xs) ≡ last_where p xs
    last-map [] = refl
    last-map (x ∷ xs) = rw (keeps x, last-map xs)

    pick-map : (w : Which) (xs : List A) → pick w q (map g xs) ≡ pick w p xs
    pick-map first xs = first-map xs
    pick-map last xs = last-map xs

  change-map : (i : ℕ) (f : A → A) (h : B → B) → ((x : A) → h (g x) ≡ g (f x)) → (xs : List A) → change i h (map g xs) ≡ map g (change i f xs)
  change-map i f h e [] = refl
  change-map zero f h e (x ∷ xs) = ap (λ (y : B). y ∷ map g xs) (e x)
  change-map (suc i) f h e (x ∷ xs) = ap (λ (ys : List B). g x ∷ ys) (change-map i f h e xs)

insert-alike : (k : ℕ) (f : Atom → Atom) (p : Item k) (ts : List (Branch k)) → insert k (on_item k f p) (map (map_atoms k f) ts) ≡ map (map_atoms k f) (insert k p ts)
unfolding map_atoms upsert
insert-alike zero f a ts = sym (map-append f ts (a ∷ []))
insert-alike (suc k) f p ts =
    ap (λ (o : Option ℕ). put_in o (λ t. (t.0, insert k (on_item k f p.1) t.1)) (p.0, insert k (on_item k f p.1) []) (map (map_atoms (suc k) f) ts))
    (pick-map (map_atoms (suc k) f) (λ (t : Branch (suc k)). same_id k p.0 t.0) (λ t. same_id k p.0 t.0) (λ t. refl) (which_at k) ts)
    ∙ go (insert-alike k f p.1) (pick (which_at k) (λ t. same_id k p.0 t.0) ts)
  where
    M : Branch (suc k) → Branch (suc k)
    M = λ t. (t.0, map (map_atoms k f) t.1)

    q : Item k
    q = on_item k f p.1

    go : ((us : List (Branch k)) → insert k q (map (map_atoms k f) us) ≡ map (map_atoms k f) (insert k p.1 us)) → (o : Option ℕ)
        → put_in o (λ t. (t.0, insert k q t.1)) (p.0, insert k q []) (map M ts) ≡ map M (put_in o (λ t. (t.0, insert k p.1 t.1)) (p.0, insert k p.1 []) ts)
    go r None = ap (λ (us : List (Branch k)). map M ts ++ ((p.0, us) ∷ [])) (r []) ∙ sym (map-append M ts ((p.0, insert k p.1 []) ∷ []))
    go r (Some i) = change-map M i (λ t. (t.0, insert k p.1 t.1)) (λ t. (t.0, insert k q t.1)) (λ t. ap (λ (us : List (Branch k)). (t.0, us)) (r t.1)) ts

lines-alike : (f : Atom → Atom) (ls : List AtomLine) (ts : List (Branch 3)) → into_all (map (on_atom f) ls) (map (map_atoms 3 f) ts) ≡ map (map_atoms 3 f) (into_all ls ts)
lines-alike f [] ts = refl
lines-alike f (l ∷ ls) ts =
    ap (λ (g : List (Branch 3) → List (Branch 3)). into_all (map (on_atom f) ls) (g (map (map_atoms 3 f) ts))) (into-is (on_atom f l))
    ∙ ap (into_all (map (on_atom f) ls)) (insert-alike 3 f (item_of l) ts ∙ ap (λ (g : List (Branch 3) → List (Branch 3)). map (map_atoms 3 f) (g ts)) (sym (into-is l)))
    ∙ lines-alike f ls (into l ts)

-- building commutes with it
pub build-alike : (f : Atom → Atom) (es : List Entry) → build (map (on_atoms f) es) ≡ map (map_atoms 4 f) (build es)
unfolding build map_atoms
build-alike f [] = refl
build-alike f (e ∷ es) = λ i. (e.model, lines-alike f e.atoms [] i) ∷ build-alike f es i

-- ---- as many records

concat_map-lengths : {A B : Type 0} (f : A → List B) (g : A → A) → ((x : A) → length (f (g x)) ≡ length (f x)) → (xs : List A) → length (concat_map f (map g xs)) ≡ length (concat_map f xs)
concat_map-lengths f g h [] = refl
concat_map-lengths f g h (x ∷ xs) =
    let e = h x in
    let r = concat_map-lengths f g h xs in
    omega (arith, length-append (f (g x)) (concat_map f (map g xs)), length-append (f x) (concat_map f xs))

size-alike : (f : Atom → Atom) (k : ℕ) (t : Branch k) → length (flat k (map_atoms k f t)) ≡ length (flat k t)
unfolding flat map_atoms
size-alike f zero t = refl
size-alike f (suc k) t = ap suc (concat_map-lengths (flat k) (map_atoms k f) (size-alike f k) t.1)

pub records-alike : (f : Atom → Atom) (m : Machine) → length (records (map (map_atoms 4 f) m)) ≡ length (records m)
records-alike f m = concat_map-lengths (flat 4) (map_atoms 4 f) (size-alike f 4) m

pub build-size : (f : Atom → Atom) (es : List Entry) → length (records (build (map (on_atoms f) es))) ≡ length (records (build es))
build-size f es = ap (λ (m : Machine). length (records m)) (build-alike f es) ∙ records-alike f (build es)

-- ---- of a machine's own lines

items_alike : (f : Atom → Atom) (k : ℕ) (ts : List (Branch k)) → items k (map (map_atoms k f) ts) ≡ map (on_item k f) (items k ts)
unfolding items map_atoms
items_alike f zero ts = refl
items_alike f (suc k) [] = refl
items_alike f (suc k) (t ∷ ts) =
    (λ i. map (λ p. (t.0, p)) (items_alike f k t.1 i) ++ items_alike f (suc k) ts i)
    ∙ ap (λ (ps : List (Item (suc k))). ps ++ map (on_item (suc k) f) (items (suc k) ts)) (map-map (λ (p : Item k). (t.0, p)) (on_item k f) (items k t.1) ∙ sym (map-map (on_item (suc k) f) (λ (p : Item k). (t.0, p)) (items k t.1)))
    ∙ sym (map-append (on_item (suc k) f) (map (λ p. (t.0, p)) (items k t.1)) (items (suc k) ts))

entry-alike : (f : Atom → Atom) (t : Branch 4) → entry_of (map_atoms 4 f t) ≡ on_atoms f (entry_of t)
unfolding entry_of map_atoms
entry-alike f t = ap (λ (ls : List AtomLine). record { model = t.0; atoms = ls }) (
    lines_are (map_atoms 4 f t)
    ∙ ap (map line_at) (items_alike f 3 t.1)
    ∙ map-map line_at (on_item 3 f) (items 3 t.1)
    ∙ sym (map-map (on_atom f) line_at (items 3 t.1))
    ∙ ap (map (on_atom f)) (sym (lines_are t)))

pub entries-alike : (f : Atom → Atom) (m : Machine) → map entry_of (map (map_atoms 4 f) m) ≡ map (on_atoms f) (map entry_of m)
entries-alike f [] = refl
entries-alike f (t ∷ ts) = λ i. entry-alike f t i ∷ entries-alike f ts i

pub machine-alike : (f : Atom → Atom) (m : Machine) → tidy_machine m ≡ true → build (map (on_atoms f) (map entry_of m)) ≡ map (map_atoms 4 f) m
machine-alike f m h = build-alike f (map entry_of m) ∙ ap (map (map_atoms 4 f)) (build-back m h)
