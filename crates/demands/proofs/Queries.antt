-- The facts about queries, for any names, any first kind that is known and any atoms whose own numbers rise: every list is picked from the atoms by a test.
-- Assumes nothing.
use Rattle.std.specs.Prelude.{Err, Ok}
use Prim.Native.Nat.{ℕ, ◌*◌}
use mathlib.Core.Path.{◌≡◌, refl, sym, ap, ◌∙◌}
use mathlib.Core.Bool.{Bool, true, false, ◌&&◌, ◌||◌, false≢true}
use mathlib.Core.List.{List, [], ◌∷◌, ◌++◌, map, map-map, append_assoc}
use native.Mathlib.Omega.{arith}
use lib.ListN.{length, drop, length-map}
use lib.Seq.{take_at, drop_at}
use lib.Dec.{leb}
use Rattle.machine.specs.Lists.{filter}
use Rattle.machine.specs.Answer.{Result, ◌>>◌}
use Rattle.machine.specs.Kleene.{not_t, is_hit, is_undecided}
use Rattle.machine.specs.Query.{Names, read_tree, and_tree, or_tree, not_tree}
use Rattle.machine.specs.Find.{Site, value_from, hits_among, hit_words, written}
use Rattle.machine.specs.Demand.{Accepted, count, fives, list, atom_number, undecided}
use Rattle.machine.specs.declared.Node.{Node}
use Rattle.laws.specs.Lists.{All}
use Rattle.laws.specs.Counting.{filter_same, filter-all, filter-both, Keyed, keyed-filter, shared-filter, any-filter, rises-rising}
use Rattle.laws.specs.Kleene.{hit-and, hit-or, hit-both, hit-either}
use Rattle.laws.specs.Numbers.{hits-five}
use Rattle.laws.specs.Trees.{and-value, or-value, not-value}
use Rattle.laws.specs.Steps.{refusal-number}
use Rattle.demands.specs.Queries.{runs_of, Lists, Queries}

pub fives-words : (hs : List (List ℕ)) (rest : List ℕ) → All (λ h. length h ≡ 5) hs → fives (length hs) (hit_words hs ++ rest) ≡ hs
fives-words [] rest a = refl
fives-words (h ∷ hs) rest a = rw (append_assoc h, take_at h (hit_words hs ++ rest) 5 a.0, drop_at h (hit_words hs ++ rest) 5 a.0, fives-words hs rest a.1)

abbrev numbers_of : Site → List ℕ
numbers_of s = s.numbers

module _ (names : Names) (low : ℕ) (atoms : List Site) where
  abbrev hits : List ℕ → Site → Bool
  hits t s = is_hit (value_from names low t s)

  -- ---- what is known of an accepted run

  pub record Listed (t : List ℕ) (run : List ℕ × List ℕ) : Type 0 where
    pub nodes : List Node
    pub tree : read_tree t ≡ Ok nodes
    pub hits : list run ≡ hits_among names low t atoms
    pub number : count run ≡ length (list run)

  module _ (five : All (λ s. length s.numbers ≡ 5) atoms) (t out : List ℕ) where
    abbrev all : List (List ℕ)
    all = hits_among names low t atoms

    written-ok : (ns : List Node) → read_tree t ≡ Ok ns → (b : Bool) → leb (5 * length all) (length out) ≡ b → Accepted (written out (Ok all)) → Listed t (written out (Ok all))
    unfolding list
    written-ok ns e true i a =
        let l = fives-words all (drop (5 * length all) out) (hits-five names low t atoms five) in
        rw i record { nodes = ns; tree = e; hits = l; number = ap length (sym l) }
    written-ok ns e false i a = absurd (false≢true (rw i at a))

    pub run-listed : (r : Result (List Node)) → read_tree t ≡ r → Accepted (written out (r >> Ok all)) → Listed t (written out (r >> Ok all))
    run-listed (Ok ns) e a = written-ok ns e (leb (5 * length all) (length out)) refl a
    run-listed (Err c) e a = absurd (false≢true (sym (refusal-number c) ∙ a))

  -- ---- the facts

  module _ (a b : ℕ) (keyed : Keyed numbers_of atom_number a b atoms) where
    lists : (t : List ℕ) (run : List ℕ × List ℕ) → Listed t run → Lists names low atoms t run
    lists t run l =
        record {
          hits = l.hits;
          rises = rw (l.hits, map-map) (rises-rising a b (map (λ s. atom_number (numbers_of s)) (filter (hits t) atoms)) (keyed-filter numbers_of atom_number (hits t) a b atoms keyed));
          number = l.number;
        }

    counted : (t : List ℕ) (run : List ℕ × List ℕ) → Listed t run → count run ≡ length (filter (hits t) atoms)
    counted t run l = l.number ∙ ap length l.hits ∙ length-map (filter (hits t) atoms) numbers_of

    module _ (find : List ℕ → List ℕ → List ℕ × List ℕ) (ran : (t out : List ℕ) → Accepted (find t out) → Listed t (find t out))
        (A B first second both either opposite : List ℕ) where
      module _ (x : Accepted (find A first)) where
        module _ (y : Accepted (find B second)) where
          and-hits : Accepted (find (and_tree A B) both) → filter (hits (and_tree A B)) atoms ≡ filter (λ s. hits A s && hits B s) atoms
          and-hits c =
              filter_same (hits (and_tree A B)) (λ s. hits A s && hits B s)
              (λ s. ap is_hit (and-value _ A _ (ran A first x).tree B _ (ran B second y).tree _ (ran (and_tree A B) both c).tree) ∙ hit-and (value_from names low A s) (value_from names low B s)) atoms

          or-hits : Accepted (find (or_tree A B) either) → filter (hits (or_tree A B)) atoms ≡ filter (λ s. hits A s || hits B s) atoms
          or-hits c =
              filter_same (hits (or_tree A B)) (λ s. hits A s || hits B s)
              (λ s. ap is_hit (or-value _ A _ (ran A first x).tree B _ (ran B second y).tree _ (ran (or_tree A B) either c).tree) ∙ hit-or (value_from names low A s) (value_from names low B s)) atoms

        module _ (y : Accepted (find (not_tree A) opposite)) where
          not-hits : (s : Site) → hits (not_tree A) s ≡ is_hit (not_t (value_from names low A s))
          not-hits s = ap is_hit (not-value _ A _ (ran A first x).tree _ (ran (not_tree A) opposite y).tree)

          undecided-hits : filter (λ s. hits A s && hits (not_tree A) s) atoms ≡ filter (λ s. is_undecided (value_from names low A s)) atoms
          undecided-hits = filter_same (λ s. hits A s && hits (not_tree A) s) (λ s. is_undecided (value_from names low A s)) (λ s. rw (not-hits s) (hit-both (value_from names low A s))) atoms

          all-hits : filter (λ s. hits A s || hits (not_tree A) s) atoms ≡ atoms
          all-hits = filter_same (λ s. hits A s || hits (not_tree A) s) (λ s. true) (λ s. rw (not-hits s) (hit-either (value_from names low A s))) atoms ∙ filter-all atoms

      pub queries : Queries names low atoms A B (runs_of find A B first second both either opposite)
      unfolding undecided
      queries =
          record {
            for-first = λ x. lists _ _ (ran _ _ x);
            for-second = λ x. lists _ _ (ran _ _ x);
            for-both = λ x. lists _ _ (ran _ _ x);
            for-either = λ x. lists _ _ (ran _ _ x);
            for-opposite = λ x. lists _ _ (ran _ _ x);
            and-shares = λ x y c.
                rw ((ran (and_tree A B) both c).hits, and-hits x y c, (ran A first x).hits, (ran B second y).hits) (sym (shared-filter numbers_of atom_number (hits A) (hits B) a b atoms keyed));
            or-joins = λ x y c hit.
                rw ((ran (or_tree A B) either c).hits, or-hits x y c, (ran A first x).hits, (ran B second y).hits) (any-filter numbers_of atom_number (hits A) (hits B) hit atoms);
            and-or-counts = λ x y c e.
                rw (counted _ _ (ran A first x), counted _ _ (ran B second y), counted _ _ (ran (and_tree A B) both c), and-hits x y c, counted _ _ (ran (or_tree A B) either e), or-hits x y e)
                (filter-both (hits A) (hits B) atoms);
            not-shares = λ x y.
                rw ((ran A first x).hits, (ran (not_tree A) opposite y).hits)
                (shared-filter numbers_of atom_number (hits A) (hits (not_tree A)) a b atoms keyed ∙ ap (map numbers_of) (undecided-hits x y));
            not-counts = λ x y.
                let h = filter-both (hits A) (hits (not_tree A)) atoms in
                let u = ap length (undecided-hits x y) in
                let v = ap length (all-hits x y) in
                omega (arith, counted _ _ (ran A first x), counted _ _ (ran (not_tree A) opposite y));
          }
