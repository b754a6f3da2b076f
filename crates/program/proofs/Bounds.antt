-- How much the program finds and writes at most: find has room for each hit, so that 10 is never printed, and the text has an end.
-- Assumes nothing.
use Rattle.std.specs.Prelude.{Err, Ok}
use Prim.Native.Nat.{ℕ, zero, suc, ◌+◌, ◌-◌, ◌*◌, ◌/◌, ◌%◌, ◌≤◌}
use mathlib.Core.Path.{◌≡◌, refl, ap, ◌∙◌}
use mathlib.Core.Bool.{Bool, true, false, ◌&&◌, cond}
use mathlib.Core.List.{List, [], ◌∷◌, ◌++◌, map, append_assoc}
use native.Mathlib.Omega.{arith}
use lib.ListN.{length, get_or, take, drop, length-append, length-take, length-map}
use lib.Dec.{leb, ltb, eqb}
use borrow.Author.Tests.{leb-true, le-leb, ltb-true, ltb-false}
use Rattle.machine.specs.Lists.{concat_map, bytes}
use Rattle.machine.specs.Answer.{Result, ◌>>=◌, ◌>>◌, need, refusal_number, counted_numbers}
use Rattle.machine.specs.Store.{Machine, records, good_length, records_of, good_layout, group, read_store}
use Rattle.machine.specs.Query.{node_of, nodes_of, leaves_one, read_tree, tables}
use Rattle.machine.specs.Find.{top, atoms_of, atoms_under, hits_among, hits_from, hits_of, hit_words, written, find_from, find_run}
use Rattle.machine.specs.Program.{Input, words_in, split, read_input, digit, digits, decimal, newline, spaced, printed, program_run}
use Rattle.machine.specs.declared.Node.{Node}
use Rattle.machine.specs.declared.Refusal.{Refusal}
use Rattle.machine.specs.declared.Refusal.TheVariants.{BadLength, BrokenLayout, TreeShape, BadFile, ShortOutput}
use Rattle.laws.specs.Lists.{All, and_both}
use Rattle.laws.specs.Counting.{rises-few}
use Rattle.laws.specs.Numbers.{site_number, branches-five, branches-rise, hits_few, hits-five}
use Rattle.laws.specs.Layout.{read-fit}
use Rattle.laws.specs.Steps.{refusal-digits}
use Rattle.search.proofs.Nodes.{node-refused}
use Rattle.demands.proofs.Queries.{fives-words}
use Rattle.decimals.proofs.Laws.{digits-few}
use Rattle.program.proofs.Parts.{words_in-length}
use Rattle.program.specs.Text.{line, lines, last_line, answer_text}

-- ---- the hits

-- at most one hit for each record
few-hits : (t : List ℕ) (m : Machine) → length (hits_among tables 1 t (atoms_of m)) ≤ length (records m)
unfolding atoms_of
few-hits t m =
    omega (arith, hits_few tables 1 t (atoms_of m), length-map (atoms_of m) site_number, rises-few 0 (0 + length (records m)) (map site_number (atoms_of m)) (branches-rise 4 top refl 0 m))

-- hits are those of the machine that the store holds
pub record HitsOf (w t : List ℕ) (hs : List (List ℕ)) : Type 0 where
  pub machine : Machine
  pub read : read_store w ≡ Ok machine
  pub are : hs ≡ hits_among tables 1 t (atoms_of machine)

pub hits-of : (w t : List ℕ) (hs : List (List ℕ)) → hits_of w t ≡ Ok hs → HitsOf w t hs
unfolding hits_from atoms_under atoms_of
hits-of w t hs h = by-store (read_store w) refl h
  where
    by-tree : (m : Machine) → read_store w ≡ Ok m → (x : Result (List Node)) → (x >> Ok (hits_among tables 1 t (atoms_of m))) ≡ Ok hs → HitsOf w t hs
    by-tree m e (Ok ns) h = record { machine = m; read = e; are = cc }
    by-tree m e (Err r) h = let z : ◌≡◌ {A = ℕ} 0 1 = cc in absurd (omega arith)

    by-store : (x : Result Machine) → read_store w ≡ x → (x >>= (λ m. read_tree t >> Ok (hits_among tables 1 t (atoms_of m)))) ≡ Ok hs → HitsOf w t hs
    by-store (Ok m) e h = by-tree m e (read_tree t) h
    by-store (Err r) e h = let z : ◌≡◌ {A = ℕ} 0 1 = cc in absurd (omega arith)

-- a store of 8,191 words has 682 records
pub hits-682 : (w t : List ℕ) (hs : List (List ℕ)) → length w ≤ 8191 → hits_of w t ≡ Ok hs → length hs ≤ 682
hits-682 w t hs l h =
    let p = hits-of w t hs h in
    omega (arith, ap length p.are, few-hits t p.machine, (read-fit w p.machine p.read).room)

hits-are-five : (w t : List ℕ) (hs : List (List ℕ)) → hits_of w t ≡ Ok hs → All (λ h. length h ≡ 5) hs
unfolding atoms_of
hits-are-five w t hs h = let p = hits-of w t hs h in rw p.are (hits-five tables 1 t (atoms_of p.machine) (branches-five 4 top refl 0 p.machine))

-- ---- find isn't refused with 10

-- a store that is read from an input is that short
store-short : (bs : List ℕ) (i : Input) → read_input bs ≡ Ok i → length i.store ≤ 8191
unfolding read_input
store-short bs i h = by_length (eqb (length bs % 8) 0 && leb 1 (length bs)) (leb (length bs) 65536) refl h
  where
    ws : List ℕ
    ws = words_in (length bs / 8) bs

    last : ℕ
    last = length ws - 1

    start : ℕ
    start = get_or ws last 0

    by-start : length bs ≤ 65536 → (b : Bool) → leb start last ≡ b
        → (need b BadFile >> Ok (record { store = take start ws; tree = take (last - start) (drop start ws) })) ≡ Ok i → length i.store ≤ 8191
    by-start l true e h =
        let s : take start ws ≡ i.store = cc in
        omega (arith, leb-true start last e, ap length s, length-take start ws, words_in-length (length bs / 8) bs)
    by-start l false e h = let z : ◌≡◌ {A = ℕ} 0 1 = cc in absurd (omega arith)

    by_length : (a b : Bool) → leb (length bs) 65536 ≡ b → (need (a && b) BadFile >> split ws) ≡ Ok i → length i.store ≤ 8191
    by_length true true e h = by-start (leb-true (length bs) 65536 e) (leb start last) refl h
    by_length true false e h = let z : ◌≡◌ {A = ℕ} 0 1 = cc in absurd (omega arith)
    by_length false b e h = let z : ◌≡◌ {A = ℕ} 0 1 = cc in absurd (omega arith)

-- x isn't refused with 10
abbrev Other : {A : Type 0} → Result A → Type 0
Other x = (r : Refusal) → x ≡ Err r → refusal_number r ≡ 10 → ⊥

module _ {A B : Type 0} where
  then-other : (x : Result A) (y : Result B) → Other x → Other y → Other (x >> y)
  then-other (Ok a) y p q r e = q r e
  then-other (Err c) y p q r e = let d : c ≡ r = cc in p r (ap Err d)

  concat_map-other : (x : Result A) (f : A → Result B) → Other x → ((a : A) → Other (f a)) → Other (x >>= f)
  concat_map-other (Ok a) f p q r e = q a r e
  concat_map-other (Err c) f p q r e = let d : c ≡ r = cc in p r (ap Err d)

ok-other : {A : Type 0} (a : A) → Other (Ok a)
ok-other a r e n = let z : ◌≡◌ {A = ℕ} 0 1 = cc in omega arith

refused-other : {A : Type 0} (c : Refusal) → (refusal_number c ≡ 10 → ⊥) → Other {A = A} (Err c)
refused-other c p r e n = let d : c ≡ r = cc in p (ap refusal_number d ∙ n)

need-other : {A : Type 0} (b : Bool) (c : Refusal) (x : Result A) → (refusal_number c ≡ 10 → ⊥) → Other x → Other (need b c >> x)
need-other true c x p q = q
need-other false c x p q = refused-other c p

node-other : (c p q : ℕ) → Other (node_of c p q)
node-other c p q r e n = omega (arith, ap refusal_number (node-refused c p q r e))

nodes-other : (t : List ℕ) → Other (nodes_of t)
unfolding nodes_of
nodes-other [] = ok-other []
nodes-other (c ∷ []) = refused-other TreeShape (λ n. omega arith)
nodes-other (c ∷ p ∷ []) = refused-other TreeShape (λ n. omega arith)
nodes-other (c ∷ p ∷ q ∷ rest) =
    concat_map-other (node_of c p q) _ (node-other c p q) (λ n. concat_map-other (nodes_of rest) _ (nodes-other rest) (λ ns. ok-other (n ∷ ns)))

store_other : (w : List ℕ) → Other (read_store w)
unfolding read_store
store_other w =
    need-other (good_length (length w)) BadLength _ (λ n. omega arith)
    (need-other (good_layout w) BrokenLayout _ (λ n. omega arith) (ok-other (group 4 (records_of w))))

tree-other : (t : List ℕ) → Other (read_tree t)
unfolding read_tree
tree-other t =
    need-other (leb 3 (length t) && leb (length t) 381 && eqb (length t % 3) 0) TreeShape _ (λ n. omega arith)
    (concat_map-other (nodes_of t) _ (nodes-other t) (λ ns. need-other (leaves_one ns) TreeShape _ (λ n. omega arith) (ok-other ns)))

hits-other : (w t : List ℕ) → Other (hits_of w t)
unfolding hits_from atoms_under
hits-other w t =
    concat_map-other (read_store w) _ (store_other w) (λ m. then-other (read_tree t) _ (tree-other t) (ok-other _))

input-other : (bs : List ℕ) → Other (read_input bs)
unfolding read_input
input-other bs =
    let ws = words_in (length bs / 8) bs in
    need-other (eqb (length bs % 8) 0 && leb 1 (length bs) && leb (length bs) 65536) BadFile _ (λ n. omega arith)
    (need-other (leb (get_or ws (length ws - 1) 0) (length ws - 1)) BadFile _ (λ n. omega arith) (ok-other _))

-- the store of an input has 682 records at most, so that 3,410 words are enough for its hits, and find doesn't refuse with 10
pub find-has-room : (bs : List ℕ) (i : Input) → read_input bs ≡ Ok i → (out : List ℕ) → 3410 ≤ length out
    → (find_run i.store i.tree out).0 ≡ counted_numbers (Err ShortOutput) → ⊥
unfolding find_from
find-has-room bs i e out l h = go (hits_of i.store i.tree) refl h
  where
    go : (x : Result (List (List ℕ))) → hits_of i.store i.tree ≡ x → (written out x).0 ≡ counted_numbers (Err ShortOutput) → ⊥
    go (Ok hs) f h =
        let few = hits-682 i.store i.tree hs (store-short bs i e) f in
        let room = le-leb (5 * length hs) (length out) (omega arith) in
        let z : ◌≡◌ {A = ℕ} 0 10 = cc in
        omega arith
    go (Err r) f h = hits-other i.store i.tree r f cc

-- ---- the text

spaced-few : (n : ℕ) (ns : List ℕ) → length (spaced (n ∷ ns)) + 1 ≤ 21 * length (n ∷ ns)
spaced-few n [] = omega (arith, digits-few 20 n)
spaced-few n (m ∷ ns) =
    omega (arith, digits-few 20 n, length-append (decimal n) (bytes " "), length-append (decimal n ++ bytes " ") (spaced (m ∷ ns)), spaced-few m ns)

line-few : (h : List ℕ) → length h ≤ 5 → length (line h) ≤ 105
line-few [] l = omega arith
line-few (n ∷ ns) l = omega (arith, spaced-few n ns, length-append (spaced (n ∷ ns)) newline)

pub lines-few : (n : ℕ) (ws : List ℕ) → length (lines n ws) ≤ n * 105
lines-few zero ws = omega arith
lines-few (suc n) ws =
    omega (arith, length-append (line (take 5 ws)) (lines n (drop 5 ws)), line-few (take 5 ws) (omega (arith, length-take 5 ws)), lines-few n (drop 5 ws))

pub last-few : (n : ℕ) → length (last_line n) ≤ 27
last-few n = omega (arith, length-append (bytes "found " ++ decimal n) newline, length-append (bytes "found ") (decimal n), digits-few 20 n)

refused-few : (r : Refusal) → length (printed (Err r)) ≤ 29
unfolding printed
refused-few r =
    let n = decimal (refusal_number r) in
    omega (arith, length-append (bytes "refused " ++ n) newline, length-append (bytes "refused ") n, digits-few 20 (refusal_number r))

-- the text of the hits that find wrote, whatever stands after them
pub hits-printed : (w t : List ℕ) (hs : List (List ℕ)) → hits_of w t ≡ Ok hs → (rest : List ℕ) → lines (length hs) (hit_words hs ++ rest) ++ last_line (length hs) ≡ printed (Ok hs)
unfolding printed
hits-printed w t hs h rest =
    ap (λ (l : List (List ℕ)). concat_map line l ++ last_line (length hs)) (fives-words hs rest (hits-are-five w t hs h)) ∙ simp append_assoc

-- no number's text starts with r
first-digit : (k n : ℕ) (rest : List ℕ) → get_or (digits (suc k) n ++ rest) 0 0 ≤ 113
unfolding digits
first-digit zero n rest = go (ltb n 10) refl
  where
    go : (b : Bool) → ltb n 10 ≡ b → get_or (cond b (digit n ∷ []) (digit (n % 10) ∷ []) ++ rest) 0 0 ≤ 113
    go true e = omega (arith, ltb-true n 10 e)
    go false e = omega arith
first-digit (suc k) n rest = go (ltb n 10) refl (first-digit k (n / 10) (digit (n % 10) ∷ rest))
  where
    go : (b : Bool) → ltb n 10 ≡ b → get_or (digits (suc k) (n / 10) ++ (digit (n % 10) ∷ rest)) 0 0 ≤ 113
        → get_or (cond b (digit n ∷ []) (digits (suc k) (n / 10) ++ (digit (n % 10) ∷ [])) ++ rest) 0 0 ≤ 113
    go true e h = omega (arith, ltb-true n 10 e)
    go false e h = rw append_assoc h

hits-start : (hs : List (List ℕ)) → All (λ h. length h ≡ 5) hs → get_or (printed (Ok hs)) 0 0 ≤ 113
unfolding printed
hits-start [] a = omega arith
hits-start ([] ∷ hs) a = absurd (omega (arith, a.0))
hits-start ((n ∷ []) ∷ hs) a = absurd (omega (arith, a.0))
hits-start ((n ∷ m ∷ ns) ∷ hs) a = simp append_assoc (first-digit 19 n _)

-- the two bytes where a refusal's number stands
abbrev number : List ℕ → ℕ
number l = get_or l 8 0 * 256 + get_or l 9 0

ten : (r : Refusal) → printed (Err r) ≡ bytes "refused 10\n" → refusal_number r ≡ 10
unfolding printed digits
ten r e =
    let x = refusal_number r in
    go x (ltb x 10) (ltb (x / 10) 10) refl (leb-true x 99 (and_both (leb 1 x) (leb x 99) (refusal-digits r)).1) (ap number e)
  where
    go : (n : ℕ) (b c : Bool) → ltb (n / 10) 10 ≡ c → n ≤ 99
        → number (bytes "refused " ++ cond b (digit n ∷ []) (cond c (digit (n / 10) ∷ []) (digits 18 (n / 10 / 10) ++ (digit (n / 10 % 10) ∷ [])) ++ (digit (n % 10) ∷ [])) ++ newline)
        ≡ number (bytes "refused 10\n")
        → n ≡ 10
    go n true c q l h = absurd (omega arith)
    go n false true q l h = omega arith
    go n false false q l h = absurd (omega (arith, ltb-false (n / 10) 10 q))

-- whatever the input, the program doesn't print the refusal 10
pub never-ten : (bs : List ℕ) → program_run bs ≡ bytes "refused 10\n" → ⊥
unfolding program_run
never-ten bs h = by-input (read_input bs) refl h
  where
    by-hits : (w t : List ℕ) (x : Result (List (List ℕ))) → hits_of w t ≡ x → printed x ≡ bytes "refused 10\n" → ⊥
    by-hits w t (Ok hs) e h = omega (arith, hits-start hs (hits-are-five w t hs e), ap (λ (l : List ℕ). get_or l 0 0) h)
    by-hits w t (Err r) e h = hits-other w t r e (ten r h)

    by-input : (x : Result Input) → read_input bs ≡ x → answer_text x ≡ bytes "refused 10\n" → ⊥
    by-input (Ok i) e h = by-hits i.store i.tree (hits_of i.store i.tree) refl h
    by-input (Err r) e h = input-other bs r e (ten r h)

pub text-fits : (bs : List ℕ) → length (program_run bs) ≤ 71637
unfolding program_run
text-fits bs = by-input (read_input bs) refl
  where
    by-hits : (w t : List ℕ) → length w ≤ 8191 → (x : Result (List (List ℕ))) → hits_of w t ≡ x → length (printed x) ≤ 71637
    by-hits w t l (Ok hs) e =
        let n = length hs in
        let ws = hit_words hs ++ [] in
        omega (arith, ap length (hits-printed w t hs e []), length-append (lines n ws) (last_line n), lines-few n ws, last-few n, hits-682 w t hs l e)
    by-hits w t l (Err r) e = omega (arith, refused-few r)

    by-input : (x : Result Input) → read_input bs ≡ x → length (answer_text x) ≤ 71637
    by-input (Ok i) e = by-hits i.store i.tree (store-short bs i e) (hits_of i.store i.tree) refl
    by-input (Err r) e = omega (arith, refused-few r)
