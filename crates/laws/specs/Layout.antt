-- A machine and a store's words say the same: what is laid out is read back, and what is read is laid out again.
-- Assumes nothing.
use Rattle.std.specs.Prelude.{ℕ, zero, suc, ◌+◌, ◌-◌, ◌*◌, ◌/◌, ◌%◌, ◌≤◌, ◌<◌, ◌≡◌, refl, Bool, true, false, ◌&&◌, take, drop, leb, eqb, Ok}
use Rattle.std.proofs.Common.{sym, ap, ◌∙◌, arith, length-append, length-take, length-drop, take_at, take-suc, take_all, take-add, length-take-le, eqb-true, eq-eqb, leb-true, le-leb}
use mathlib.Core.List.{List, [], ◌∷◌, ◌++◌, append_assoc}
use Rattle.std.proofs.Math.ListN.{length, replicate}
use Rattle.std.proofs.lemmas.List.{length-replicate, replicate-append-replicate, get_or_at}
use Rattle.std.proofs.Math.Seq.{drop-append_seam}
use Rattle.machine.specs.Lists.{all}
use Rattle.machine.specs.Answer.{◌>>◌, need}
use Rattle.machine.specs.Store.{Machine, records, laid, lay_out, good_length, end, gap, chunks, records_of, in_order, good_layout, group, read_store}
use Rattle.machine.specs.declared.Refusal.{Refusal}
use Rattle.machine.specs.declared.Refusal.TheVariants.{BadLength, BrokenLayout}
use Rattle.laws.specs.Lists.{and_both, and-true}
use Rattle.laws.specs.Good.{good_branch, Fit}
use Rattle.laws.specs.Grouped.{twelve-words, group-flats, concat, concat-length, chunks-concat, concat-chunks, chunks-length}
use Rattle.laws.specs.Ordered.{records-order, flats-group, good-group}

-- ---- the parts of a good layout

pub record StoreParts (w : List ℕ) : Type 0 where
  pub multiple : end w % 12 ≡ 0
  pub low : end w ≤ length w - 1
  pub zeros : all (eqb 0) (gap w) ≡ true
  pub order : in_order 0 (records_of w) ≡ true

pub store-parts : (w : List ℕ) → good_layout w ≡ true → StoreParts w
unfolding good_layout
store-parts w h =
    let a = and_both (eqb (end w % 12) 0 && leb (end w) (length w - 1)) (all (eqb 0) (gap w) && in_order 0 (records_of w)) h in
    let b = and_both (eqb (end w % 12) 0) (leb (end w) (length w - 1)) a.0 in
    let c = and_both (all (eqb 0) (gap w)) (in_order 0 (records_of w)) a.1 in
    record { multiple = eqb-true _ _ b.0; low = leb-true _ _ b.1; zeros = c.0; order = c.1 }

pub parts-store : (w : List ℕ) → StoreParts w → good_layout w ≡ true
unfolding good_layout
parts-store w p = and-true (and-true (eq-eqb _ _ p.multiple) (le-leb _ _ p.low)) (and-true p.zeros p.order)

pub length-parts : (n : ℕ) → good_length n ≡ true → (1 ≤ n) × (n ≤ 1200001)
length-parts n h = let b = and_both (leb 1 n) (leb n 1200001) h in (leb-true _ _ b.0, leb-true _ _ b.1)

-- ---- words, zeros, and the count of the words

zeros-replicate : (n : ℕ) → all (eqb 0) (replicate n 0) ≡ true
zeros-replicate zero = refl
zeros-replicate (suc n) = zeros-replicate n

laid-middle : (n : ℕ) (b : List ℕ) → take (n - 1 - length b) (drop (length b) (laid n b)) ≡ replicate (n - 1 - length b) 0
unfolding laid
laid-middle n b =
    rw (drop-append_seam b) (take_at (replicate (n - 1 - length b) 0) (length b ∷ []) (n - 1 - length b) (length-replicate (n - 1 - length b) 0))

module _ (n : ℕ) (b : List ℕ) (fits : length b < n) where
  pub laid-length : length (laid n b) ≡ n
  unfolding laid
  laid-length = simp (length-append, length-replicate) (omega arith)

  front_length : length (b ++ replicate (n - 1 - length b) 0) ≡ n - 1
  front_length = simp (length-append, length-replicate) (omega arith)

  pub laid_end : end (laid n b) ≡ length b
  unfolding laid
  laid_end =
      rw (laid-length, ← append_assoc b) (get_or_at (b ++ replicate (n - 1 - length b) 0) (length b) [] 0 (n - 1) front_length)

  pub laid-gap : gap (laid n b) ≡ replicate (n - 1 - length b) 0
  laid-gap = rw (laid_end, laid-length) (laid-middle n b)

-- ---- what is laid out is read back

module _ (n : ℕ) (m : Machine) (fits : 12 * length (records m) < n) where
  words-total : length (concat (records m)) ≡ 12 * length (records m)
  words-total = concat-length (records m) (twelve-words m)

  words-fit : length (concat (records m)) < n
  words-fit = omega (arith, words-total)

  pub lay_out-length : length (lay_out n m) ≡ n
  unfolding lay_out
  lay_out-length = laid-length n (concat (records m)) words-fit

  pub lay_out-end : end (lay_out n m) ≡ 12 * length (records m)
  unfolding lay_out
  lay_out-end = laid_end n (concat (records m)) words-fit ∙ words-total

  lay_out-chunks : chunks (length (records m)) (lay_out n m) ≡ records m
  unfolding lay_out laid
  lay_out-chunks = chunks-concat (records m) _ (twelve-words m)

  pub records_of-lay_out : records_of (lay_out n m) ≡ records m
  records_of-lay_out =
      let e : 12 * length (records m) / 12 ≡ length (records m) = omega arith in
      rw (lay_out-end, e) lay_out-chunks

  lay_out-zeros : all (eqb 0) (gap (lay_out n m)) ≡ true
  unfolding lay_out
  lay_out-zeros = rw (laid-gap n (concat (records m)) words-fit) (zeros-replicate (n - 1 - length (concat (records m))))

  pub lay_out-parts : all (good_branch 4) m ≡ true → StoreParts (lay_out n m)
  lay_out-parts g =
      let e = lay_out-end in
      let l = lay_out-length in
      record { multiple = omega arith; low = omega arith; zeros = lay_out-zeros; order = rw records_of-lay_out (records-order m g) }

-- two different machines have different words
pub lay_out-injective : (n : ℕ) (m m' : Machine) → 12 * length (records m) < n → 12 * length (records m') < n → lay_out n m ≡ lay_out n m' → m ≡ m'
lay_out-injective n m m' f f' e =
    let r : records m ≡ records m' = sym (records_of-lay_out n m f) ∙ ap records_of e ∙ records_of-lay_out n m' f' in
    sym (group-flats 4 (omega arith) m) ∙ ap (group 4) r ∙ group-flats 4 (omega arith) m'

-- a machine that fits leaves a word for the trailer
pub fit_words : (n : ℕ) (m : Machine) → good_length n ≡ true → Fit n m → 12 * length (records m) < n
fit_words n m h f = omega (arith, length-parts n h, f.room)

-- a good machine that fits is read back
pub read-lay_out : (n : ℕ) (m : Machine) → good_length n ≡ true → Fit n m → read_store (lay_out n m) ≡ Ok m
unfolding read_store
read-lay_out n m h f =
    let fits = fit_words n m h f in
    rw (parts-store (lay_out n m) (lay_out-parts n m fits f.good), records_of-lay_out n m fits, lay_out-length n m fits, h) (ap Ok (group-flats 4 (omega arith) m))

-- what opening writes is the empty machine
pub open-empty : (n : ℕ) → good_length n ≡ true → replicate n 0 ≡ lay_out n []
unfolding lay_out laid
open-empty n h =
    let e : n ≡ n - 1 - 0 + 1 = omega (arith, length-parts n h) in
    ap (λ (k : ℕ). replicate k 0) e ∙ sym (replicate-append-replicate (n - 1 - 0) 1 0)

-- ---- what is read is laid out again

zeros-are : (xs : List ℕ) → all (eqb 0) xs ≡ true → xs ≡ replicate (length xs) 0
zeros-are [] h = refl
zeros-are (x ∷ xs) h =
    let b = and_both (eqb 0 x) (all (eqb 0) xs) h in
    let e = eqb-true 0 x b.0 in
    let i = zeros-are xs b.1 in
    rw (← e, ← i)

pub laid-again : (w : List ℕ) → 1 ≤ length w → StoreParts w → laid (length w) (take (end w) w) ≡ w
unfolding laid
laid-again w one p =
    let n = length w - 1 in
    let low = p.low in
    let lb : length (take (end w) w) ≡ end w = length-take-le (end w) w (omega arith) in
    let lz : length (gap w) ≡ n - end w = simp (length-take, length-drop) (omega arith) in
    let mid : gap w ≡ replicate (n - end w) 0 = zeros-are (gap w) p.zeros ∙ ap (λ (k : ℕ). replicate k 0) lz in
    let sum : end w + (n - end w) ≡ n = omega arith in
    let front : take (end w) w ++ replicate (n - end w) 0 ≡ take n w = rw (← mid, ← take-add (end w) (n - end w) w, sum) in
    let whole : take n w ++ (end w ∷ []) ≡ w = sym (take-suc w n 0 (omega arith)) ∙ take_all (suc n) w (omega arith) in
    rw (lb, ← append_assoc (take (end w) w), front) whole

need-both : (a b : Bool) (p q : Refusal) (x y : Machine) → (need a p >> (need b q >> Ok x)) ≡ Ok y → (a ≡ true) × (b ≡ true) × (x ≡ y)
need-both true true p q x y h = (refl, refl, cc)
need-both true false p q x y h = let z : ◌≡◌ {A = ℕ} 0 1 = cc in absurd (omega arith)
need-both false b p q x y h = let z : ◌≡◌ {A = ℕ} 0 1 = cc in absurd (omega arith)

module _ (w : List ℕ) (m : Machine) (h : read_store w ≡ Ok m) where
  facts : (good_length (length w) ≡ true) × (good_layout w ≡ true) × (group 4 (records_of w) ≡ m)
  unfolding read_store
  facts = need-both (good_length (length w)) (good_layout w) BadLength BrokenLayout (group 4 (records_of w)) m h

  pub read_length : good_length (length w) ≡ true
  read_length = facts.0

  pub read-parts : StoreParts w
  read-parts = store-parts w facts.1

  pub records-read : records m ≡ records_of w
  records-read = rw facts.2 at (flats-group (records_of w) read-parts.order)

  pub read-fit : Fit (length w) m
  read-fit =
      let l = read-parts.low in
      let e : length (records m) ≡ end w / 12 = ap length records-read ∙ chunks-length (end w / 12) w in
      record { good = rw facts.2 at (good-group (records_of w) read-parts.order); room = omega arith }

  pub lay_out-read : lay_out (length w) m ≡ w
  unfolding lay_out
  lay_out-read =
      let e : 12 * (end w / 12) ≡ end w = omega (arith, read-parts.multiple) in
      rw (records-read, concat-chunks, e) (laid-again w (length-parts (length w) read_length).0 read-parts)
