-- A call's words: its numbers spelled out, its parts, and its texts as bytes. Assumes nothing.
use Rattle.std.specs.Prelude.{None, Option, Some}
use Prim.Native.Nat.{ℕ, zero, suc, ◌+◌, ◌-◌, ◌%◌, ◌≤◌, ◌<◌}
use mathlib.Core.Path.{◌≡◌, refl, sym, ap, ◌∙◌}
use mathlib.Core.Bool.{true}
use mathlib.Core.List.{List, [], ◌∷◌, ◌++◌, map}
use native.Mathlib.Nat.{add-zero}
use native.Mathlib.Numerals.{add-one}
use native.Mathlib.Omega.{arith}
use lib.ListN.{length, get_or, take, drop, set, length-map, length-drop, take-append-drop, get_or-map}
use lib.Seq.{take_all, take-suc, take-suc-set, take-append-le, drop-append-le, drop-cons, drop-drop, get_or-drop}
use borrow.Author.Tests.{ltb-true}
use Rattle.machine.specs.Lists.{is_some, all}
use Rattle.laws.specs.Lists.{and_both}
use Rattle.calls.specs.Format.{rows, numbers_in, trees_in, parts_in, is_byte, good_part, read_parts, call_of, read_call}
use Rattle.calls.proofs.Reading.{parts-step, parts_none, call-parts}
use Rattle.dispatch.specs.Words.{low_byte, Narrowed, part_end}

-- ---- words as bytes

pub narrow-turn : (bs bs₀ ws : List ℕ) (i : ℕ) → length ws ≤ length bs₀ → length bs ≡ length bs₀ → i < length ws → take i bs ≡ take i (map low_byte ws)
    → take (i + 1) (set bs i (low_byte (get_or ws i 0))) ≡ take (i + 1) (map low_byte ws)
narrow-turn bs bs₀ ws i h k t e =
    let l = length-map ws low_byte in
    rw (add-one, take-suc-set bs i (low_byte (get_or ws i 0)) (omega arith), take-suc (map low_byte ws) i 0 (omega arith), e, get_or-map low_byte ws i 0)

pub narrow-end : (bs bs₀ ws : List ℕ) (i : ℕ) → length ws ≤ length bs₀ → length bs ≡ length bs₀ → i ≤ length ws → length ws ≤ i → take i bs ≡ take i (map low_byte ws) → Narrowed ws bs
narrow-end bs bs₀ ws i h k l l' e =
    let q : i ≡ length ws = omega arith in
    record { room = omega arith; same = rw (← q) (e ∙ take_all i (map low_byte ws) (omega (arith, length-map ws low_byte))) }

bytes_same : (ws : List ℕ) → all is_byte ws ≡ true → map low_byte ws ≡ ws
bytes_same [] h = refl
bytes_same (w ∷ ws) h =
    let b = and_both (is_byte w) (all is_byte ws) h in
    let e : w % 256 ≡ w = omega (arith, ltb-true w 256 b.0) in
    rw (e, bytes_same ws b.1)

take-map : (n : ℕ) (ws : List ℕ) → take n (map low_byte ws) ≡ map low_byte (take n ws)
take-map zero ws = refl
take-map (suc n) [] = refl
take-map (suc n) (w ∷ ws) = rw (take-map n ws)

drop-map : (n : ℕ) (ws : List ℕ) → drop n (map low_byte ws) ≡ map low_byte (drop n ws)
drop-map zero ws = refl
drop-map (suc n) [] = refl
drop-map (suc n) (w ∷ ws) = drop-map n ws

-- ---- a part

abbrev pub text_at : List ℕ → ℕ → List ℕ
text_at ws at = take (get_or ws at 0) (drop (at + 1) ws)

-- the part from a word to its end, and the parts after it
pub record PartAt (trees k : ℕ) (ws : List ℕ) (at e : ℕ) (ps : List (List ℕ)) : Type 0 where
  pub fits : e ≤ length ws
  pub good : good_part trees k (text_at ws at) ≡ true
  pub later : List (List ℕ)
  pub rest : read_parts trees k (drop e ws) ≡ Some later
  pub is : ps ≡ text_at ws at ∷ later

pub part_at : (trees k : ℕ) (ws : List ℕ) (at e : ℕ) (ps : List (List ℕ)) → at ≤ length ws → e ≡ part_end ws at → read_parts trees (suc k) (drop at ws) ≡ Some ps
    → PartAt trees k ws at e ps
part_at trees k ws at e ps h q r =
    let p = parts-step trees k (drop at ws) ps r in
    let n : get_or (drop at ws) 0 0 ≡ get_or ws at 0 = get_or-drop at ws 0 0 ∙ ap (λ (i : ℕ). get_or ws i 0) (add-zero at) in
    let one : drop 1 (drop at ws) ≡ drop (at + 1) ws = drop-drop 1 at ws in
    let sum : at + (1 + get_or (drop at ws) 0 0) ≡ e = omega arith in
    let after : drop (1 + get_or (drop at ws) 0 0) (drop at ws) ≡ drop e ws = drop-drop (1 + get_or (drop at ws) 0 0) at ws ∙ ap (λ (i : ℕ). drop i ws) sum in
    let text : take (get_or (drop at ws) 0 0) (drop 1 (drop at ws)) ≡ text_at ws at = rw (n, one) in
    record {
      fits = omega (arith, p.room, length-drop at ws);
      good = ap (good_part trees k) (sym text) ∙ p.good;
      later = p.later;
      rest = ap (read_parts trees k) (sym after) ∙ p.rest;
      is = p.is ∙ ap (λ (t : List ℕ). t ∷ p.later) text;
    }

-- no part more: the words are at their end
pub no-parts : (trees : ℕ) (ws : List ℕ) (at : ℕ) (ps : List (List ℕ)) → at ≤ length ws → read_parts trees 0 (drop at ws) ≡ Some ps → at ≡ length ws
no-parts trees ws at ps h e =
    let p = parts_none trees (drop at ws) ps e in
    let l : length (drop at ws) ≡ 0 = rw p.words in
    omega (arith, length-drop at ws)

before-rest : (ws rest : List ℕ) (at n : ℕ) → at + 1 + n ≤ length ws → all is_byte (take n (drop (at + 1) ws)) ≡ true
    → take n (drop (at + 1) (map low_byte ws ++ rest)) ≡ take n (drop (at + 1) ws)
before-rest ws rest at n h g =
    let l = length-map ws low_byte in
    let d : at + 1 ≤ length (map low_byte ws) = omega arith in
    let t : n ≤ length (drop (at + 1) (map low_byte ws)) = omega (arith, length-drop (at + 1) (map low_byte ws)) in
    rw (drop-append-le (at + 1) (map low_byte ws) rest d, take-append-le n (drop (at + 1) (map low_byte ws)) rest t, drop-map, take-map) (bytes_same (take n (drop (at + 1) ws)) g)

-- a text's words stand as bytes at the same indexes
pub text-bytes : (ws bs : List ℕ) (at e : ℕ) → Narrowed ws bs → e ≡ part_end ws at → e ≤ length ws → all is_byte (text_at ws at) ≡ true
    → take (e - (at + 1)) (drop (at + 1) bs) ≡ text_at ws at
text-bytes ws bs at e n q h g =
    let m : e - (at + 1) ≡ get_or ws at 0 = omega arith in
    let all : bs ≡ map low_byte ws ++ drop (length ws) bs = sym (take-append-drop (length ws) bs) ∙ ap (λ (l : List ℕ). l ++ drop (length ws) bs) n.same in
    rw m (ap (λ (l : List ℕ). take (get_or ws at 0) (drop (at + 1) l)) all ∙ before-rest ws (drop (length ws) bs) at (get_or ws at 0) (omega arith) g)

-- ---- a call

-- n words from the k-th on
abbrev pub spell : ℕ → ℕ → List ℕ → List ℕ
spell k zero ws = []
spell k (suc n) ws = get_or ws k 0 ∷ spell (suc k) n ws

spelled : (k n : ℕ) (ws : List ℕ) → k + n ≤ length ws → take n (drop k ws) ≡ spell k n ws
spelled k zero ws h = refl
spelled k (suc n) ws h = rw (drop-cons ws k 0 (omega arith)) (ap (λ (l : List ℕ). get_or ws k 0 ∷ l) (spelled (suc k) n ws (omega arith)))

pub spelled-all : (n : ℕ) (ws : List ℕ) → length ws ≡ n → ws ≡ spell 0 n ws
spelled-all n ws h = sym (take_all n ws (omega arith)) ∙ spelled 0 n ws (omega arith)

pub record Read (code : ℕ) (ws : List ℕ) : Type 0 where
  pub low : 1 ≤ code
  pub high : code ≤ length rows
  pub room : numbers_in code ≤ length ws
  pub parts : List (List ℕ)
  pub reads : read_parts (trees_in code) (parts_in code) (drop (numbers_in code) ws) ≡ Some parts
  pub is : read_call code ws ≡ Some (call_of (spell 0 (numbers_in code) ws) parts code)

pub some_of : {A : Type 0} (o : Option A) → is_some o ≡ true → (x : A) × (o ≡ Some x)
some_of None h = let z : ◌≡◌ {A = ℕ} 0 1 = cc in absurd (omega arith)
some_of (Some x) h = (x, refl)

pub read : (code : ℕ) (ws : List ℕ) → is_some (read_call code ws) ≡ true → Read code ws
read code ws h =
    let s = some_of (read_call code ws) h in
    let p = call-parts code ws s.0 s.1 in
    record {
      low = p.low;
      high = p.high;
      room = p.room;
      parts = p.parts;
      reads = p.reads;
      is = s.1 ∙ ap Some (p.is ∙ ap (λ (l : List ℕ). call_of l p.parts code) (spelled 0 (numbers_in code) ws (omega arith)));
    }
