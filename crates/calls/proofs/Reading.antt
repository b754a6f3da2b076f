-- Reading from the front: a list of calls, a call, its parts. Assumes nothing.
use Rattle.std.proofs.lemmas.Option.{same_Some, none-some}
use Rattle.std.specs.Prelude.{None, Option, Some, option_map}
use Prim.Native.Nat.{ℕ, zero, suc, ◌+◌, ◌≤◌, ◌<◌}
use mathlib.Core.Path.{◌≡◌, refl, sym, ◌∙◌}
use mathlib.Core.Bool.{Bool, true, false, ◌&&◌, cond}
use mathlib.Core.List.{List, [], ◌∷◌}
use native.Mathlib.Omega.{arith}
use lib.ListN.{length, get_or, take, drop, length-drop}
use lib.Dec.{leb, leb-suc-suc}
use borrow.Author.Tests.{leb-true}
use Rattle.machine.specs.Lists.{and_then}
use Rattle.machine.specs.Edit.{Call}
use Rattle.laws.specs.Lists.{and_both, and-then}
use Rattle.calls.specs.Format.{rows, is_code, numbers_in, trees_in, parts_in, call_of, good_part, read_parts, read_call, longest, calls_in, read_calls}

picked : {A : Type 0} (b : Bool) (o : Option A) (x : A) → cond b o None ≡ Some x → (b ≡ true) × (o ≡ Some x)
picked true o x e = (refl, e)
picked false o x e = let z : ◌≡◌ {A = ℕ} 0 1 = cc in absurd (omega arith)

mapped : {A B : Type 0} (f : A → B) (o : Option A) (y : B) → option_map f o ≡ Some y → (x : A) × (o ≡ Some x) × (f x ≡ y)
mapped f None y e = absurd (none-some y e)
mapped f (Some x) y e = (x, refl, same_Some (f x) y e)

-- ---- a call's parts

pub parts-fold : (trees k : ℕ) (ws : List ℕ)
    → read_parts trees (suc k) ws
    ≡ cond (leb (1 + get_or ws 0 0) (length ws) && good_part trees k (take (get_or ws 0 0) (drop 1 ws)))
    (option_map (λ (ps : List (List ℕ)). take (get_or ws 0 0) (drop 1 ws) ∷ ps) (read_parts trees k (drop (1 + get_or ws 0 0) ws)))
    None
unfolding read_parts
parts-fold trees k [] = refl
parts-fold trees k (n ∷ ws) = let e : 1 + n ≡ suc n = omega arith in rw (e, leb-suc-suc n (length ws))

-- the first of k + 1 parts: its length, then its words
pub record FirstPart (trees k : ℕ) (ws : List ℕ) (ps : List (List ℕ)) : Type 0 where
  pub room : 1 + get_or ws 0 0 ≤ length ws
  pub good : good_part trees k (take (get_or ws 0 0) (drop 1 ws)) ≡ true
  pub later : List (List ℕ)
  pub rest : read_parts trees k (drop (1 + get_or ws 0 0) ws) ≡ Some later
  pub is : ps ≡ take (get_or ws 0 0) (drop 1 ws) ∷ later

pub parts-step : (trees k : ℕ) (ws : List ℕ) (ps : List (List ℕ)) → read_parts trees (suc k) ws ≡ Some ps → FirstPart trees k ws ps
parts-step trees k ws ps e =
    let p = picked _ _ ps (sym (parts-fold trees k ws) ∙ e) in
    let b = and_both _ _ p.0 in
    let m = mapped _ _ _ p.1 in
    record { room = leb-true _ _ b.0; good = b.1; later = m.0; rest = m.1; is = sym m.2 }

pub record NoParts (ws : List ℕ) (ps : List (List ℕ)) : Type 0 where
  pub words : ws ≡ []
  pub parts : ps ≡ []

pub parts_none : (trees : ℕ) (ws : List ℕ) (ps : List (List ℕ)) → read_parts trees 0 ws ≡ Some ps → NoParts ws ps
unfolding read_parts
parts_none trees [] ps e = record { words = refl; parts = cc }
parts_none trees (w ∷ ws) ps e = let z : ◌≡◌ {A = ℕ} 0 1 = cc in absurd (omega arith)

-- ---- a call

pub call-fold : (code : ℕ) (ws : List ℕ)
    → read_call code ws
    ≡ cond (is_code code && leb (numbers_in code) (length ws))
    (option_map (λ (ps : List (List ℕ)). call_of (take (numbers_in code) ws) ps code) (read_parts (trees_in code) (parts_in code) (drop (numbers_in code) ws)))
    None
unfolding read_call
call-fold code ws = refl

-- its code, its numbers and its parts
pub record CallParts (code : ℕ) (ws : List ℕ) (c : Call) : Type 0 where
  pub low : 1 ≤ code
  pub high : code ≤ length rows
  pub room : numbers_in code ≤ length ws
  pub parts : List (List ℕ)
  pub reads : read_parts (trees_in code) (parts_in code) (drop (numbers_in code) ws) ≡ Some parts
  pub is : c ≡ call_of (take (numbers_in code) ws) parts code

pub call-parts : (code : ℕ) (ws : List ℕ) (c : Call) → read_call code ws ≡ Some c → CallParts code ws c
call-parts code ws c e =
    let p = picked _ _ c (sym (call-fold code ws) ∙ e) in
    let b = and_both _ _ p.0 in
    let d = and_both _ _ b.0 in
    let m = mapped _ _ _ p.1 in
    record {
      low = leb-true _ _ d.0;
      high = leb-true _ _ d.1;
      room = leb-true _ _ b.1;
      parts = m.0;
      reads = m.1;
      is = sym m.2;
    }

-- ---- a list of calls

-- more steps than words change nothing
enough : (a b : ℕ) (ws : List ℕ) → length ws ≤ a → length ws ≤ b → calls_in a ws ≡ calls_in b ws
unfolding calls_in
enough zero zero ws h g = refl
enough zero (suc b) [] h g = refl
enough zero (suc b) (w ∷ ws) h g = absurd (omega arith)
enough (suc a) zero [] h g = refl
enough (suc a) zero (w ∷ ws) h g = absurd (omega arith)
enough (suc a) (suc b) [] h g = refl
enough (suc a) (suc b) (w ∷ ws) h g =
    let vs = drop (2 + get_or ws 0 0) (w ∷ ws) in
    let l = length-drop (2 + get_or ws 0 0) (w ∷ ws) in
    simp (enough a b vs (omega arith) (omega arith))

pub calls-none : read_calls [] ≡ Some []
unfolding calls_in
calls-none = refl

pub calls-fold : (ws : List ℕ) → 0 < length ws
    → read_calls ws
    ≡ cond (leb (2 + get_or ws 1 0) (length ws) && leb (get_or ws 1 0) longest)
    (and_then (read_call (get_or ws 0 0) (take (get_or ws 1 0) (drop 2 ws))) (λ (c : Call). option_map (λ (cs : List Call). c ∷ cs) (read_calls (drop (2 + get_or ws 1 0) ws))))
    None
unfolding calls_in
calls-fold [] h = absurd (omega arith)
calls-fold (w ∷ ws) h =
    let vs = drop (2 + get_or ws 0 0) (w ∷ ws) in
    let l = length-drop (2 + get_or ws 0 0) (w ∷ ws) in
    simp (enough (length ws) (length vs) vs (omega arith) (omega arith))

-- the first call: its code, the number of words behind its header, and these
pub record FirstCall (ws : List ℕ) (cs : List Call) : Type 0 where
  pub room : 2 + get_or ws 1 0 ≤ length ws
  pub short : get_or ws 1 0 ≤ 1024
  pub call : Call
  pub reads : read_call (get_or ws 0 0) (take (get_or ws 1 0) (drop 2 ws)) ≡ Some call
  pub later : List Call
  pub rest : read_calls (drop (2 + get_or ws 1 0) ws) ≡ Some later
  pub is : cs ≡ call ∷ later

pub calls-step : (ws : List ℕ) (cs : List Call) → read_calls ws ≡ Some cs → 0 < length ws → FirstCall ws cs
calls-step ws cs e h =
    let p = picked _ _ cs (sym (calls-fold ws h) ∙ e) in
    let b = and_both _ _ p.0 in
    let t = and-then _ _ cs p.1 in
    let m = mapped _ _ _ t.2 in
    record {
      room = leb-true _ _ b.0;
      short = leb-true _ _ b.1;
      call = t.0;
      reads = t.1;
      later = m.0;
      rest = m.1;
      is = sym m.2;
    }
