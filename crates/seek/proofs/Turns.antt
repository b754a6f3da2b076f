-- What each loop keeps, and what it gives where it is left. Assumes nothing.
use Rattle.std.specs.Prelude.{None, Option, Some, option_map, Ok, Err, IsErrAnd, ok_or}
use Rattle.machine.specs.Answer.{Result, position}
use Rattle.machine.specs.declared.Refusal.{Refusal}
use Rattle.machine.specs.declared.Refusal.TheVariants.{NoPosition}
use Rattle.laws.specs.Exits.{ok-some, exit-none}
use Prim.Native.Nat.{ℕ, suc, ◌+◌, ◌-◌, ◌*◌, ◌/◌, ◌≤◌, ◌<◌}
use mathlib.Core.Path.{◌≡◌, refl, sym, ap, ◌∙◌}
use mathlib.Core.List.{List, [], ◌∷◌, append-nil}
use native.Mathlib.Nat.{add-zero, zero-add}
use native.Mathlib.Numerals.{add-one}
use native.Mathlib.Omega.{arith}
use lib.ListN.{length, drop, get_or, set, replicate, length-set, drop_of_length-le}
use lib.Seq.{drop-cons, drop-drop}
use borrow.Author.Tests.{le-ltb, lt-ltb, eq-eqb, ne_eqb}
use Rattle.machine.specs.Lists.{and_then}
use Rattle.machine.specs.Record.{Words}
use Rattle.machine.specs.Store.{records, chunks}
use Rattle.machine.specs.declared.RecordNumbers.{RecordNumbers}
use Rattle.laws.specs.Lists.{and-then}
use Rattle.laws.specs.Grouped.{flats-kinds}
use Rattle.laws.specs.Layout.{records-read, read-parts, read_length, length-parts}
use Rattle.seek.specs.Seek.{Good, Within, held, record_at, records_in, descendants, child, at_child, child_start, to_end, child_span, part_in, part_of, atom_records, span, five_numbers}
use Rattle.seek.proofs.Below.{records_in-cons, record-kind, records_in-nil, child-pass, child-next, child-here, child-low, child-nil, child-below, descendants-over, span_in, span-machine}
use Rattle.seek.proofs.Laws.{records-count}
use Rattle.seek.specs.declared.Part.{Part}

-- ---- end_of

pub record Ran (w : List ℕ) (from end h at : ℕ) : Type 0 where
  pub high : at ≤ end
  pub same : from + descendants h (records_in from end w) ≡ at + descendants h (records_in at end w)

pub ran-begin : (w : List ℕ) (from end h : ℕ) → Within from end w → Ran w from end h from
ran-begin w from end h i = record { high = i.order; same = refl }

module _ (w : List ℕ) (from end h at : ℕ) (s : Ran w from end h at) where
  pub ran_on : at < end → h < get_or w (at * 12) 0 → Ran w from end h (at + 1)
  unfolding descendants
  ran_on l k =
      record {
        high = omega arith;
        same = s.same ∙ rw (records_in-cons w end at l, record-kind w at, lt-ltb h (get_or w (at * 12) 0) k) (omega arith);
      }

  pub ran-stop : at < end → get_or w (at * 12) 0 ≤ h → at ≡ from + descendants h (records_in from end w)
  unfolding descendants
  ran-stop l k = sym (s.same ∙ rw (records_in-cons w end at l, record-kind w at, le-ltb h (get_or w (at * 12) 0) k, add-zero))

  pub ran-end : end ≤ at → at ≡ from + descendants h (records_in from end w)
  unfolding descendants
  ran-end l = sym (s.same ∙ rw (records_in-nil w end at l, add-zero))

-- ---- start_of

pub record Sought (w : List ℕ) (from end h i at left : ℕ) : Type 0 where
  pub high : at ≤ end
  pub same : child_start h i from (records_in from end w) ≡ child_start h left at (records_in at end w)

pub sought-begin : (w : List ℕ) (from end h i : ℕ) → Within from end w → Sought w from end h i from i
sought-begin w from end h i b = record { high = b.order; same = refl }

module _ (w : List ℕ) (from end h i at left : ℕ) (s : Sought w from end h i at left) where
  pub sought-out : end ≤ at → None ≡ child_start h i from (records_in from end w)
  sought-out l = rw (s.same, records_in-nil w end at l, child-nil h (λ m after. Some m) left at)

  module _ (l : at < end) where
    -- the search from the record at hand on
    from-here : child_start h i from (records_in from end w) ≡ child_start h left at (record_at at w ∷ records_in (at + 1) end w)
    from-here = s.same ∙ ap (child_start h left at) (records_in-cons w end at l)

    pub sought-pass : h ≤ get_or w (at * 12) 0 → (get_or w (at * 12) 0 ≡ h → ⊥) → Sought w from end h i (at + 1) left
    sought-pass k n =
        let e = record-kind w at in
        record { high = omega arith; same = from-here ∙ rw add-one (child-pass h (λ m after. Some m) left at (record_at at w) (records_in (suc at) end w) (omega arith)) }

    pub sought-next : get_or w (at * 12) 0 ≡ h → (left ≡ 0 → ⊥) → Sought w from end h i (at + 1) (left - 1)
    sought-next k n =
        let q : left ≡ suc (left - 1) = omega arith in
        record {
          high = omega arith;
          same = from-here ∙ ap (λ (x : ℕ). child_start h x at (record_at at w ∷ records_in (at + 1) end w)) q ∙ rw add-one (child-next h (λ m after. Some m) (left - 1) at (record_at at w) (records_in (suc at) end w) (record-kind w at ∙ k));
        }

    pub sought-low : get_or w (at * 12) 0 < h → None ≡ child_start h i from (records_in from end w)
    sought-low k =
        let e = record-kind w at in
        rw (from-here, child-low h (λ m after. Some m) left at (record_at at w) (records_in (at + 1) end w) (omega arith))

    pub sought-here : get_or w (at * 12) 0 ≡ h → left ≡ 0 → Some at ≡ child_start h i from (records_in from end w)
    sought-here k z =
        sym
        (from-here ∙ ap (λ (x : ℕ). child_start h x at (record_at at w ∷ records_in (at + 1) end w)) z ∙ child-here h (λ m after. Some m) at (record_at at w) (records_in (at + 1) end w) (record-kind w at ∙ k))

-- ---- what start_of finds

-- the record found, by its offset
pub record Met (h i from end : ℕ) (w : List ℕ) (at : ℕ) : Type 0 where
  pub offset : ℕ
  pub found : child h i (records_in from end w) ≡ Some offset
  pub number : from + offset ≡ at
  pub below : at < end

module _ (w : List ℕ) (h i from end : ℕ) where
  pub met : (r : Option ℕ) (at : ℕ) → Within from end w → r ≡ child_start h i from (records_in from end w) → r ≡ Some at → Met h i from end w at
  met r at b e m = go (child h i (records_in from end w)) refl (sym e ∙ m)
    where
      go : (c : Option ℕ) → child h i (records_in from end w) ≡ c → (and_then c (λ o. Some (from + o))) ≡ Some at → Met h i from end w at
      go None q p = let z : ◌≡◌ {A = ℕ} 0 1 = cc in absurd (omega arith)
      go (Some o) q p = let n : from + o ≡ at = cc in record { offset = o; found = q; number = n; below = omega (arith, child-below w h i from end o b q) }

  pub unmet : {A : Type 0} (f : ℕ → List Words → Option A) → (child_start h i from (records_in from end w)) ≡ None → at_child h i f from (records_in from end w) ≡ None
  unmet {A} f e = go (child h i (records_in from end w)) e
    where
      go : (c : Option ℕ) → (and_then c (λ o. Some (from + o))) ≡ None → and_then c (λ o. f (from + o) (drop (suc o) (records_in from end w))) ≡ None
      go None p = refl
      go (Some o) p = let z : ◌≡◌ {A = ℕ} 0 1 = cc in absurd (omega arith)

  pub met-is : {A : Type 0} (f : ℕ → List Words → Option A) (at : ℕ) → Met h i from end w at → at_child h i f from (records_in from end w) ≡ f at (records_in (at + 1) end w)
  met-is f at m =
      let q : from + suc m.offset ≡ at + 1 = omega (arith, m.number) in
      rw (m.found, drop-drop (suc m.offset) from (chunks end w), q, m.number)

-- ---- child

pub child-missing : (w : List ℕ) (h i from end : ℕ) (r : Option ℕ) → r ≡ child_start h i from (records_in from end w) → r ≡ None
    → None ≡ child_span h i from (records_in from end w)
child-missing w h i from end r e m = rw (unmet w h i from end (to_end h) (sym e ∙ m))

pub after-child : (w : List ℕ) (h i from end : ℕ) (r : Option ℕ) (at : ℕ) → Within from end w → r ≡ child_start h i from (records_in from end w) → r ≡ Some at
    → Within (at + 1) end w
after-child w h i from end r at b e m = record { order = omega (arith, (met w h i from end r at b e m).below); room = b.room }

pub child-is : (w : List ℕ) (h i from end : ℕ) (r : Option ℕ) (at stop : ℕ) → Within from end w → r ≡ child_start h i from (records_in from end w) → r ≡ Some at → stop ≡ at + 1 + descendants h (records_in (at + 1) end w)
    → (Some (at, stop)) ≡ child_span h i from (records_in from end w)
child-is w h i from end r at stop b c d e =
    let m = met w h i from end r at b c d in
    let q : stop ≡ suc at + descendants h (records_in (at + 1) end w) = e ∙ ap (λ (x : ℕ). x + descendants h (records_in (at + 1) end w)) (add-one at) in
    rw (met-is w h i from end (to_end h) at m, q)

-- ---- record_count

module _ (w : List ℕ) (g : Good w) where
  pub good_length_lem : 1 ≤ length w
  good_length_lem = (length-parts (length w) (read_length w (held w) g)).0

  pub count-is : get_or w (length w - 1) 0 / 12 ≡ length (records (held w))
  count-is = sym (records-count w (held w) g)

-- ---- follow

pub record Following (w pos : List ℕ) (count level at : ℕ) (path : List ℕ) : Type 0 where
  pub room : count * 12 ≤ length w
  pub high : at ≤ count
  pub deep : level ≤ length pos
  pub five : length path ≡ 5
  pub same : part_of pos (held w) ≡ part_in level path (drop level pos) at (records_in at count w)

module _ (w pos : List ℕ) (count : ℕ) (g : Good w) (all : count ≡ length (records (held w))) where
  pub follow-begin : Following w pos count 0 0 (replicate {A = ℕ} 5 0)
  follow-begin =
      let q = all ∙ records-count w (held w) g in
      let p = (read-parts w (held w) g).low in
      let r : records (held w) ≡ chunks count w = records-read w (held w) g ∙ ap (λ (n : ℕ). chunks n w) (sym q) in
      record { room = omega arith; high = omega arith; deep = omega arith; five = refl; same = ap (part_in 0 (replicate {A = ℕ} 5 0) pos 0) r }

  -- with no index, all records are below
  pub follow-whole : length pos ≡ 0 → (path : RecordNumbers) → path ≡ five_numbers (replicate {A = ℕ} 5 0)
      → Some (record { from = 0; end = count; depth = 0; path = path }) ≡ part_of pos (held w)
  unfolding part_in
  follow-whole e path f =
      let d : 0 + descendants 0 (records (held w)) ≡ count = zero-add _ ∙ rw append-nil at (descendants-over 0 (records (held w)) [] (flats-kinds 0 4 (omega arith) (held w)) tt) ∙ sym all in
      let z : length pos ≤ 0 = omega arith in
      let n : pos ≡ [] = drop_of_length-le pos z in
      rw (n, f, d)

-- the way on from a record at the index of a level
abbrev onward : ℕ → List ℕ → List ℕ → ℕ → List Words → Option Part
onward level path pos m after = part_in (level + 1) (set path level m) (drop (level + 1) pos) (suc m) after

module _ (w pos : List ℕ) (count level at : ℕ) (path : List ℕ) (s : Following w pos count level at path) where
  pub following-within : Within at count w
  following-within = record { order = s.high; room = s.room }

  -- one index more
  one_index : level < length pos → part_of pos (held w) ≡ at_child (level + 1) (get_or pos level 0) (onward level path pos) at (records_in at count w)
  unfolding part_in
  one_index l = s.same ∙ rw (drop-cons pos level 0 l, add-one)

  pub following-below : (r : Option ℕ) (number : ℕ) → r ≡ child_start (level + 1) (get_or pos level 0) at (records_in at count w) → r ≡ Some number
      → Met (level + 1) (get_or pos level 0) at count w number
  following-below r number e q = met w (level + 1) (get_or pos level 0) at count r number following-within e q

  pub following-on : (r : Option ℕ) (number : ℕ) → level < length pos → r ≡ child_start (level + 1) (get_or pos level 0) at (records_in at count w) → r ≡ Some number
      → Following w pos count (level + 1) (number + 1) (set path level number)
  following-on r number l e q =
      let m = following-below r number e q in
      let b = m.below in
      record {
        room = s.room;
        high = omega arith;
        deep = omega arith;
        five = length-set path level number ∙ s.five;
        same = one_index l ∙ met-is w (level + 1) (get_or pos level 0) at count (onward level path pos) number m ∙ ap (λ (x : ℕ). part_in (level + 1) (set path level number) (drop (level + 1) pos) x (records_in (number + 1) count w)) (sym (add-one number));
      }

  pub following-missing : (r : Option ℕ) → level < length pos → r ≡ child_start (level + 1) (get_or pos level 0) at (records_in at count w) → r ≡ None
      → None ≡ part_of pos (held w)
  following-missing r l e m =
      sym (one_index l ∙ unmet w (level + 1) (get_or pos level 0) at count (onward level path pos) (sym e ∙ m))

  pub following-end : (stop : ℕ) (numbers : RecordNumbers) → length pos ≤ level → stop ≡ at + descendants level (records_in at count w) → numbers ≡ five_numbers path
      → Some (record { from = at; end = stop; depth = level; path = numbers }) ≡ part_of pos (held w)
  unfolding part_in
  following-end stop numbers l e f = rw (s.same, drop_of_length-le pos l, e, f)

-- ---- locate

abbrev around : Part → ℕ × ℕ
around p = (p.from - 1, p.end)

span-part : (g : ℕ) (path pos : List ℕ) (n : ℕ) (rs : List Words) → span_in g pos n rs ≡ option_map around (part_in g path pos n rs)
unfolding span_in part_in
span-part g path [] n rs = refl
span-part g path (i ∷ is) n rs = go (λ m after. span-part (suc g) (set path g m) is (suc m) after) (child (suc g) i rs)
  where
    go : ((m : ℕ) (after : List Words) → span_in (suc g) is (suc m) after ≡ option_map around (part_in (suc g) (set path g m) is (suc m) after)) → (c : Option ℕ)
        → and_then c (λ o. span_in (suc g) is (suc (n + o)) (drop (suc o) rs)) ≡ option_map around (and_then c (λ o. part_in (suc g) (set path g (n + o)) is (suc (n + o)) (drop (suc o) rs)))
    go below None = refl
    go below (Some o) = below (n + o) (drop (suc o) rs)

-- each index leads past a record, and a level down
pub record Led (g : ℕ) (pos : List ℕ) (n : ℕ) (p : Part) : Type 0 where
  pub past : n + length pos ≤ p.from
  pub depth : p.depth ≡ g + length pos

pub part-led : (g : ℕ) (path pos : List ℕ) (n : ℕ) (rs : List Words) (p : Part) → part_in g path pos n rs ≡ Some p → Led g pos n p
unfolding part_in
part-led g path [] n rs p e =
    let f : n ≡ p.from = cc in
    let d : g ≡ p.depth = cc in
    record { past = omega arith; depth = omega arith }
part-led g path (i ∷ is) n rs p e =
    let v = and-then (child (suc g) i rs) (λ o. part_in (suc g) (set path g (n + o)) is (suc (n + o)) (drop (suc o) rs)) p e in
    let l = part-led (suc g) (set path g (n + v.0)) is (suc (n + v.0)) (drop (suc v.0) rs) p v.2 in
    record { past = omega (arith, l.past); depth = omega (arith, l.depth) }

module _ (w pos : List ℕ) (lo : 1 ≤ length pos) (hi : length pos ≤ 5) (r : Option Part) (e : r ≡ part_of pos (held w)) where
  is-span : span pos (held w) ≡ option_map around (part_of pos (held w))
  is-span = sym (span-machine pos (held w) lo hi) ∙ span-part 0 (replicate {A = ℕ} 5 0) pos 0 (records (held w))

  module _ (q : Result Part) (h : q ≡ ok_or r NoPosition) where
    pub locate-missing : (y : Refusal) → q ≡ Err y → (a : Result (ℕ × ℕ)) → IsErrAnd a (λ z. z ≡ y) → a ≡ position (span pos (held w))
    locate-missing y f a i =
        let x = exit-none r q NoPosition y a h f i in
        x.1 ∙ sym (ap position (is-span ∙ ap (option_map around) (sym e ∙ x.0)))

    module _ (p : Part) (f : q ≡ Ok p) where
      part-is : part_of pos (held w) ≡ Some p
      part-is = sym e ∙ ok-some r q NoPosition p h f

      pub locate-low : 1 ≤ p.from
      locate-low = omega (arith, (part-led 0 (replicate {A = ℕ} 5 0) pos 0 (records (held w)) p part-is).past)

      pub locate-is : Ok (p.from - 1, p.end) ≡ position (span pos (held w))
      locate-is = sym (ap position (is-span ∙ ap (option_map around) part-is))

-- ---- atoms_in

pub record Counted (w : List ℕ) (from end atoms at : ℕ) : Type 0 where
  pub high : at ≤ end
  pub few : atoms ≤ at
  pub total : atom_records (records_in from end w) ≡ atoms + atom_records (records_in at end w)

pub count-begin : (w : List ℕ) (from end : ℕ) → Within from end w → Counted w from end 0 from
count-begin w from end b = record { high = b.order; few = omega arith; total = sym (zero-add _) }

module _ (w : List ℕ) (from end atoms at : ℕ) (s : Counted w from end atoms at) where
  pub count-one : at < end → get_or w (at * 12) 0 ≡ 5 → Counted w from end (atoms + 1) (at + 1)
  unfolding atom_records
  count-one l k =
      let f = s.few in
      record {
        high = omega arith;
        few = omega arith;
        total = s.total ∙ rw (records_in-cons w end at l, record-kind w at, eq-eqb (get_or w (at * 12) 0) 5 k) (omega arith);
      }

  pub count_none : at < end → (get_or w (at * 12) 0 ≡ 5 → ⊥) → Counted w from end atoms (at + 1)
  unfolding atom_records
  count_none l k =
      let f = s.few in
      record {
        high = omega arith;
        few = omega arith;
        total = s.total ∙ rw (records_in-cons w end at l, record-kind w at, ne_eqb (get_or w (at * 12) 0) 5 k) (omega arith);
      }

  pub count-end : end ≤ at → atoms ≡ atom_records (records_in from end w)
  unfolding atom_records
  count-end l = sym (s.total ∙ rw (records_in-nil w end at l, add-zero))
