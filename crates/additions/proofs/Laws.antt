-- What each loop keeps, and what each return gives. Assumes nothing.
use Rattle.std.specs.Prelude.{Err, Ok, Some}
use Prim.Native.Nat.{ℕ, ◌+◌, ◌-◌, ◌*◌, ◌≤◌, ◌<◌}
use mathlib.Core.Path.{◌≡◌, refl, sym, ap, ◌∙◌, subst}
use mathlib.Core.Bool.{Bool, true, false, ◌&&◌}
use mathlib.Core.List.{List, [], ◌∷◌, ◌++◌, append-nil}
use native.Mathlib.Omega.{arith}
use lib.ListN.{length, take, drop, set, replicate, length-append, length-take, length-drop, length-replicate}
use lib.Seq.{take_at, drop_at, length-take-le, take_all}
use lib.Dec.{leb}
use borrow.Author.Tests.{le-leb, lt-leb}
use Rattle.machine.specs.Lists.{concat_map}
use Rattle.machine.specs.Answer.{Result, edited_numbers, position}
use Rattle.machine.specs.Text.{Optional, chain_id, insertion_code, conformer_name, alternative_location, atom_name, optional}
use Rattle.machine.specs.Record.{Words, words, finite, good_values}
use Rattle.machine.specs.Store.{Branch, Machine, flat, records, stored, capacity, laid, lay_out, records_of}
use Rattle.machine.specs.Edit.{Addition, addition, named_atom, new_atom, accept, prepare, into_chains, replace_at, fits, add_model, add_prepared, Change, step_by}
use Rattle.machine.specs.declared.NewAtom.{NewAtom}
use Rattle.machine.specs.declared.Prepared.{Prepared}
use Rattle.machine.specs.declared.PreparedAddition.{PreparedAddition}
use Rattle.machine.specs.declared.Name.{Name}
use Rattle.machine.specs.declared.Name.TheVariants.{ChainId, InsertionCode, ConformerName, AlternativeLocation, AtomName}
use Rattle.machine.specs.declared.Refusal.{Refusal}
use Rattle.machine.specs.declared.Refusal.TheVariants.{NoPosition, BadValue, NoCapacity}
use Rattle.laws.specs.Exits.{placed, nowhere}
use Rattle.laws.specs.Lists.{All-append, All-left, All-right, sum-append}
use Rattle.laws.specs.Grouped.{concat, concat-length, twelve-words}
use Rattle.laws.specs.Layout.{laid-length, lay_out-read, records_of-lay_out, read_length, read-parts, records-read, length-parts}
use Rattle.moves.specs.Over.{over, gapped, Twelve}
use Rattle.moves.proofs.Laws.{over-at}
use Rattle.moves.proofs.Records.{twelve-take, twelve-drop, blank, blank-twelve, insert-laid, write-laid, drop-records}
use Rattle.seek.specs.Seek.{held, Good, Within, records_in, is_atom, atom_records, span}
use Rattle.seek.proofs.Below.{records_in-cons}
use Rattle.seek.proofs.Laws.{records-count, atom_records-stored, Stands, stands, missing, stands-within, stands_records}
use Rattle.insertion.specs.Cursor.{Valid, Lands, column, Grown, Advances}
use Rattle.insertion.specs.Pick.{keys_of, spot_in, found_of}
use Rattle.insertion.specs.declared.Cursor as Cursor
use Rattle.insertion.specs.declared.Spot as Spot
use Rattle.insertion.proofs.Spans.{model-inside, model-span}
use Rattle.additions.specs.Add.{column_words, put}
use Rattle.additions.proofs.Column.{Ins, puts-chains, ins-machine, ins-model}

-- ---- new records in a store

-- new records at record x, in a store that holds others
put-laid : (n x : ℕ) (rs new : List Words) → Twelve rs → Twelve new → x ≤ length rs → 12 * (length rs + length new) < n
    → put x (length rs) (concat new) (laid n (concat rs)) ≡ laid n (concat (take x rs ++ (new ++ drop x rs)))
unfolding put
put-laid n x rs new t tn h f =
    let m : ℕ = length new in
    let l : length (concat new) ≡ 12 * m = concat-length new tn in
    let all : length (concat rs) ≡ 12 * length rs = concat-length rs t in
    let gap : List Words = take x rs ++ (blank m ++ drop x rs) in
    let tg : Twelve gap = All-append _ (take x rs) _ (twelve-take x rs t) (All-append _ (blank m) _ (blank-twelve m) (twelve-drop x rs t)) in
    let q : 12 * length rs + 12 * m ≡ 12 * (length rs + m) = omega arith in
    let room : length gap ≡ length rs + m = simp (length-append, length-take, length-drop, length-replicate) (omega arith) in
    let low : length (take x rs) ≡ x = length-take-le x rs h in
    let o : over x new gap ≡ take x rs ++ (new ++ drop x rs) =
    over-at (take x rs) (blank m) (drop x rs) x (x + m) low (ap (λ (k : ℕ). x + k) (length-replicate m (replicate 12 0))) new (sym (length-replicate m (replicate 12 0))) in
    rw (laid-length n (concat rs) (omega arith), l, q, insert-laid n rs t x m h f, write-laid n gap tg new x tn (omega arith), o)

-- the machine that is written, where records are put in
module _ (w : List ℕ) (g : Good w) (m : Machine) (at : ℕ) (new : List Words) (s : Ins 4 (held w) m 0 at new) where
  -- where they go, and how many there are then
  put_low : at ≤ length (records (held w))
  put_low = omega (arith, s.number, ap length s.was, length-append s.pre s.post)

  grown : length (records m) ≡ length (records (held w)) + length new
  grown =
      omega (arith, ap length s.was, length-append s.pre s.post, ap length s.is, length-append s.pre (new ++ s.post), length-append new s.post)

  -- "an addition gives removed 0"
  kept-atoms : stored (held w) - stored m ≡ 0
  unfolding atom_records
  kept-atoms =
      omega (
        arith,
        atom_records-stored (held w),
        atom_records-stored m,
        ap atom_records s.was,
        sum-append is_atom s.pre s.post,
        ap atom_records s.is,
        sum-append is_atom s.pre (new ++ s.post),
        sum-append is_atom new s.post,
      )

  put_full : (step : Machine → Result Change) → step (held w) ≡ fits (length w) m → (x y : ℕ) → x ≡ capacity (length w) → y ≡ length (records (held w)) + length new → x < y
      → (edited_numbers (Err NoCapacity), w) ≡ step_by w step
  unfolding step_by
  put_full step a x y e f l = rw (g, a, lt-leb (length (records m)) (capacity (length w)) (omega (arith, grown)))

  new-twelve : Twelve new
  new-twelve = All-left _ new s.post (All-right _ s.pre (new ++ s.post) (subst Twelve s.is (twelve-words m)))

  put-fits : (x y : ℕ) → x ≡ capacity (length w) → y ≡ length (records (held w)) + length new → y ≤ x → 12 * length (records m) < length w
  put-fits x y e f l = omega (arith, grown, (length-parts (length w) (read_length w (held w) g)).0)

  put-words : 12 * length (records m) < length w → put at (length (records (held w))) (concat new) w ≡ lay_out (length w) m
  unfolding lay_out
  put-words h =
      let rs = records (held w) in
      let a = s.number in
      let p : length s.pre ≡ at = omega arith in
      let front : take at rs ≡ s.pre = ap (take at) s.was ∙ take_at s.pre s.post at p in
      let back : drop at rs ≡ s.post = ap (drop at) s.was ∙ drop_at s.pre s.post at p in
      ap (put at (length rs) (concat new)) (sym (lay_out-read w (held w) g))
      ∙ put-laid (length w) at rs new (twelve-words (held w)) new-twelve put_low (omega (arith, grown))
      ∙ rw (front, back, s.is)

  put-done : (step : Machine → Result Change) → step (held w) ≡ fits (length w) m → (x y : ℕ) (s' : List ℕ) → x ≡ capacity (length w) → y ≡ length (records (held w)) + length new → y ≤ x → s' ≡ put at (length (records (held w))) (concat new) w
      → (edited_numbers (Ok (record { found = 1; removed = 0 })), s') ≡ step_by w step
  unfolding step_by
  put-done step a x y s' e f l q =
      rw (g, a, le-leb (length (records m)) (capacity (length w)) (omega (arith, grown)), kept-atoms, q, put-words (put-fits x y e f l))

  put-grown : (x y : ℕ) (s' : List ℕ) → x ≡ capacity (length w) → y ≡ length (records (held w)) + length new → y ≤ x → s' ≡ put at (length (records (held w))) (concat new) w
      → Grown at new w s'
  put-grown x y s' e f l q =
      let h = put-fits x y e f l in
      let a = s.number in
      record {
        front = s.pre;
        back = s.post;
        was = sym (records-read w (held w) g) ∙ s.was;
        is = ap records_of (q ∙ put-words h) ∙ records_of-lay_out (length w) m h ∙ s.is;
        number = omega arith;
      }

-- ---- prepare

-- what is accepted of a name that was prepared
taken : (n : Name) {p q : Prepared} {r s : Result ℕ} → p ≡ q → r ≡ accept n p → r ≡ s → accept n q ≡ s
taken n d f e = ap (accept n) (sym d) ∙ sym f ∙ e

-- the first name that is bad, and all five: p is a name prepared, r what is accepted of it
module _ (chain : List ℕ) (residue : ℕ) (code : Optional) (conformer : List ℕ) (location : Optional) (name : List ℕ) (v : NewAtom)
    (p₁ : Prepared) (r₁ : Result ℕ) (d₁ : p₁ ≡ chain_id chain) (f₁ : r₁ ≡ accept ChainId p₁) where
  abbrev asked : Addition
  asked = addition chain residue code conformer location name v

  pub bad-chain : (x : Refusal) → r₁ ≡ Err x → Err x ≡ prepare asked
  unfolding prepare
  bad-chain x b = rw (taken ChainId d₁ f₁ b)

  module _ (w₁ : ℕ) (e₁ : r₁ ≡ Ok w₁) (p₂ : Prepared) (r₂ : Result ℕ) (d₂ : p₂ ≡ optional insertion_code code) (f₂ : r₂ ≡ accept InsertionCode p₂) where
    c₁ : accept ChainId (chain_id chain) ≡ Ok w₁
    c₁ = taken ChainId d₁ f₁ e₁

    pub bad-code : (x : Refusal) → r₂ ≡ Err x → Err x ≡ prepare asked
    unfolding prepare
    bad-code x b = rw (c₁, taken InsertionCode d₂ f₂ b)

    module _ (w₂ : ℕ) (e₂ : r₂ ≡ Ok w₂) (p₃ : Prepared) (r₃ : Result ℕ) (d₃ : p₃ ≡ conformer_name conformer) (f₃ : r₃ ≡ accept ConformerName p₃) where
      c₂ : accept InsertionCode (optional insertion_code code) ≡ Ok w₂
      c₂ = taken InsertionCode d₂ f₂ e₂

      pub bad-conformer : (x : Refusal) → r₃ ≡ Err x → Err x ≡ prepare asked
      unfolding prepare
      bad-conformer x b = rw (c₁, c₂, taken ConformerName d₃ f₃ b)

      module _ (w₃ : ℕ) (e₃ : r₃ ≡ Ok w₃) (p₄ : Prepared) (r₄ : Result ℕ) (d₄ : p₄ ≡ optional alternative_location location) (f₄ : r₄ ≡ accept AlternativeLocation p₄) where
        c₃ : accept ConformerName (conformer_name conformer) ≡ Ok w₃
        c₃ = taken ConformerName d₃ f₃ e₃

        pub bad-location : (x : Refusal) → r₄ ≡ Err x → Err x ≡ prepare asked
        unfolding prepare
        bad-location x b = rw (c₁, c₂, c₃, taken AlternativeLocation d₄ f₄ b)

        module _ (w₄ : ℕ) (e₄ : r₄ ≡ Ok w₄) (p₅ : Prepared) (r₅ : Result ℕ) (d₅ : p₅ ≡ atom_name name) (f₅ : r₅ ≡ accept AtomName p₅) where
          c₄ : accept AlternativeLocation (optional alternative_location location) ≡ Ok w₄
          c₄ = taken AlternativeLocation d₄ f₄ e₄

          pub bad-atom-name : (x : Refusal) → r₅ ≡ Err x → Err x ≡ prepare asked
          unfolding prepare
          bad-atom-name x b = rw (c₁, c₂, c₃, c₄, taken AtomName d₅ f₅ b)

          pub all-ready : (w₅ : ℕ) → r₅ ≡ Ok w₅ → Ok (record { chain = w₁; residue = residue; code = w₂; conformer = w₃; location = w₄; name = w₅; values = v }) ≡ prepare asked
          unfolding prepare
          all-ready w₅ e₅ = rw (c₁, c₂, c₃, c₄, taken AtomName d₅ f₅ e₅)

-- ---- good_values

all-good : (a b c d e f g : Bool) → (((a && b) && c) && (d && e)) && f && g ≡ (a && (b && (c && (d && (e && true))))) && f && g
all-good false b c d e f g = refl
all-good true false c d e f g = refl
all-good true true false d e f g = refl
all-good true true true false e f g = refl
all-good true true true true false f g = refl
all-good true true true true true f g = refl

pub values-good : (v : NewAtom) (name : ℕ) (a b c d e f : Bool)
    → a ≡ finite v.x → b ≡ finite v.y → c ≡ finite v.z → d ≡ finite v.occupancy → e ≡ finite v.b_factor
    → f ≡ leb v.element 118
    → (((a && b) && c) && (d && e)) && f && leb v.hetero 1 ≡ good_values (named_atom v name)
unfolding good_values
values-good v name a b c d e f x y z o t l = all-good a b c d e f (leb v.hetero 1) ∙ rw (x, y, z, o, t, l)

-- ---- put_records

pub put_is : (x n : ℕ) (new w s s' : List ℕ) → s ≡ gapped (12 * x) (length new) (12 * n) w → s' ≡ over (12 * x) new (set s (length w - 1) (12 * n + length new)) → s' ≡ put x n new w
unfolding put
put_is x n new w s s' d e = rw e (rw d)

-- ---- add_model

-- a good store has a word for its trailer
pub good_length_lem : (w : List ℕ) → Good w → 1 ≤ length w
good_length_lem w g = (length-parts (length w) (read_length w (held w) g)).0

-- as many records as the largest store has room for, at most
pub good-count : (w : List ℕ) → Good w → length (records (held w)) ≤ 100000
good-count w g =
    let c = records-count w (held w) g in
    let l = (read-parts w (held w) g).low in
    let n = (length-parts (length w) (read_length w (held w) g)).1 in
    omega arith

module _ (w : List ℕ) (g : Good w) (serial x count : ℕ) (e : x ≡ capacity (length w)) (f : count ≡ length (records (held w))) where
  abbrev model : Branch 4
  model = (record { serial = serial }, [])

  pub model-full : x < count + 1 → (edited_numbers (Err NoCapacity), w) ≡ step_by w (add_model (length w) serial)
  unfolding add_model flat
  model-full l = put_full w g _ _ _ (ins-model (held w) model) (add_model (length w) serial) refl x (count + 1) e (rw f) l

  pub model-done : (s' : List ℕ) → count + 1 ≤ x → s' ≡ put count count (1 ∷ serial ∷ 0 ∷ 0 ∷ 0 ∷ 0 ∷ 0 ∷ 0 ∷ 0 ∷ 0 ∷ 0 ∷ 0 ∷ []) w
      → (edited_numbers (Ok (record { found = 1; removed = 0 })), s') ≡ step_by w (add_model (length w) serial)
  unfolding add_model flat words
  model-done s' l q =
      put-done w g _ _ _ (ins-model (held w) model) (add_model (length w) serial) refl x (count + 1) s' e (rw f) l (q ∙ rw f)

-- ---- add_atom

-- the words of the column's records from one on
column-part : (a : PreparedAddition) (x : ℕ) → x ≤ 4 → take (48 - 12 * x) (drop (12 * x) (column_words a)) ≡ concat (drop x (column a))
unfolding words
column-part a x l =
    let col = column a in
    let t : Twelve col = (refl, (refl, (refl, (refl, tt)))) in
    let d : drop (12 * x) (concat col) ≡ concat (drop x col) = sym (ap (drop (12 * x)) (append-nil (concat col))) ∙ drop-records col [] t x l ∙ append-nil (concat (drop x col)) in
    let c : length (concat (drop x col)) ≡ 48 - 12 * x = omega (arith, concat-length (drop x col) (twelve-drop x col t), length-drop x col) in
    rw d (take_all (48 - 12 * x) (concat (drop x col)) (omega arith))

-- in the model whose span is known
module _ (w : List ℕ) (g : Good w) (i start stop : ℕ) (e : span (i ∷ []) (held w) ≡ Some (start, stop)) where
  stood : Stands 0 4 (i ∷ []) 0 (held w) start stop
  stood = stands 0 4 (i ∷ []) 0 (held w) start stop e

  abbrev there : Branch 4
  there = stood.branch

  long : start + 1 ≤ stop
  unfolding flat
  long = omega (arith, stood.last)

  pub chains-within : Within (start + 1) stop w
  chains-within = record { order = long; room = (stands-within w g 0 4 (i ∷ []) (held w) start stop refl stood).room }

  pub model-few : stop ≤ 100000
  model-few = omega (arith, (model-inside w g i start stop (model-span w g i ∙ e)).high, ap length (records-read w (held w) g), good-count w g)

  chains : records_in (start + 1) stop w ≡ concat_map (flat 3) there.1
  unfolding flat
  chains =
      let x = records_in-cons w stop start (omega (arith, long)) in
      let y = stands_records w g 0 4 (i ∷ []) (held w) start stop refl stood in
      cc

  module _ (new : PreparedAddition) (good : good_values (new_atom new) ≡ true) where
    abbrev outcome : List ℕ × List ℕ
    outcome = step_by w (add_prepared (length w) i (Ok new))

    abbrev after : Machine
    after = replace_at 0 4 (i ∷ []) ((there.0, into_chains new there.1) ∷ []) (held w)

    abbrev found : ℕ × ℕ
    found = spot_in (keys_of new) (start + 1) stop w

    put-atom : Ins 4 (held w) after 0 found.0 (drop found.1 (column new))
    put-atom =
        let x = stood.first in
        ins-machine i (held w) there _ (start + 1) _ _ stood.spot (omega arith) ((puts-chains new).among w (start + 1) stop there.1 long chains)

    module _ (s : Spot.Spot) (h : found_of s ≡ found) (lands : Lands start stop new.chain w s) (count : ℕ) (c : count ≡ length (records (held w))) where
      atom-fits : add_prepared (length w) i (Ok new) (held w) ≡ fits (length w) after
      unfolding add_prepared
      atom-fits = rw (stood.there, good)

      ins : Ins 4 (held w) after 0 s.at (drop s.depth (column new))
      ins = subst (λ (p : ℕ × ℕ). Ins 4 (held w) after 0 p.0 (drop p.1 (column new))) (sym h) put-atom

      new-length : count + 4 - s.depth ≡ length (records (held w)) + length (drop s.depth (column new))
      new-length = omega (arith, lands.depth, length-drop s.depth (column new))

      pub atom-full : (x : ℕ) → x ≡ capacity (length w) → x < count + 4 - s.depth → (edited_numbers (Err NoCapacity), w) ≡ outcome
      atom-full x d l = put_full w g after _ _ ins _ atom-fits x (count + 4 - s.depth) d new-length l

      module _ (x : ℕ) (d : x ≡ capacity (length w)) (l : count + 4 - s.depth ≤ x) where
        pub atom-room : (col : List ℕ) → (s.at ≤ count) × (12 * count + length (take (48 - 12 * s.depth) (drop (12 * s.depth) col)) < length w)
        atom-room col =
            (omega (arith, put_low w g after _ _ ins), omega (arith, lands.depth, length-take (48 - 12 * s.depth) (drop (12 * s.depth) col), good_length_lem w g))

        module _ (col s' : List ℕ) (k : col ≡ column_words new) (y : s' ≡ put s.at count (take (48 - 12 * s.depth) (drop (12 * s.depth) col)) w) where
          new-words : s' ≡ put s.at (length (records (held w))) (concat (drop s.depth (column new))) w
          new-words = let part = column-part new s.depth (omega (arith, lands.depth)) in y ∙ rw (k, part, c)

          pub atom-done : (p q : Cursor.Cursor) → Valid p w → Advances p i start stop new s q → Valid q s' × ((edited_numbers (Ok (record { found = 1; removed = 0 })), s') ≡ outcome)
          atom-done p q known moves = (
            moves w s' g known (model-span w g i ∙ e) lands (put-grown w g after _ _ ins x (count + 4 - s.depth) s' d new-length l new-words),
            put-done w g after _ _ ins _ atom-fits x (count + 4 - s.depth) s' d new-length l new-words,
          )

-- in the model at an index
module _ (w : List ℕ) (g : Good w) (i : ℕ) (o : Result PreparedAddition) (r : Result (ℕ × ℕ)) (e : r ≡ position (span (i ∷ []) (held w))) where
  abbrev answer : List ℕ × List ℕ
  answer = step_by w (add_prepared (length w) i o)

  pub atom-nowhere : ((x : ℕ × ℕ) → r ≡ Ok x → ⊥) → (edited_numbers (Err NoPosition), w) ≡ answer
  unfolding step_by add_prepared
  atom-nowhere f = rw (g, missing 0 4 (i ∷ []) 0 (held w) (nowhere (span (i ∷ []) (held w)) r e f))

  module _ (start stop : ℕ) (m : r ≡ Ok (start, stop)) where
    model-spans : span (i ∷ []) (held w) ≡ Some (start, stop)
    model-spans = placed (span (i ∷ []) (held w)) r (start, stop) e m

    pub atom-unnamed : (x : Refusal) → o ≡ Err x → (edited_numbers (Err x), w) ≡ answer
    unfolding step_by add_prepared
    atom-unnamed x z = rw (g, (stood w g i start stop model-spans).there, z)

    module _ (new : PreparedAddition) (z : o ≡ Ok new) where
      pub atom-bad : (b : Bool) → b ≡ good_values (new_atom new) → b ≡ false → (edited_numbers (Err BadValue), w) ≡ answer
      unfolding step_by add_prepared
      atom-bad b f t = rw (g, (stood w g i start stop model-spans).there, z, ← f, t)

      pub atom-ready : {x : List ℕ × List ℕ} → x ≡ step_by w (add_prepared (length w) i (Ok new)) → x ≡ answer
      atom-ready a = a ∙ rw z
