-- The words of one record of a good store: read, and written where its branch gets other fields. Assumes nothing.
use Rattle.std.specs.Prelude.{Err, Ok, Option, Some, ok_or, IsErrAnd}
use Prim.Native.Nat.{ℕ, zero, suc, ◌+◌, ◌-◌, ◌*◌, ◌≤◌, ◌<◌}
use mathlib.Core.Path.{◌≡◌, refl, sym, ap, ◌∙◌}
use mathlib.Core.List.{List, [], ◌∷◌, ◌++◌, append_assoc, append-nil}
use native.Mathlib.Nat.{zero-add, suc-add}
use native.Mathlib.Omega.{arith}
use lib.ListN.{length, get_or, set, replicate, length-append, get_or-append}
use lib.Seq.{get_or-append-add, set-append_left}
use borrow.Author.Tests.{eq-eqb, ne_eqb}
use Rattle.machine.specs.Lists.{concat_map}
use Rattle.machine.specs.Answer.{Result, position, edited_numbers}
use Rattle.machine.specs.declared.Edited.{Edited}
use Rattle.machine.specs.declared.Refusal.{Refusal}
use Rattle.machine.specs.Record.{Fields, Atom, Words, words}
use Rattle.machine.specs.Store.{Branch, flat, records, stored, laid, lay_out}
use Rattle.machine.specs.Edit.{up, root, replace_at, step_by, with_fields, set_at, with_element}
use Rattle.machine.specs.declared.Refusal.TheVariants.{BadValue}
use Rattle.laws.specs.Exits.{placed, exit-nowhere, ok-some, exit-none}
use Rattle.laws.specs.Lists.{All-left}
use Rattle.laws.specs.Grouped.{concat, concat-length, twelve-words, words-length}
use Rattle.laws.specs.Layout.{lay_out-read}
use Rattle.laws.specs.Places.{atoms, replace-sum, same-measure}
use Rattle.elements.specs.Element.{element_of}
use Rattle.elements.specs.declared.Element.{Element}
use Rattle.elements.proofs.Laws.{element-good}
use Rattle.moves.proofs.Records.{concat-append}
use Rattle.seek.specs.Seek.{Good, held, span_at, span_on, span}
use Rattle.seek.proofs.Below.{under, flat-root}
use Rattle.seek.proofs.Laws.{Stands, missing, stands}
use Rattle.settings.specs.Set.{element_set}

-- ---- a part of a list, read and written

part-read : (p x q : List ℕ) (n k : ℕ) → length p ≡ n → k < length x → get_or (p ++ (x ++ q)) (n + k) 0 ≡ get_or x k 0
part-read p x q n k e l = rw (← e) (get_or-append-add p (x ++ q) k 0 ∙ get_or-append x q 0 k l)

set_past : (p r : List ℕ) (k v : ℕ) → set (p ++ r) (length p + k) v ≡ p ++ set r k v
set_past [] r k v = ap (λ (i : ℕ). set r i v) (zero-add k)
set_past (x ∷ p) r k v = ap (λ (i : ℕ). set (x ∷ (p ++ r)) i v) (suc-add (length p) k) ∙ ap (λ (l : List ℕ). x ∷ l) (set_past p r k v)

part-set : (p x q : List ℕ) (n k v : ℕ) → length p ≡ n → k < length x → set (p ++ (x ++ q)) (n + k) v ≡ p ++ (set x k v ++ q)
part-set p x q n k v e l = rw (← e) (set_past p (x ++ q) k v ∙ ap (λ (r : List ℕ). p ++ r) (set-append_left x q k v l))

-- ---- one record's words, over the level

-- the words that stand behind one of the records laid out
module _ (n : ℕ) (pre post : List Words) where
  abbrev total : ℕ
  total = length (concat pre) + (12 + length (concat post))

  abbrev behind : List ℕ
  behind = concat post ++ (replicate (n - 1 - total) 0 ++ (total ∷ []))

  one-laid : (x : Words) → length x ≡ 12 → laid n (concat (pre ++ (x ∷ post))) ≡ concat pre ++ (x ++ behind)
  unfolding laid
  one-laid x e =
      let c : concat (pre ++ (x ∷ post)) ≡ concat pre ++ (x ++ concat post) = concat-append pre (x ∷ post) in
      let l : length (concat (pre ++ (x ∷ post))) ≡ total = rw (c, length-append, length-append, e) in
      rw (l, c) (simp append_assoc)

flat-fields : (j : ℕ) (f : Fields j) (t : Branch j) → flat j (with_fields j f t) ≡ words j f ∷ under j t
flat-fields zero f t = flat-root zero f
flat-fields (suc k) f t = flat-root (suc k) (f, t.1)

-- the branch at a position, whose own record has the number `at`
module _ (w : List ℕ) (g : Good w) (d j : ℕ) (low : j ≤ 4) (pos : List ℕ) (ts : List (Branch (up d j))) (at stop : ℕ)
    (whole : records (held w) ≡ concat_map (flat (up d j)) ts) (s : Stands d j pos 0 ts at stop) where
  abbrev own : Fields j
  own = root j s.branch

  -- the store's words where the branch has other fields
  abbrev with_own : Fields j → List ℕ
  with_own f = laid (length w) (concat (concat_map (flat (up d j)) (replace_at d j pos (with_fields j f s.branch ∷ []) ts)))

  abbrev before : List ℕ
  before = concat s.spot.pre

  abbrev post : List Words
  post = under j s.branch ++ s.spot.post

  abbrev after : List ℕ
  after = behind (length w) s.spot.pre post

  laid-with : (f : Fields j) (rs : List Words) → rs ≡ s.spot.pre ++ (words j f ∷ post) → laid (length w) (concat rs) ≡ before ++ (words j f ++ after)
  laid-with f rs e = ap (λ (x : List Words). laid (length w) (concat x)) e ∙ one-laid (length w) s.spot.pre post (words j f) (words-length j low f)

  records-are : records (held w) ≡ s.spot.pre ++ (words j own ∷ post)
  records-are = whole ∙ s.spot.was ∙ rw (flat-root j s.branch)

  was : w ≡ before ++ (words j own ++ after)
  unfolding lay_out
  was = sym (lay_out-read w (held w) g) ∙ laid-with own (records (held w)) records-are

  is : (f : Fields j) → with_own f ≡ before ++ (words j f ++ after)
  is f =
      let new = with_fields j f s.branch in
      laid-with f _ (s.spot.is (new ∷ []) ∙ ap (λ (x : List Words). s.spot.pre ++ (x ++ s.spot.post)) (append-nil (flat j new) ∙ flat-fields j f s.branch))

  start : length before ≡ at * 12
  start = omega (arith, concat-length s.spot.pre (All-left _ s.spot.pre _ (rw records-are at (twelve-words (held w)))), s.first)

  own-there : at * 12 + 12 ≤ length w
  own-there =
      let l = ap length was ∙ length-append before (words j own ++ after) in
      omega (arith, length-append (words j own) after, words-length j low own, start)

  own-word : (k : ℕ) → k < 12 → get_or w (at * 12 + k) 0 ≡ get_or (words j own) k 0
  own-word k l = ap (λ (u : List ℕ). get_or u (at * 12 + k) 0) was ∙ part-read before (words j own) after (at * 12) k start (omega (arith, words-length j low own))

  own-set : (k v : ℕ) (f : Fields j) → k < 12 → set (words j own) k v ≡ words j f → set w (at * 12 + k) v ≡ with_own f
  own-set k v f l e =
      ap (λ (u : List ℕ). set u (at * 12 + k) v) was
      ∙ part-set before (words j own) after (at * 12) k v start (omega (arith, words-length j low own))
      ∙ ap (λ (u : List ℕ). before ++ (u ++ after)) e
      ∙ sym (is f)

-- ---- set_element

-- an atom's word 8
element-word : (a : Atom) → get_or (words 0 a) 8 0 ≡ a.element
unfolding words
element-word a = refl

element-words : (e : ℕ) (a : Atom) → set (words 0 a) 8 e ≡ words 0 (with_element e a)
unfolding words
element-words e a = refl

module _ (w pos : List ℕ) (g : Good w) (five : length pos ≡ 5) (e : ℕ) (u : Result (ℕ × ℕ)) (f : u ≡ position (span pos (held w))) where
  abbrev outcome : List ℕ × List ℕ
  outcome = step_by w (element_set pos e)

  spanned : span pos (held w) ≡ span_at 4 0 pos 0 (held w)
  spanned = ap (λ (n : ℕ). (span_on n pos (held w))) five

  pub element-missing : (x : Refusal) → u ≡ Err x → (a : Result Edited) → IsErrAnd a (λ z. z ≡ x) → (edited_numbers a, w) ≡ outcome
  unfolding step_by set_at
  element-missing x h a i =
      let n = exit-nowhere (span pos (held w)) u x a f h i in
      rw n.1 (rw (g, missing 4 0 pos 0 (held w) (sym spanned ∙ n.0)))

  module _ (at stop : ℕ) (h : u ≡ Ok (at, stop)) where
    stand : Stands 4 0 pos 0 (held w) at stop
    stand = stands 4 0 pos 0 (held w) at stop (sym spanned ∙ placed (span pos (held w)) u (at, stop) f h)

    abbrev atom : Atom
    atom = stand.branch

    pub element-there : at * 12 + 12 ≤ length w
    element-there = own-there w g 4 0 (omega arith) pos (held w) at stop refl stand

    element-is : get_or w (at * 12 + 8) 0 ≡ atom.element
    element-is = own-word w g 4 0 (omega arith) pos (held w) at stop refl stand 8 (omega arith) ∙ element-word atom

    module _ (m : Option Element) (k : m ≡ element_of e) (o : Result Element) (j : o ≡ ok_or m BadValue) where
      pub element-bad : (x : Refusal) → o ≡ Err x → (a : Result Edited) → IsErrAnd a (λ z. z ≡ x) → (edited_numbers a, w) ≡ outcome
      unfolding step_by set_at
      element-bad x l a i =
          let n = exit-none m o BadValue x a j l i in
          rw n.1 (rw (g, stand.there, element-good e m k, n.0))

      module _ (y : Element) (l : o ≡ Ok y) (x : ℕ) (z : x ≡ get_or w (at * 12 + 8) 0) where
        n : m ≡ Some y
        n = ok-some m o BadValue y j l

        pub element-present : 0 < x → (edited_numbers (Ok (record { found = 0; removed = 0 })), w) ≡ outcome
        unfolding step_by set_at
        element-present p =
            let none : stored (held w) - stored (held w) ≡ 0 = omega arith in
            rw (g, stand.there, element-good e m k, n, ne_eqb atom.element 0 (λ q. omega (arith, element-is)), none, lay_out-read w (held w) g)

        pub element-set : x ≤ 0 → (v : List ℕ) → v ≡ set w (at * 12 + 8) e → (edited_numbers (Ok (record { found = 1; removed = 0 })), v) ≡ outcome
        unfolding step_by set_at lay_out
        element-set o v p =
            let new = with_element e atom in
            let none : stored (held w) - stored (replace_at 4 0 pos (new ∷ []) (held w)) ≡ 0 =
            omega (arith, replace-sum atoms 4 0 pos (new ∷ []) (held w) atom stand.there, same-measure atoms 0 new atom) in
            let s = own-set w g 4 0 (omega arith) pos (held w) at stop refl stand 8 e new (omega arith) (element-words e atom) in
            rw (g, stand.there, element-good e m k, n, eq-eqb atom.element 0 (omega (arith, element-is)), none, p, s)
