-- Lines by their numbers: a line's chain, the look back, a chain's lines, and the lines chain by chain. Assumes nothing.
use Prim.Native.Nat.{ℕ, suc, ◌+◌, ◌-◌, ◌*◌, ◌/◌, ◌≤◌, ◌<◌}
use mathlib.Core.Path.{◌≡◌, refl, sym, ap, ◌∙◌}
use mathlib.Core.Bool.{Bool, true, false, ◌||◌, cond}
use mathlib.Core.List.{List, [], ◌∷◌, ◌++◌, map}
use native.Mathlib.Nat.{le_refl, add-zero}
use native.Mathlib.Omega.{arith}
use lib.ListN.{length, get_or, take, drop, length-drop}
use lib.Seq.{length-take-le, take_all, get_or-take, get_or-drop}
use lib.Dec.{eqb}
use borrow.Author.Tests.{eq-eqb, ne_eqb}
use Rattle.machine.specs.Lists.{keep, filter}
use Rattle.machine.specs.Record.{Chain}
use Rattle.machine.specs.Lines.{AtomLine}
use Rattle.machine.specs.LinesIn.{lines_in, atom_in}
use Rattle.machine.specs.Read.{same_id}
use Rattle.lines.specs.Numbered.{line_count_in, line_at, lines_from, atoms_back, lines_next, lines_none, back-next}
use Rattle.building.specs.Chains.{has_chain, chains_from, by_chain, chains-seen, chains-new}
use Rattle.filling.specs.Fill.{atoms_in, first_chain, atom_lines}

-- ---- one line

module _ (t : List ℕ) (n : ℕ) where
  -- the slice of the code is a line
  abbrev pub slice : List ℕ
  slice = take (n * 81 + 81 - n * 81) (drop (n * 81) t)

  slice_is : slice ≡ line_at n t
  slice_is = ap (λ (k : ℕ). take k (drop (n * 81) t)) (let e : n * 81 + 81 - n * 81 ≡ 81 = omega arith in e)

  pub slice-length : n < line_count_in t → length slice ≡ 81
  slice-length h = ap length slice_is ∙ length-take-le 81 (drop (n * 81) t) (rw length-drop (omega arith))

  pub slice-chain : (c : ℕ) → c ≡ (atom_in slice).chain.id → c ≡ (atom_in (line_at n t)).chain.id
  slice-chain c e = e ∙ ap (λ (l : List ℕ). (atom_in l).chain.id) slice_is

  first_byte : get_or (line_at n t) 0 0 ≡ get_or t (n * 81) 0
  first_byte = get_or-take 81 (drop (n * 81) t) 0 0 (omega arith) ∙ get_or-drop (n * 81) t 0 0 ∙ ap (λ (k : ℕ). get_or t k 0) (add-zero (n * 81))

-- the slice up to the end
abbrev pub rest : List ℕ → ℕ → List ℕ
rest t k = take (length t - k) (drop k t)

pub rest-is : (t : List ℕ) (k : ℕ) → rest t k ≡ drop k t
rest-is t k = take_all (length t - k) (drop k t) (rw length-drop (le_refl (length t - k)))

pub rest_lines : (t : List ℕ) (n : ℕ) → n < line_count_in t → 0 < line_count_in (rest t (n * 81))
rest_lines t n h = let e = ap length (rest-is t (n * 81)) ∙ length-drop (n * 81) t in omega arith

-- ---- the look back

abbrev chain_of : List ℕ → ℕ → Chain
chain_of t n = (atom_in (line_at n t)).chain

-- the lines from `before` on up to n are of other chains
pub record Looked (t : List ℕ) (n before : ℕ) : Type 0 where
  pub within : before ≤ n
  pub is : has_chain (atoms_back n n t) (chain_of t n) ≡ has_chain (atoms_back before before t) (chain_of t n)

pub none-looked : (t : List ℕ) (n : ℕ) → Looked t n n
none-looked t n = record { within = le_refl n; is = refl }

module _ (t : List ℕ) (n before : ℕ) (h : Looked t n before) where
  pub all-looked : before ≤ 0 → false ≡ has_chain (atoms_back n n t) (chain_of t n)
  unfolding atoms_back
  all-looked k = sym (h.is ∙ ap (λ (j : ℕ). has_chain (atoms_back j j t) (chain_of t n)) (let e : before ≡ 0 = omega arith in e))

  module _ (k : 0 < before) (chain r : ℕ) (e : chain ≡ (chain_of t n).id) (f : r ≡ (chain_of t (before - 1)).id) where
    one-back : has_chain (atoms_back n n t) (chain_of t n) ≡ eqb chain r || has_chain (atoms_back (before - 1) (before - 1) t) (chain_of t n)
    one-back =
        h.is
        ∙ ap (λ (j : ℕ). has_chain (atoms_back j j t) (chain_of t n)) (let z : before ≡ before - 1 + 1 = omega arith in z)
        ∙ ap (λ (bs : List AtomLine). has_chain bs (chain_of t n)) (back-next t (before - 1))
        ∙ (λ i. eqb (sym e i) (sym f i) || has_chain (atoms_back (before - 1) (before - 1) t) (chain_of t n))

    pub same-chain : r ≡ chain → true ≡ has_chain (atoms_back n n t) (chain_of t n)
    same-chain q = sym (one-back ∙ ap (λ (b : Bool). b || has_chain (atoms_back (before - 1) (before - 1) t) (chain_of t n)) (eq-eqb chain r (sym q)))

    pub other-chain : (r ≡ chain → ⊥) → Looked t n (before - 1)
    other-chain q =
        let w = h.within in
        record {
          within = omega arith;
          is = one-back ∙ ap (λ (b : Bool). b || has_chain (atoms_back (before - 1) (before - 1) t) (chain_of t n)) (ne_eqb chain r (λ z. q (sym z)));
        }

-- ---- the atoms from a line on

abbrev pub atoms_from : ℕ → List ℕ → List AtomLine
atoms_from n t = map atom_in (lines_from n t)

atoms-next : (t : List ℕ) (n : ℕ) → n < line_count_in t → atoms_from n t ≡ atom_in (line_at n t) ∷ atoms_from (n + 1) t
atoms-next t n h = ap (map atom_in) (lines_next t n h)

atoms-none : (t : List ℕ) (n : ℕ) → line_count_in t ≤ n → atoms_from n t ≡ []
atoms-none t n h = ap (map atom_in) (lines_none t n h)

-- those of the first line's chain
abbrev pub own_from : ℕ → List ℕ → List AtomLine
own_from n t = filter (λ a. same_id 2 (chain_of t 0) a.chain) (atoms_from n t)

module _ (t : List ℕ) (n : ℕ) where
  pub own-none : line_count_in t ≤ n → own_from n t ≡ []
  own-none h = ap (filter (λ a. same_id 2 (chain_of t 0) a.chain)) (atoms-none t n h)

  module _ (h : n < line_count_in t) (chain r : ℕ) (e : chain ≡ (chain_of t 0).id) (f : r ≡ (chain_of t n).id) where
    own-next : own_from n t ≡ keep (eqb r chain) (atom_in (line_at n t)) (own_from (n + 1) t)
    own-next =
        ap (filter (λ a. same_id 2 (chain_of t 0) a.chain)) (atoms-next t n h)
        ∙ (λ i. keep (eqb (sym f i) (sym e i)) (atom_in (line_at n t)) (own_from (n + 1) t))

    pub own_line : r ≡ chain → own_from n t ≡ (atom_in (slice t n) ∷ []) ++ own_from (n + 1) t
    own_line q =
        own-next
        ∙ ap (λ (b : Bool). keep b (atom_in (line_at n t)) (own_from (n + 1) t)) (eq-eqb r chain q)
        ∙ ap (λ (l : List ℕ). atom_in l ∷ own_from (n + 1) t) (sym (slice_is t n))

    pub other-line : (r ≡ chain → ⊥) → own_from n t ≡ own_from (n + 1) t
    other-line q = own-next ∙ ap (λ (b : Bool). keep b (atom_in (line_at n t)) (own_from (n + 1) t)) (ne_eqb r chain q)

-- chain by chain, where the lines before n were seen
abbrev pub chains_on : ℕ → List ℕ → List AtomLine
chains_on n t = chains_from (atoms_back n n t) (atoms_from n t)

module _ (t : List ℕ) where
  pub chains-start : chains_on 0 t ≡ by_chain (atoms_in t)
  unfolding atoms_back
  chains-start = refl

  module _ (n : ℕ) where
    pub chains-none : line_count_in t ≤ n → chains_on n t ≡ []
    unfolding chains_from
    chains-none h = ap (chains_from (atoms_back n n t)) (atoms-none t n h)

    pub rest-atoms : atoms_in (drop (n * 81) t) ≡ atoms_from n t
    rest-atoms = ap (λ (k : ℕ). map atom_in (lines_in k (drop (n * 81) t))) (let e : length (drop (n * 81) t) / 81 - 0 ≡ line_count_in t - n = rw length-drop (omega arith) in e)

    module _ (h : n < line_count_in t) (r : Bool) (e : r ≡ has_chain (atoms_back n n t) (chain_of t n)) where
      next-seen : chains_from (atom_in (line_at n t) ∷ atoms_back n n t) (atoms_from (n + 1) t) ≡ chains_on (n + 1) t
      next-seen = ap (λ (s : List AtomLine). chains_from s (atoms_from (n + 1) t)) (sym (back-next t n))

      pub seen-line : r ≡ true → chains_on n t ≡ chains_on (n + 1) t
      seen-line q =
          ap (chains_from (atoms_back n n t)) (atoms-next t n h)
          ∙ chains-seen (atoms_back n n t) (atom_in (line_at n t)) (atoms_from (n + 1) t) (sym e ∙ q)
          ∙ next-seen

      pub new_line : r ≡ false → chains_on n t ≡ first_chain (rest t (n * 81)) ++ chains_on (n + 1) t
      new_line q =
          ap (chains_from (atoms_back n n t)) (atoms-next t n h)
          ∙ chains-new (atoms_back n n t) (atom_in (line_at n t)) (atoms_from (n + 1) t) (sym e ∙ q)
          ∙ ap (λ (ls : List AtomLine). filter (λ a. same_id 2 (chain_of t n) a.chain) ls ++ chains_from (atom_in (line_at n t) ∷ atoms_back n n t) (atoms_from (n + 1) t))
          (sym (atoms-next t n h) ∙ sym rest-atoms)
          ∙ ap (λ (ls : List AtomLine). first_chain (drop (n * 81) t) ++ ls) next-seen
          ∙ ap (λ (u : List ℕ). first_chain u ++ chains_on (n + 1) t) (sym (rest-is t (n * 81)))

-- ---- where a model's atoms end

-- none of the lines from `from` up to n is an E line
pub record Ended (t : List ℕ) (from n : ℕ) : Type 0 where
  pub low : from ≤ n
  pub high : n ≤ line_count_in t
  pub is : from + atom_lines (lines_from from t) ≡ n + atom_lines (lines_from n t)

pub none-ended : (t : List ℕ) (from : ℕ) → from ≤ line_count_in t → Ended t from from
none-ended t from h = record { low = le_refl from; high = h; is = refl }

module _ (t : List ℕ) (from n : ℕ) (h : Ended t from n) where
  module _ (k : n < line_count_in t) where
    one_line : from + atom_lines (lines_from from t) ≡ n + cond (eqb (get_or t (n * 81) 0) 69) 0 (suc (atom_lines (lines_from (n + 1) t)))
    unfolding atom_lines
    one_line =
        h.is
        ∙ ap (λ (ls : List (List ℕ)). n + atom_lines ls) (lines_next t n k)
        ∙ ap (λ (b : ℕ). n + cond (eqb b 69) 0 (suc (atom_lines (lines_from (n + 1) t)))) (first_byte t n)

    pub end_line : get_or t (n * 81) 0 ≡ 69 → n ≡ from + atom_lines (lines_from from t)
    end_line q = sym (one_line ∙ ap (λ (b : Bool). n + cond b 0 (suc (atom_lines (lines_from (n + 1) t)))) (eq-eqb (get_or t (n * 81) 0) 69 q) ∙ add-zero n)

    pub atom-line : (get_or t (n * 81) 0 ≡ 69 → ⊥) → Ended t from (n + 1)
    atom-line q =
        let l = h.low in
        let z = one_line ∙ ap (λ (b : Bool). n + cond b 0 (suc (atom_lines (lines_from (n + 1) t)))) (ne_eqb (get_or t (n * 81) 0) 69 q) in
        record { low = omega arith; high = omega arith; is = omega arith }

  pub all-ended : line_count_in t ≤ n → n ≡ from + atom_lines (lines_from from t)
  unfolding atom_lines
  all-ended k = sym (h.is ∙ ap (λ (ls : List (List ℕ)). n + atom_lines ls) (lines_none t n k) ∙ add-zero n)
