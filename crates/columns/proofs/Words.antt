-- What the functions that put texts need. Assumes nothing.
use Prim.Native.Nat.{ℕ, zero, suc, ◌+◌, ◌-◌, ◌*◌, ◌/◌, ◌%◌, ◌^◌, ◌≤◌, ◌<◌}
use mathlib.Core.Path.{◌≡◌, refl, sym, ap, ◌∙◌, subst}
use mathlib.Core.Bool.{Bool, true, not, ◌&&◌, cond}
use mathlib.Core.List.{List, [], ◌∷◌, ◌++◌}
use native.Mathlib.Nat.{one-le-pow, zero-lt-suc, mod-lt, mod-eq_of_lt, mul-div_cancel, pow-suc, div-lt_iff_lt-mul, mul_comm}
use native.Mathlib.Omega.{arith}
use lib.Dec.{leb, eqb, lit≤, leb-suc-suc}
use lib.IntN.{ℤ, pos, negsuc, nat_abs}
use lib.ListN.{length, set, length-set}
use mir.Syntax.{w64}
use mir.Val.{to_z, sel}
use borrow.Author.Tests.{ltb-true, lt-ltb, le-ltb, lt-leb}
use Rattle.machine.specs.Text.{unpacked, without_zeros, text_of}
use Rattle.machine.specs.Program.{digit, digits, decimal}
use Rattle.machine.specs.Lines.{at_left, column_text, charge_text, symbol, indent}
use Rattle.laws.specs.Digits.{charge-width}
use Rattle.laws.specs.Width.{word_width, text-none, text-some}
use Rattle.moves.specs.Over.{over}
use Rattle.moves.proofs.Laws.{over_none, over-over}
use Rattle.columns.specs.Put.{Put}
use Rattle.columns.proofs.Numbers.{set-over}

-- ---- put_word

-- `left` bytes of the word are still to come
pub record Spelling (at word : ℕ) (s₀ s : List ℕ) (i rest unit : ℕ) : Type 0 where
  pub left : ℕ
  pub place : i + left ≡ at + 8
  pub small : rest < 256 ^ left
  pub units : unit ≡ 256 ^ left / 256
  pub size : length s ≡ length s₀
  pub same : over i (without_zeros (unpacked left rest)) s ≡ over at (text_of word) s₀

pub spell-start : (at word : ℕ) (s : List ℕ) → word < 18446744073709551616 → Spelling at word s s at word 72057594037927936
unfolding text_of
spell-start at word s h = record { left = 8; place = refl; small = h; units = refl; size = refl; same = refl }

-- while something is left of the word, so are bytes
pub record More (at word : ℕ) (s₀ s : List ℕ) (i rest unit : ℕ) : Type 0 where
  pub more : ℕ
  pub place : i + suc more ≡ at + 8
  pub small : rest < 256 ^ suc more
  pub power : 256 ^ more ≡ unit
  pub some : 0 < unit
  pub byte : rest / unit < 256
  pub same : over i (without_zeros (unpacked (suc more) rest)) s ≡ over at (text_of word) s₀

pub spell-more : (at word : ℕ) (s₀ s : List ℕ) (i rest unit : ℕ) → Spelling at word s₀ s i rest unit → 0 < rest → More at word s₀ s i rest unit
spell-more at word s₀ s i rest unit o h = go o.left o.place o.small o.units o.same
  where
    go : (k : ℕ) → i + k ≡ at + 8 → rest < 256 ^ k → unit ≡ 256 ^ k / 256 → over i (without_zeros (unpacked k rest)) s ≡ over at (text_of word) s₀ → More at word s₀ s i rest unit
    go zero p q e same = absurd (omega arith)
    go (suc k) p q e same =
        let f : 256 ^ suc k ≡ 256 ^ k * 256 = pow-suc 256 k in
        let u : 256 ^ k ≡ unit = sym (e ∙ ap (λ (z : ℕ). z / 256) f ∙ mul-div_cancel (256 ^ k) (zero-lt-suc 255)) in
        let some : 0 < unit = subst (λ (z : ℕ). 0 < z) u (one-le-pow k 256 (zero-lt-suc 255)) in
        let g : 256 ^ suc k ≡ 256 * unit = f ∙ mul_comm (256 ^ k) 256 ∙ ap (λ (z : ℕ). 256 * z) u in
        record {
          more = k;
          place = p;
          small = q;
          power = u;
          some = some;
          byte = (div-lt_iff_lt-mul some).1 (subst (λ (z : ℕ). rest < z) g q);
          same = same;
        }

step : (k i rest : ℕ) (s : List ℕ) → i < length s → rest < 256 ^ suc k → 0 < rest
    → over (i + 1) (without_zeros (unpacked k (rest % 256 ^ k))) (set s i (rest / 256 ^ k)) ≡ over i (without_zeros (unpacked (suc k) rest)) s
step k i rest s h q p =
    let t = without_zeros (unpacked k (rest % 256 ^ k)) in
    ap (over (i + 1) t) (set-over s i (rest / 256 ^ k) h)
    ∙ over-over i ((rest / 256 ^ k) ∷ []) t s (omega arith)
    ∙ ap (λ (z : List ℕ). over i z s) (sym (text-some k rest q p))

pub spell-turn : (at word : ℕ) (s₀ s : List ℕ) (i rest unit : ℕ) → at + 8 ≤ 81 → length s₀ ≡ 81 → 0 < rest → Spelling at word s₀ s i rest unit
    → Spelling at word s₀ (set s i (rest / unit)) (i + 1) (rest % unit) (unit / 256)
spell-turn at word s₀ s i rest unit r l h o =
    let m = spell-more at word s₀ s i rest unit o h in
    let k = m.more in
    let u = m.power in
    let place = m.place in
    let size = o.size in
    record {
      left = k;
      place = omega arith;
      small = subst (λ (z : ℕ). rest % z < 256 ^ k) u (mod-lt rest (one-le-pow k 256 (zero-lt-suc 255)));
      units = ap (λ (z : ℕ). z / 256) (sym u);
      size = length-set s i (rest / unit) ∙ o.size;
      same = ap (λ (z : ℕ). over (i + 1) (without_zeros (unpacked k (rest % z))) (set s i (rest / z))) (sym u) ∙ step k i rest s (omega arith) m.small h ∙ m.same;
    }

pub spell-end : (at word : ℕ) (s₀ s : List ℕ) (i rest unit : ℕ) → length s₀ ≡ 81 → rest ≤ 0 → Spelling at word s₀ s i rest unit → Put at (text_of word) s₀ s
spell-end at word s₀ s i zero unit l h o =
    record {
      is = sym (over_none i s) ∙ ap (λ (z : List ℕ). over i z s) (sym (text-none o.left)) ∙ o.same;
      size = o.size ∙ l;
    }
spell-end at word s₀ s i (suc rest) unit l h o = absurd (omega arith)

-- ---- short_of_three

short : (n : ℕ) → cond (leb n 0) 1 0 + cond (leb n 1) 1 0 + cond (leb n 2) 1 0 ≡ 3 - n
short zero = refl
short (suc zero) = refl
short (suc (suc zero)) = refl
short (suc (suc (suc n))) =
    let z : 0 + 0 + 0 ≡ 3 - suc (suc (suc n)) = omega arith in
    (λ i.
    cond (lt-leb (suc (suc (suc n))) 0 (omega arith) i) 1 0
    + cond (lt-leb (suc (suc (suc n))) 1 (omega arith) i) 1 0
    + cond (lt-leb (suc (suc (suc n))) 2 (omega arith) i) 1 0)
    ∙ z

pub short-sum : (w a b c : ℕ) → w < 18446744073709551616 → a ≡ cond (eqb w 0) 1 0 → b ≡ cond (eqb (w % 72057594037927936) 0) 1 0 → c ≡ cond (eqb (w % 281474976710656) 0) 1 0
    → a + b + c ≡ 3 - length (text_of w)
short-sum w a b c h e f g =
    let n = length (text_of w) in
    let none : leb n 0 ≡ eqb w 0 = word_width 0 w (lit≤ tt) h ∙ ap (λ (z : ℕ). eqb z 0) (mod-eq_of_lt h) in
    (λ i. e i + f i + g i)
    ∙ (λ i. cond (sym none i) 1 0 + cond (sym (word_width 1 w (lit≤ tt) h) i) 1 0 + cond (sym (word_width 2 w (lit≤ tt) h) i) 1 0)
    ∙ short n

-- ---- indent_of

pub indent-is : (w e : ℕ) (two : Bool) (r : ℕ) → w < 18446744073709551616 → two ≡ eqb (length (symbol e)) 2 → r ≡ cond (eqb (w % 1099511627776) 0 && not two) 1 0 → r ≡ indent w e
indent-is w e two r h f g =
    g ∙ (λ i. cond (sym (leb-suc-suc (length (text_of w)) 3 ∙ word_width 3 w (lit≤ tt) h) i && not (f i)) 1 0)

-- ---- put_two

pub two-put : (at a b : ℕ) (s : List ℕ) → at + 2 ≤ 81 → length s ≡ 81 → Put at (a ∷ b ∷ []) s (set (set s at a) (at + 1) b)
two-put at a b s h k =
    let l = length-set s at a in
    record {
      is = set-over (set s at a) (at + 1) b (omega arith) ∙ ap (over (at + 1) (b ∷ [])) (set-over s at a (omega arith)) ∙ over-over at (a ∷ []) (b ∷ []) s (omega arith);
      size = length-set (set s at a) (at + 1) b ∙ l ∙ k;
    }

-- ---- size_of

pub size-plus : (b : ℕ) → b < 9223372036854775808 → b ≡ nat_abs (to_z w64 b)
size-plus b h = ap (λ (t : Bool). nat_abs (sel t (pos b) (negsuc (2 ^ 64 - suc b)))) (sym (lt-ltb b (2 ^ 63) h))

pub size-minus : (b : ℕ) → 9223372036854775808 ≤ b → b < 18446744073709551616 → 18446744073709551615 - b + 1 ≡ nat_abs (to_z w64 b)
size-minus b h k =
    let z : 18446744073709551615 - b + 1 ≡ suc (18446744073709551616 - suc b) = omega arith in
    z ∙ ap (λ (t : Bool). nat_abs (sel t (pos b) (negsuc (2 ^ 64 - suc b)))) (sym (le-ltb b (2 ^ 63) h))

-- ---- put_charge

-- a text of two bytes that is put
pub two_is : (at a b : ℕ) (t s s' : List ℕ) → Put at (a ∷ b ∷ []) s s' → a ∷ b ∷ [] ≡ t → Put at t s s'
two_is at a b t s s' p e = subst (λ (z : List ℕ). Put at z s s') e p

pub charge-small : (b r : ℕ) → leb (length (charge_text (to_z w64 b))) 2 ≡ true → r ≡ nat_abs (to_z w64 b) → r < 10
charge-small b r h e = subst (λ (n : ℕ). n < 10) (sym e) (ltb-true (nat_abs (to_z w64 b)) 10 (sym (charge-width (to_z w64 b)) ∙ h))

pub charge-none : (b : ℕ) → b ≡ 0 → 32 ∷ 32 ∷ [] ≡ column_text (at_left 2 (charge_text (to_z w64 b)))
unfolding charge_text
charge-none b e = ap (λ (n : ℕ). column_text (at_left 2 (charge_text (to_z w64 n)))) (sym e)

one-digit : (n : ℕ) → n < 10 → decimal n ≡ digit n ∷ []
unfolding digits
one-digit n h = ap (λ (t : Bool). cond t (digit n ∷ []) (digits 19 (n / 10) ++ (digit (n % 10) ∷ []))) (lt-ltb n 10 h)

pub charge-plus : (b r : ℕ) → 0 < b → b < 9223372036854775808 → r < 10 → r ≡ nat_abs (to_z w64 b) → (48 + r) ∷ 43 ∷ [] ≡ column_text (at_left 2 (charge_text (to_z w64 b)))
unfolding charge_text
charge-plus zero r h k l e = absurd (omega arith)
charge-plus (suc b) r h k l e =
    let z : to_z w64 (suc b) ≡ pos (suc b) = ap (λ (t : Bool). sel t (pos (suc b)) (negsuc (2 ^ 64 - suc (suc b)))) (lt-ltb (suc b) (2 ^ 63) k) in
    let f : r ≡ suc b = e ∙ ap nat_abs z in
    ap (λ (n : ℕ). digit n ∷ 43 ∷ []) f
    ∙ ap (λ (t : List ℕ). column_text (at_left 2 (t ++ (43 ∷ [])))) (sym (one-digit (suc b) (omega arith)))
    ∙ ap (λ (n : ℤ). column_text (at_left 2 (charge_text n))) (sym z)

pub charge-minus : (b r : ℕ) → 9223372036854775808 ≤ b → r < 10 → r ≡ nat_abs (to_z w64 b) → (48 + r) ∷ 45 ∷ [] ≡ column_text (at_left 2 (charge_text (to_z w64 b)))
unfolding charge_text
charge-minus b r k l e =
    let m = 2 ^ 64 - suc b in
    let z : to_z w64 b ≡ negsuc m = ap (λ (t : Bool). sel t (pos b) (negsuc m)) (le-ltb b (2 ^ 63) k) in
    let f : r ≡ suc m = e ∙ ap nat_abs z in
    ap (λ (n : ℕ). digit n ∷ 45 ∷ []) f
    ∙ ap (λ (t : List ℕ). column_text (at_left 2 (t ++ (45 ∷ [])))) (sym (one-digit (suc m) (subst (λ (n : ℕ). n < 10) f l)))
    ∙ ap (λ (n : ℤ). column_text (at_left 2 (charge_text n))) (sym z)
