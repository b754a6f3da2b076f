-- Laws of texts, one for each place of the code. Assumes nothing.
use Prim.Native.Nat.{ℕ, zero, suc, ◌+◌, ◌-◌, ◌*◌, ◌/◌, ◌^◌, ◌≤◌, ◌<◌, min}
use mathlib.Core.Path.{◌≡◌, refl, sym, ap, ◌∙◌}
use mathlib.Core.Bool.{Bool, true, false, cond, not, ◌&&◌}
use mathlib.Core.List.{List, [], ◌∷◌, ◌++◌, reverse, map, reverse-append, reverse-reverse}
use native.Mathlib.Nat.{pow-suc, mul-le-mul_right}
use native.Mathlib.Numerals.{add-one}
use native.Mathlib.Omega.{arith}
use lib.ListN.{length, take, drop, get_or, length-reverse_aux, get_or-map, length-map}
use lib.Seq.{take-suc, take-length}
use lib.Dec.{eqb}
use borrow.Author.Tests.{ne_eqb}
use Rattle.machine.specs.Lists.{all, is_empty}
use Rattle.machine.specs.Text.{packed, pack, plain, blank, to_upper, trim_start, trim, fit, chain_id, uppercase_or, atom_name}
use Rattle.machine.specs.LinesIn.{word}
use Rattle.machine.specs.declared.Prepared.{Prepared}
use Rattle.machine.specs.declared.Prepared.TheVariants.{Bad}
use Rattle.laws.specs.Packing.{packed_none}
use Rattle.std.specs.List.{list_all}
use Rattle.std.proofs.lemmas.List.Recursion.{same_from_clauses}
use Rattle.helper.specs.Text.{trim_end, upper_if}

-- ---- trimming

trim_start-cons : (b : ℕ) (bs : List ℕ) (a : Bool) → a ≡ blank b → trim_start (b ∷ bs) ≡ cond a (trim_start bs) (b ∷ bs)
unfolding trim_start
trim_start-cons b bs a e = rw e

-- `trim_start`: what is left of t, less a blank at its front, is trimmed to the same text; it is that text where none is there
pub start-again : (s t : List ℕ) (a : Bool) → trim_start s ≡ trim_start t → 1 ≤ length s → a ≡ blank (get_or s 0 0) → a ≡ true → trim_start (take (length s - 1) (drop 1 s)) ≡ trim_start t
start-again [] t a e l p q = absurd (omega arith)
start-again (b ∷ bs) t a e l p q = let n : suc (length bs) - 1 ≡ length bs = omega arith in rw (n, take-length) (sym (trim_start-cons b bs a p ∙ rw q) ∙ e)

pub start-found : (s t : List ℕ) (a : Bool) → trim_start s ≡ trim_start t → 1 ≤ length s → a ≡ blank (get_or s 0 0) → a ≡ false → s ≡ trim_start t
start-found [] t a e l p q = absurd (omega arith)
start-found (b ∷ bs) t a e l p q = sym (trim_start-cons b bs a p ∙ rw q) ∙ e

pub start_none : (s t : List ℕ) → trim_start s ≡ trim_start t → length s < 1 → s ≡ trim_start t
unfolding trim_start
start_none [] t e l = e
start_none (b ∷ bs) t e l = absurd (omega arith)

trim_end-snoc : (bs : List ℕ) (b : ℕ) (a : Bool) → a ≡ blank b → trim_end (bs ++ (b ∷ [])) ≡ cond a (trim_end bs) (bs ++ (b ∷ []))
unfolding trim_end
trim_end-snoc bs b a e = rw (reverse-append bs (b ∷ []), trim_start-cons b (reverse bs) a e) (go a)
  where
    go : (a : Bool) → reverse (cond a (trim_start (reverse bs)) (b ∷ reverse bs)) ≡ cond a (reverse (trim_start (reverse bs))) (bs ++ (b ∷ []))
    go true = refl
    go false = rw (← reverse-append bs (b ∷ []), reverse-reverse)

-- `trim_end`: the same at the other end
last : (s t : List ℕ) (a : Bool) → trim_end s ≡ trim_end t → 1 ≤ length s → a ≡ blank (get_or s (length s - 1) 0) → cond a (trim_end (take (length s - 1) s)) s ≡ trim_end t
last s t a e l p =
    let k = length s - 1 in
    let n : suc k ≡ length s = omega arith in
    let d : take k s ++ (get_or s k 0 ∷ []) ≡ s = sym (take-suc s k 0 (omega arith)) ∙ rw (n, take-length) in
    ap (λ (z : List ℕ). cond a (trim_end (take k s)) z) (sym d) ∙ sym (trim_end-snoc (take k s) (get_or s k 0) a p) ∙ ap trim_end d ∙ e

pub end-again : (s t : List ℕ) (a : Bool) → trim_end s ≡ trim_end t → 1 ≤ length s → a ≡ blank (get_or s (length s - 1) 0) → a ≡ true → trim_end (take (length s - 1) s) ≡ trim_end t
end-again s t a e l p q = rw q at (last s t a e l p)

pub end-found : (s t : List ℕ) (a : Bool) → trim_end s ≡ trim_end t → 1 ≤ length s → a ≡ blank (get_or s (length s - 1) 0) → a ≡ false → s ≡ trim_end t
end-found s t a e l p q = rw q at (last s t a e l p)

pub end_none : (s t : List ℕ) → trim_end s ≡ trim_end t → length s < 1 → s ≡ trim_end t
unfolding trim_end trim_start
end_none [] t e l = e
end_none (b ∷ bs) t e l = absurd (omega arith)

pub trim-is : (t u v : List ℕ) → u ≡ trim_start t → v ≡ trim_end u → v ≡ trim t
unfolding trim trim_end
trim-is t u v p q = q ∙ rw p

-- trimming makes no text longer
after-start : (t : List ℕ) → length (trim_start t) ≤ length t
unfolding trim_start
after-start [] = omega arith
after-start (b ∷ t) = go (blank b) (after-start t)
  where
    go : (x : Bool) → length (trim_start t) ≤ length t → length (cond x (trim_start t) (b ∷ t)) ≤ length (b ∷ t)
    go true h = omega arith
    go false h = omega arith

pub trim-short : (t u : List ℕ) → u ≡ trim t → length t ≤ 4 → length u ≤ 4
unfolding trim
trim-short t u e h =
    let p = after-start t in
    let q = after-start (reverse (trim_start t)) in
    let r = length-reverse_aux (trim_start t) [] in
    let s = length-reverse_aux (trim_start (reverse (trim_start t))) [] in
    let z : length u ≡ length (reverse (trim_start (reverse (trim_start t)))) = ap length e in
    omega arith

-- ---- checks and packing

-- `valid_text` asks the same of each byte
pub all-plain : (t : List ℕ) (r : Bool) → r ≡ list_all plain t → r ≡ all plain t
all-plain t r e = e ∙ same_from_clauses (list_all plain) (all plain) (λ b r. plain b && r) refl (λ b bs. refl) (λ b bs. refl) t

length-upper_if : (up : Bool) (t : List ℕ) → length (upper_if up t) ≡ length t
length-upper_if true t = length-map t to_upper
length-upper_if false t = refl

get_or-upper_if : (up : Bool) (t : List ℕ) (i : ℕ) → get_or (upper_if up t) i 0 ≡ cond up (to_upper (get_or t i 0)) (get_or t i 0)
get_or-upper_if true t i = get_or-map to_upper t i 0
get_or-upper_if false t i = refl

packed-at : (i n : ℕ) (t : List ℕ) → packed (suc n) (drop i t) ≡ get_or t i 0 * 256 ^ n + packed n (drop (suc i) t)
unfolding packed
packed-at zero n [] = omega arith
packed-at zero n (b ∷ bs) = refl
packed-at (suc i) n [] = omega arith
packed-at (suc i) n (b ∷ bs) = packed-at i n bs

-- the word of a text is the sum of its first eight bytes, each by its place
eight-digits : (t : List ℕ) → pack t ≡ get_or t 0 0 * 0x100_0000_0000_0000 + get_or t 1 0 * 0x1_0000_0000_0000 + get_or t 2 0 * 0x100_0000_0000
    + get_or t 3 0 * 0x1_0000_0000 + get_or t 4 0 * 0x100_0000 + get_or t 5 0 * 0x1_0000 + get_or t 6 0 * 0x100 + get_or t 7 0
eight-digits t =
    let e₀ = packed-at 0 7 t in
    let e₁ = packed-at 1 6 t in
    let e₂ = packed-at 2 5 t in
    let e₃ = packed-at 3 4 t in
    let e₄ = packed-at 4 3 t in
    let e₅ = packed-at 5 2 t in
    let e₆ = packed-at 6 1 t in
    let e₇ = packed-at 7 0 t in
    let e₈ = packed_none (drop 8 t) in
    omega arith

pub pack-eight : (t : List ℕ) (d₀ d₁ d₂ d₃ d₄ d₅ d₆ d₇ : ℕ)
    → d₀ ≡ get_or t 0 0 → d₁ ≡ get_or t 1 0 → d₂ ≡ get_or t 2 0 → d₃ ≡ get_or t 3 0 → d₄ ≡ get_or t 4 0 → d₅ ≡ get_or t 5 0 → d₆ ≡ get_or t 6 0 → d₇ ≡ get_or t 7 0
    → d₀ * 0x100_0000_0000_0000 + d₁ * 0x1_0000_0000_0000 + d₂ * 0x100_0000_0000 + d₃ * 0x1_0000_0000 + d₄ * 0x100_0000 + d₅ * 0x1_0000 + d₆ * 0x100 + d₇ ≡ pack t
pack-eight t d₀ d₁ d₂ d₃ d₄ d₅ d₆ d₇ h₀ h₁ h₂ h₃ h₄ h₅ h₆ h₇ = rw (h₀, h₁, h₂, h₃, h₄, h₅, h₆, h₇) (sym (eight-digits t))

-- what the first of n bytes is worth
abbrev pub worth : ℕ → ℕ
worth zero = 0
worth (suc n) = 256 ^ n

worth-less : (n : ℕ) → worth n / 256 ≡ worth (n - 1)
worth-less zero = refl
worth-less (suc zero) = refl
worth-less (suc (suc n)) =
    let m : suc (suc n) - 1 ≡ suc n = omega arith in
    let e : 256 ^ suc n ≡ 256 ^ n * 256 = pow-suc 256 n in
    rw m (omega arith)

-- past the text's end, and past n bytes, nothing is left to pack
none_left : (n i : ℕ) (t : List ℕ) → min (length t) n ≤ i → packed (n - i) (drop i t) ≡ 0
unfolding packed
none_left zero i t h = let e : zero - i ≡ 0 = omega arith in rw e (packed_none (drop i t))
none_left (suc n) zero [] h = refl
none_left (suc n) (suc i) [] h = refl
none_left (suc n) zero (b ∷ bs) h = absurd (omega arith)
none_left (suc n) (suc i) (b ∷ bs) h = let e : suc n - suc i ≡ n - i = omega arith in rw e (none_left n i bs (omega arith))

packed-more : (i n : ℕ) (t : List ℕ) → packed n (drop i t) ≡ get_or t i 0 * worth n + packed (n - 1) (drop (i + 1) t)
packed-more i zero t = rw (packed_none (drop i t), packed_none (drop (i + 1) t)) (omega arith)
packed-more i (suc n) t = let e : suc n - 1 ≡ n = omega arith in rw (e, add-one) (packed-at i n t)

-- `pack_text`: the first i bytes are packed, and the next fits
pub record Packing (up : Bool) (t : List ℕ) (i word unit : ℕ) : Type 0 where
  pub so_far : word + packed (8 - i) (drop i (upper_if up t)) ≡ pack (upper_if up t)
  pub worth_is : unit ≡ worth (8 - i)
  pub room : word + 256 * unit ≤ 2 ^ 64

module _ {up : Bool} {t : List ℕ} {i word unit : ℕ} (p : Packing up t i word unit) where
  abbrev s : List ℕ
  s = upper_if up t

  pub packing-again : (d : ℕ) → d < 256 → d ≡ cond up (to_upper (get_or t i 0)) (get_or t i 0) → Packing up t (i + 1) (word + d * unit) (unit / 256)
  packing-again d h e =
      let n : 8 - i - 1 ≡ 8 - (i + 1) = omega arith in
      let m : packed (8 - i) (drop i s) ≡ get_or s i 0 * worth (8 - i) + packed (8 - (i + 1)) (drop (i + 1) s) = rw n at (packed-more i (8 - i) s) in
      let v : d * unit ≡ get_or s i 0 * worth (8 - i) = rw (e, p.worth_is, get_or-upper_if up t i) in
      let l : d * unit ≤ 255 * unit = mul-le-mul_right unit (omega arith) in
      record {
        so_far = omega (arith, p.so_far);
        worth_is = rw (p.worth_is, worth-less (8 - i), n);
        room = omega (arith, p.room);
      }

  pub packing-end : min (length t) 8 ≤ i → word ≡ pack s
  packing-end h =
      let z : packed (8 - i) (drop i s) ≡ 0 = none_left 8 i s (rw (length-upper_if up t) h) in
      omega (arith, p.so_far)

-- ---- made ready for the store

pub any-byte : (t : List ℕ) → not (is_empty t) ≡ not (eqb (length t) 0)
any-byte [] = refl
any-byte (b ∷ bs) = ap not (sym (ne_eqb (suc (length bs)) 0 (omega arith)))

module _ (t u : List ℕ) (e : u ≡ trim t) where
  module _ (v : Bool) where
    chain-is : v ≡ all plain u → chain_id t ≡ cond (v && not (eqb (length u) 0)) (fit u) Bad
    unfolding chain_id
    chain-is p = rw (← e, any-byte u, p)

    pub chain-good : (r : Prepared) → v ≡ all plain u → v && not (eqb (length u) 0) ≡ true → r ≡ fit u → r ≡ chain_id t
    chain-good r p h s = s ∙ sym (chain-is p ∙ rw h)

    pub chain-bad : v ≡ all plain u → v && not (eqb (length u) 0) ≡ false → Bad ≡ chain_id t
    chain-bad p h = sym (chain-is p ∙ rw h)

    uppercase_or-is : (other : Prepared) → v ≡ all plain t → uppercase_or t other ≡ cond (v && not (eqb (length u) 0)) (fit (map to_upper u)) other
    unfolding uppercase_or
    uppercase_or-is other p = rw (← e, any-byte u, p)

    pub uppercase_or-good : (other r : Prepared) → v ≡ all plain t → v && not (eqb (length u) 0) ≡ true → r ≡ fit (map to_upper u) → r ≡ uppercase_or t other
    uppercase_or-good other r p h s = s ∙ sym (uppercase_or-is other p ∙ rw h)

    pub uppercase_or-other : (other : Prepared) → v ≡ all plain t → v && not (eqb (length u) 0) ≡ false → other ≡ uppercase_or t other
    uppercase_or-other other p h = sym (uppercase_or-is other p ∙ rw h)

  pub atom-good : (v : Bool) (r : Prepared) → v ≡ all plain u → v ≡ true → r ≡ fit (map to_upper u) → r ≡ atom_name t
  unfolding atom_name
  atom-good v r p h s = s ∙ rw (← e, ← p, h)

  pub atom-bad : (v : Bool) → v ≡ all plain u → v ≡ false → Bad ≡ atom_name t
  unfolding atom_name
  atom-bad v p h = rw (← e, ← p, h)

-- a word of which no rule is asked
pub word-is : (t u : List ℕ) (r : ℕ) → u ≡ trim t → r ≡ pack u → r ≡ word t
unfolding word
word-is t u r e p = p ∙ ap pack e
