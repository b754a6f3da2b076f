-- Document 01, "Identifiers". A text is its list of bytes. Assumes nothing.
use Rattle.std.specs.Prelude.{ℕ, zero, suc, ◌+◌, ◌-◌, ◌*◌, ◌/◌, ◌%◌, ◌^◌, Bool, true, false, not, ◌&&◌, ◌||◌, cond, List, [], ◌∷◌, map, reverse, length, leb, ltb, eqb}
use Rattle.machine.specs.Lists.{is_empty, all, same}
use Rattle.machine.specs.declared.Prepared.{Prepared}
use Rattle.machine.specs.declared.Prepared.TheVariants.{Stored, Absent, Bad}

-- ---- packed texts

-- n bytes as a number, the first byte the highest; past the text's end they are zero
unfoldable pub packed : ℕ → List ℕ → ℕ
packed n [] = 0
packed zero (b ∷ bs) = 0
packed (suc n) (b ∷ bs) = b * 256 ^ n + packed n bs

-- "A packed identifier is a u64: its bytes from the highest byte down, then zero bytes."
abbrev pub pack : List ℕ → ℕ
pack t = packed 8 t

unfoldable pub unpacked : ℕ → ℕ → List ℕ
unpacked zero w = []
unpacked (suc n) w = (w / 256 ^ n) ∷ unpacked n (w % 256 ^ n)

abbrev pub before_zeros : ℕ → List ℕ → List ℕ
before_zeros b bs = cond (eqb b 0 && is_empty bs) [] (b ∷ bs)

-- without the zero bytes at the end
unfoldable pub without_zeros : List ℕ → List ℕ
without_zeros [] = []
without_zeros (b ∷ bs) = before_zeros b (without_zeros bs)

-- the text that a packed word stands for; 0 stands for the empty one
unfoldable pub text_of : ℕ → List ℕ
text_of w = without_zeros (unpacked 8 w)

-- "`str` order": byte by byte, a prefix first. That "u64 order is `str` order" is a law (`laws`, Packing)
unfoldable pub before : List ℕ → List ℕ → Bool
before [] t = true
before (x ∷ xs) [] = false
before (x ∷ xs) (y ∷ ys) = ltb x y || (eqb x y && before xs ys)

-- ---- the five rules

-- "Blanks are bytes 9..13 and 32."
abbrev pub blank : ℕ → Bool
blank b = (leb 9 b && leb b 13) || eqb b 32

-- "Bytes are 32..126."
abbrev pub plain : ℕ → Bool
plain b = leb 32 b && leb b 126

-- "a..z raised"
abbrev pub to_upper : ℕ → ℕ
to_upper b = cond (leb 97 b && leb b 122) (b - 32) b

unfoldable pub trim_start : List ℕ → List ℕ
trim_start [] = []
trim_start (b ∷ bs) = cond (blank b) (trim_start bs) (b ∷ bs)

-- without the blanks at both ends
unfoldable pub trim : List ℕ → List ℕ
trim t = reverse (trim_start (reverse (trim_start t)))

-- "Any other identifier over 8 bytes after trimming is bad"; a good location over 8 bytes is refused as well
abbrev pub fit : List ℕ → Prepared
fit t = cond (leb (length t) 8) (Stored (pack t)) Bad

-- "Chain id: trimmed, then every byte must be 32..126, and it must not be empty. Case is kept."
unfoldable pub chain_id : List ℕ → Prepared
chain_id t = cond (all plain (trim t) && not (is_empty (trim t))) (fit (trim t)) Bad

-- "every byte must be 32..126 before trimming; trimmed; not empty; a..z raised"; else the second argument
unfoldable pub uppercase_or : List ℕ → Prepared → Prepared
uppercase_or t other = cond (all plain t && not (is_empty (trim t))) (fit (map to_upper (trim t))) other

abbrev pub insertion_code : List ℕ → Prepared
insertion_code t = uppercase_or t Bad

abbrev pub conformer_name : List ℕ → Prepared
conformer_name t = uppercase_or t Bad

-- "Alternative location: as the last, but a bad or blank one is stored as absent."
abbrev pub alternative_location : List ℕ → Prepared
alternative_location t = uppercase_or t Absent

-- "Atom name: trimmed, then checked; may be empty; a..z raised."
unfoldable pub atom_name : List ℕ → Prepared
atom_name t = cond (all plain (trim t)) (fit (map to_upper (trim t))) Bad

-- ---- optional arguments

-- "An optional argument has a flag, 0 absent or 1 present; with 0 its bytes aren't read."
pub record Optional : Type 0 where
  pub flag : ℕ
  pub text : List ℕ

abbrev pub optional_of : ℕ → List ℕ → Optional
optional_of flag text = record { flag = flag; text = text }

abbrev pub good_flag : Optional → Bool
good_flag o = leb o.flag 1

abbrev pub by_flag : ℕ → Prepared → Prepared
by_flag zero p = Absent
by_flag (suc zero) p = p
by_flag (suc (suc n)) p = Bad

abbrev pub optional : (List ℕ → Prepared) → Optional → Prepared
optional rule o = by_flag o.flag (rule o.text)

-- ---- texts as given

-- "A text as given is a byte list of any length that matches a stored text byte by byte; a present empty one matches nothing"
unfoldable pub matches : List ℕ → ℕ → Bool
matches t w = not (is_empty t) && same t (text_of w)

-- an optional text as given; an absent one matches what is stored as absent
abbrev pub matches_optional : Optional → ℕ → Bool
matches_optional o w = cond (eqb o.flag 0) (eqb w 0) (matches o.text w)

-- ---- stored and packed forms

abbrev pub stores : ℕ → Prepared → Bool
stores w (Stored v) = eqb v w
stores w Absent = false
stores w Bad = false

-- "Identifiers hold their stored form": the rule, given the word's text, stores the word
unfoldable pub stored_by : (List ℕ → Prepared) → ℕ → Bool
stored_by rule w = stores w (rule (text_of w))

-- "non-zero except where absent or empty is allowed"
abbrev pub absent_or : (List ℕ → Prepared) → ℕ → Bool
absent_or rule w = eqb w 0 || stored_by rule w

-- a query's text: packed, every byte 32..126
unfoldable pub packed_text : ℕ → Bool
packed_text w = all plain (text_of w)
