-- Document 01, "The program `find`". Assumes nothing.
use Rattle.std.specs.Prelude.{ℕ, zero, suc, ◌+◌, ◌-◌, ◌*◌, ◌/◌, ◌%◌, ◌&&◌, cond, List, [], ◌∷◌, ◌++◌, length, get_or, take, drop, leb, ltb, eqb, Err, Ok}
use Rattle.machine.specs.Lists.{concat_map, bytes}
use Rattle.machine.specs.Answer.{Result, ◌>>=◌, ◌>>◌, need, refusal_number}
use Rattle.machine.specs.Find.{hits_of}
use Rattle.machine.specs.declared.Refusal.TheVariants.{BadFile}

-- "little-endian words": the first byte is the lowest
abbrev pub little_endian : List ℕ → ℕ
little_endian [] = 0
little_endian (b ∷ bs) = b + 256 * little_endian bs

-- n words of eight bytes
abbrev pub words_in : ℕ → List ℕ → List ℕ
words_in zero bs = []
words_in (suc n) bs = little_endian (take 8 bs) ∷ words_in n (drop 8 bs)

pub record Input : Type 0 where
  pub store : List ℕ
  pub tree : List ℕ

-- "store, tree, and a last word holding the word index where the tree starts"
abbrev pub split : List ℕ → Result Input
split ws =
    let last = length ws - 1 in
    let start = get_or ws last 0 in
    need (leb start last) BadFile >> Ok (record { store = take start ws; tree = take (last - start) (drop start ws) })

-- "11: not a multiple of 8 bytes, empty, over 65,536 bytes, or a start above the last word's own index."
unfoldable pub read_input : List ℕ → Result Input
read_input bs = do
  need (eqb (length bs % 8) 0 && leb 1 (length bs) && leb (length bs) 65536) BadFile
  split (words_in (length bs / 8) bs)

abbrev pub digit : ℕ → ℕ
digit n = 48 + n

-- a number's decimal digits, at most k of them
unfoldable pub digits : ℕ → ℕ → List ℕ
digits zero n = []
digits (suc k) n = cond (ltb n 10) (digit n ∷ []) (digits k (n / 10) ++ (digit (n % 10) ∷ []))

-- 20 digits are enough for a u64
abbrev pub decimal : ℕ → List ℕ
decimal n = digits 20 n

abbrev pub newline : List ℕ
newline = 10 ∷ []

-- numbers with a space between them
abbrev pub spaced : List ℕ → List ℕ
spaced [] = []
spaced (n ∷ []) = decimal n
spaced (n ∷ (m ∷ ns)) = decimal n ++ bytes " " ++ spaced (m ∷ ns)

-- "It prints each hit as five decimals, then the count"; "A refusal prints `refused` and its number."
unfoldable pub printed : Result (List (List ℕ)) → List ℕ
printed (Ok hs) = concat_map (λ (h : List ℕ). spaced h ++ newline) hs ++ bytes "found " ++ decimal (length hs) ++ newline
printed (Err r) = bytes "refused " ++ decimal (refusal_number r) ++ newline

-- what the program writes, given what it reads
unfoldable pub program_run : List ℕ → List ℕ
program_run bs = printed do
  i ← read_input bs
  hits_of i.store i.tree
