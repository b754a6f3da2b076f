-- What each loop's start, turn and end and each return of `src/` needs. Assumes nothing.
use Rattle.std.specs.Prelude.{Err, Ok}
use Prim.Native.Nat.{ℕ, zero, suc, ◌+◌, ◌*◌, ◌/◌, ◌%◌, ◌≤◌, ◌<◌}
use mathlib.Core.Path.{◌≡◌, refl, sym, ap, ◌∙◌}
use mathlib.Core.Bool.{Bool, true, false, ◌&&◌, false≢true}
use mathlib.Core.List.{List, [], ◌∷◌, ◌++◌, append_assoc}
use native.Mathlib.Nat.{zero-add}
use native.Mathlib.Numerals.{add-one}
use native.Mathlib.Omega.{arith}
use lib.ListN.{length, take, drop, get_or, set, length-take, length-drop, drop_of_length-le}
use lib.Seq.{take_at, length-take-le, drop-cons}
use lib.Dec.{leb, eqb}
use borrow.Author.Tests.{le-leb}
use Rattle.std.specs.Int.{w64, from_le_bytes}
use Rattle.std.specs.Simd.{first_chunks}
use Rattle.machine.specs.Lists.{bytes}
use Rattle.machine.specs.Answer.{Result, refusal_number, counted_numbers}
use Rattle.machine.specs.Find.{hits_of, hit_words, written, find_from, find_run}
use Rattle.machine.specs.Program.{little_endian, words_in, split, read_input, decimal, printed, program_run}
use Rattle.machine.specs.declared.Refusal.{Refusal}
use Rattle.machine.specs.declared.Refusal.TheVariants.{BadFile}
use Rattle.laws.specs.Steps.{refusal-number}
use Rattle.moves.specs.Over.{over}
use Rattle.moves.proofs.Laws.{over-snoc}
use Rattle.decimals.specs.Put.{put_at}
use Rattle.decimals.proofs.Laws.{put_then, put-room}
use Rattle.program.specs.Text.{Counts, line, lines, last_line, answer_text}
use Rattle.program.proofs.Parts.{chunk_at, chunks-length, words_snoc, words_in-length, lines_snoc}
use Rattle.program.proofs.Bounds.{hits-682, hits-printed, text-fits}

-- ---- a list by its elements

abbrev elements_of : ℕ → ℕ → List ℕ → List ℕ
elements_of zero k xs = []
elements_of (suc n) k xs = get_or xs k 0 ∷ elements_of n (suc k) xs

elements : (n k : ℕ) (xs : List ℕ) → k + n ≡ length xs → drop k xs ≡ elements_of n k xs
elements zero k xs e = drop_of_length-le xs {i = k} (omega arith)
elements (suc n) k xs e =
    drop-cons xs k 0 (omega arith) ∙ ap (λ (l : List ℕ). get_or xs k 0 ∷ l) (elements n (suc k) xs (omega arith))

-- ---- the words

-- eight bytes, the first the lowest
le-word : (b : List ℕ) → length b ≡ 8 → from_le_bytes w64 b ≡ little_endian b
le-word b e = omega (arith, ap little_endian (elements 8 0 b (sym e)))

-- word i read, where those before it stand over the slice
pub words-turn : (n m i : ℕ) (bs s₀ s : List ℕ) (cs : List (List ℕ)) → cs ≡ first_chunks 8 m bs → m * 8 ≤ length bs → n ≤ length s₀ → i < length (take n cs)
    → s ≡ over 0 (words_in i bs) s₀
    → set s i (from_le_bytes w64 (get_or (take n cs) i [])) ≡ over 0 (words_in (i + 1) bs) s₀
words-turn n m i bs s₀ s cs c h f l e =
    let b : get_or (take n cs) i [] ≡ take 8 (drop (i * 8) bs) = rw c (chunk_at 8 m n i bs [] (rw c at l)) in
    let q : i < m = omega (arith, length-take n cs, chunks-length 8 m bs, ap length c) in
    let v : from_le_bytes w64 (get_or (take n cs) i []) ≡ little_endian (take 8 (drop (i * 8) bs)) =
    ap (from_le_bytes w64) b ∙ le-word (take 8 (drop (i * 8) bs)) (simp (length-take, length-drop) (omega arith)) in
    let o = over-snoc 0 (words_in i bs) s₀ (little_endian (take 8 (drop (i * 8) bs))) i (words_in-length i bs) (omega (arith, length-take n cs)) in
    rw (e, v) ((rw zero-add at o) ∙ rw (add-one, words_snoc))

-- ---- a hit

five-numbers : (m c r f a : ℕ)
    → (decimal m ++ (32 ∷ [])) ++ (decimal c ++ (32 ∷ [])) ++ (decimal r ++ (32 ∷ [])) ++ (decimal f ++ (32 ∷ [])) ++ (decimal a ++ (10 ∷ []))
    ≡ line (m ∷ c ∷ r ∷ f ∷ a ∷ [])
five-numbers m c r f a = simp append_assoc

pub hit-law : (h : List ℕ) (at a₁ a₂ a₃ a₄ a₅ : ℕ) (s s₁ s₂ s₃ s₄ s₅ : List ℕ) → length h ≡ 5 → at + 105 ≤ length s
    → (a₁, s₁) ≡ put_at (decimal (get_or h 0 0) ++ (32 ∷ [])) at s → (a₂, s₂) ≡ put_at (decimal (get_or h 1 0) ++ (32 ∷ [])) a₁ s₁
    → (a₃, s₃) ≡ put_at (decimal (get_or h 2 0) ++ (32 ∷ [])) a₂ s₂ → (a₄, s₄) ≡ put_at (decimal (get_or h 3 0) ++ (32 ∷ [])) a₃ s₃
    → (a₅, s₅) ≡ put_at (decimal (get_or h 4 0) ++ (10 ∷ [])) a₄ s₄ → (a₅, s₅) ≡ put_at (line h) at s
hit-law h at a₁ a₂ a₃ a₄ a₅ s s₁ s₂ s₃ s₄ s₅ l r e₁ e₂ e₃ e₄ e₅ =
    let f₂ = put_then at a₁ a₂ _ _ s s₁ s₂ (omega arith) e₁ e₂ in
    let f₃ = put_then at a₂ a₃ _ _ s s₂ s₃ (omega arith) f₂ e₃ in
    let f₄ = put_then at a₃ a₄ _ _ s s₃ s₄ (omega arith) f₃ e₄ in
    let f₅ = put_then at a₄ a₅ _ _ s s₄ s₅ (omega arith) f₄ e₅ in
    f₅ ∙ ap (λ (b : List ℕ). put_at b at s) (five-numbers (get_or h 0 0) (get_or h 1 0) (get_or h 2 0) (get_or h 3 0) (get_or h 4 0) ∙ ap line (sym (elements 5 0 h (sym l))))

-- ---- the hits

-- hit i put behind the lines of those before it
pub hits-turn : (n m i at a : ℕ) (ws s₀ s s₁ : List ℕ) (cs : List (List ℕ)) → cs ≡ first_chunks 5 m ws → i < length (take n cs)
    → (at, s) ≡ put_at (lines i ws) 0 s₀
    → (a, s₁) ≡ put_at (line (get_or (take n cs) i [])) at s
    → (a, s₁) ≡ put_at (lines (i + 1) ws) 0 s₀
hits-turn n m i at a ws s₀ s s₁ cs c l e f =
    let b : get_or (take n cs) i [] ≡ take 5 (drop (i * 5) ws) = rw c (chunk_at 5 m n i ws [] (rw c at l)) in
    put_then 0 at a _ _ s₀ s s₁ (omega arith) e (rw b at f) ∙ rw (add-one, lines_snoc)

-- ---- the last lines

pub found-law : (n a a₁ a₂ : ℕ) (ws s s₁ s₂ s₃ : List ℕ)
    → (a, s₁) ≡ put_at (lines n ws) 0 s
    → (a₁, s₂) ≡ put_at (bytes "found ") a s₁
    → (a₂, s₃) ≡ put_at (decimal n ++ (10 ∷ [])) a₁ s₂
    → (a₂, s₃) ≡ put_at (lines n ws ++ last_line n) 0 s
found-law n a a₁ a₂ ws s s₁ s₂ s₃ e e₁ e₂ =
    let f = put_then 0 a a₁ (lines n ws) (bytes "found ") s s₁ s₂ (omega arith) e e₁ in
    put_then 0 a₁ a₂ (lines n ws ++ bytes "found ") (decimal n ++ (10 ∷ [])) s s₂ s₃ (omega arith) f e₂ ∙ ap (λ (b : List ℕ). put_at b 0 s) (simp append_assoc)

pub refused-law : (r : Refusal) (n a a₁ : ℕ) (s s₁ s₂ : List ℕ)
    → (a, s₁) ≡ put_at (bytes "refused ") 0 s
    → n ≡ refusal_number r
    → (a₁, s₂) ≡ put_at (decimal n ++ (10 ∷ [])) a s₁
    → (a₁, s₂) ≡ put_at (printed (Err r)) 0 s
unfolding printed
refused-law r n a a₁ s s₁ s₂ e z e₁ =
    put_then 0 a a₁ (bytes "refused ") (decimal (refusal_number r) ++ (10 ∷ [])) s s₁ s₂ (omega arith) e (rw z at e₁) ∙ ap (λ (b : List ℕ). put_at b 0 s) (simp append_assoc)

-- ---- find

-- what find wrote, where it found n hits
record Hit (w t out₀ out : List ℕ) (n : ℕ) : Type 0 where
  hits : List (List ℕ)
  are : hits_of w t ≡ Ok hits
  count : n ≡ length hits
  words : out ≡ hit_words hits ++ drop (5 * length hits) out₀
  few : n ≤ 682

no_number : (c : Refusal) → 0 ≡ refusal_number c → ⊥
no_number c e = false≢true (sym (refusal-number c) ∙ ap (λ (n : ℕ). eqb n 0) (sym e))

module _ (w t out₀ out : List ℕ) (short : length w ≤ 8191) (room : 3410 ≤ length out₀) (r : Result ℕ) (e : (counted_numbers r, out) ≡ find_run w t out₀) where
  enough : (hs : List (List ℕ)) → hits_of w t ≡ Ok hs → leb (5 * length hs) (length out₀) ≡ true
  enough hs f = le-leb (5 * length hs) (length out₀) (omega (arith, hits-682 w t hs short f))

  module _ (n : ℕ) (is : r ≡ Ok n) where
    hit : Hit w t out₀ out n
    unfolding find_from
    hit = go (hits_of w t) refl e
      where
        go : (x : Result (List (List ℕ))) → hits_of w t ≡ x → (counted_numbers r, out) ≡ written out₀ x → Hit w t out₀ out n
        go (Ok hs) f h =
            let k : ◌≡◌ {A = List ℕ × List ℕ} (0 ∷ n ∷ [], out) (0 ∷ length hs ∷ [], hit_words hs ++ drop (5 * length hs) out₀) = rw (is, enough hs f) at h in
            let q : n ≡ length hs = ap (λ (x : List ℕ × List ℕ). get_or x.0 1 0) k in
            record { hits = hs; are = f; count = q; words = ap (λ (x : List ℕ × List ℕ). x.1) k; few = omega (arith, hits-682 w t hs short f) }
        go (Err c) f h = absurd (no_number c (ap (λ (x : List ℕ × List ℕ). get_or x.0 0 0) (rw is at h)))

    pub few-found : n ≤ 682
    few-found = hit.few

    pub hits-answer : (a : ℕ) (s s₁ : List ℕ) → (a, s₁) ≡ put_at (lines n out ++ last_line n) 0 s → (a, s₁) ≡ put_at (printed (hits_of w t)) 0 s
    hits-answer a s s₁ f =
        let p : lines n out ++ last_line n ≡ printed (hits_of w t) =
        ap (λ (k : ℕ). lines k out ++ last_line k) hit.count
        ∙ ap (λ (o : List ℕ). lines (length hit.hits) o ++ last_line (length hit.hits)) hit.words
        ∙ hits-printed w t hit.hits hit.are _
        ∙ ap printed (sym hit.are) in
        f ∙ ap (λ (b : List ℕ). put_at b 0 s) p

  pub refused-answer : (c : Refusal) → r ≡ Err c → (a : ℕ) (s s₁ : List ℕ) → (a, s₁) ≡ put_at (printed (Err c)) 0 s → (a, s₁) ≡ put_at (printed (hits_of w t)) 0 s
  unfolding find_from printed
  refused-answer c is a s s₁ f = f ∙ ap (λ (b : List ℕ). put_at b 0 s) (go (hits_of w t) refl e)
    where
      go : (x : Result (List (List ℕ))) → hits_of w t ≡ x → (counted_numbers r, out) ≡ written out₀ x → printed (Err c) ≡ printed x
      go (Ok hs) g h = absurd (no_number c (sym (ap (λ (x : List ℕ × List ℕ). get_or x.0 0 0) (rw (is, enough hs g) at h))))
      go (Err d) g h =
          let q : refusal_number c ≡ refusal_number d = ap (λ (x : List ℕ × List ℕ). get_or x.0 0 0) (rw is at h) in
          ap (λ (n : ℕ). bytes "refused " ++ decimal n ++ (10 ∷ [])) q

-- ---- the input

module _ (bs : List ℕ) (b : Bool) (is : b ≡ (eqb (length bs % 8) 0 && leb 1 (length bs) && leb (length bs) 65536)) where
  pub bad-input : b ≡ false → (a : ℕ) (s s₁ : List ℕ) → (a, s₁) ≡ put_at (printed (Err BadFile)) 0 s → (a, s₁) ≡ put_at (program_run bs) 0 s
  unfolding program_run read_input
  bad-input f a s s₁ e = rw (sym is ∙ f) e

  pub read-input : b ≡ true → (ws ws₀ : List ℕ) → ws ≡ over 0 (words_in (length bs / 8) bs) ws₀ → (a : ℕ) (s s₁ : List ℕ)
      → (a, s₁) ≡ put_at (answer_text (split (take (length bs / 8) ws))) 0 s → (a, s₁) ≡ put_at (program_run bs) 0 s
  unfolding program_run read_input over
  read-input t ws ws₀ f a s s₁ e =
      let n = length bs / 8 in
      let w : take n ws ≡ words_in n bs = ap (take n) f ∙ take_at (words_in n bs) _ n (words_in-length n bs) in
      rw (sym is ∙ t) (e ∙ ap (λ (x : List ℕ). put_at (answer_text (split x)) 0 s) w)

pub text-end : (bs : List ℕ) (a : ℕ) (s s₁ : List ℕ) → 71637 ≤ length s → (a, s₁) ≡ put_at (program_run bs) 0 s → Counts a s₁
text-end bs a s s₁ h e =
    let b = put-room 0 a 71637 0 (program_run bs) s s₁ (text-fits bs) (omega arith) e in
    (omega arith, sym (length-take-le a s₁ (omega arith)))
