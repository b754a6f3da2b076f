-- Laws of the rules for identifiers and of texts as given. Assumes nothing.
use Rattle.std.specs.Prelude.{ℕ, ◌-◌, ◌≤◌, ◌≡◌, refl, Bool, true, false, not, ◌&&◌, cond, length, leb, eqb}
use Rattle.std.proofs.Common.{sym, ap, ◌∙◌, arith, leb-true, eqb-true, le-leb, eq-eqb, ne_eqb}
use Rattle.std.proofs.lemmas.Bool.{false≢true, lt-leb}
use Rattle.std.proofs.Math.Bool.{and-false, and-true, and_comm}
use mathlib.Core.List.{List, [], ◌∷◌, ◌++◌, map, reverse, reverse-cons, reverse-append, reverse-reverse, map-append}
use Rattle.machine.specs.Lists.{all, is_empty, same}
use Rattle.machine.specs.Text.{pack, text_of, plain, blank, to_upper, trim_start, trim, fit, chain_id, uppercase_or, insertion_code, conformer_name, alternative_location, atom_name, stored_by, matches, packed_text}
use Rattle.machine.specs.declared.Prepared.{Prepared}
use Rattle.machine.specs.declared.Prepared.TheVariants.{Stored, Absent, Bad}
use Rattle.laws.specs.Lists.{and_both, same_true, same_refl, all_split}
use Rattle.laws.specs.Packing.{pack-text_of, text_of-pack, length-text_of, both_ways}

-- ---- trimming and raising

module _ {A : Type 0} (p : A → Bool) where
  all-reverse : (t : List A) → all p (reverse t) ≡ all p t
  all-reverse [] = refl
  all-reverse (x ∷ xs) = rw (reverse-cons, all_split, all-reverse xs, and-true) (and_comm (all p xs) (p x))

trim_start-twice : (t : List ℕ) → trim_start (trim_start t) ≡ trim_start t
unfolding trim_start
trim_start-twice [] = refl
trim_start-twice (b ∷ bs) = go (blank b) refl (trim_start-twice bs)
  where
    go : (a : Bool) → blank b ≡ a → trim_start (trim_start bs) ≡ trim_start bs → trim_start (cond a (trim_start bs) (b ∷ bs)) ≡ cond a (trim_start bs) (b ∷ bs)
    go true e i = i
    go false e i = rw e

-- up to a byte that isn't blank
trim_start-to : (t : List ℕ) (c : ℕ) → blank c ≡ false → trim_start (t ++ (c ∷ [])) ≡ trim_start t ++ (c ∷ [])
unfolding trim_start
trim_start-to [] c h = rw h
trim_start-to (b ∷ bs) c h = go (blank b) (trim_start-to bs c h)
  where
    go : (a : Bool) → trim_start (bs ++ (c ∷ [])) ≡ trim_start bs ++ (c ∷ [])
        → cond a (trim_start (bs ++ (c ∷ []))) (b ∷ (bs ++ (c ∷ []))) ≡ cond a (trim_start bs) (b ∷ bs) ++ (c ∷ [])
    go true i = i
    go false i = refl

pub trim_start-trim : (t : List ℕ) → trim_start (trim t) ≡ trim t
unfolding trim trim_start
trim_start-trim [] = refl
trim_start-trim (b ∷ bs) = go (blank b) refl (trim_start-trim bs)
  where
    ends : List ℕ → List ℕ
    ends t = reverse (trim_start (reverse t))

    go : (a : Bool) → blank b ≡ a → trim_start (ends (trim_start bs)) ≡ ends (trim_start bs)
        → trim_start (ends (cond a (trim_start bs) (b ∷ bs))) ≡ ends (cond a (trim_start bs) (b ∷ bs))
    go true e i = i
    go false e i = rw (reverse-cons, trim_start-to (reverse bs) b e, reverse-append, e)

-- a trimmed text stays as it is
pub trim-twice : (t : List ℕ) → trim (trim t) ≡ trim t
unfolding trim
trim-twice t = ap (λ (s : List ℕ). reverse (trim_start (reverse s))) (trim_start-trim t) ∙ rw (reverse-reverse, trim_start-twice)

all-trim_start : (t : List ℕ) → all plain t ≡ true → all plain (trim_start t) ≡ true
unfolding trim_start
all-trim_start [] h = refl
all-trim_start (b ∷ bs) h = go (blank b) (all-trim_start bs (and_both (plain b) (all plain bs) h).1)
  where
    go : (a : Bool) → all plain (trim_start bs) ≡ true → all plain (cond a (trim_start bs) (b ∷ bs)) ≡ true
    go true i = i
    go false i = h

pub all-trim : (t : List ℕ) → all plain t ≡ true → all plain (trim t) ≡ true
unfolding trim
all-trim t h = rw (all-reverse plain) (all-trim_start (reverse (trim_start t)) (rw (all-reverse plain) (all-trim_start t h)))

-- a byte that is raised is one of 97..122
to_upper-cases : (P : ℕ → Type 0) (b : ℕ) → (leb 97 b && leb b 122 ≡ false → P b) → (97 ≤ b → b ≤ 122 → P (b - 32)) → P (to_upper b)
to_upper-cases P b f g = go (leb 97 b && leb b 122) refl
  where
    go : (a : Bool) → leb 97 b && leb b 122 ≡ a → P (cond a (b - 32) b)
    go true e = let p = and_both (leb 97 b) (leb b 122) e in g (leb-true 97 b p.0) (leb-true b 122 p.1)
    go false e = f e

to_upper-twice : (b : ℕ) → to_upper (to_upper b) ≡ to_upper b
to_upper-twice b = to_upper-cases (λ c. to_upper c ≡ c) b (λ e. rw e) (λ h k. rw (lt-leb 97 (b - 32) (omega arith)))

pub not-blank : (b : ℕ) → 33 ≤ b → blank b ≡ false
not-blank b h = rw (lt-leb b 13 (omega arith), ne_eqb b 32 (omega arith), and-false)

blank-to_upper : (b : ℕ) → blank (to_upper b) ≡ blank b
blank-to_upper b = to_upper-cases (λ c. blank c ≡ blank b) b (λ e. refl) (λ h k. not-blank (b - 32) (omega arith) ∙ sym (not-blank b (omega arith)))

pub is_plain : (b : ℕ) → 32 ≤ b → b ≤ 126 → plain b ≡ true
is_plain b h k = rw (le-leb 32 b h, le-leb b 126 k)

plain-to_upper : (b : ℕ) → plain (to_upper b) ≡ plain b
plain-to_upper b = to_upper-cases (λ c. plain c ≡ plain b) b (λ e. refl) (λ h k. is_plain (b - 32) (omega arith) (omega arith) ∙ sym (is_plain b (omega arith) (omega arith)))

pub all-to_upper : (t : List ℕ) → all plain (map to_upper t) ≡ all plain t
all-to_upper [] = refl
all-to_upper (b ∷ bs) = rw (plain-to_upper b, all-to_upper bs)

pub map-to_upper-twice : (t : List ℕ) → map to_upper (map to_upper t) ≡ map to_upper t
map-to_upper-twice [] = refl
map-to_upper-twice (b ∷ bs) = rw (to_upper-twice b, map-to_upper-twice bs)

trim_start-to_upper : (t : List ℕ) → trim_start (map to_upper t) ≡ map to_upper (trim_start t)
unfolding trim_start
trim_start-to_upper [] = refl
trim_start-to_upper (b ∷ bs) = rw (blank-to_upper b, trim_start-to_upper bs) (go (blank b))
  where
    go : (a : Bool) → cond a (map to_upper (trim_start bs)) (to_upper b ∷ map to_upper bs) ≡ map to_upper (cond a (trim_start bs) (b ∷ bs))
    go true = refl
    go false = refl

reverse-to_upper : (t : List ℕ) → reverse (map to_upper t) ≡ map to_upper (reverse t)
reverse-to_upper [] = refl
reverse-to_upper (b ∷ bs) = rw (reverse-cons (to_upper b) (map to_upper bs), reverse-cons b bs, map-append, reverse-to_upper bs)

pub trim-to_upper : (t : List ℕ) → trim (map to_upper t) ≡ map to_upper (trim t)
unfolding trim
trim-to_upper t = rw (trim_start-to_upper t, reverse-to_upper (trim_start t), trim_start-to_upper (reverse (trim_start t)), reverse-to_upper)

-- ---- what a rule stores is in stored form

pub bad-stores-none : (v : ℕ) → Bad ≡ Stored v → ⊥
bad-stores-none v e = let z : ◌≡◌ {A = ℕ} 0 1 = cc in omega arith

pub absent-stores-none : (v : ℕ) → Absent ≡ Stored v → ⊥
absent-stores-none v e = let z : ◌≡◌ {A = ℕ} 0 1 = cc in omega arith

-- where a choice is stored, its first side was taken
pub stored-where : (a : Bool) (p other : Prepared) (w : ℕ) → ((v : ℕ) → other ≡ Stored v → ⊥) → cond a p other ≡ Stored w
    → (a ≡ true) × (p ≡ Stored w)
stored-where true p other w n e = (refl, e)
stored-where false p other w n e = absurd (n w e)

-- the word that is stored holds the text
pub fit-text : (t : List ℕ) (w : ℕ) → all plain t ≡ true → fit t ≡ Stored w → text_of w ≡ t
fit-text t w h e =
    let p = stored-where (leb (length t) 8) (Stored (pack t)) Bad w bad-stores-none e in
    let s : Stored (pack t) ≡ Stored w = p.1 in
    let q : pack t ≡ w = cc in
    rw (← q) (text_of-pack t (leb-true (length t) 8 p.0) h)

pub stored-again : (rule : List ℕ → Prepared) (w : ℕ) → rule (text_of w) ≡ Stored w → stored_by rule w ≡ true
unfolding stored_by
stored-again rule w e = rw e (eq-eqb w w refl)

-- a rule takes what it stored as it took the text
chain_id-trim : (t : List ℕ) → chain_id (trim t) ≡ chain_id t
unfolding chain_id
chain_id-trim t = rw trim-twice

chain_id-text : (t : List ℕ) (w : ℕ) → chain_id t ≡ Stored w → text_of w ≡ trim t
unfolding chain_id
chain_id-text t w e =
    let p = stored-where (all plain (trim t) && not (is_empty (trim t))) (fit (trim t)) Bad w bad-stores-none e in
    fit-text (trim t) w (and_both (all plain (trim t)) (not (is_empty (trim t))) p.0).0 p.1

pub chain_id-stored : (t : List ℕ) (w : ℕ) → chain_id t ≡ Stored w → stored_by chain_id w ≡ true
chain_id-stored t w e = stored-again chain_id w (rw (chain_id-text t w e, chain_id-trim) e)

pub is_empty-to_upper : (t : List ℕ) → is_empty (map to_upper t) ≡ is_empty t
is_empty-to_upper [] = refl
is_empty-to_upper (b ∷ bs) = refl

uppercase_or-trim : (t : List ℕ) (other : Prepared) → all plain t ≡ true → uppercase_or (map to_upper (trim t)) other ≡ uppercase_or t other
unfolding uppercase_or
uppercase_or-trim t other h = rw (trim-to_upper, trim-twice, map-to_upper-twice, is_empty-to_upper (trim t), all-to_upper (trim t), all-trim t h, h)

-- for the three rules that share `uppercase_or`
pub uppercase_or-again : (t : List ℕ) (other : Prepared) (w : ℕ) → uppercase_or t other ≡ Stored w → ((v : ℕ) → other ≡ Stored v → ⊥)
    → uppercase_or (text_of w) other ≡ Stored w
unfolding uppercase_or
uppercase_or-again t other w e n =
    let p = stored-where (all plain t && not (is_empty (trim t))) (fit (map to_upper (trim t))) other w n e in
    let h = (and_both (all plain t) (not (is_empty (trim t))) p.0).0 in
    let r = fit-text (map to_upper (trim t)) w (all-to_upper (trim t) ∙ all-trim t h) p.1 in
    ap (λ (s : List ℕ). uppercase_or s other) r ∙ uppercase_or-trim t other h ∙ e

pub insertion_code-stored : (t : List ℕ) (w : ℕ) → insertion_code t ≡ Stored w → stored_by insertion_code w ≡ true
insertion_code-stored t w e = stored-again insertion_code w (uppercase_or-again t Bad w e bad-stores-none)

pub conformer_name-stored : (t : List ℕ) (w : ℕ) → conformer_name t ≡ Stored w → stored_by conformer_name w ≡ true
conformer_name-stored t w e = stored-again conformer_name w (uppercase_or-again t Bad w e bad-stores-none)

pub alternative_location-stored : (t : List ℕ) (w : ℕ) → alternative_location t ≡ Stored w → stored_by alternative_location w ≡ true
alternative_location-stored t w e = stored-again alternative_location w (uppercase_or-again t Absent w e absent-stores-none)

atom_name-trim : (t : List ℕ) → atom_name (map to_upper (trim t)) ≡ atom_name t
unfolding atom_name
atom_name-trim t = rw (trim-to_upper, trim-twice, map-to_upper-twice, all-to_upper (trim t))

atom_name-text : (t : List ℕ) (w : ℕ) → atom_name t ≡ Stored w → text_of w ≡ map to_upper (trim t)
unfolding atom_name
atom_name-text t w e =
    let p = stored-where (all plain (trim t)) (fit (map to_upper (trim t))) Bad w bad-stores-none e in
    fit-text (map to_upper (trim t)) w (all-to_upper (trim t) ∙ p.0) p.1

pub atom_name-stored : (t : List ℕ) (w : ℕ) → atom_name t ≡ Stored w → stored_by atom_name w ≡ true
atom_name-stored t w e = stored-again atom_name w (rw (atom_name-text t w e, atom_name-trim) e)

-- ---- texts as given

-- a text that its word keeps matches that word alone
pub matches-kept : (t : List ℕ) (w : ℕ) → text_of (pack t) ≡ t → not (is_empty t) ≡ true → matches t w ≡ eqb (pack t) w
unfolding matches
matches-kept t w k n = rw n (both_ways (same t (text_of w)) (eqb (pack t) w)
    (λ e. eq-eqb (pack t) w (ap pack (same_true t (text_of w) e) ∙ pack-text_of w))
    (λ e. rw (← eqb-true (pack t) w e, k) (same_refl t)))

pub matches-word : (t : List ℕ) (w : ℕ) → length t ≤ 8 → all plain t ≡ true → is_empty t ≡ false → matches t w ≡ eqb (pack t) w
matches-word t w l h n = matches-kept t w (text_of-pack t l h) (ap not n)

-- a text that isn't a word's doesn't match it
pub matches-none : (t : List ℕ) (w : ℕ) → (t ≡ text_of w → ⊥) → matches t w ≡ false
unfolding matches
matches-none t w n = both_ways (not (is_empty t) && same t (text_of w)) false
    (λ e. absurd (n (same_true t (text_of w) (and_both (not (is_empty t)) (same t (text_of w)) e).1)))
    (λ e. absurd (false≢true e))

packed_text-fits : (t : List ℕ) (w : ℕ) → packed_text w ≡ true → t ≡ text_of w → (all plain t && leb (length t) 8) ≡ true
unfolding packed_text
packed_text-fits t w p e = rw (e, p) (le-leb (length (text_of w)) 8 (length-text_of w))

-- a text that can't be packed matches no word that holds a packed text
pub matches-unpackable : (t : List ℕ) (w : ℕ) → packed_text w ≡ true → (all plain t && leb (length t) 8) ≡ false → matches t w ≡ false
matches-unpackable t w p n = matches-none t w (λ e. false≢true (sym n ∙ packed_text-fits t w p e))
