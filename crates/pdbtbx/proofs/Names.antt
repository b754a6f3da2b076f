-- Identifiers: the crate's preparation of a text against document 01's rules. Assumes nothing.
use Rattle.std.proofs.lemmas.Option.{none-some}
use Rattle.std.specs.Prelude.{None, Ok, Option, Some, option_map}
use Rattle.std.proofs.Common.{◌≡◌, ℕ, zero, suc, ◌≤◌, Bool, true, false, cond, not, ◌&&◌, eqb, ltb, leb, [], ◌∷◌, map, length, sym, refl, ap, ◌∙◌, ap₂, arith, ltb-true, lt-ltb, ne_eqb, eqb-true, le-leb, leb-true}
use mathlib.Core.Bool.{false≢true}
use lib.ListN.{length-map}
use borrow.Author.Tests.{eqb-false}
use Rattle.machine.specs.Lists.{is_empty, all, same, and_then}
use Rattle.machine.specs.Answer.{Result}
use Rattle.machine.specs.Text.{Optional, optional_of, optional, pack, packed, unpacked, without_zeros, text_of, plain, to_upper, trim, fit, chain_id, uppercase_or, alternative_location, atom_name, matches, matches_optional}
use Rattle.machine.specs.Edit.{accept}
use Rattle.machine.specs.declared.Name.{Name}
use Rattle.machine.specs.declared.Name.TheVariants.{AlternativeLocation}
use Rattle.machine.specs.declared.Prepared.{Prepared}
use Rattle.machine.specs.declared.Prepared.TheVariants.{Stored, Absent}
use Rattle.laws.specs.Lists.{and_both, and-true, same_true, same_refl}
use Rattle.laws.specs.Packing.{both_ways, pack-text_of, text_of-pack}
use Rattle.laws.specs.Text.{trim-twice, all-trim, all-to_upper, trim-to_upper, map-to_upper-twice, is_empty-to_upper}
use Rattle.pdbtbx.specs.Std.{Text, to_uppercase, same_option}
use Rattle.pdbtbx.specs.Structs.{check_char, valid_identifier, prepare_identifier, prepare_identifier_uppercase}
use Rattle.pdbtbx.specs.Words.{string, option_string}
use Rattle.pdbtbx.specs.Calls.{present, prepared_location}
use Rattle.pdbtbx.specs.Demand.{Short, Fitting, Flagged}

check-plain : (b : ℕ) → check_char b ≡ plain b
check-plain b =
    both_ways (ltb b 127 && ltb 31 b) (leb 32 b && leb b 126)
    (λ h. let p = and_both (ltb b 127) (ltb 31 b) h in let l = ltb-true b 127 p.0 in let m = ltb-true 31 b p.1 in and-true (le-leb 32 b (omega arith)) (le-leb b 126 (omega arith)))
    (λ h. let p = and_both (leb 32 b) (leb b 126) h in let l = leb-true 32 b p.0 in let m = leb-true b 126 p.1 in and-true (lt-ltb b 127 (omega arith)) (lt-ltb 31 b (omega arith)))

pub valid-plain : (t : Text) → valid_identifier t ≡ all plain t
valid-plain [] = refl
valid-plain (b ∷ bs) = ap₂ ◌&&◌ (check-plain b) (valid-plain bs)

-- what a preparation that gave something says
prepared-test : (t u : Text) → prepare_identifier t ≡ Some u → valid_identifier t && not (is_empty (trim t)) ≡ true
unfolding prepare_identifier
prepared-test t u h = go (valid_identifier t && not (is_empty (trim t))) h
  where
    go : (b : Bool) → cond b (Some (trim t)) None ≡ Some u → b ≡ true
    go true e = refl
    go false e = absurd (none-some u e)

-- ---- chain ids

pub record Chained (t : Text) : Type 0 where
  pub word : ℕ
  pub stored : chain_id t ≡ Stored word
  pub text : string word ≡ trim t
  pub new : prepare_identifier (trim t) ≡ Some (string word)

pub chained : (t u : Text) → length (trim t) ≤ 8 → prepare_identifier (trim t) ≡ Some u → Chained t
unfolding prepare_identifier chain_id
chained t u l h =
    let e = prepared-test (trim t) u h in
    let b = and_both (valid_identifier (trim t)) (not (is_empty (trim (trim t)))) e in
    let p : all plain (trim t) ≡ true = sym (valid-plain (trim t)) ∙ b.0 in
    let n : not (is_empty (trim t)) ≡ true = ap (λ (s : Text). not (is_empty s)) (sym (trim-twice t)) ∙ b.1 in
    let k : text_of (pack (trim t)) ≡ trim t = text_of-pack (trim t) l p in
    record {
      word = pack (trim t);
      stored = rw (p, n, le-leb (length (trim t)) 8 l);
      text = k;
      new = rw e (ap {B = Option Text} Some (trim-twice t ∙ sym k));
    }

-- ---- what is raised

pub record Uppercased (t : Text) : Type 0 where
  pub word : ℕ
  pub stored : (other : Prepared) → uppercase_or t other ≡ Stored word
  pub text : prepare_identifier_uppercase t ≡ Some (string word)
  pub again : prepare_identifier_uppercase (string word) ≡ Some (string word)
  pub present : option_string word ≡ Some (string word)

upper-some : (o : Option Text) (u : Text) → option_map to_uppercase o ≡ Some u → (v : Text) × (o ≡ Some v)
upper-some None u h = absurd (none-some u h)
upper-some (Some v) u h = (v, refl)

zero-text : text_of 0 ≡ []
unfolding text_of without_zeros unpacked
zero-text = refl

pack-empty : pack [] ≡ 0
unfolding packed
pack-empty = refl

-- a word whose text isn't empty isn't 0
word-present : (w : ℕ) → not (is_empty (string w)) ≡ true → option_string w ≡ Some (string w)
word-present w h = go (eqb w 0) refl
  where
    go : (b : Bool) → eqb w 0 ≡ b → cond b None (Some (text_of w)) ≡ Some (text_of w)
    go false e = refl
    go true e = absurd (false≢true (sym (ap (λ (s : Text). not (is_empty s)) zero-text) ∙ ap (λ (v : ℕ). not (is_empty (text_of v))) (sym (eqb-true w 0 e)) ∙ h))

module _ (t u : Text) (l : length (trim t) ≤ 8) (h : prepare_identifier_uppercase t ≡ Some u) where
  test : valid_identifier t && not (is_empty (trim t)) ≡ true
  unfolding prepare_identifier_uppercase
  test = let s = upper-some (prepare_identifier t) u h in prepared-test t s.0 s.1

  all_plain : all plain t ≡ true
  all_plain = sym (valid-plain t) ∙ (and_both (valid_identifier t) (not (is_empty (trim t))) test).0

  not-empty : not (is_empty (trim t)) ≡ true
  not-empty = (and_both (valid_identifier t) (not (is_empty (trim t))) test).1

  kept : text_of (pack (to_uppercase (trim t))) ≡ to_uppercase (trim t)
  kept = text_of-pack (to_uppercase (trim t)) (omega (arith, length-map (trim t) to_upper)) (all-to_upper (trim t) ∙ all-trim t all_plain)

  once : prepare_identifier_uppercase t ≡ Some (to_uppercase (trim t))
  unfolding prepare_identifier_uppercase prepare_identifier
  once = rw test

  twice : prepare_identifier_uppercase (to_uppercase (trim t)) ≡ Some (to_uppercase (trim t))
  unfolding prepare_identifier_uppercase prepare_identifier
  twice =
      let e : trim (to_uppercase (trim t)) ≡ to_uppercase (trim t) = trim-to_upper (trim t) ∙ ap to_uppercase (trim-twice t) in
      let v : valid_identifier (to_uppercase (trim t)) ≡ true = valid-plain (to_uppercase (trim t)) ∙ all-to_upper (trim t) ∙ all-trim t all_plain in
      let n : not (is_empty (to_uppercase (trim t))) ≡ true = ap not (is_empty-to_upper (trim t)) ∙ not-empty in
      rw (e, v, n) (ap {B = Option Text} Some (map-to_upper-twice (trim t)))

  pub uppercase_or-ready : Uppercased t
  unfolding uppercase_or
  uppercase_or-ready =
      record {
        word = pack (to_uppercase (trim t));
        stored = λ other. rw (all_plain, not-empty, length-map (trim t) to_upper, le-leb (length (trim t)) 8 l);
        text = once ∙ ap {B = Option Text} Some (sym kept);
        again = ap prepare_identifier_uppercase kept ∙ twice ∙ ap {B = Option Text} Some (sym kept);
        present = word-present (pack (to_uppercase (trim t))) (ap (λ (s : Text). not (is_empty s)) kept ∙ ap not (is_empty-to_upper (trim t)) ∙ not-empty);
      }

-- what isn't prepared is not raised
pub uppercase_or-none : (t : Text) (other : Prepared) → prepare_identifier_uppercase t ≡ None → uppercase_or t other ≡ other
unfolding uppercase_or prepare_identifier_uppercase prepare_identifier
uppercase_or-none t other h = ap (λ (b : Bool). cond (b && not (is_empty (trim t))) (fit (map to_upper (trim t))) other) (sym (valid-plain t)) ∙ go (valid_identifier t && not (is_empty (trim t))) h
  where
    go : (b : Bool) → option_map to_uppercase (cond b (Some (trim t)) None) ≡ None → cond b (fit (map to_upper (trim t))) other ≡ other
    go false e = refl
    go true e = absurd (none-some (to_uppercase (trim t)) (sym e))

-- ---- atom names

pub record Named (t : Text) : Type 0 where
  pub word : ℕ
  pub stored : atom_name t ≡ Stored word
  pub text : string word ≡ to_uppercase (trim (trim t))

pub named : (t : Text) → length (trim t) ≤ 8 → valid_identifier (trim t) ≡ true → Named t
unfolding atom_name
named t l h =
    let p : all plain (trim t) ≡ true = sym (valid-plain (trim t)) ∙ h in
    record {
      word = pack (to_uppercase (trim t));
      stored = rw (p, length-map (trim t) to_upper, le-leb (length (trim t)) 8 l);
      text = text_of-pack (to_uppercase (trim t)) (omega (arith, length-map (trim t) to_upper)) (all-to_upper (trim t) ∙ p) ∙ ap to_uppercase (sym (trim-twice t));
    }

-- ---- codes and locations: the crate is given the text of the word that is stored, which it prepares to itself

pub record Given (stored : Result ℕ) (o : Option Text) : Type 0 where
  pub word : ℕ
  pub accepted : stored ≡ Ok word
  pub text : o ≡ option_string word
  pub again : and_then (option_string word) prepare_identifier_uppercase ≡ option_string word

pub absent : Given (Ok 0) None
absent = record { word = 0; accepted = refl; text = refl; again = refl }

pub raised : (n : Name) (other : Prepared) (t u : Text) → Short t → prepare_identifier_uppercase t ≡ Some u → Given (accept n (uppercase_or t other)) (Some u)
raised n other t u s e =
    let r = uppercase_or-ready t u s e in
    record { word = r.word; accepted = rw (r.stored other); text = sym e ∙ r.text ∙ sym r.present; again = rw r.present r.again }

-- a bad or blank location is absent
abbrev pub Located : Optional → Type 0
Located o = Given (accept AlternativeLocation (optional alternative_location o)) (prepared_location o)

pub located : (flag : ℕ) (t : Text) → Flagged flag (Fitting t) → Located (optional_of flag t)
located zero t s = absent
located (suc zero) t s = go (prepare_identifier_uppercase t) refl
  where
    go : (p : Option Text) → prepare_identifier_uppercase t ≡ p → Given (accept AlternativeLocation (alternative_location t)) p
    go None e = rw (uppercase_or-none t Absent e) absent
    go (Some u) e = raised AlternativeLocation Absent t u (s u e) e
located (suc (suc n)) t s = absurd s

-- a text as given, beside one that is stored
same-swap : (s t : Text) → same s t ≡ same t s
same-swap s t = both_ways (same s t) (same t s) (λ h. rw (same_true s t h) (same_refl t)) (λ h. rw (same_true t s h) (same_refl s))

no-match : (s : Text) → not (is_empty s) && same s [] ≡ false
no-match [] = refl
no-match (x ∷ xs) = refl

module _ (w : ℕ) where
  -- a text isn't empty where its word isn't 0
  filled : eqb w 0 ≡ false → (s : Text) → text_of w ≡ s → same s [] ≡ false
  filled e (x ∷ xs) i = refl
  filled e [] i = let z = eqb-false w 0 e in absurd (z (sym (pack-text_of w) ∙ ap pack i ∙ pack-empty))

  pub both : eqb w 0 ≡ false → (s : Text) → not (is_empty s) && same s (text_of w) ≡ same (text_of w) s
  both e [] = sym (filled e (text_of w) refl)
  both e (x ∷ xs) = same-swap (x ∷ xs) (text_of w)

  pub matches-given : (flag : ℕ) (t : Text) → matches_optional (optional_of flag t) w ≡ same_option (option_string w) (present flag t)
  unfolding matches
  matches-given zero t = go (eqb w 0)
    where
      go : (b : Bool) → b ≡ same_option (cond b None (Some (text_of w))) None
      go true = refl
      go false = refl
  matches-given (suc n) t = rw (ne_eqb (suc n) 0 (λ e. omega arith)) (go (eqb w 0) refl)
    where
      go : (b : Bool) → eqb w 0 ≡ b → matches t w ≡ same_option (cond b None (Some (text_of w))) (Some t)
      go true e = rw (eqb-true w 0 e, zero-text) (no-match t)
      go false e = both e t
