-- An addition that document 01's machine accepts lies in the domain, and its arguments can be prepared. Assumes nothing.
use Rattle.std.specs.Prelude.{Err, None, Ok, Some, option_map}
use Rattle.std.proofs.Common.{◌≡◌, ℕ, zero, suc, ◌≤◌, Bool, true, false, cond, not, ◌&&◌, leb, map, length, sym, refl, ap, ◌∙◌, arith, leb-true}
use mathlib.Core.Bool.{false≢true}
use lib.ListN.{length-map}
use Rattle.machine.specs.Lists.{is_empty, all}
use Rattle.machine.specs.Answer.{Result, ◌>>=◌}
use Rattle.machine.specs.Text.{optional_of, optional, pack, plain, to_upper, trim, fit, chain_id, uppercase_or, insertion_code, conformer_name, alternative_location, atom_name}
use Rattle.machine.specs.Record.{finite, good_values}
use Rattle.machine.specs.Edit.{Addition, accept, prepare, new_atom}
use Rattle.machine.specs.declared.Name.{Name}
use Rattle.machine.specs.declared.Name.TheVariants.{ChainId, InsertionCode, ConformerName, AlternativeLocation, AtomName}
use Rattle.machine.specs.declared.Prepared.TheVariants.{Stored, Absent, Bad}
use Rattle.machine.specs.declared.PreparedAddition.{PreparedAddition}
use Rattle.machine.specs.declared.Refusal.{Refusal}
use Rattle.laws.specs.Lists.{and_both}
use Rattle.laws.specs.Text.{trim-twice}
use Rattle.pdbtbx.specs.Std.{Text, to_uppercase}
use Rattle.pdbtbx.specs.Structs.{valid_identifier, prepare_identifier, prepare_identifier_uppercase}
use Rattle.pdbtbx.specs.Demand.{Short, Fitting, Flagged, Domain}
use Rattle.pdbtbx.proofs.Names.{valid-plain, chained, uppercase_or-ready, named, absent, raised, located}
use Rattle.pdbtbx.proofs.Additions.{Coded, floats, Ready}

-- ---- results

pub bind_ok : {A B : Type 0} (r : Result A) (f : A → Result B) (y : B) → (r >>= f) ≡ Ok y → (x : A) × (r ≡ Ok x) × (f x ≡ Ok y)
bind_ok (Ok x) f y h = (x, refl, h)
bind_ok (Err c) f y h = let z : ◌≡◌ {A = ℕ} 0 1 = cc in absurd (omega arith)

same_ok : {A : Type 0} (x y : A) → ◌≡◌ {A = Result A} (Ok x) (Ok y) → x ≡ y
same_ok x y h = cc

bad-not : {A : Type 0} (c : Refusal) (x : A) → ◌≡◌ {A = Result A} (Err c) (Ok x) → ⊥
bad-not c x h = let z : ◌≡◌ {A = ℕ} 0 1 = cc in absurd (omega arith)

-- ---- names

fit-short : (n : Name) (t : Text) (w : ℕ) → accept n (fit t) ≡ Ok w → length t ≤ 8
fit-short n t w h = go (leb (length t) 8) refl h
  where
    go : (b : Bool) → leb (length t) 8 ≡ b → accept n (cond b (Stored (pack t)) Bad) ≡ Ok w → length t ≤ 8
    go true e k = leb-true (length t) 8 e
    go false e k = absurd (bad-not _ w k)

-- a rule that was met
met : (n : Name) (b : Bool) (t : Text) (w : ℕ) → accept n (cond b (fit t) Bad) ≡ Ok w → (b ≡ true) × (length t ≤ 8)
met n true t w h = (refl, fit-short n t w h)
met n false t w h = absurd (bad-not _ w h)

prepares : (t : Text) → all plain t && not (is_empty (trim t)) ≡ true → prepare_identifier t ≡ Some (trim t)
unfolding prepare_identifier
prepares t h = let b = and_both (all plain t) (not (is_empty (trim t))) h in rw (valid-plain t ∙ b.0, b.1)

prepares-upper : (t : Text) → all plain t && not (is_empty (trim t)) ≡ true → prepare_identifier_uppercase t ≡ Some (to_uppercase (trim t))
unfolding prepare_identifier_uppercase
prepares-upper t h = rw (prepares t h)

unprepared : (t u : Text) → all plain t && not (is_empty (trim t)) ≡ false → prepare_identifier_uppercase t ≡ Some u → ⊥
unfolding prepare_identifier_uppercase prepare_identifier
unprepared t u f e = go (valid_identifier t && not (is_empty (trim t))) (ap (λ (b : Bool). b && not (is_empty (trim t))) (valid-plain t) ∙ f) e
  where
    go : (b : Bool) → b ≡ false → option_map to_uppercase (cond b (Some (trim t)) None) ≡ Some u → ⊥
    go true g k = false≢true (sym g)
    go false g k = let z : ◌≡◌ {A = ℕ} 0 1 = cc in absurd (omega arith)

module _ (w : ℕ) where
  chain-met : (t : Text) → accept ChainId (chain_id t) ≡ Ok w → (length (trim t) ≤ 8) × (prepare_identifier (trim t) ≡ Some (trim (trim t)))
  unfolding chain_id
  chain-met t h =
      let m = met ChainId (all plain (trim t) && not (is_empty (trim t))) (trim t) w h in
      (m.1, prepares (trim t) (ap (λ (s : Text). all plain (trim t) && not (is_empty s)) (trim-twice t) ∙ m.0))

  uppercase_or-met : (n : Name) (t : Text) → accept n (uppercase_or t Bad) ≡ Ok w → (length (trim t) ≤ 8) × (prepare_identifier_uppercase t ≡ Some (to_uppercase (trim t)))
  unfolding uppercase_or
  uppercase_or-met n t h =
      let m = met n (all plain t && not (is_empty (trim t))) (map to_upper (trim t)) w h in
      (omega (arith, m.1, length-map (trim t) to_upper), prepares-upper t m.0)

  name-met : (t : Text) → accept AtomName (atom_name t) ≡ Ok w → (length (trim t) ≤ 8) × (valid_identifier (trim t) ≡ true)
  unfolding atom_name
  name-met t h =
      let m = met AtomName (all plain (trim t)) (map to_upper (trim t)) w h in
      (omega (arith, m.1, length-map (trim t) to_upper), valid-plain (trim t) ∙ m.0)

  location-met : (flag : ℕ) (t : Text) → accept AlternativeLocation (optional alternative_location (optional_of flag t)) ≡ Ok w → Flagged flag (Fitting t)
  unfolding uppercase_or
  location-met zero t h = tt
  location-met (suc zero) t h = λ u e. go u e (all plain t && not (is_empty (trim t))) refl h
    where
      go : (u : Text) → prepare_identifier_uppercase t ≡ Some u → (b : Bool) → all plain t && not (is_empty (trim t)) ≡ b → accept AlternativeLocation (cond b (fit (map to_upper (trim t))) Absent) ≡ Ok w → Short t
      go u e true f k = omega (arith, fit-short AlternativeLocation (map to_upper (trim t)) w k, length-map (trim t) to_upper)
      go u e false f k = absurd (unprepared t u f e)
  location-met (suc (suc n)) t h = absurd (bad-not _ w h)

  code-met : (flag : ℕ) (t : Text) → accept InsertionCode (optional insertion_code (optional_of flag t)) ≡ Ok w → Flagged flag (Short t) × Coded (optional_of flag t)
  code-met zero t h = (tt, absent)
  code-met (suc zero) t h = let m = uppercase_or-met InsertionCode t h in (m.0, rw m.1 (raised InsertionCode Bad t _ m.0 m.1))
  code-met (suc (suc n)) t h = absurd (bad-not _ w h)

-- ---- an addition that is accepted

module _ (a : Addition) (p : PreparedAddition) (h : prepare a ≡ Ok p) (g : good_values (new_atom p) ≡ true) where
  pub record Fine : Type 0 where
    pub domain : Domain a
    pub ready : Ready a

  pub fine : Fine
  unfolding prepare good_values
  fine =
      let c = bind_ok (accept ChainId (chain_id a.chain)) _ p h in
      let i = bind_ok (accept InsertionCode (optional insertion_code a.code)) _ p c.2 in
      let f = bind_ok (accept ConformerName (conformer_name a.conformer)) _ p i.2 in
      let l = bind_ok (accept AlternativeLocation (optional alternative_location a.location)) _ p f.2 in
      let n = bind_ok (accept AtomName (atom_name a.name)) _ p l.2 in
      let cm = chain-met c.0 a.chain c.1 in
      let im = code-met i.0 a.code.flag a.code.text i.1 in
      let fm = uppercase_or-met f.0 ConformerName a.conformer f.1 in
      let lm = location-met l.0 a.location.flag a.location.text l.1 in
      let nm = name-met n.0 a.name n.1 in
      let v = and_both (all finite (floats a) && leb a.values.element 118) (leb a.values.hetero 1) (ap (λ (q : PreparedAddition). good_values (new_atom q)) (same_ok _ p n.2) ∙ g) in
      let u = and_both (all finite (floats a)) (leb a.values.element 118) v.0 in
      record {
        domain = record { chain = cm.0; code = im.0; conformer = fm.0; location = lm; name = nm.0; element = leb-true a.values.element 118 u.1; hetero = leb-true a.values.hetero 1 v.1 };
        ready =
            record {
              chain = chained a.chain _ cm.0 cm.1;
              code = im.1;
              conformer = uppercase_or-ready a.conformer _ fm.0 fm.1;
              location = located a.location.flag a.location.text lm;
              name = named a.name nm.0 nm.1;
              valid = nm.1;
              finites = u.0;
            };
      }
