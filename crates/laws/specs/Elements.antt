-- A missing element that is set: from every start and for every tree the hits stay, or lose that atom. Assumes nothing.
use Rattle.std.proofs.lemmas.Option.{same_Some}
use Rattle.std.specs.Prelude.{ℕ, zero, suc, ◌+◌, Bool, cond, ◌⊎◌, List, [], ◌∷◌, ◌++◌, map, length, eqb, None, Ok, Option, Some}
use Rattle.std.proofs.Math.Path.{◌≡◌, refl, sym}
use Rattle.std.proofs.Common.{ap, ◌∙◌, inr, arith}
use Rattle.std.proofs.Math.Bool.{true, false}
use Rattle.std.proofs.Math.Logic.{inl}
use Rattle.std.proofs.lemmas.List.{map-append}
use Rattle.std.proofs.Math.Dec.{leb}
use borrow.Author.Tests.{leb-true, leb-false}
use Rattle.machine.specs.Lists.{keep, filter, nth, concat_map_from}
use Rattle.machine.specs.Answer.{Result, ◌>>=◌, ◌>>◌, need, position}
use Rattle.machine.specs.Record.{Atom, is_element, read_out}
use Rattle.machine.specs.Store.{Branch, Machine, flat}
use Rattle.machine.specs.Kleene.{is_hit}
use Rattle.machine.specs.Query.{Place, Names, only_if, between, window, element_is, term_value}
use Rattle.machine.specs.Find.{Site, enter, below, top, size, numbered, atoms_in, atoms_from, value_from, hits_among}
use Rattle.machine.specs.Edit.{SetElement, Change, branch_at, replace_at, with_found, refielded, set_at, with_element, fill_in, machine_step}
use Rattle.machine.specs.Demand.{StaysOrLoses}
use Rattle.machine.specs.declared.Refusal.TheVariants.{BadValue}
use Rattle.machine.specs.declared.Tri.{Tri}
use Rattle.machine.specs.declared.Tri.TheVariants.{False, True, Undecided}
use Rattle.machine.specs.declared.Term.{Term}
use Rattle.machine.specs.declared.Term.TheVariants.{ModelSerialNumber, ModelSerialNumberRange, ChainId, ChainIdRange, ResidueSerialNumber, ResidueSerialNumberRange, ResidueInsertionCode, ResidueId, ConformerName, ConformerAlternativeLocation, ConformerId, AtomSerialNumber, AtomSerialNumberRange, AtomName, Element, BFactor, BFactorRange, Occupancy, OccupancyRange, Backbone, SideChain, Hetero}
use Rattle.laws.specs.Counting.{filter-append}
use Rattle.laws.specs.Kleene.{◌⊑◌, ⊑_refl}
use Rattle.laws.specs.Trees.{tree-grows}
use Rattle.laws.specs.Numbers.{too-deep}
use Rattle.laws.specs.Sites.{Alike, Sites, sites}

-- ---- one atom's terms

-- at b, in the place of a, each term has the value that it had at a, or was undecided there
abbrev Knows : Names → ℕ → Atom → Atom → Type 0
Knows names low a b = (p : Place) (term : Term) → term_value names (window low 5 (enter 0 a p)) term ⊑ term_value names (window low 5 (enter 0 b p)) term

module _ (names : Names) (a : Atom) (e : ℕ) (missing : eqb a.element 0 ≡ true) where
  -- with the levels above as they are known in q
  abbrev known : Place → Bool → Atom → Place
  known q b x = record { model = q.model; chain = q.chain; residue = q.residue; conformer = q.conformer; atom = only_if b (Some x) }

  abbrev filled : Atom
  filled = with_element e a

  element-grows : (n : ℕ) → element_is n (Some a) ⊑ element_is n (Some filled)
  element-grows n = rw missing tt

  -- an atom that isn't known tells nothing; of one that is, Element alone goes by the element
  terms-grow : (q : Place) (b : Bool) (term : Term) → term_value names (known q b a) term ⊑ term_value names (known q b filled) term
  unfolding term_value read_out
  terms-grow q false term = ⊑_refl (term_value names (known q false a) term)
  terms-grow q true (ModelSerialNumber n) = ⊑_refl (term_value names (known q true a) (ModelSerialNumber n))
  terms-grow q true (ModelSerialNumberRange x y) = ⊑_refl (term_value names (known q true a) (ModelSerialNumberRange x y))
  terms-grow q true (ChainId n) = ⊑_refl (term_value names (known q true a) (ChainId n))
  terms-grow q true (ChainIdRange x y) = ⊑_refl (term_value names (known q true a) (ChainIdRange x y))
  terms-grow q true (ResidueSerialNumber n) = ⊑_refl (term_value names (known q true a) (ResidueSerialNumber n))
  terms-grow q true (ResidueSerialNumberRange x y) = ⊑_refl (term_value names (known q true a) (ResidueSerialNumberRange x y))
  terms-grow q true (ResidueInsertionCode n) = ⊑_refl (term_value names (known q true a) (ResidueInsertionCode n))
  terms-grow q true (ResidueId n k) = ⊑_refl (term_value names (known q true a) (ResidueId n k))
  terms-grow q true (ConformerName n) = ⊑_refl (term_value names (known q true a) (ConformerName n))
  terms-grow q true (ConformerAlternativeLocation n) = ⊑_refl (term_value names (known q true a) (ConformerAlternativeLocation n))
  terms-grow q true (ConformerId n k) = ⊑_refl (term_value names (known q true a) (ConformerId n k))
  terms-grow q true (AtomSerialNumber n) = ⊑_refl (term_value names (known q true a) (AtomSerialNumber n))
  terms-grow q true (AtomSerialNumberRange x y) = ⊑_refl (term_value names (known q true a) (AtomSerialNumberRange x y))
  terms-grow q true (AtomName n) = ⊑_refl (term_value names (known q true a) (AtomName n))
  terms-grow q true (Element n) = element-grows n
  terms-grow q true (BFactor x) = ⊑_refl (term_value names (known q true a) (BFactor x))
  terms-grow q true (BFactorRange x y) = ⊑_refl (term_value names (known q true a) (BFactorRange x y))
  terms-grow q true (Occupancy x) = ⊑_refl (term_value names (known q true a) (Occupancy x))
  terms-grow q true (OccupancyRange x y) = ⊑_refl (term_value names (known q true a) (OccupancyRange x y))
  terms-grow q true Backbone = ⊑_refl (term_value names (known q true a) Backbone)
  terms-grow q true SideChain = ⊑_refl (term_value names (known q true a) SideChain)
  terms-grow q true Hetero = ⊑_refl (term_value names (known q true a) Hetero)

  element-knows : (low : ℕ) → Knows names low a filled
  unfolding window enter
  element-knows low p term = terms-grow (window low 5 p) (between low 5 5) term

-- ---- the hits among atoms

hit-falls : (x y : Tri) → x ⊑ y → (is_hit y ≡ is_hit x) ⊎ ((is_hit x ≡ true) × (is_hit y ≡ false))
hit-falls False y h = inl (ap is_hit h)
hit-falls True y h = inl (ap is_hit h)
hit-falls Undecided False h = inr (refl, refl)
hit-falls Undecided True h = inl refl
hit-falls Undecided Undecided h = inl refl

one_less : (h : List ℕ) (P Q : List (List ℕ)) (g g' : Bool) → (g' ≡ g) ⊎ ((g ≡ true) × (g' ≡ false)) → StaysOrLoses h (P ++ (keep g h [] ++ Q)) (P ++ (keep g' h [] ++ Q))
one_less h P Q g g' (inl e) = inl (rw e)
one_less h P Q g g' (inr e) = inr (record { ahead = P; behind = Q; was = rw e.0; is = rw e.1 })

one_kept : (b : Bool) (x : Site) → map (λ s. s.numbers) (keep b x []) ≡ keep b x.numbers []
one_kept true x = refl
one_kept false x = refl

module _ (names : Names) (low : ℕ) (t : List ℕ) where
  abbrev hit : Site → Bool
  hit s = is_hit (value_from names low t s)

  hits-append : (xs ys : List Site) → hits_among names low t (xs ++ ys) ≡ hits_among names low t xs ++ hits_among names low t ys
  hits-append xs ys = ap (map (λ (s : Site). s.numbers)) (filter-append hit xs ys) ∙ map-append (λ (s : Site). s.numbers) (filter hit xs) (filter hit ys)

  hits-around : (pre post : List Site) (x : Site) → hits_among names low t (pre ++ ((x ∷ []) ++ post)) ≡ hits_among names low t pre ++ (keep (hit x) x.numbers [] ++ hits_among names low t post)
  hits-around pre post x =
      hits-append pre ((x ∷ []) ++ post) ∙ ap (λ (l : List (List ℕ)). hits_among names low t pre ++ l) (hits-append (x ∷ []) post ∙ ap (λ (l : List (List ℕ)). l ++ hits_among names low t post) (one_kept (hit x) x))

  -- one atom for another in its place, at which more is known
  swap-hits : (pre post : List Site) (s : Site) (n : ℕ) (a b : Atom) → Knows names low a b
      → StaysOrLoses (below 0 n a s).numbers (hits_among names low t (pre ++ ((below 0 n a s ∷ []) ++ post))) (hits_among names low t (pre ++ ((below 0 n b s ∷ []) ++ post)))
  swap-hits pre post s n a b k =
      rw (hits-around pre post (below 0 n a s), hits-around pre post (below 0 n b s))
      (one_less (below 0 n a s).numbers (hits_among names low t pre) (hits_among names low t post) (hit (below 0 n a s)) (hit (below 0 n b s))
      (hit-falls (value_from names low t (below 0 n a s)) (value_from names low t (below 0 n b s))
      (tree-grows (term_value names (window low 5 (enter 0 a s.place))) (term_value names (window low 5 (enter 0 b s.place))) (k s.place) t)))

-- ---- an atom at a position

-- from a start whose atoms these are, the hits afterwards stay or lose one
abbrev pub Falls : List ℕ → Machine → Names → ℕ → List ℕ → List ℕ → List Site → Type 0
Falls hit after names low t start atoms = (atoms' : List Site) × (atoms_from start after ≡ Some atoms') × StaysOrLoses hit (hits_among names low t atoms) (hits_among names low t atoms')

nth-atoms : (s : Site) (i n : ℕ) (ts : List (Branch 0)) (q : ℕ) (a : Atom) → nth i (numbered 0 n ts) ≡ Some (q, a) → nth i (concat_map_from (size 0) (atoms_in 0 s) n ts) ≡ Some (below 0 q a s)
unfolding numbered atoms_in
nth-atoms s i n [] q a e = let z : ◌≡◌ {A = ℕ} 0 1 = cc in absurd (omega arith)
nth-atoms s zero n (t ∷ ts) q a e = let p : ◌≡◌ {A = ℕ × Atom} (n, t) (q, a) = cc in ap (λ (x : ℕ × Atom). Some (below 0 x.0 x.1 s)) p
nth-atoms s (suc i) n (t ∷ ts) q a e = nth-atoms s i (n + size 0 t) ts q a e

module _ (m : Machine) (i c r f j : ℕ) (a : Atom) (there : branch_at 4 0 (i ∷ c ∷ r ∷ f ∷ j ∷ []) m ≡ Some a) where
  its : Sites 4 0 (i ∷ c ∷ r ∷ f ∷ j ∷ []) top 0 m a
  its = sites 4 0 (i ∷ c ∷ r ∷ f ∷ j ∷ []) top 0 m a there

  -- the atom at the position: the one of index j under its conformer
  pub atom_site : Site
  atom_site = below 0 its.number a its.site

  pub under-conformer : (atoms : List Site) × (atoms_from (i ∷ c ∷ r ∷ f ∷ []) m ≡ Some atoms) × (nth j atoms ≡ Some atom_site)
  unfolding atom_site
  under-conformer = let p = its.above (i ∷ c ∷ r ∷ f ∷ []) j refl refl in (_, p.are, nth-atoms its.site j p.first p.branches its.number a p.there)

  -- b in its place, at which more is known
  module _ (b : Atom) (names : Names) (low : ℕ) (k : Knows names low a b) (start : List ℕ) where
    abbrev put : Machine
    put = replace_at 4 0 (i ∷ c ∷ r ∷ f ∷ j ∷ []) (b ∷ []) m

    abbrev Same : Type 0
    Same = Alike (atom_site ∷ []) (below 0 its.number b its.site ∷ []) (atoms_from start m) (atoms_from start put)

    alike : Same
    unfolding atoms_in flat atom_site
    alike = go (leb (length start) 5) refl
      where
        go : (x : Bool) → leb (length start) 5 ≡ x → Same
        go true q = its.from start (leb-true (length start) 5 q) b refl
        go false q = let l = leb-false (length start) 5 q in inl (too-deep 4 top 0 start put (omega arith) ∙ sym (too-deep 4 top 0 start m (omega arith)))

    put-hits : (t : List ℕ) (atoms : List Site) → atoms_from start m ≡ Some atoms → Falls atom_site.numbers put names low t start atoms
    unfolding atom_site
    put-hits t atoms e = go alike
      where
        go : Same → Falls atom_site.numbers put names low t start atoms
        go (inl q) = (atoms, q ∙ e, inl refl)
        go (inr w) = (_, w.is, rw (same_Some _ _ (sym e ∙ w.was)) (swap-hits names low t w.pre w.post its.site its.number a b k))

-- ---- the call

module _ (n : ℕ) (m : Machine) (i c r f j e : ℕ) where
  abbrev pos : List ℕ
  pos = i ∷ c ∷ r ∷ f ∷ j ∷ []

  -- an accepted call: the atom at the position, and what the machine is then
  pub record Filled (after : Machine) : Type 0 where
    pub atom : Atom
    pub there : branch_at 4 0 pos m ≡ Some atom
    pub becomes : (after ≡ m) ⊎ ((eqb atom.element 0 ≡ true) × (after ≡ replace_at 4 0 pos (with_element e atom ∷ []) m))

  abbrev result : Bool → Bool → Atom → Result Change
  result y z b = with_found ((need y BadValue >> Ok (cond z (Some (with_element e b)) None)) >>= λ o. Ok (refielded 4 0 pos b o m))

  by_tests : (x : Change) (b : Atom) → branch_at 4 0 pos m ≡ Some b → (y z : Bool) → eqb b.element 0 ≡ z → result y z b ≡ Ok x → Filled x.after
  by_tests x b h false z q k = let n : ◌≡◌ {A = ℕ} 0 1 = cc in absurd (omega arith)
  by_tests x b h true false q k =
      let d : ◌≡◌ {A = Change} (record { found = 0; after = m }) x = cc in
      record { atom = b; there = h; becomes = inl (ap (λ (y : Change). y.after) (sym d)) }
  by_tests x b h true true q k =
      let d : ◌≡◌ {A = Change} (record { found = 1; after = replace_at 4 0 pos (with_element e b ∷ []) m }) x = cc in
      record { atom = b; there = h; becomes = inr (q, ap (λ (y : Change). y.after) (sym d)) }

  pub filled-step : (x : Change) → machine_step n m (SetElement i c r f j e) ≡ Ok x → Filled x.after
  unfolding machine_step set_at
  filled-step x k = go (branch_at 4 0 pos m) refl k
    where
      go : (o : Option Atom) → branch_at 4 0 pos m ≡ o → with_found (position o >>= λ b. fill_in e b >>= λ u. Ok (refielded 4 0 pos b u m)) ≡ Ok x → Filled x.after
      go None h q = let n : ◌≡◌ {A = ℕ} 0 1 = cc in absurd (omega arith)
      go (Some b) h q = by_tests x b h (is_element e) (eqb b.element 0) refl q

  -- the hits after it
  pub filled-hits : (after : Machine) (x : Filled after) (names : Names) (low : ℕ) (t start : List ℕ) (atoms : List Site) → atoms_from start m ≡ Some atoms
      → Falls (atom_site m i c r f j x.atom x.there).numbers after names low t start atoms
  filled-hits after x names low t start atoms u = go x.becomes
    where
      go : (after ≡ m) ⊎ ((eqb x.atom.element 0 ≡ true) × (after ≡ replace_at 4 0 pos (with_element e x.atom ∷ []) m)) → Falls (atom_site m i c r f j x.atom x.there).numbers after names low t start atoms
      go (inl q) = (atoms, ap (atoms_from start) q ∙ u, inl refl)
      go (inr q) = rw q.1 (put-hits m i c r f j x.atom x.there (with_element e x.atom) names low (element-knows names x.atom e q.0 low) start t atoms u)
