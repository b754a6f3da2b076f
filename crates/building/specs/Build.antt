-- Change request §9, "builds by model and atom additions": what the additions of some lines build, and these over the level. Assumes nothing.
use Rattle.std.specs.Prelude.{ℕ, zero, suc, ◌≤◌, ◌≡◌, refl, Bool, true, false, List, [], ◌∷◌, ◌++◌, map, eqb}
use Rattle.std.proofs.Common.{sym, ap, ◌∙◌, arith, eqb-true, eq-eqb}
use Rattle.std.proofs.lemmas.Bool.{false≢true}
use Rattle.machine.specs.Record.{Fields, Atom}
use Rattle.machine.specs.Store.{Branch, Machine}
use Rattle.machine.specs.Edit.{Which, first, last, upsert, into_chains}
use Rattle.machine.specs.Lines.{AtomLine, Entry}
use Rattle.machine.specs.Read.{same_id}
use Rattle.laws.specs.Lists.{and_both, and-true}
use Rattle.building.specs.Prepared.{prepared_of}

-- one change after the other
abbrev pub adds : {A : Type 0} → List (A → A) → A → A
adds [] x = x
adds (f ∷ fs) x = adds fs (f x)

pub adds-append : {A : Type 0} (fs gs : List (A → A)) (x : A) → adds (fs ++ gs) x ≡ adds gs (adds fs x)
adds-append [] gs x = refl
adds-append (f ∷ fs) gs x = adds-append fs gs (f x)

-- a line's atom added to a model's chains
abbrev pub into : AtomLine → List (Branch 3) → List (Branch 3)
into l = into_chains (prepared_of l)

-- lines, one after the other
abbrev pub into_all : List AtomLine → List (Branch 3) → List (Branch 3)
into_all ls = adds (map into ls)

-- what the additions of entries make, where none is refused: a model, then its atoms
unfoldable pub build : List Entry → Machine
build es = map (λ e. (e.model, into_all e.atoms [])) es

-- ---- over the level

-- an atom with what it stands under, up to level k
abbrev pub Item : ℕ → Type 0
Item zero = Atom
Item (suc k) = Fields (suc k) × Item k

abbrev pub item_of : AtomLine → Item 3
item_of l = (l.chain, (l.residue, (l.conformer, l.atom)))

-- the first conformer, the last residue, the first chain
abbrev pub which_at : ℕ → Which
which_at zero = first
which_at (suc zero) = last
which_at (suc (suc k)) = first

abbrev pub insert : (k : ℕ) → Item k → List (Branch k) → List (Branch k)
insert zero a us = us ++ (a ∷ [])
insert (suc k) p ts = upsert k (which_at k) (same_id k p.0) p.0 (insert k p.1) ts

pub into-is : (l : AtomLine) → into l ≡ insert 3 (item_of l)
unfolding prepared_of
into-is l = refl

-- ---- ids are told apart by all that stands in them

pub id-self : (k : ℕ) → k ≤ 2 → (f : Fields (suc k)) → same_id k f f ≡ true
id-self zero h f = and-true (eq-eqb f.name f.name refl) (eq-eqb f.location f.location refl)
id-self (suc zero) h f = and-true (eq-eqb f.serial f.serial refl) (eq-eqb f.code f.code refl)
id-self (suc (suc zero)) h f = eq-eqb f.id f.id refl
id-self (suc (suc (suc k))) h f = absurd (omega arith)

pub id-is : (k : ℕ) (f g : Fields (suc k)) → same_id k f g ≡ true → f ≡ g
id-is zero f g e =
    let b = and_both (eqb g.name f.name) (eqb g.location f.location) e in
    let y = sym (eqb-true g.name f.name b.0) in
    let z = sym (eqb-true g.location f.location b.1) in
    (λ i. record { name = y i; location = z i })
id-is (suc zero) f g e =
    let b = and_both (eqb g.serial f.serial) (eqb g.code f.code) e in
    let y = sym (eqb-true g.serial f.serial b.0) in
    let z = sym (eqb-true g.code f.code b.1) in
    (λ i. record { serial = y i; code = z i })
id-is (suc (suc zero)) f g e = let z = sym (eqb-true g.id f.id e) in (λ i. record { id = z i })
id-is (suc (suc (suc k))) f g e = absurd (false≢true e)

module _ (k : ℕ) (b a : Fields (suc k)) where
  pub id-apart : same_id k b a ≡ false → (x : Fields (suc k)) → same_id k b x ≡ true → same_id k a x ≡ false
  id-apart e x h = go (same_id k a x) refl
    where
      go : (t : Bool) → same_id k a x ≡ t → t ≡ false
      go false f = refl
      go true f = absurd (false≢true (sym e ∙ ap (same_id k b) (id-is k a x f) ∙ h))

  pub id-agree : same_id k b a ≡ true → (x : Fields (suc k)) → same_id k a x ≡ same_id k b x
  id-agree e x = ap (λ (z : Fields (suc k)). same_id k z x) (sym (id-is k b a e))
