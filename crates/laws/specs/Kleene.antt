-- Laws of Kleene's tables. Assumes nothing.
use Rattle.std.specs.Prelude.{◌≡◌, refl, Bool, true, ◌&&◌, ◌||◌, None, Option, Some}
use Rattle.std.proofs.Common.{ap, ◌∙◌}
use Rattle.machine.specs.Kleene.{decided, not_t, and_t, or_t, apply_t, is_hit, is_undecided}
use Rattle.machine.specs.declared.Tri.{Tri}
use Rattle.machine.specs.declared.Tri.TheVariants.{False, True, Undecided}
use Rattle.machine.specs.declared.Ops.{Ops}
use Rattle.machine.specs.declared.Ops.TheVariants.{And, Or, Xor}

-- ---- hits

pub hit-and : (a b : Tri) → is_hit (and_t a b) ≡ (is_hit a && is_hit b)
hit-and False b = refl
hit-and True b = refl
hit-and Undecided False = refl
hit-and Undecided True = refl
hit-and Undecided Undecided = refl

pub hit-or : (a b : Tri) → is_hit (or_t a b) ≡ (is_hit a || is_hit b)
hit-or False b = refl
hit-or True b = refl
hit-or Undecided False = refl
hit-or Undecided True = refl
hit-or Undecided Undecided = refl

pub hit-both : (a : Tri) → (is_hit a && is_hit (not_t a)) ≡ is_undecided a
hit-both False = refl
hit-both True = refl
hit-both Undecided = refl

pub hit-either : (a : Tri) → (is_hit a || is_hit (not_t a)) ≡ true
hit-either False = refl
hit-either True = refl
hit-either Undecided = refl

-- ---- information: y is x where x is decided

infixl 20 ◌⊑◌
abbrev pub ◌⊑◌ : Tri → Tri → Type 0
Undecided ⊑ y = Unit
False ⊑ y = y ≡ False
True ⊑ y = y ≡ True

pub ⊑_refl : (x : Tri) → x ⊑ x
⊑_refl Undecided = tt
⊑_refl False = refl
⊑_refl True = refl

pub not-grows : (x y : Tri) → x ⊑ y → not_t x ⊑ not_t y
not-grows Undecided y h = tt
not-grows False y h = ap not_t h
not-grows True y h = ap not_t h

pub and-false : (x : Tri) → and_t x False ≡ False
and-false False = refl
and-false True = refl
and-false Undecided = refl

pub or-true : (x : Tri) → or_t x True ≡ True
or-true False = refl
or-true True = refl
or-true Undecided = refl

pub apply-grows : (o : Ops) (a x b y : Tri) → a ⊑ x → b ⊑ y → apply_t o a b ⊑ apply_t o x y
apply-grows And False x b y h k = ap (λ (z : Tri). and_t z y) h
apply-grows And True x b y h k = rw h k
apply-grows And Undecided x False y h k = ap (and_t x) k ∙ and-false x
apply-grows And Undecided x True y h k = tt
apply-grows And Undecided x Undecided y h k = tt
apply-grows Or True x b y h k = ap (λ (z : Tri). or_t z y) h
apply-grows Or False x b y h k = rw h k
apply-grows Or Undecided x True y h k = ap (or_t x) k ∙ or-true x
apply-grows Or Undecided x False y h k = tt
apply-grows Or Undecided x Undecided y h k = tt
apply-grows Xor Undecided x b y h k = tt
apply-grows Xor False x b y h k = rw h k
apply-grows Xor True x b y h k = rw h (not-grows b y k)

-- ---- what may be known of a test

abbrev pub to_tri : Option Bool → Tri
to_tri None = Undecided
to_tri (Some b) = decided b
