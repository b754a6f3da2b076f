-- Calls written as words: what is written is read back. Assumes nothing.
use Rattle.std.specs.Prelude.{Some}
use Prim.Native.Nat.{ℕ, suc, ◌+◌, ◌≤◌}
use mathlib.Core.Path.{◌≡◌, refl, ap, ◌∙◌}
use mathlib.Core.Bool.{Bool, true, ◌&&◌}
use mathlib.Core.List.{List, [], ◌∷◌, ◌++◌}
use native.Mathlib.Omega.{arith}
use lib.ListN.{length, length-append}
use lib.Seq.{take-append_seam, drop-append_seam}
use borrow.Author.Tests.{le-leb}
use Rattle.machine.specs.Lists.{concat_map}
use Rattle.machine.specs.Edit.{
  Call,
  AddModel,
  AddAtom,
  RemoveChain,
  RemoveResidue,
  RemoveConformer,
  RemoveAtom,
  RemoveChainById,
  RemoveResidueById,
  RemoveConformerById,
  RemoveAtomBySerialNumber,
  RemoveAtomsBy,
  RemoveEmpty,
  JoinModels,
  JoinChains,
  JoinResidues,
  JoinConformers,
  SetElement,
}
use Rattle.laws.specs.Lists.{All, and_both}
use Rattle.calls.specs.Format.{rows, is_code, numbers_in, trees_in, parts_in, call_of, good_part, read_parts, read_call, longest, read_calls}
use Rattle.calls.proofs.Reading.{call-fold, calls-none, calls-fold}

-- a call's code, numbers and parts: its row asks for so many, and makes it of them
pub record Form (c : Call) : Type 0 where
  pub code : ℕ
  pub numbers : List ℕ
  pub parts : List (List ℕ)
  pub fits : ◌≡◌ {A = Bool × ℕ × ℕ × Call} (is_code code, numbers_in code, parts_in code, call_of numbers parts code) (true, length numbers, length parts, c)

unfoldable pub form_of : (c : Call) → Form c
unfolding rows call_of
form_of (AddModel serial) = record { code = 1; numbers = serial ∷ []; parts = []; fits = refl }
form_of (AddAtom model a) =
    record {
      code = 2;
      numbers = model ∷ a.residue ∷ a.code.flag ∷ a.location.flag ∷ a.values.serial ∷ a.values.x ∷ a.values.y ∷ a.values.z ∷ a.values.occupancy ∷ a.values.b_factor ∷ a.values.element ∷ a.values.charge ∷ a.values.hetero ∷ [];
      parts = a.chain ∷ a.code.text ∷ a.conformer ∷ a.location.text ∷ a.name ∷ [];
      fits = refl;
    }
form_of (RemoveChain i c) = record { code = 3; numbers = i ∷ c ∷ []; parts = []; fits = refl }
form_of (RemoveResidue i c r) = record { code = 4; numbers = i ∷ c ∷ r ∷ []; parts = []; fits = refl }
form_of (RemoveConformer i c r f) = record { code = 5; numbers = i ∷ c ∷ r ∷ f ∷ []; parts = []; fits = refl }
form_of (RemoveAtom i c r f a) = record { code = 6; numbers = i ∷ c ∷ r ∷ f ∷ a ∷ []; parts = []; fits = refl }
form_of (RemoveChainById i id) = record { code = 7; numbers = i ∷ []; parts = id ∷ []; fits = refl }
form_of (RemoveResidueById i c serial code) = record { code = 8; numbers = i ∷ c ∷ serial ∷ code.flag ∷ []; parts = code.text ∷ []; fits = refl }
form_of (RemoveConformerById i c r name location) = record { code = 9; numbers = i ∷ c ∷ r ∷ location.flag ∷ []; parts = name ∷ location.text ∷ []; fits = refl }
form_of (RemoveAtomBySerialNumber i c r f serial) = record { code = 10; numbers = i ∷ c ∷ r ∷ f ∷ serial ∷ []; parts = []; fits = refl }
form_of (RemoveAtomsBy i tree) = record { code = 11; numbers = i ∷ []; parts = tree ∷ []; fits = refl }
form_of (RemoveEmpty i) = record { code = 12; numbers = i ∷ []; parts = []; fits = refl }
form_of (JoinModels i i') = record { code = 13; numbers = i ∷ i' ∷ []; parts = []; fits = refl }
form_of (JoinChains i c i' c') = record { code = 14; numbers = i ∷ c ∷ i' ∷ c' ∷ []; parts = []; fits = refl }
form_of (JoinResidues i c r i' c' r') = record { code = 15; numbers = i ∷ c ∷ r ∷ i' ∷ c' ∷ r' ∷ []; parts = []; fits = refl }
form_of (JoinConformers i c r f i' c' r' f') = record { code = 16; numbers = i ∷ c ∷ r ∷ f ∷ i' ∷ c' ∷ r' ∷ f' ∷ []; parts = []; fits = refl }
form_of (SetElement i c r f a e) = record { code = 17; numbers = i ∷ c ∷ r ∷ f ∷ a ∷ e ∷ []; parts = []; fits = refl }

abbrev pub part_words : List (List ℕ) → List ℕ
part_words ps = concat_map (λ (p : List ℕ). length p ∷ p) ps

abbrev pub body : Call → List ℕ
body c = (form_of c).numbers ++ part_words (form_of c).parts

abbrev pub write_call : Call → List ℕ
write_call c = (form_of c).code ∷ length (body c) ∷ body c

abbrev pub write_calls : List Call → List ℕ
write_calls cs = concat_map write_call cs

-- ---- what is written is read back

-- the parts of a call with so many trees
abbrev pub good_parts : ℕ → List (List ℕ) → Bool
good_parts trees [] = true
good_parts trees (p ∷ ps) = good_part trees (length ps) p && good_parts trees ps

-- a call that has a written form: not too long, and bytes alone in its texts
pub record Writable (c : Call) : Type 0 where
  pub short : length (body c) ≤ longest
  pub good : good_parts (trees_in (form_of c).code) (form_of c).parts ≡ true

parts-written : (trees : ℕ) (ps : List (List ℕ)) → good_parts trees ps ≡ true → read_parts trees (length ps) (part_words ps) ≡ Some ps
unfolding read_parts
parts-written trees [] h = refl
parts-written trees (p ∷ ps) h =
    let b = and_both (good_part trees (length ps) p) (good_parts trees ps) h in
    let rest = part_words ps in
    let l : length p ≤ length (p ++ rest) = omega (arith, length-append p rest) in
    rw (le-leb (length p) (length (p ++ rest)) l, take-append_seam p rest, drop-append_seam p rest, b.0, parts-written trees ps b.1)

pub call-written : (c : Call) → Writable c → read_call (form_of c).code (body c) ≡ Some c
call-written c w =
    let f = form_of c in
    let b : is_code f.code ≡ true = ap (λ t. t.0) f.fits in
    let n : numbers_in f.code ≡ length f.numbers = ap (λ t. t.1) f.fits in
    let k : parts_in f.code ≡ length f.parts = ap (λ t. t.2) f.fits in
    let same : call_of f.numbers f.parts f.code ≡ c = ap (λ t. t.3) f.fits in
    let rest = part_words f.parts in
    let l = le-leb (length f.numbers) (length (body c)) (omega (arith, length-append f.numbers rest)) in
    call-fold f.code (body c) ∙ simp (n, k, b, l, take-append_seam f.numbers rest, drop-append_seam f.numbers rest, parts-written (trees_in f.code) f.parts w.good, same)

pub read-written : (cs : List Call) → All Writable cs → read_calls (write_calls cs) ≡ Some cs
read-written [] h = calls-none
read-written (c ∷ cs) h =
    let rest = write_calls cs in
    let ws = write_call c ++ rest in
    let e : 2 + length (body c) ≡ suc (suc (length (body c))) = omega arith in
    let r = le-leb (suc (suc (length (body c)))) (length ws) (omega (arith, length-append (body c) rest)) in
    let s = le-leb (length (body c)) longest h.0.short in
    calls-fold ws (omega arith) ∙ simp (r, s, e, take-append_seam (body c) rest, drop-append_seam (body c) rest, call-written c h.0, read-written cs h.1)
