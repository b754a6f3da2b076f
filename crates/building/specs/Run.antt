-- Change request §9: the calls of a text build what its lines say, or give 8, which one test of what they build decides. Assumes nothing.
use Rattle.std.specs.Prelude.{ℕ, suc, ◌+◌, ◌≤◌, ◌<◌, ◌≡◌, refl, Bool, true, false, List, [], ◌∷◌, ◌++◌, map, length, leb, Err, Ok, Option}
use Rattle.std.proofs.Common.{zero-le, sym, ap, ◌∙◌, subst, append-nil, append_assoc, arith, length-append, le-leb, leb-true, leb-false}
use Rattle.std.proofs.lemmas.Bool.{lt-leb}
use Rattle.machine.specs.Lists.{all, sum, splice}
use Rattle.machine.specs.Answer.{Result, ◌>>=◌, ◌>>◌, need, position}
use Rattle.machine.specs.Text.{stored_by, atom_name}
use Rattle.machine.specs.Record.{Model, good_fields, good_values}
use Rattle.machine.specs.Store.{Branch, Machine, flat, records, capacity}
use Rattle.machine.specs.Edit.{Change, changed, next, Call, AddModel, AddAtom, machine_step, add_model, add_prepared, fits, branch_at, replace_at, prepare, new_atom, into_chains}
use Rattle.machine.specs.Lines.{AtomLine, Entry}
use Rattle.machine.specs.LinesIn.{good_line, good_entry}
use Rattle.machine.specs.Read.{addition_of, calls_from, run_calls}
use Rattle.machine.specs.declared.PreparedAddition.{PreparedAddition}
use Rattle.machine.specs.declared.Refusal.TheVariants.{BadValue, NoCapacity}
use Rattle.laws.specs.Lists.{and_both, concat_map-append}
use Rattle.laws.specs.Good.{Fit}
use Rattle.laws.specs.Steps.{step_keeps}
use Rattle.building.specs.Prepared.{prepared_of, prepared}
use Rattle.building.specs.Picks.{nth_end, change-end}
use Rattle.building.specs.Build.{into, into_all, build}
use Rattle.building.specs.Count.{sizes, size_of, adds-grow, total, model-count}

-- ---- one call

pub values : (l : AtomLine) → good_line l ≡ true → good_values (new_atom (prepared_of l)) ≡ true
unfolding good_line good_fields prepared_of
values l g =
    let p = and_both (good_fields 3 l.chain) _ g in
    let q = and_both (good_fields 2 l.residue) _ p.1 in
    let r = and_both (good_fields 1 l.conformer) (good_fields 0 l.atom) q.1 in
    (and_both (stored_by atom_name l.atom.name) (good_values l.atom) r.1).1

-- an atom added to the last model
step-atom : (n : ℕ) (done : Machine) (t : Branch 4) (l : AtomLine) → good_line l ≡ true
    → machine_step n (done ++ (t ∷ [])) (AddAtom (length done) (addition_of l)) ≡ fits n (done ++ ((t.0, into l t.1) ∷ []))
unfolding machine_step add_prepared branch_at replace_at
step-atom n done t l g =
    let m = done ++ (t ∷ []) in
    let i = length done in
    ap (λ (o : Option (Branch 4)). position o >>= λ u. prepare (addition_of l) >>= λ p. need (good_values (new_atom p)) BadValue >> fits n (splice i (λ v. (u.0, into_chains p u.1) ∷ []) m)) (nth_end done t)
    ∙ ap (λ (r : Result PreparedAddition). r >>= λ p. need (good_values (new_atom p)) BadValue >> fits n (splice i (λ v. (t.0, into_chains p t.1) ∷ []) m)) (prepared l g)
    ∙ ap (λ (b : Bool). need b BadValue >> fits n (splice i (λ v. (t.0, into l t.1) ∷ []) m)) (values l g)
    ∙ ap (fits n) (change-end (λ v. (t.0, into l t.1)) done t)

step-model : (n serial : ℕ) (m : Machine) → machine_step n m (AddModel serial) ≡ fits n (m ++ ((record { serial = serial }, []) ∷ []))
unfolding machine_step add_model
step-model n serial m = refl

-- ---- all of a text's additions

abbrev size : Machine → ℕ
size m = length (records m)

-- a machine, where it has room
abbrev roomy : ℕ → Machine → Result Machine
roomy n m = need (leb (size m) (capacity n)) NoCapacity >> Ok m

size-append : (xs ys : Machine) → size (xs ++ ys) ≡ size xs + size ys
size-append xs ys = ap length (concat_map-append (flat 4) xs ys) ∙ length-append (records xs) (records ys)

size-one : (done : Machine) (mo : Model) (ts : List (Branch 3)) → size (done ++ ((mo, ts) ∷ [])) ≡ size done + suc (sizes 3 ts)
size-one done mo ts =
    size-append done ((mo, ts) ∷ []) ∙ ap (λ (k : ℕ). size done + k) (ap length (append-nil (flat 4 (mo, ts))) ∙ size_of 3 (mo, ts))

too-big : (n : ℕ) (m : Machine) → capacity n < size m → roomy n m ≡ Err NoCapacity
too-big n m h = ap (λ (b : Bool). need b NoCapacity >> Ok m) (lt-leb (size m) (capacity n) h)

has_room : (n : ℕ) (m : Machine) → size m ≤ capacity n → roomy n m ≡ Ok m
has_room n m h = ap (λ (b : Bool). need b NoCapacity >> Ok m) (le-leb (size m) (capacity n) h)

-- one addition and what follows it, where the machine at last holds as many records or more
step : (n : ℕ) (m last : Machine) (F : Machine → Result Machine) (r : Result Change) → r ≡ fits n m → size m ≤ size last → (size m ≤ capacity n → F m ≡ roomy n last)
    → (r >>= λ x. F x.after) ≡ roomy n last
step n m last F r e less rest = ap (λ (z : Result Change). z >>= λ x. F x.after) e ∙ go (leb (size m) (capacity n)) refl
  where
    go : (b : Bool) → leb (size m) (capacity n) ≡ b → ((need b NoCapacity >> Ok (changed m)) >>= λ x. F x.after) ≡ roomy n last
    go true p = rest (leb-true (size m) (capacity n) p)
    go false p = let k = leb-false (size m) (capacity n) p in sym (too-big n last (omega arith))

-- the atoms of the last model, and what follows them
atoms-run : (n : ℕ) (done : Machine) (mo : Model) (ls : List AtomLine) (ts : List (Branch 3)) (rest : List Call) (last : Machine) → all good_line ls ≡ true
    → size (done ++ ((mo, ts) ∷ [])) ≤ capacity n → size (done ++ ((mo, into_all ls ts) ∷ [])) ≤ size last
    → (size (done ++ ((mo, into_all ls ts) ∷ [])) ≤ capacity n → run_calls n (done ++ ((mo, into_all ls ts) ∷ [])) rest ≡ roomy n last)
    → run_calls n (done ++ ((mo, ts) ∷ [])) (map (λ l. AddAtom (length done) (addition_of l)) ls ++ rest) ≡ roomy n last
unfolding run_calls
atoms-run n done mo [] ts rest last g room less r = r room
atoms-run n done mo (l ∷ ls) ts rest last g room less r =
    let b = and_both (good_line l) (all good_line ls) g in
    let s = size-one done mo (into l ts) in
    let s' = size-one done mo (into_all ls (into l ts)) in
    let more = adds-grow ls (into l ts) in
    step n (done ++ ((mo, into l ts) ∷ [])) last (λ m. run_calls n m (map (λ l. AddAtom (length done) (addition_of l)) ls ++ rest)) _ (step-atom n done (mo, ts) l b.0) (omega arith)
    (λ k. atoms-run n done mo ls (into l ts) rest last b.1 k less r)

-- an entry's model, built
abbrev built : Entry → Branch 4
built e = (e.model, into_all e.atoms [])

length_more : (xs : Machine) (y : Branch 4) → length (xs ++ (y ∷ [])) ≡ suc (length xs)
length_more xs y = let e = length-append xs (y ∷ []) in omega arith

entries-run : (n : ℕ) (done : Machine) (es : List Entry) → all good_entry es ≡ true → size done ≤ capacity n → run_calls n done (calls_from (length done) es) ≡ roomy n (done ++ build es)
unfolding build run_calls calls_from
entries-run n done [] g h = sym (has_room n done h) ∙ ap (roomy n) (sym (append-nil done))
entries-run n done (e ∷ es) g h =
    let b = and_both (good_entry e) (all good_entry es) g in
    let last = done ++ build (e ∷ es) in
    let next = done ++ (built e ∷ []) in
    let all-size = ap size (append_assoc done (built e ∷ []) (build es)) in
    let parts = size-append next (build es) in
    let s = size-one done e.model [] in
    let s' = size-one done e.model (into_all e.atoms []) in
    let more = adds-grow e.atoms [] in
    step n (done ++ ((e.model, []) ∷ [])) last (λ m. run_calls n m (map (λ l. AddAtom (length done) (addition_of l)) e.atoms ++ calls_from (suc (length done)) es)) _
    (step-model n e.model.serial done) (omega arith)
    (λ k. atoms-run n done e.model e.atoms [] (calls_from (suc (length done)) es) last b.0 k (omega arith)
    (λ room. ap (λ (i : ℕ). run_calls n next (calls_from i es)) (sym (length_more done (built e))) ∙ entries-run n next es b.1 room ∙ ap (roomy n) (append_assoc done (built e ∷ []) (build es))))

-- EVERY ADDITION OF A TEXT, AND 8 BY ONE TEST OF WHAT THEY BUILD
pub text-run : (n : ℕ) (es : List Entry) → all good_entry es ≡ true
    → run_calls n [] (calls_from 0 es) ≡ need (leb (length (records (build es))) (capacity n)) NoCapacity >> Ok (build es)
text-run n es g = entries-run n [] es g zero-le

-- THE COUNT: the records of what is built, from the lines alone
pub build-count : (es : List Entry) → length (records (build es)) ≡ sum (λ e. suc (total [] e.atoms)) es
unfolding build
build-count [] = refl
build-count (e ∷ es) =
    let a = length-append (flat 4 (built e)) (records (build es)) in
    let b = size_of 3 (built e) in
    let c = model-count e.atoms in
    let r = build-count es in
    omega arith

-- ---- calls in a row keep a machine good, and in its store

pub run-keeps : (n : ℕ) (m after : Machine) (cs : List Call) → Fit n m → run_calls n m cs ≡ Ok after → Fit n after
unfolding run_calls
run-keeps n m after [] f e = let q : m ≡ after = cc in subst (Fit n) q f
run-keeps n m after (c ∷ cs) f e = go (machine_step n m c) (step_keeps n m c f) e (λ m'. run-keeps n m' after cs)
  where
    go : (r : Result Change) → Fit n (next m r) → (r >>= λ x. run_calls n x.after cs) ≡ Ok after → ((m' : Machine) → Fit n m' → run_calls n m' cs ≡ Ok after → Fit n after) → Fit n after
    go (Ok x) h p rest = rest x.after h p
    go (Err r) h p rest = let z : ◌≡◌ {A = ℕ} 0 1 = cc in absurd (omega arith)
