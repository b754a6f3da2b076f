-- The second demand, proved. Assumes nothing.
use Rattle.std.specs.Prelude.{Err, Ok, Option, Some, option_map}
use Rattle.std.proofs.Common.{◌≡◌, ℕ, Bool, true, false, List, [], ◌∷◌, map, length, sym, refl, ap, ◌∙◌, subst, arith, le-leb}
use Rattle.machine.specs.Lists.{keep, filter, sum, and_then}
use Rattle.machine.specs.Answer.{Result, ◌>>◌, need}
use Rattle.machine.specs.Store.{Machine, flat, records, capacity, lay_out, read_store, open_run}
use Rattle.machine.specs.Query.{tables}
use Rattle.machine.specs.Find.{Site, size, atoms_from, lowest, hits_among, find_from}
use Rattle.machine.specs.Edit.{Call, Change, machine_step, answer, next, machine_after, machine_answers, store_step}
use Rattle.machine.specs.Demand.{accepts, Accepted, list}
use Rattle.machine.specs.declared.Refusal.{Refusal}
use Rattle.machine.specs.declared.Refusal.TheVariants.{NoCapacity}
use Rattle.laws.specs.Lists.{length-concat_map}
use Rattle.laws.specs.Good.{Fit}
use Rattle.laws.specs.Layout.{read-lay_out}
use Rattle.laws.specs.Steps.{step_keeps, refusal-number}
use Rattle.demands.proofs.Queries.{Listed}
use Rattle.demands.proofs.Demand.{demand3, opened-length, store_step_lem, find-listed, start-found}
use Rattle.pdbtbx.specs.Structs.{PDB}
use Rattle.pdbtbx.specs.Words.{struct_of, pdb_of, machine_from}
use Rattle.pdbtbx.specs.Find.{count_of, find_at}
use Rattle.pdbtbx.specs.Calls.{search_for, edit, edits}
use Rattle.pdbtbx.specs.Demand.{Reads, InDomain, bit, found_by, accepted_of, store, outcome, Demand2}
use Rattle.pdbtbx.proofs.Trees.{reads}
use Rattle.pdbtbx.proofs.Hits.{sum-map, count-size}
use Rattle.pdbtbx.proofs.Found.{find-hits}
use Rattle.pdbtbx.proofs.Equal.{Same, same_step}
use Rattle.pdbtbx.proofs.Converse.{no-panic}
use Rattle.pdbtbx.proofs.Packed.{machine-back}

-- ---- the machine and the crate, call by call

module _ (n : ℕ) (m : Machine) (cs : List Call) where
  -- what a list of calls leaves: the crate's answers and structure
  pub record Together : Type 0 where
    pub bools : List Bool
    pub pdb : PDB
    pub ran : edits (accepted_of cs (machine_answers n m cs)) (pdb_of m) ≡ Some (bools, pdb)
    pub held : pdb ≡ pdb_of (machine_after n m cs)
    pub founds : map found_by (filter accepts (machine_answers n m cs)) ≡ map bit bools
    pub fit : Fit n (machine_after n m cs)

refused-not : (m : Machine) (x : Refusal) → accepts (answer m (Err x)) ≡ false
refused-not m x = refusal-number x

-- what an accepted step changed
same-change : (b : Bool) (c ch : Change) → (need b NoCapacity >> Ok c) ≡ Ok ch → ch ≡ c
same-change true c ch h = cc
same-change false c ch h = let z : ◌≡◌ {A = ℕ} 0 1 = cc in absurd (omega arith)

module _ (n : ℕ) (c : Call) (cs : List Call) (m : Machine) where
  -- the same, where the first call has the result o
  record After (o : Result Change) : Type 0 where
    bools : List Bool
    pdb : PDB
    ran : edits (keep (accepts (answer m o)) c (accepted_of cs (machine_answers n (next m o) cs))) (pdb_of m) ≡ Some (bools, pdb)
    held : pdb ≡ pdb_of (machine_after n (next m o) cs)
    founds : map found_by (filter accepts (answer m o ∷ machine_answers n (next m o) cs)) ≡ map bit bools
    fit : Fit n (machine_after n (next m o) cs)

  passed_over : (x : Refusal) → Together n m cs → After (Err x)
  passed_over x y =
      record {
        bools = y.bools;
        pdb = y.pdb;
        ran = ap (λ (b : Bool). edits (keep b c (accepted_of cs (machine_answers n m cs))) (pdb_of m)) (refused-not m x) ∙ y.ran;
        held = y.held;
        founds = ap (λ (b : Bool). map found_by (keep b (answer m (Err x)) (filter accepts (machine_answers n m cs)))) (refused-not m x) ∙ y.founds;
        fit = y.fit;
      }

  taken-too : (r : Bool × PDB) (after : Machine) → edit c (pdb_of m) ≡ Some r → r.1 ≡ pdb_of after → Together n after cs → After (Ok (record { found = bit r.0; after = after }))
  unfolding edits
  taken-too r after t h y =
      let l = accepted_of cs (machine_answers n after cs) in
      record {
        bools = r.0 ∷ y.bools;
        pdb = y.pdb;
        ran =
            ap (λ (o : Option (Bool × PDB)). and_then o (λ q. and_then (edits l q.1) (λ p. Some (q.0 ∷ p.0, p.1)))) t
            ∙ ap (λ (b : PDB). and_then (edits l b) (λ p. Some (r.0 ∷ p.0, p.1))) h
            ∙ ap (λ (o : Option (List Bool × PDB)). and_then o (λ p. Some (r.0 ∷ p.0, p.1))) y.ran;
        held = y.held;
        founds = ap (λ (k : List ℕ). bit r.0 ∷ k) y.founds;
        fit = y.fit;
      }

  module _ (f : Fit n m) (on : (m' : Machine) → Fit n m' → Together n m' cs) where
    done : (ch : Change) → machine_step n m c ≡ Ok ch → After (machine_step n m c)
    done ch e =
        let t = no-panic n m f.good c ch e in
        let r = t.result in
        let x = same_step n m f.good c t.domain r t.taken in
        let z : ch ≡ record { found = bit r.0; after = x.after } = same-change x.fits (record { found = bit r.0; after = x.after }) ch (sym x.stepped ∙ e) in
        let o : machine_step n m c ≡ Ok (record { found = bit r.0; after = x.after }) = e ∙ ap {B = Result Change} Ok z in
        let g : Fit n x.after = subst (Fit n) (ap (next m) o) (step_keeps n m c f) in
        subst After (sym o) (taken-too r x.after t.taken x.held (on x.after g))

    stepped : (o : Result Change) → machine_step n m c ≡ o → After (machine_step n m c)
    stepped (Ok ch) e = done ch e
    stepped (Err x) e = subst After (sym e) (passed_over x (on m f))

pub together : (n : ℕ) (cs : List Call) (m : Machine) → Fit n m → Together n m cs
unfolding machine_after machine_answers accepted_of edits
together n [] m f = record { bools = []; pdb = pdb_of m; ran = refl; held = refl; founds = refl; fit = f }
together n (c ∷ cs) m f =
    let y = stepped n c cs m f (together n cs) (machine_step n m c) refl in
    record { bools = y.bools; pdb = y.pdb; ran = y.ran; held = y.held; founds = y.founds; fit = y.fit }

-- ---- one call more

-- the crate counts the machine's records
records-counted : (m : Machine) → sum (count_of 4) (pdb_of m) ≡ length (records m)
records-counted m = sum-map (count_of 4) (size 4) (struct_of 4) (count-size 4) m ∙ sym (length-concat_map (flat 4) m)

module _ (n : ℕ) (m : Machine) (f : Fit n m) (pdb : PDB) (here : machine_from pdb ≡ m) (c : Call) (found : Bool) (after : PDB) where
  abbrev Took : Result Change → Type 0
  Took o = ◌≡◌ {A = List ℕ × List ℕ} (answer m o, lay_out n (next m o)) (outcome n (lay_out n m) pdb found after)

  took : Same n m c (found, after) → Took (machine_step n m c)
  unfolding outcome
  took x = go x.fits refl
    where
      change : Change
      change = record { found = bit found; after = x.after }

      counted : sum (count_of 4) after ≡ length (records x.after)
      counted = ap (sum (count_of 4)) x.held ∙ records-counted x.after

      go : (b : Bool) → x.fits ≡ b → Took (machine_step n m c)
      go true e =
          let o : machine_step n m c ≡ Ok change = x.stepped ∙ ap (λ (b : Bool). need b NoCapacity >> Ok change) e in
          let g : Fit n x.after = subst (Fit n) (ap (next m) o) (step_keeps n m c f) in
          let back : machine_from after ≡ x.after = ap machine_from x.held ∙ machine-back x.after g.good in
          subst Took (sym o) (rw (counted, le-leb (length (records x.after)) (capacity n) g.room, here, back))
      go false e =
          let o : machine_step n m c ≡ Err NoCapacity = x.stepped ∙ ap (λ (b : Bool). need b NoCapacity >> Ok change) e in
          subst Took (sym o) (rw (counted, x.unfit e))

-- ---- the theorem

module _ (w : List ℕ) (calls : List Call) (o : Accepted (open_run w)) where
  abbrev after : Machine
  after = machine_after (length w) [] calls

  both : Together (length w) [] calls
  both = together (length w) calls [] (record { good = refl; room = omega arith })

  held : store w calls ≡ lay_out (length w) after
  held = (demand3 w calls o).held

  back : machine_from both.pdb ≡ after
  back = ap machine_from both.held ∙ machine-back after both.fit.good

  read : read_store (store w calls) ≡ Ok after
  read = rw held (read-lay_out (length w) after (opened-length w o) both.fit)

  takes : (c : Call) → InDomain c → (found : Bool) (pdb : PDB) → edit c both.pdb ≡ Some (found, pdb) → store_step (store w calls) c ≡ outcome (length w) (store w calls) both.pdb found pdb
  takes c d found pdb e =
      let x = same_step (length w) after both.fit.good c d (found, pdb) (ap (edit c) (sym both.held) ∙ e) in
      rw held (store_step_lem (length w) after c (opened-length w o) both.fit ∙ took (length w) after both.fit both.pdb back c found pdb x)

  module _ (start t out : List ℕ) (k : Accepted (find_from (store w calls) start t out)) where
    under : (atoms : List Site) × (atoms_from start after ≡ Some atoms)
    under = start-found after (store w calls) read start (atoms_from start after) refl t out k

    run : Listed tables (lowest start) under.0 t (find_from (store w calls) start t out)
    run = find-listed after (store w calls) read start under.0 under.1 t out k

    tree : Reads t
    tree = reads t run.nodes run.tree

    found : find_at start (search_for t) both.pdb ≡ Some (list (find_from (store w calls) start t out))
    found =
        ap (find_at start (search_for t)) both.held
        ∙ find-hits t tree start after
        ∙ ap (option_map (hits_among tables (lowest start) t)) under.1
        ∙ ap Some (sym run.hits)

  -- the second demand
  pub demand2 : Demand2 w calls
  demand2 =
      record {
        bools = both.bools;
        pdb = both.pdb;
        ran = ap (λ (l : List (List ℕ)). edits (accepted_of calls l) []) (demand3 w calls o).answered ∙ both.ran;
        founds = ap (λ (l : List (List ℕ)). map found_by (filter accepts l)) (demand3 w calls o).answered ∙ both.founds;
        words = held ∙ ap (lay_out (length w)) (sym back);
        texts = both.held ∙ ap pdb_of (sym back);
        reads = tree;
        hits = found;
        takes = takes;
      }
