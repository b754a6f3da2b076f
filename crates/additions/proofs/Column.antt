-- An addition below a model's children is one column of records put in at one place, and that place is where the scans lead.
-- Assumes nothing.
use Rattle.std.specs.Prelude.{None, Option, Some, option_map}
use Prim.Native.Nat.{ℕ, suc, ◌+◌, ◌≤◌, ◌<◌}
use mathlib.Core.Path.{◌≡◌, refl, sym, ap, ◌∙◌}
use mathlib.Core.Bool.{Bool, true, false, and-true}
use mathlib.Core.List.{List, [], ◌∷◌, ◌++◌, append_assoc, append-nil}
use native.Mathlib.Nat.{zero-add}
use native.Mathlib.Omega.{arith}
use lib.ListN.{length, take, drop, length-append, length-drop, take-append-drop}
use lib.Seq.{take_at, drop_at, length-take-le}
use lib.Dec.{eqb}
use Rattle.machine.specs.Lists.{concat_map, and_then}
use Rattle.machine.specs.Record.{Fields, Words, words, kind}
use Rattle.machine.specs.Store.{Branch, Machine, flat, chunks}
use Rattle.machine.specs.Edit.{Which, first, last, pick, upsert, new_atom, into_chains, replace_at}
use Rattle.machine.specs.declared.PreparedAddition.{PreparedAddition}
use Rattle.laws.specs.Lists.{All-map, concat_map-append}
use Rattle.laws.specs.Grouped.{flats-kinds, chunks-length}
use Rattle.laws.specs.Scan.{ends-branches}
use Rattle.laws.specs.Places.{Around, Spot}
use Rattle.seek.specs.Seek.{records_in, descendants, to_end}
use Rattle.seek.proofs.Below.{chunks-take, descendants-over}
use Rattle.insertion.specs.Pick.{which_by, marks, chain_key, residue_key, conformer_key, keys_of, spot_in}
use Rattle.insertion.specs.declared.Key.{Key}
use Rattle.insertion.specs.Cursor.{column}
use Rattle.insertion.proofs.Picks.{chosen, pick-over, unmarked}

-- records of kind h are marked as p says of their fields, and none of a higher kind is
module _ (h k : ℕ) (level : h + k ≡ 4) (mark : Words → Bool) (other : (r : Words) → h < kind r → mark r ≡ false)
    (p : Fields (suc k) → Bool) (finds : (f : Fields (suc k)) → mark (words (suc k) f) ≡ p f) where
  abbrev all : List (Branch (suc k)) → List Words
  all ts = concat_map (flat (suc k)) ts

  -- the record of the branch that is picked is the record that is picked
  abbrev Same : Which → List (Branch (suc k)) → Option ℕ → Type 0
  Same w ts None = pick w mark (all ts) ≡ None
  Same w ts (Some i) = (t : Branch (suc k)) × (a : Around i ts t) × (pick w mark (all ts) ≡ Some (length (all a.before)))

  pick_first : (w : Which) (b : Bool) (t : Branch (suc k)) (ts : List (Branch (suc k))) → p t.0 ≡ b
      → pick w mark (all (t ∷ ts)) ≡ chosen w b (option_map (λ i. length (concat_map (flat k) t.1) + i) (pick w mark (all ts)))
  unfolding flat
  pick_first w b t ts e = go w ∙ rw (finds t.0, e, pick-over mark w (concat_map (flat k) t.1) (all ts) (All-map other (concat_map (flat k) t.1) (flats-kinds h k (omega arith) t.1)))
    where
      go : (v : Which) → pick v mark (words (suc k) t.0 ∷ (concat_map (flat k) t.1 ++ all ts)) ≡ chosen v (mark (words (suc k) t.0)) (pick v mark (concat_map (flat k) t.1 ++ all ts))
      go first = refl
      go last = refl

  abbrev here : (t : Branch (suc k)) (ts : List (Branch (suc k))) → Around 0 (t ∷ ts) t
  here t ts = record { before = []; after = ts; was = refl; is = λ f. refl }

  abbrev next : (t : Branch (suc k)) (ts : List (Branch (suc k))) (i : ℕ) (u : Branch (suc k)) → Around i ts u → Around (suc i) (t ∷ ts) u
  next t ts i u a =
      record {
        before = t ∷ a.before;
        after = a.after;
        was = ap (λ (l : List (Branch (suc k))). t ∷ l) a.was;
        is = λ f. ap (λ (l : List (Branch (suc k))). t ∷ l) (a.is f);
      }

  further : (t : Branch (suc k)) (ts : List (Branch (suc k))) → suc (length (concat_map (flat k) t.1) + length (all ts)) ≡ length (all (t ∷ ts))
  unfolding flat
  further t ts = ap suc (sym (length-append (concat_map (flat k) t.1) (all ts)))

  pick-step : (w : Which) (b : Bool) (o : Option ℕ) (t : Branch (suc k)) (ts : List (Branch (suc k))) → p t.0 ≡ b → Same w ts o → Same w (t ∷ ts) (chosen w b o)
  pick-step first true o t ts e s = (t, here t ts, pick_first first true t ts e)
  pick-step first false None t ts e s = pick_first first false t ts e ∙ rw s
  pick-step first false (Some i) t ts e s = (s.0, next t ts i s.0 s.1, pick_first first false t ts e ∙ rw s.2 (ap Some (further t s.1.before)))
  pick-step last b (Some i) t ts e s = (s.0, next t ts i s.0 s.1, pick_first last b t ts e ∙ rw s.2 (ap Some (further t s.1.before)))
  pick-step last true None t ts e s = (t, here t ts, pick_first last true t ts e ∙ rw s)
  pick-step last false None t ts e s = pick_first last false t ts e ∙ rw s

  picked : (w : Which) (ts : List (Branch (suc k))) → Same w ts (pick w (λ t. p t.0) ts)
  picked first [] = refl
  picked last [] = refl
  picked first (t ∷ ts) = pick-step first (p t.0) (pick first (λ u. p u.0) ts) t ts refl (picked first ts)
  picked last (t ∷ ts) = pick-step last (p t.0) (pick last (λ u. p u.0) ts) t ts refl (picked last ts)

-- ---- the span of the record that is picked

-- a branch's children stand right after its record, up to the next branch's
module _ (h k : ℕ) (level : h + k ≡ 4) (w : List ℕ) (from end i : ℕ) (ts : List (Branch (suc k))) (t : Branch (suc k)) (a : Around i ts t)
    (low : 1 ≤ h) (order : from ≤ end) (records : records_in from end w ≡ concat_map (flat (suc k)) ts) where
  abbrev lead : List Words
  lead = concat_map (flat (suc k)) a.before ++ (words (suc k) t.0 ∷ [])

  abbrev kids : List Words
  kids = concat_map (flat k) t.1

  abbrev rest : List Words
  rest = concat_map (flat (suc k)) a.after

  parts : records_in from end w ≡ (lead ++ kids) ++ rest
  unfolding flat
  parts = records ∙ ap (concat_map (flat (suc k))) a.was ∙ concat_map-append (flat (suc k)) a.before (t ∷ a.after) ∙ simp append_assoc

  lead-length : length lead ≡ suc (length (concat_map (flat (suc k)) a.before))
  lead-length = rw length-append (omega arith)

  abbrev start : ℕ
  start = from + length (concat_map (flat (suc k)) a.before)

  abbrev stop : ℕ
  stop = suc start + length kids

  total : end ≡ from + (length lead + length kids + length rest)
  total =
      omega (arith, ap length parts, length-append (lead ++ kids) rest, length-append lead kids, length-drop from (chunks end w), chunks-length end w)

  after-start : drop (suc (length (concat_map (flat (suc k)) a.before))) (records_in from end w) ≡ kids ++ rest
  after-start = rw (parts, append_assoc lead kids rest) (drop_at lead (kids ++ rest) _ lead-length)

  kids-descendants : descendants h (kids ++ rest) ≡ length kids
  kids-descendants = descendants-over h kids rest (flats-kinds h k (omega arith) t.1) (ends-branches h (suc k) (omega arith) (omega arith) a.after)

  kids-below : records_in (start + 1) stop w ≡ kids
  kids-below =
      let x : List Words = take from (chunks end w) in
      let n : length x ≡ from = length-take-le from (chunks end w) (omega (arith, chunks-length end w)) in
      let f : length (x ++ lead) ≡ start + 1 = omega (arith, length-append x lead, lead-length) in
      let g : length ((x ++ lead) ++ kids) ≡ stop = omega (arith, length-append (x ++ lead) kids) in
      let whole : chunks end w ≡ ((x ++ lead) ++ kids) ++ rest = sym (take-append-drop from (chunks end w)) ∙ ap (λ (l : List Words). x ++ l) parts ∙ simp append_assoc in
      rw (chunks-take stop end w (omega (arith, total, lead-length)), whole, take_at ((x ++ lead) ++ kids) rest stop g) (drop_at (x ++ lead) kids (start + 1) f)

  pick-there : (o : Option ℕ) → o ≡ Some (length (concat_map (flat (suc k)) a.before)) → and_then o (λ i. to_end h (from + i) (drop (suc i) (records_in from end w))) ≡ Some (start, stop)
  pick-there o e = rw (e, after-start, kids-descendants)

-- ---- one column at one place

-- new records put in among those of branches, which are numbered from n on
pub record Ins (k : ℕ) (ts us : List (Branch k)) (n at : ℕ) (new : List Words) : Type 0 where
  pub pre : List Words
  pub post : List Words
  pub was : concat_map (flat k) ts ≡ pre ++ post
  pub is : concat_map (flat k) us ≡ pre ++ (new ++ post)
  pub number : at ≡ n + length pre

-- f puts records in where the keys lead: those of the column that do not stand already
pub record Puts (k : ℕ) (f : List (Branch k) → List (Branch k)) (keys : List Key) (col : List Words) : Type 0 where
  pub alone : concat_map (flat k) (f []) ≡ col
  pub among : (w : List ℕ) (from end : ℕ) (ts : List (Branch k)) → from ≤ end → records_in from end w ≡ concat_map (flat k) ts
      → Ins k ts (f ts) from (spot_in keys from end w).0 (drop (spot_in keys from end w).1 col)

-- appended, after all of them
ins-end : (k : ℕ) (w : List ℕ) (from end : ℕ) (ts : List (Branch k)) (t : Branch k) → from ≤ end → records_in from end w ≡ concat_map (flat k) ts → Ins k ts (ts ++ (t ∷ [])) from end (flat k t)
ins-end k w from end ts t order e =
    record {
      pre = concat_map (flat k) ts;
      post = [];
      was = sym (append-nil _);
      is = concat_map-append (flat k) ts (t ∷ []);
      number = omega (arith, ap length e, length-drop from (chunks end w), chunks-length end w);
    }

-- among the children of one of them
ins-below : (k i : ℕ) (ts us : List (Branch (suc k))) (t : Branch (suc k)) (cs : List (Branch k)) (n at : ℕ) (new : List Words) (a : Around i ts t) → us ≡ a.before ++ ((t.0, cs) ∷ a.after)
    → Ins k t.1 cs (n + length (concat_map (flat (suc k)) a.before) + 1) at new → Ins (suc k) ts us n at new
unfolding flat
ins-below k i ts us t cs n at new a e s =
    let lead = concat_map (flat (suc k)) a.before in
    record {
      pre = lead ++ (words (suc k) t.0 ∷ s.pre);
      post = s.post ++ concat_map (flat (suc k)) a.after;
      was = ap (concat_map (flat (suc k))) a.was ∙ concat_map-append (flat (suc k)) a.before (t ∷ a.after) ∙ rw s.was (simp append_assoc);
      is = ap (concat_map (flat (suc k))) e ∙ concat_map-append (flat (suc k)) a.before ((t.0, cs) ∷ a.after) ∙ rw s.is (simp append_assoc);
      number = omega (arith, s.number, length-append lead (words (suc k) t.0 ∷ s.pre));
    }

puts-atom : (a : Branch 0) → Puts 0 (λ ts. ts ++ (a ∷ [])) [] (words 0 a ∷ [])
unfolding flat spot_in
puts-atom a = record { alone = refl; among = λ w from end ts order e. ins-end 0 w from end ts a order e }

-- one level more
module _ (key : Key) (k : ℕ) (level : key.kind + k ≡ 4) (low : 1 ≤ key.kind) (p : Fields (suc k) → Bool) (new : Fields (suc k))
    (f : List (Branch k) → List (Branch k)) (keys : List Key) (col : List Words) (finds : (d : Fields (suc k)) → marks key (words (suc k) d) ≡ p d)
    (puts : Puts k f keys col) where
  abbrev into : List (Branch (suc k)) → List (Branch (suc k))
  into ts = upsert k (which_by key.from_back) p new f ts

  level-among : (w : List ℕ) (from end : ℕ) (ts : List (Branch (suc k))) → from ≤ end → records_in from end w ≡ concat_map (flat (suc k)) ts
      → (o : Option ℕ) → pick (which_by key.from_back) (λ t. p t.0) ts ≡ o → Same key.kind k level (marks key) (unmarked key) p finds (which_by key.from_back) ts o
      → Ins (suc k) ts (into ts) from (spot_in (key ∷ keys) from end w).0 (drop (spot_in (key ∷ keys) from end w).1 (words (suc k) new ∷ col))
  unfolding upsert spot_in flat
  level-among w from end ts order e None q s =
      let r : pick (which_by key.from_back) (marks key) (records_in from end w) ≡ None = rw e s in
      rw (q, r, ← puts.alone) (ins-end (suc k) w from end ts (new, f []) order e)
  level-among w from end ts order e (Some i) q s =
      let t = s.0 in
      let a = s.1 in
      let r : pick (which_by key.from_back) (marks key) (records_in from end w) ≡ Some (length (concat_map (flat (suc k)) a.before)) = rw e s.2 in
      let span = pick-there key.kind k level w from end i ts t a low order e _ r in
      let kids = kids-below key.kind k level w from end i ts t a low order e in
      rw (q, span) (ins-below k i ts _ t (f t.1) from _ _ a (a.is (λ u. (u.0, f u.1) ∷ [])) (puts.among w _ _ t.1 (omega arith) kids))

  puts_level : Puts (suc k) into (key ∷ keys) (words (suc k) new ∷ col)
  unfolding upsert flat
  puts_level =
      record {
        alone = go (which_by key.from_back);
        among = λ w from end ts order e. level-among w from end ts order e _ refl (picked key.kind k level (marks key) (unmarked key) p finds (which_by key.from_back) ts);
      }
    where
      go : (v : Which) → concat_map (flat (suc k)) (upsert k v p new f []) ≡ words (suc k) new ∷ col
      go first = rw (append-nil, puts.alone)
      go last = rw (append-nil, puts.alone)

-- ---- an atom in a model

-- the three levels below a model
pub puts-chains : (a : PreparedAddition) → Puts 3 (into_chains a) (keys_of a) (column a)
unfolding words
puts-chains a =
    puts_level (chain_key a.chain) 2 refl (omega arith) _ _ _ _ _ (λ d. and-true (eqb d.id a.chain))
    (puts_level (residue_key a.residue a.code) 1 refl (omega arith) _ _ _ _ _ (λ d. refl)
    (puts_level (conformer_key a.conformer a.location) 0 refl (omega arith) _ _ _ _ _ (λ d. refl) (puts-atom (new_atom a))))

-- in a machine whose model at a position has its children changed
pub ins-machine : (i : ℕ) (m : Machine) (t : Branch 4) (cs : List (Branch 3)) (n at : ℕ) (new : List Words) (s : Spot 0 4 (i ∷ []) m t) → n ≡ length s.pre + 1
    → Ins 3 t.1 cs n at new → Ins 4 m (replace_at 0 4 (i ∷ []) ((t.0, cs) ∷ []) m) 0 at new
unfolding flat
ins-machine i m t cs n at new s e r =
    record {
      pre = s.pre ++ (words 4 t.0 ∷ r.pre);
      post = r.post ++ s.post;
      was = s.was ∙ rw r.was (simp append_assoc);
      is = s.is ((t.0, cs) ∷ []) ∙ rw r.is (simp (append_assoc, append-nil));
      number = omega (arith, r.number, length-append s.pre (words 4 t.0 ∷ r.pre));
    }

-- a model after all others
pub ins-model : (m : Machine) (t : Branch 4) → Ins 4 m (m ++ (t ∷ [])) 0 (length (concat_map (flat 4) m)) (flat 4 t)
ins-model m t =
    record { pre = concat_map (flat 4) m; post = []; was = sym (append-nil _); is = concat_map-append (flat 4) m (t ∷ []); number = sym (zero-add _) }
