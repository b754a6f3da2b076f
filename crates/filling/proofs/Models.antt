-- The models of a text, one after the other, and the whole call. Assumes nothing.
use Prim.Native.Nat.{ℕ, suc, ◌+◌, ◌-◌, ◌*◌, ◌/◌, ◌%◌, ◌≤◌, ◌<◌, zero-le}
use mathlib.Core.Path.{◌≡◌, refl, sym, ap, ◌∙◌, subst}
use mathlib.Core.Bool.{Bool, true, false, cond, false≢true}
use mathlib.Core.List.{List, [], ◌∷◌, ◌++◌, map, append-nil, append_assoc}
use native.Mathlib.Omega.{arith}
use lib.ListN.{length, get_or, take, drop, length-append, length-drop}
use lib.Seq.{length-take-le, take-take, drop-drop}
use lib.Dec.{eqb}
use Rattle.machine.specs.Lists.{all}
use Rattle.machine.specs.Record.{Model}
use Rattle.machine.specs.Answer.{Result, opened_numbers}
use Rattle.machine.specs.Store.{Branch, Machine, flat, records, capacity, good_length, lay_out, open_run}
use Rattle.machine.specs.Edit.{add_model, step_by}
use Rattle.machine.specs.Lines.{AtomLine, Entry}
use Rattle.machine.specs.LinesIn.{atom_in, model_in, lines_in, Part, part_in, entries_in, good_line, good_entry}
use Rattle.laws.specs.Lists.{and_both, concat_map-append}
use Rattle.laws.specs.Good.{Fit}
use Rattle.laws.specs.Layout.{fit_words, lay_out-length, open-empty, lay_out-read}
use Rattle.lines.specs.Taken.{taken_atom, taken_model, taken_end, opens, taken_line, taken_from, taken_text}
use Rattle.lines.proofs.Scan.{taken-good}
use Rattle.lines.specs.Numbered.{line_count_in, line_at, lines_from, lines-all, lines_next, lines_none, lines-skip, lines-part, lines-front, lines-count}
use Rattle.building.specs.Picks.{change-end}
use Rattle.building.specs.Build.{into_all, build}
use Rattle.building.specs.Chains.{by_chain, chain-by-chain, chains-all}
use Rattle.seek.specs.Seek.{Good, held}
use Rattle.store.proofs.Steps.{laid-good}
use Rattle.filling.specs.Fill.{atoms_in, model_atoms, model_of, atom_lines, in_model, Ready, Became}
use Rattle.filling.proofs.Lines.{rest, rest-is, rest-atoms}
use Rattle.filling.proofs.Stores.{held-lay_out, model-added, in-grows}

-- ---- one model

length_more : (m : Machine) (t : Branch 4) → length (m ++ (t ∷ [])) ≡ suc (length m)
length_more m t = let e = length-append m (t ∷ []) in omega arith

-- lines added to the last model, which has none yet
built-last : (i : ℕ) (m : Machine) (mo : Model) (ls : List AtomLine) → length m ≡ i → in_model i ls (m ++ ((mo, []) ∷ [])) ≡ m ++ ((mo, into_all ls []) ∷ [])
built-last i m mo ls e = ap (λ (k : ℕ). in_model k ls (m ++ ((mo, []) ∷ []))) (sym e) ∙ change-end (λ t. (t.0, into_all ls t.1)) m (mo, [])

module _ (t w : List ℕ) (i : ℕ) (lines : all good_line (model_atoms t) ≡ true) (good : Good w) (number : length (held w) ≡ i)
    (room : length (records (held w ++ (model_of t ∷ []))) ≤ capacity (length w)) where
  abbrev mo : Model
  mo = model_in (line_at 0 t)

  chains-last : in_model i (by_chain (atoms_in (rest t 81))) (held w ++ ((mo, []) ∷ [])) ≡ held w ++ (model_of t ∷ [])
  chains-last =
      ap (λ (ls : List AtomLine). in_model i (by_chain ls) (held w ++ ((mo, []) ∷ []))) (ap atoms_in (rest-is t 81) ∙ rest-atoms t 1)
      ∙ built-last i (held w) mo (by_chain (model_atoms t)) number
      ∙ ap (λ (us : List (Branch 3)). held w ++ ((mo, us) ∷ [])) (chain-by-chain (model_atoms t))

  module _ (w₁ numbers : List ℕ) (serial : ℕ) (e : serial ≡ (model_in (line_at 0 t)).serial) (q : (numbers, w₁) ≡ step_by w (add_model (length w) serial)) where
    entry-model : Became (held w ++ ((mo, []) ∷ [])) w w₁
    entry-model =
        let k = in-grows i (by_chain (atoms_in (rest t 81))) (held w ++ ((mo, []) ∷ [])) in
        let z = ap (λ (m : Machine). length (records m)) chains-last in
        model-added w w₁ numbers mo.serial good (omega arith) (q ∙ ap (λ (s : ℕ). step_by w (add_model (length w) s)) e)

    pub entry_ready : Ready i (by_chain (atoms_in (rest t 81))) w₁
    entry_ready =
        let b = entry-model in
        let l = b.long in
        let c = ap capacity l in
        let k = ap length b.holds ∙ length_more (held w) (mo, []) in
        let z = ap (λ (m : Machine). length (records (in_model i (by_chain (atoms_in (rest t 81))) m))) b.holds ∙ ap (λ (m : Machine). length (records m)) chains-last in
        record {
          good = b.good;
          there = omega arith;
          lines = chains-all good_line [] (atoms_in (rest t 81)) (ap (all good_line) (ap atoms_in (rest-is t 81) ∙ rest-atoms t 1) ∙ lines);
          room = omega arith;
        }

    pub entry_done : (w₂ : List ℕ) → Became (in_model i (by_chain (atoms_in (rest t 81))) (held w₁)) w₁ w₂ → Became (held w ++ (model_of t ∷ [])) w w₂
    entry_done w₂ b =
        let a = entry-model in
        record {
          good = b.good;
          long = b.long ∙ a.long;
          holds = b.holds ∙ ap (in_model i (by_chain (atoms_in (rest t 81)))) a.holds ∙ chains-last;
        }

-- ---- the lines of a model

-- `line_before` by its two tests
abbrev by_first : Bool → Bool → List ℕ → Part → Part
by_first m e l p = cond m ([], record { model = model_in l; atoms = p.0 } ∷ p.1) (cond e p (atom_in l ∷ p.0, p.1))

-- outside a model no atom stands
outside-closed : (ls : List (List ℕ)) → taken_from false ls ≡ true → (part_in ls).0 ≡ []
unfolding taken_from taken_line part_in
outside-closed [] h = refl
outside-closed (l ∷ ls) h = go (eqb (get_or l 0 0) 77) (and_both (taken_line false l) (taken_from (opens false l) ls) h).0
  where
    go : (b : Bool) → cond b (taken_model l) false ≡ true → (by_first b (eqb (get_or l 0 0) 69) l (part_in ls)).0 ≡ []
    go true e = refl
    go false e = absurd (false≢true e)

-- k atoms, an E line, and then whole models
record Inside (k : ℕ) (ls : List (List ℕ)) : Type 0 where
  below : k < length ls
  part : part_in ls ≡ (map atom_in (take k ls), (part_in (drop (suc k) ls)).1)
  taken : taken_from false (drop (suc k) ls) ≡ true

inside : (ls : List (List ℕ)) → taken_from true ls ≡ true → Inside (atom_lines ls) ls
unfolding taken_from taken_line part_in atom_lines
inside [] h = absurd (false≢true h)
inside (l ∷ ls) h =
    let b = and_both (taken_line true l) (taken_from (opens true l) ls) h in
    go (eqb (get_or l 0 0) 77) (eqb (get_or l 0 0) 69) refl refl b.0 b.1 (λ e. inside ls e)
  where
    go : (m e : Bool) → eqb (get_or l 0 0) 77 ≡ m → eqb (get_or l 0 0) 69 ≡ e
        → cond m false (cond e (taken_end l) (taken_atom l)) ≡ true → taken_from (cond m true (cond e false true)) ls ≡ true
        → (taken_from true ls ≡ true → Inside (atom_lines ls) ls) → Inside (cond e 0 (suc (atom_lines ls))) (l ∷ ls)
    go true e p q t r i = absurd (false≢true t)
    go false true p q t r i = record { below = omega arith; part = rw (p, q) (λ j. (outside-closed ls r j, (part_in ls).1)); taken = r }
    go false false p q t r i =
        let s = i r in
        let b = s.below in
        record { below = omega arith; part = rw (p, q) (λ j. (atom_in l ∷ (s.part j).0, (s.part j).1)); taken = s.taken }

-- ---- the models of a text

-- the models before line n stand in the store
pub record Filled (t w₀ : List ℕ) (n i : ℕ) (w : List ℕ) : Type 0 where
  pub low : n ≤ line_count_in t
  pub less : i ≤ n
  pub good : Good w
  pub long : length w ≡ length w₀
  pub number : length (held w) ≡ i
  pub taken : taken_from false (lines_from n t) ≡ true
  pub lines : all good_entry (part_in (lines_from n t)).1 ≡ true
  pub whole : held w ++ build (part_in (lines_from n t)).1 ≡ build (entries_in t)
  pub room : length (records (build (entries_in t))) ≤ capacity (length w₀)

pub none_filled : (t w : List ℕ) → taken_text t ≡ true → Good w → held w ≡ [] → length (records (build (entries_in t))) ≤ capacity (length w) → Filled t w 0 0 w
unfolding taken_text
none_filled t w h g e r =
    let es = ap (λ (ls : List (List ℕ)). (part_in ls).1) (lines-all t) in
    record {
      low = zero-le;
      less = zero-le;
      good = g;
      long = refl;
      number = ap length e;
      taken = ap (taken_from false) (lines-all t) ∙ (and_both (eqb (length t % 81) 0) (taken_from false (lines_in (length t / 81) t)) h).1;
      lines = ap (all good_entry) es ∙ taken-good t h;
      whole = ap (λ (m : Machine). m ++ build (part_in (lines_from 0 t)).1) e ∙ ap build es;
      room = r;
    }

module _ (t w₀ : List ℕ) (n i : ℕ) (w : List ℕ) (f : Filled t w₀ n i w) where
  pub all-filled : line_count_in t ≤ n → Became (build (entries_in t)) w₀ w
  unfolding part_in build
  all-filled h =
      record {
        good = f.good;
        long = f.long;
        holds = sym (append-nil (held w)) ∙ ap (λ (ls : List (List ℕ)). held w ++ build (part_in ls).1) (sym (lines_none t n h)) ∙ f.whole;
      }

  module _ (h : n < line_count_in t) (end : ℕ) (e : end ≡ n + 1 + atom_lines (lines_from (n + 1) t)) where
    abbrev k : ℕ
    k = atom_lines (lines_from (n + 1) t)

    -- the slice of the code
    abbrev lines : List ℕ
    lines = take (end * 81 - n * 81) (drop (n * 81) t)

    -- its model, and what follows
    abbrev one : Entry
    one = record { model = model_in (line_at n t); atoms = map atom_in (take k (lines_from (n + 1) t)) }

    opened : (eqb (get_or (line_at n t) 0 0) 77 ≡ true) × (taken_from true (lines_from (n + 1) t) ≡ true)
    unfolding taken_from taken_line
    opened = go (eqb (get_or (line_at n t) 0 0) 77) (and_both _ _ (ap (taken_from false) (sym (lines_next t n h)) ∙ f.taken))
      where
        go : (b : Bool)
            → (cond b (taken_model (line_at n t)) false ≡ true) × (taken_from (cond b true (cond (eqb (get_or (line_at n t) 0 0) 69) false false)) (lines_from (n + 1) t) ≡ true)
            → (b ≡ true) × (taken_from true (lines_from (n + 1) t) ≡ true)
        go true p = (refl, p.1)
        go false p = absurd (false≢true p.0)

    own : Inside k (lines_from (n + 1) t)
    own = inside (lines_from (n + 1) t) opened.1

    pub end_low : end < line_count_in t
    end_low = let b = own.below in let c = lines-count (line_count_in t - (n + 1)) (drop ((n + 1) * 81) t) in omega arith

    -- what comes behind the E line
    behind : drop (suc k) (lines_from (n + 1) t) ≡ lines_from (end + 1) t
    behind = lines-skip t (n + 1) (suc k) ∙ ap (λ (j : ℕ). lines_from j t) (let z : n + 1 + suc k ≡ end + 1 = omega arith in z)

    entries : (part_in (lines_from n t)).1 ≡ one ∷ (part_in (lines_from (end + 1) t)).1
    unfolding part_in
    entries =
        ap (λ (ls : List (List ℕ)). (part_in ls).1) (lines_next t n h)
        ∙ ap (λ (b : Bool). (by_first b (eqb (get_or (line_at n t) 0 0) 69) (line_at n t) (part_in (lines_from (n + 1) t))).1) opened.0
        ∙ ap (λ (p : Part). record { model = model_in (line_at n t); atoms = p.0 } ∷ p.1) own.part
        ∙ ap (λ (ls : List (List ℕ)). one ∷ (part_in ls).1) behind

    lines_long : length lines ≡ suc k * 81
    lines_long =
        let l = end_low in
        let z : end * 81 - n * 81 ≡ suc k * 81 = omega arith in
        length-take-le (end * 81 - n * 81) (drop (n * 81) t) (rw length-drop (omega arith)) ∙ z

    pub lines-some : 0 < line_count_in lines
    lines-some = let l = lines_long in omega arith

    first-line : line_at 0 lines ≡ line_at n t
    first-line = take-take 81 (end * 81 - n * 81) (drop (n * 81) t) (omega arith)

    later-lines : lines_from 1 lines ≡ take k (lines_from (n + 1) t)
    unfolding lines_in
    later-lines =
        let l = lines_long in
        let b = own.below in
        let c = lines-count (line_count_in t - (n + 1)) (drop ((n + 1) * 81) t) in
        sym (lines-skip lines 0 1)
        ∙ ap (λ (j : ℕ). drop 1 (lines_in j lines)) (let z : line_count_in lines - 0 ≡ suc k = omega arith in z)
        ∙ ap (drop 1) (lines-part (suc k) (end * 81 - n * 81) (drop (n * 81) t) (omega arith))
        ∙ ap (lines_in k) (drop-drop 81 (n * 81) t ∙ ap (λ (j : ℕ). drop j t) (let z : n * 81 + 81 ≡ (n + 1) * 81 = omega arith in z))
        ∙ sym (lines-front k (line_count_in t - (n + 1)) (drop ((n + 1) * 81) t) (omega arith))

    model_is : model_of lines ≡ (one.model, into_all one.atoms [])
    model_is = λ j. (model_in (first-line j), into_all (map atom_in (later-lines j)) [])

    both-good : (all good_line one.atoms ≡ true) × (all good_entry (part_in (lines_from (end + 1) t)).1 ≡ true)
    both-good = and_both (all good_line one.atoms) _ (ap (all good_entry) (sym entries) ∙ f.lines)

    pub lines-good : all good_line (model_atoms lines) ≡ true
    lines-good = ap (λ (ls : List (List ℕ)). all good_line (map atom_in ls)) later-lines ∙ both-good.0

    whole-next : (held w ++ (model_of lines ∷ [])) ++ build (part_in (lines_from (end + 1) t)).1 ≡ build (entries_in t)
    unfolding build
    whole-next =
        append_assoc (held w) (model_of lines ∷ []) (build (part_in (lines_from (end + 1) t)).1)
        ∙ ap (λ (m : Branch 4). held w ++ (m ∷ build (part_in (lines_from (end + 1) t)).1)) model_is
        ∙ ap (λ (es : List Entry). held w ++ build es) (sym entries)
        ∙ f.whole

    pub lines-room : length (records (held w ++ (model_of lines ∷ []))) ≤ capacity (length w)
    lines-room =
        let more = build (part_in (lines_from (end + 1) t)).1 in
        let here = held w ++ (model_of lines ∷ []) in
        let z = ap (λ (m : Machine). length (records m)) (sym whole-next) ∙ ap length (concat_map-append (flat 4) here more) ∙ length-append (records here) (records more) in
        let c = ap capacity f.long in
        let r = f.room in
        omega arith

    pub one-filled : (w' : List ℕ) → Became (held w ++ (model_of lines ∷ [])) w w' → Filled t w₀ (end + 1) (i + 1) w'
    one-filled w' b =
        let l = end_low in
        let m = f.less in
        let c = ap length b.holds ∙ length_more (held w) (model_of lines) in
        let d = f.number in
        record {
          low = omega arith;
          less = omega arith;
          good = b.good;
          long = b.long ∙ f.long;
          number = omega arith;
          taken = ap (taken_from false) (sym behind) ∙ own.taken;
          lines = both-good.1;
          whole = ap (λ (z : Machine). z ++ build (part_in (lines_from (end + 1) t)).1) b.holds ∙ whole-next;
          room = f.room;
        }

-- ---- the whole call

empty-fits : (n : ℕ) → Fit n []
empty-fits n = record { good = refl; room = zero-le }

module _ (w w₁ : List ℕ) (o : Result (Unit {0})) (long : good_length (length w) ≡ true) (q : (opened_numbers o, w₁) ≡ open_run w) where
  opened-is : w₁ ≡ lay_out (length w) []
  unfolding open_run
  opened-is = ap (λ (p : List ℕ × List ℕ). p.1) q ∙ rw long (open-empty (length w) long)

  pub opened-good : Good w₁
  opened-good = subst Good (sym opened-is) (laid-good (length w) [] long (empty-fits (length w)))

  pub opened-none : held w₁ ≡ []
  opened-none = ap held opened-is ∙ held-lay_out (length w) [] (fit_words (length w) [] long (empty-fits (length w)))

  opened-long : length w₁ ≡ length w
  opened-long = ap length opened-is ∙ lay_out-length (length w) [] (fit_words (length w) [] long (empty-fits (length w)))

  pub opened-room : (m : Machine) → length (records m) ≤ capacity (length w) → length (records m) ≤ capacity (length w₁)
  opened-room m h = subst (λ (n : ℕ). length (records m) ≤ capacity n) (sym opened-long) h

  pub filled_is : (m : Machine) (w₂ : List ℕ) → Became m w₁ w₂ → w₂ ≡ lay_out (length w) m
  filled_is m w₂ b =
      sym (lay_out-read w₂ (held w₂) b.good)
      ∙ ap (λ (n : ℕ). lay_out n (held w₂)) (b.long ∙ opened-long)
      ∙ ap (lay_out (length w)) b.holds
