-- The laws that the proofs of the functions apply. Assumes nothing.
use Rattle.std.specs.Prelude.{Ok, Err, None, Some, IsErrAnd}
use Prim.Native.Nat.{ℕ, suc, ◌+◌, ◌-◌, ◌*◌, ◌/◌, ◌≤◌, ◌<◌}
use mathlib.Core.Path.{◌≡◌, refl, sym, ap, ◌∙◌}
use mathlib.Core.Bool.{Bool, true, false, cond}
use mathlib.Core.List.{List, ◌∷◌, append_assoc}
use native.Mathlib.Omega.{arith}
use lib.ListN.{length, take, drop, get_or, set, length-set}
use lib.Seq.{sets-eq, take_all, take-nil}
use lib.Dec.{eqb, leb, ltb}
use borrow.Author.Tests.{eq-eqb, ne_eqb, le-leb, leb-true, lt-ltb, ltb-true, ltb-false}
use Rattle.machine.specs.Lists.{keep}
use Rattle.machine.specs.Answer.{Result, counted_numbers}
use Rattle.machine.specs.Store.{read_store}
use Rattle.machine.specs.Kleene.{is_hit}
use Rattle.machine.specs.Query.{Names, tables}
use Rattle.machine.specs.Find.{lowest, hits_among, hits_from, hit_words, written, find_from}
use Rattle.machine.specs.declared.RecordNumbers.{RecordNumbers}
use Rattle.machine.specs.declared.Refusal.{Refusal}
use Rattle.machine.specs.declared.Refusal.TheVariants.{NoPosition}
use Rattle.laws.specs.Lists.{All}
use Rattle.laws.specs.Exits.{exit-err}
use Rattle.laws.specs.Numbers.{hits_few, hits-five, five-words}
use Rattle.moves.specs.Over.{over}
use Rattle.moves.proofs.Laws.{over-length, over_none, over-over}
use Rattle.seek.specs.Seek.{Good, held, records_in, atom_records, five_numbers}
use Rattle.seek.specs.declared.Part.{Part}
use Rattle.seek.proofs.Below.{record-kind, records_in-cons}
use Rattle.store.specs.Store.{checked_by}
use Rattle.store.proofs.Laws.{Held, good-store, refused-find}
use Rattle.terms.specs.Levels.{Inside}
use Rattle.descent.specs.Descent.{five, UpTo, value_by, Settled, Turned}
use Rattle.descent.specs.declared.State.{State}
use Rattle.descent.proofs.Sites.{entered_at, up-entered, up_more, five-is, entered-five}
use Rattle.descent.proofs.Turns.{settled-entered}
use Rattle.walk.specs.Walk.{found_in, found_below, asked_below, put_hit, wrote, part_under, Levelled, Ready, Asked}
use Rattle.walk.proofs.Parts.{Started, no_start, started}
use Rattle.walk.proofs.Turns.{found-end, found-deep, found-next}

depth-high : (k : ℕ) → k ≤ 5 → (b : Bool) → cond b k (k - 1) ≤ 5
depth-high k h true = h
depth-high k h false = omega arith

-- ---- counting

-- `hits` are all, of which `found` stood before record n
pub record Walking (w t residues atoms : List ℕ) (low end : ℕ) (hits : List (List ℕ)) (n d s : ℕ) (at : RecordNumbers) (found : ℕ) : Type 0 where
  pub order : n ≤ end
  pub room : end * 12 ≤ length w
  pub kinds : All Levelled (records_in n end w)
  pub depth : d ≤ 5
  pub settled : Settled (value_by w t low residues atoms at) s 5
  pub numbers : UpTo n at
  pub few : found ≤ n
  pub all : found + length (found_in w n end t low d at residues atoms) ≡ length hits

pub walk_start : (w t residues atoms : List ℕ) (p : Part) → Ready w p t
    → Walking w t residues atoms (p.depth + 1) p.end (found_below w p t residues atoms) p.from p.depth 5 p.path 0
walk_start w t residues atoms p r =
    let q = r.part in
    let d = q.depth in
    record {
      order = q.within.order;
      room = q.within.room;
      kinds = q.kinds;
      depth = omega arith;
      settled = λ z. absurd (omega arith);
      numbers = q.numbers;
      few = omega arith;
      all = omega arith;
    }

module _ (w t residues atoms : List ℕ) (low end : ℕ) (hits : List (List ℕ)) (n d s : ℕ) (at : RecordNumbers) (found : ℕ) (i : Walking w t residues atoms low end hits n d s at found) where
  abbrev k : ℕ
  k = get_or w (n * 12) 0

  pub walk_end : end ≤ n → found ≡ length hits
  walk_end h = omega (arith, i.all, ap length (found-end w t residues atoms low end n d at h))

  module _ (more : n < end) where
    split : All Levelled (take 12 (drop (n * 12) w) ∷ records_in (n + 1) end w)
    split = rw (records_in-cons w end n more) at i.kinds

    pub least : 1 ≤ k
    least = omega (arith, split.0.low, record-kind w n)

    pub most : k ≤ 5
    most = omega (arith, split.0.high, record-kind w n)

    -- the record is the last of its kind that was seen
    module _ (l : List ℕ) (e : length l ≡ 5) (l' : List ℕ) (set_is : l' ≡ set l (k - 1) n) where
      pub walk-entered : five_numbers l ≡ at → five_numbers l' ≡ entered_at k n at
      walk-entered q = rw (set_is, ← q) (ap (λ (x : List ℕ). five_numbers (set x (k - 1) n)) (five-is l e) ∙ entered-five k n (five_numbers l) least most)

      pub walk-five : length l' ≡ 5
      walk-five = ap length set_is ∙ length-set l (k - 1) n ∙ e

    pub walk-deep : d + 1 < k → Walking w t residues atoms low end hits (n + 1) d s at found
    walk-deep h =
        record {
          order = omega arith;
          room = i.room;
          kinds = split.1;
          depth = i.depth;
          settled = i.settled;
          numbers = up_more n (n + 1) at (omega arith) i.numbers;
          few = omega (arith, i.few);
          all = omega (arith, i.all, ap length (found-deep w t residues atoms low end n d at more i.depth h));
        }

    module _ (to : RecordNumbers) (is : to ≡ entered_at k n at) where
      up : UpTo n to
      up = rw is (up-entered k n at i.numbers)

      pub walk_inside : Inside w to
      walk_inside =
          let r = i.room in
          record { model = omega (arith, up.model); chain = omega (arith, up.chain); residue = omega (arith, up.residue); conformer = omega (arith, up.conformer); atom = omega (arith, up.atom) }

      pub walk-settled : Settled (value_by w t low residues atoms to) s k
      walk-settled = settled-entered w t low residues atoms s k n at to is least most i.settled

      module _ (near : k ≤ d + 1) (r : State) (turned : Turned (value_by w t low residues atoms to) k r) where
        pub walk-on : (b : Bool) → eqb r.live 5 ≡ b → found_in w n end t low d at residues atoms ≡ keep b (five to) (found_in w (n + 1) end t low r.live to residues atoms)
        walk-on b e =
            found-next w t residues atoms low end n d at more i.depth least most near to r.live is turned.live
            ∙ ap (λ (x : Bool). keep x (five to) (found_in w (n + 1) end t low r.live to residues atoms)) e

        high : r.live ≤ 5
        high = rw turned.live (depth-high k most (is_hit (value_by w t low residues atoms to k)))

        step : (found' : ℕ) → found' ≤ n + 1 → found' + length (found_in w (n + 1) end t low r.live to residues atoms) ≡ length hits
            → Walking w t residues atoms low end hits (n + 1) r.live r.settled to found'
        step found' l e =
            record { order = omega arith; room = i.room; kinds = split.1; depth = high; settled = turned.settled; numbers = up_more n (n + 1) to (omega arith) up; few = l; all = e }

        pub walk-hit : r.live ≡ 5 → Walking w t residues atoms low end hits (n + 1) r.live r.settled to (found + 1)
        walk-hit e = step (found + 1) (omega (arith, i.few)) (omega (arith, i.all, ap length (walk-on true (eq-eqb r.live 5 e))))

        pub walk-miss : (r.live ≡ 5 → ⊥) → Walking w t residues atoms low end hits (n + 1) r.live r.settled to found
        walk-miss e = step found (omega (arith, i.few)) (omega (arith, i.all, ap length (walk-on false (ne_eqb r.live 5 e))))

-- ---- writing

-- five stores
put_five : (out : List ℕ) (word : ℕ) (at : RecordNumbers) → word + 5 ≤ length out
    → set (set (set (set (set out word at.model) (word + 1) at.chain) (word + 2) at.residue) (word + 3) at.conformer) (word + 4) at.atom ≡ over word (five at) out
unfolding over
put_five out word at h =
    let e : word + 1 ≡ suc word = omega arith in
    let f : word + 2 ≡ suc (suc word) = omega arith in
    let g : word + 3 ≡ suc (suc (suc word)) = omega arith in
    let i : word + 4 ≡ suc (suc (suc (suc word))) = omega arith in
    rw (e, f, g, i) (sets-eq (five at) out word h ∙ append_assoc (take word out) (five at) (drop (word + 5) out))

pub put-law : (out : List ℕ) (hit : ℕ) (at : RecordNumbers) → hit < length out / 5
    → set (set (set (set (set out (hit * 5) at.model) (hit * 5 + 1) at.chain) (hit * 5 + 2) at.residue) (hit * 5 + 3) at.conformer) (hit * 5 + 4) at.atom ≡ put_hit hit (five at) out
put-law out hit at h = put_five out (hit * 5) at (omega arith) ∙ sym (rw (lt-ltb hit (length out / 5) h))

-- the hits still to come that there is room for, written where they go, make the output whole
pub record Writing (w t residues atoms : List ℕ) (low end : ℕ) (hits : List (List ℕ)) (out₀ : List ℕ) (n d s : ℕ) (at : RecordNumbers) (found : ℕ) (out : List ℕ) : Type 0 where
  pub walking : Walking w t residues atoms low end hits n d s at found
  pub long : length out ≡ length out₀
  pub words : over (found * 5) (hit_words (take (length out₀ / 5 - found) (found_in w n end t low d at residues atoms))) out ≡ over 0 (hit_words (take (length out₀ / 5) hits)) out₀

pub write-start : (w t residues atoms : List ℕ) (p : Part) (out : List ℕ) → Ready w p t
    → Writing w t residues atoms (p.depth + 1) p.end (found_below w p t residues atoms) out p.from p.depth 5 p.path 0 out
write-start w t residues atoms p out r =
    let z : length out / 5 - 0 ≡ length out / 5 = omega arith in
    record { walking = walk_start w t residues atoms p r; long = refl; words = rw z }

module _ (w t residues atoms : List ℕ) (low end : ℕ) (hits : List (List ℕ)) (out₀ : List ℕ) (n d s : ℕ) (at : RecordNumbers) (found : ℕ) (out : List ℕ) (i : Writing w t residues atoms low end hits out₀ n d s at found out) where
  abbrev kind_at : ℕ
  kind_at = get_or w (n * 12) 0

  abbrev left : ℕ
  left = length out₀ / 5 - found

  abbrev put : List (List ℕ) → List ℕ
  put hs = over (found * 5) (hit_words (take left hs)) out

  walk : Walking w t residues atoms low end hits n d s at found
  walk = i.walking

  pub write-end : end ≤ n → (found, out) ≡ wrote hits out₀
  write-end h =
      let c = walk_end w t residues atoms low end hits n d s at found walk h in
      let o : out ≡ over 0 (hit_words (take (length out₀ / 5) hits)) out₀ = sym (over_none (found * 5) out) ∙ ap (λ (hs : List (List ℕ)). over (found * 5) (hit_words hs) out) (sym (take-nil left)) ∙ ap put (sym (found-end w t residues atoms low end n d at h)) ∙ i.words in
      λ j. (c j, o j)

  module _ (more : n < end) where
    pub write-deep : d + 1 < kind_at → Writing w t residues atoms low end hits out₀ (n + 1) d s at found out
    write-deep h =
        record {
          walking = walk-deep w t residues atoms low end hits n d s at found walk more h;
          long = i.long;
          words = ap put (sym (found-deep w t residues atoms low end n d at more walk.depth h)) ∙ i.words;
        }

    module _ (to : RecordNumbers) (is : to ≡ entered_at kind_at n at) (near : kind_at ≤ d + 1) (r : State) (turned : Turned (value_by w t low residues atoms to) kind_at r) where
      on : (b : Bool) → eqb r.live 5 ≡ b → found_in w n end t low d at residues atoms ≡ keep b (five to) (found_in w (n + 1) end t low r.live to residues atoms)
      on = walk-on w t residues atoms low end hits n d s at found walk more to is near r turned

      pub write-miss : (r.live ≡ 5 → ⊥) → Writing w t residues atoms low end hits out₀ (n + 1) r.live r.settled to found out
      write-miss e =
          record {
            walking = walk-miss w t residues atoms low end hits n d s at found walk more to is near r turned e;
            long = i.long;
            words = ap put (sym (on false (ne_eqb r.live 5 e))) ∙ i.words;
          }

      module _ (e : r.live ≡ 5) where
        abbrev rest : List (List ℕ)
        rest = found_in w (n + 1) end t low r.live to residues atoms

        was : put (five to ∷ rest) ≡ over 0 (hit_words (take (length out₀ / 5) hits)) out₀
        was = ap put (sym (on true (eq-eqb r.live 5 e))) ∙ i.words

        by-room : (out' : List ℕ) (b : Bool) → ltb found (length out / 5) ≡ b → out' ≡ cond b (over (found * 5) (five to) out) out
            → Writing w t residues atoms low end hits out₀ (n + 1) r.live r.settled to (found + 1) out'
        by-room out' true q p =
            let l = ltb-true found (length out / 5) q in
            let o = i.long in
            let z : (found + 1) * 5 ≡ found * 5 + 5 = omega arith in
            let y : left ≡ suc (length out₀ / 5 - (found + 1)) = omega arith in
            let room : found * 5 + 5 ≤ length out = omega arith in
            record {
              walking = walk-hit w t residues atoms low end hits n d s at found walk more to is near r turned e;
              long = ap length p ∙ over-length (found * 5) (five to) out room ∙ o;
              words = rw (z, p) (over-over (found * 5) (five to) (hit_words (take (length out₀ / 5 - (found + 1)) rest)) out (omega arith)) ∙ ap (λ (x : ℕ). over (found * 5) (hit_words (take x (five to ∷ rest))) out) (sym y) ∙ was;
            }
        by-room out' false q p =
            let l = ltb-false found (length out / 5) q in
            let o = i.long in
            let y : left ≡ 0 = omega arith in
            let x : length out₀ / 5 - (found + 1) ≡ 0 = omega arith in
            record {
              walking = walk-hit w t residues atoms low end hits n d s at found walk more to is near r turned e;
              long = ap length p ∙ o;
              words = rw (x, p) (over_none ((found + 1) * 5) out ∙ sym (over_none (found * 5) out)) ∙ ap (λ (m : ℕ). over (found * 5) (hit_words (take m (five to ∷ rest))) out) (sym y) ∙ was;
            }

        pub write-hit : (out' : List ℕ) → out' ≡ put_hit found (five to) out → Writing w t residues atoms low end hits out₀ (n + 1) r.live r.settled to (found + 1) out'
        write-hit out' p = by-room out' (ltb found (length out / 5)) refl p

-- ---- the room

module _ (w t residues atoms : List ℕ) (p : Part) (total : ℕ) (asked : Asked w p total) where
  abbrev names : Names
  names = record { residues = residues; atoms = atoms }

  abbrev hits : List (List ℕ)
  hits = found_below w p t residues atoms

  five-each : length (hit_words hits) ≡ 5 * length hits
  five-each = rw (asked.holds.found t names) (five-words (hits_among names (p.depth + 1) t asked.atoms) (hits-five names (p.depth + 1) t asked.atoms asked.holds.five))

  module _ (out : List ℕ) (room : ℕ) (is : room ≡ length out / 5) where
    -- no more hits than atoms
    pub all_fit : (b : Bool) → b ≡ leb (atom_records (records_in p.from p.end w)) room → b ≡ true → 5 * length hits ≤ length out
    all_fit b e f =
        let l = leb-true (atom_records (records_in p.from p.end w)) room (sym e ∙ f) in
        let h = asked.holds in
        omega (arith, ap length (h.found t names), hits_few names (p.depth + 1) t asked.atoms, h.counted)

    -- or no more than were counted
    module _ (c : ℕ) (out₁ out₂ : List ℕ) (e : (c, out₁) ≡ wrote hits out₂) where
      counts : c ≡ length hits
      counts = ap (λ (x : ℕ × List ℕ). x.0) e

      pub counted-fit : c ≤ room → 5 * length hits ≤ length out
      counted-fit l = omega (arith, counts)

  pub found-law : (out : List ℕ) → 5 * length hits ≤ length out → (r : ℕ) (out' : List ℕ) → (r, out') ≡ wrote hits out
      → (counted_numbers (Ok r), out') ≡ written out (Ok hits)
  unfolding over
  found-law out fits r out' q =
      let z : 0 + length (hit_words hits) ≡ 5 * length hits = omega (arith, five-each) in
      let all : take (length out / 5) hits ≡ hits = take_all (length out / 5) hits (omega arith) in
      ap (λ (x : ℕ × List ℕ). (counted_numbers (Ok x.0), x.1)) q
      ∙ rw (all, z) (sym (rw (le-leb (5 * length hits) (length out) fits)))

-- ---- the start

pub held-good : {total : ℕ} (w : List ℕ) → Ok total ≡ checked_by (read_store w) → Good w
held-good w e = (good-store w e).read

-- find, by the answers of its parts
pub no_store : (w start t out : List ℕ) {c : Refusal} (r : Result ℕ) → Err c ≡ checked_by (read_store w) → IsErrAnd r (λ y. y ≡ c) → (counted_numbers r, out) ≡ find_from w start t out
no_store w start t out r e q = rw (exit-err _ _ q) (sym (refused-find w e start t out))

module _ (w start : List ℕ) {total : ℕ} (e : Ok total ≡ checked_by (read_store w)) where
  is_held : Held w total
  is_held = good-store w e

  pub no-position : (t out : List ℕ) → part_under start (held w) ≡ None → (counted_numbers (Err NoPosition), out) ≡ find_from w start t out
  unfolding find_from hits_from
  no-position t out h = rw (is_held.read, no_start w is_held.read start h)

  module _ (p : Part) (h : part_under start (held w) ≡ Some p) where
    is-started : Started w is_held.read start p
    is-started = started w is_held.read start p h

    pub asked-law : Asked w p total
    asked-law =
        let s = is-started in
        let n = is_held.atoms in
        record { atoms = s.atoms; holds = s.holds; few = omega (arith, s.few); whole = λ d. omega (arith, s.whole (omega (arith, s.depth))) }

    pub found-run : (t out : List ℕ) {y : List ℕ × List ℕ} → y ≡ written out (asked_below w p t) → y ≡ find_from w start t out
    unfolding find_from hits_from
    found-run t out k =
        let s = is-started in
        let low : p.depth + 1 ≡ lowest start = omega (arith, s.depth) in
        let hits : found_below w p t tables.residues tables.atoms ≡ hits_among tables (lowest start) t s.atoms = s.holds.found t tables ∙ ap (λ (l : ℕ). hits_among tables l t s.atoms) low in
        k ∙ rw (is_held.read, s.there, hits)
