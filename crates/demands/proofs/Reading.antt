-- Change request §9, "PDB lines in", proved. Assumes nothing.
use Prim.Native.Nat.{ℕ, ◌+◌, ◌-◌, ◌*◌, ◌/◌, ◌^◌, ◌<◌}
use mathlib.Core.Path.{◌≡◌, sym, ap, ◌∙◌, subst}
use mathlib.Core.Bool.{true}
use mathlib.Core.List.{List, [], ◌∷◌, ◌++◌, map}
use native.Mathlib.Omega.{arith}
use lib.ListN.{length, replicate}
use lib.Dec.{lit≤}
use Rattle.machine.specs.Lists.{is_some, all}
use Rattle.machine.specs.Store.{Machine, records, laid, lay_out, end, records_of, group, open_run}
use Rattle.machine.specs.Edit.{store_after, store_answers}
use Rattle.machine.specs.Demand.{accepts}
use Rattle.machine.specs.Lines.{entry_of, writable, machine_text}
use Rattle.machine.specs.LinesIn.{entries_in, read_text}
use Rattle.machine.specs.Read.{calls_from, text_machine, read_run}
use Rattle.laws.specs.Lists.{All, All-append, All-concat_map}
use Rattle.laws.specs.Grouped.{twelve-words, group-flats, concat, concat-length}
use Rattle.laws.specs.Ordered.{flats-group, good-group}
use Rattle.laws.specs.Layout.{store-parts, parts-store, lay_out-parts, records_of-lay_out}
use Rattle.lines.specs.Text.{text-back}
use Rattle.lines.specs.Exactly.{read-written, spread, spread-entries, spread-text, spread-good}
use Rattle.lines.specs.Small.{zeros-small, spread-small, spread-few}
use Rattle.demands.specs.Reading.{U64, Written, Reading}
use Rattle.demands.proofs.Demand.{opened-laid, empty-fits}
use Rattle.demands.proofs.Held.{chunks-small, entries-ready}
use Rattle.demands.proofs.ReadRun.{outcome, run_is, outcome-untouched, outcome-machine, read-entries, gives_none, gives-parts, ran}
use Rattle.demands.proofs.RoundTrip.{round_trip}

-- ---- the texts that are taken

lay_out-small : (n : ℕ) (m : Machine) → All U64 (records m) → 12 * length (records m) < 2 ^ 64 → U64 (lay_out n m)
unfolding lay_out laid
lay_out-small n m h l =
    let b = concat (records m) in
    let k = n - 1 - length b in
    All-append (λ x. x < 2 ^ 64) b (replicate k 0 ++ (length b ∷ [])) (All-concat_map (λ x. x < 2 ^ 64) (λ r. r) (records m) h)
    (All-append (λ x. x < 2 ^ 64) (replicate k 0) (length b ∷ []) (zeros-small k) (omega (arith, concat-length (records m) (twelve-words m)), tt))

only-written : (t : List ℕ) → length t < 2 ^ 64 → is_some (read_text t) ≡ true → Written t
only-written t l h =
    let es = entries_in t in
    let p = read-written t es (read-entries t h) in
    let m = spread es in
    let n = 12 * length (records m) + 1 in
    let room : 12 * length (records m) < n = omega arith in
    let few : 12 * length (records m) < 2 ^ 64 = omega (arith, spread-few es p.2, ap length p.0) in
    let held : group 4 (records_of (lay_out n m)) ≡ m = ap (group 4) (records_of-lay_out n m room) ∙ group-flats 4 (lit≤ tt) m in
    record {
      store = lay_out n m;
      words = lay_out-small n m (spread-small t p.1) few;
      good = parts-store (lay_out n m) (lay_out-parts n m room (spread-good es p.1));
      fits = ap (λ (z : Machine). writable (map entry_of z)) held ∙ ap writable (spread-entries es) ∙ p.2;
      text = ap machine_text held ∙ spread-text es ∙ p.0;
    }

all-written : (t : List ℕ) → Written t → is_some (read_text t) ≡ true
all-written t s =
    let w = s.store in
    let m = group 4 (records_of w) in
    let order = (store-parts w s.good).order in
    let small : All U64 (records m) = subst (All U64) (sym (flats-group (records_of w) order)) (chunks-small (end w / 12) w s.words) in
    let ready = entries-ready m (good-group (records_of w) order) small s.fits in
    ap (λ (z : List ℕ). is_some (read_text z)) (sym s.text) ∙ ap is_some (text-back (map entry_of m) ready)

-- ---- the store that is filled

record Filled (t w : List ℕ) : Type 0 where
  is : (read_run t w).1 ≡ store_after (open_run w).1 (calls_from 0 (entries_in t))
  accepted : all accepts (store_answers (open_run w).1 (calls_from 0 (entries_in t))) ≡ true

filled : (t w : List ℕ) → accepts (read_run t w).0 ≡ true → Filled t w
filled t w h =
    let z = text_machine (length w) t in
    let calls = calls_from 0 (entries_in t) in
    let o = outcome-machine w z (ap (λ (x : List ℕ × List ℕ). accepts x.0) (sym (run_is t w)) ∙ h) in
    let m = o.0 in
    let g = gives-parts (length w) t m o.1 in
    let r = ran (length w) [] m calls g.good (empty-fits (length w)) g.run in
    let e = opened-laid w g.good in
    let done : (read_run t w).1 ≡ lay_out (length w) m = ap (λ (x : List ℕ × List ℕ). x.1) (run_is t w ∙ ap (outcome w) o.1) in
    record {
      is = done ∙ sym r.held ∙ ap (λ (x : List ℕ). store_after x calls) (sym e);
      accepted = ap (λ (x : List ℕ). all accepts (store_answers x calls)) e ∙ r.accepted;
    }

-- CHANGE REQUEST §9
pub reading : Reading
reading =
    record {
      only-written = only-written;
      all-written = all-written;
      other = λ t w g h. ap (λ (x : List ℕ × List ℕ). x.0) (run_is t w ∙ ap (outcome w) (gives_none (length w) t g h));
      untouched = λ t w h.
          ap (λ (x : List ℕ × List ℕ). x.1) (run_is t w)
          ∙ outcome-untouched w (text_machine (length w) t) (ap (λ (x : List ℕ × List ℕ). accepts x.0) (sym (run_is t w)) ∙ h);
      built = λ t w h. (filled t w h).is;
      accepted = λ t w h. (filled t w h).accepted;
      comes_back = round_trip;
    }
