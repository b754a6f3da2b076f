-- Change request §9: "For a structure in which no two siblings have equal ids, no chain, residue or conformer is empty, and the writer accepts it,
-- reading the text into a store of equal length and writing again gives the same bytes." Assumes nothing.
use Rattle.std.specs.Prelude.{Ok, Some}
use Prim.Native.Nat.{ℕ, ◌≤◌, ◌/◌}
use mathlib.Core.Path.{◌≡◌, refl, sym, ap, ◌∙◌, subst}
use mathlib.Core.Bool.{Bool, true, false}
use mathlib.Core.List.{List, [], map}
use native.Mathlib.Omega.{arith}
use lib.ListN.{length}
use lib.Dec.{leb}
use borrow.Author.Tests.{le-leb}
use Rattle.machine.specs.Answer.{Result, ◌>>=◌, ◌>>◌, need}
use Rattle.machine.specs.Store.{Machine, records, capacity, lay_out, end, good_length, read_store}
use Rattle.machine.specs.Demand.{accepts}
use Rattle.machine.specs.Lines.{Entry, entry_of, writable, text_of_entries, machine_text}
use Rattle.machine.specs.LinesIn.{read_text}
use Rattle.machine.specs.Read.{calls_from, run_calls, text_machine, tidy_machine}
use Rattle.machine.specs.Write.{store_text}
use Rattle.machine.specs.declared.Refusal.{Refusal}
use Rattle.machine.specs.declared.Refusal.TheVariants.{NoCapacity, TooWide}
use Rattle.laws.specs.Lists.{All}
use Rattle.laws.specs.Layout.{read-lay_out, read_length, read-fit, records-read}
use Rattle.lines.specs.Fields.{settled, settled_line}
use Rattle.lines.specs.Text.{settled_entry, text-back}
use Rattle.lines.specs.Exactly.{read-written}
use Rattle.building.specs.Build.{build}
use Rattle.building.specs.Run.{text-run, run-keeps}
use Rattle.building.specs.Alike.{map_atoms, on_atoms, machine-alike, records-alike, entries-alike}
use Rattle.demands.specs.Reading.{U64, ComesBack}
use Rattle.demands.proofs.Demand.{empty-fits}
use Rattle.demands.proofs.Held.{chunks-small, entries-ready}
use Rattle.demands.proofs.ReadRun.{outcome, run_is, gives, gives-is}

-- ---- the text that a store's machine is written as

need-text : (b : Bool) (r : Refusal) (x t : List ℕ) → (need b r >> Ok x) ≡ Ok t → (b ≡ true) × (x ≡ t)
need-text true r x t e = (refl, cc)
need-text false r x t e = let z : ◌≡◌ {A = ℕ} 0 1 = cc in absurd (omega arith)

written : (w : List ℕ) (m : Machine) (t : List ℕ) → read_store w ≡ Ok m → store_text w ≡ Ok t → (writable (map entry_of m) ≡ true) × (machine_text m ≡ t)
unfolding store_text
written w m t h e = need-text (writable (map entry_of m)) TooWide (machine_text m) t
    (ap (λ (r : Result Machine). r >>= λ z. need (writable (map entry_of z)) TooWide >> Ok (machine_text z)) (sym h) ∙ e)

settled-entries : (es : List Entry) → map settled_entry es ≡ map (on_atoms settled) es
unfolding settled_entry settled_line
settled-entries es = refl

-- ---- and what it is read into

-- entries that a text is read as, and the machine that they build, whose own lines they are
record Read (n : ℕ) (t : List ℕ) : Type 0 where
  entries : List Entry
  machine : Machine
  good : good_length n ≡ true
  reads : read_text t ≡ Some entries
  builds : build entries ≡ machine
  room : length (records machine) ≤ capacity n
  lines : map entry_of machine ≡ entries

module _ (n : ℕ) (t : List ℕ) (r : Read n t) where
  run : run_calls n [] (calls_from 0 r.entries) ≡ Ok r.machine
  run =
      text-run n r.entries (read-written t r.entries r.reads).1
      ∙ ap (λ (z : Machine). need (leb (length (records z)) (capacity n)) NoCapacity >> Ok z) r.builds
      ∙ ap (λ (b : Bool). need b NoCapacity >> Ok r.machine) (le-leb (length (records r.machine)) (capacity n) r.room)

  text-machine : text_machine n t ≡ Ok r.machine
  text-machine = gives-is n t ∙ ap (λ (b : Bool). gives n b (read_text t)) r.good ∙ ap (gives n true) r.reads ∙ run

  -- the store afterwards
  held : read_store (lay_out n r.machine) ≡ Ok r.machine
  held = read-lay_out n r.machine r.good (run-keeps n [] r.machine (calls_from 0 r.entries) (empty-fits n) run)

  text-again : store_text (lay_out n r.machine) ≡ Ok t
  unfolding store_text
  text-again =
      let p = read-written t r.entries r.reads in
      ap (λ (z : Result Machine). z >>= λ m. need (writable (map entry_of m)) TooWide >> Ok (machine_text m)) held
      ∙ ap (λ (es : List Entry). need (writable es) TooWide >> Ok (text_of_entries es)) r.lines
      ∙ ap (λ (b : Bool). need b TooWide >> Ok (text_of_entries r.entries)) p.2
      ∙ ap Ok p.0

comes_back : (t w : List ℕ) → Read (length w) t → ComesBack t w
comes_back t w r =
    let e = run_is t w ∙ ap (outcome w) (text-machine (length w) t r) in
    record {
      taken = ap (λ (a : List ℕ × List ℕ). accepts a.0) e;
      again = ap (λ (a : List ℕ × List ℕ). store_text a.1) e ∙ text-again (length w) t r;
    }

-- THE ROUND TRIP: m is the structure in the words w, and t its text
pub round_trip : (w w₂ : List ℕ) (m : Machine) (t : List ℕ) → U64 w → read_store w ≡ Ok m → tidy_machine m ≡ true → store_text w ≡ Ok t
    → length w₂ ≡ length w → ComesBack t w₂
round_trip w w₂ m t small h tidy text same =
    let fit = read-fit w m h in
    let p = written w m t h text in
    let ready = entries-ready m fit.good (subst (All U64) (sym (records-read w m h)) (chunks-small (end w / 12) w small)) p.0 in
    let after = map (map_atoms 4 settled) m in
    let room : length (records after) ≤ capacity (length w₂) = rw (records-alike settled m, same) fit.room in
    comes_back t w₂
    (record {
      entries = map settled_entry (map entry_of m);
      machine = after;
      good = ap good_length same ∙ read_length w m h;
      reads = ap read_text (sym p.1) ∙ text-back (map entry_of m) ready;
      builds = ap build (settled-entries (map entry_of m)) ∙ machine-alike settled m tidy;
      room = room;
      lines = entries-alike settled m ∙ sym (settled-entries (map entry_of m));
    })
