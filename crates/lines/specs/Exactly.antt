-- Change request §9, "The reader takes exactly the text that the writer of §1, with §5, could make": what it takes is the text of a good machine
-- that the writer accepts. Assumes nothing.
use Rattle.std.specs.Prelude.{ℕ, ◌≡◌, refl, Bool, true, false, ◌&&◌, cond, List, [], ◌∷◌, map, None, Some}
use Rattle.std.proofs.Common.{ap, ◌∙◌, sym, arith}
use Rattle.machine.specs.Lists.{all, same, concat_map}
use Rattle.machine.specs.Record.{good_fields}
use Rattle.machine.specs.Store.{Branch, Machine}
use Rattle.machine.specs.Lines.{AtomLine, Entry, entry_of, writable, text_of_entries, machine_text}
use Rattle.machine.specs.LinesIn.{entries_in, good_line, good_entry, read_text}
use Rattle.laws.specs.Lists.{and_both, and-true, same_true}
use Rattle.laws.specs.Good.{good_branch}

-- ---- what is taken is written so

pub read-written : (t : List ℕ) (es : List Entry) → read_text t ≡ Some es → (text_of_entries es ≡ t) × (all good_entry es ≡ true) × (writable es ≡ true)
unfolding read_text
read-written t es e = go (all good_entry xs && (writable xs && same (text_of_entries xs) t)) refl e
  where
    xs : List Entry
    xs = entries_in t

    go : (b : Bool) → all good_entry (entries_in t) && (writable (entries_in t) && same (text_of_entries (entries_in t)) t) ≡ b → cond b (Some (entries_in t)) None ≡ Some es
        → (text_of_entries es ≡ t) × (all good_entry es ≡ true) × (writable es ≡ true)
    go true p f =
        let q : entries_in t ≡ es = cc in
        let g = and_both (all good_entry (entries_in t)) _ p in
        let h = and_both (writable (entries_in t)) (same (text_of_entries (entries_in t)) t) g.1 in
        (ap text_of_entries (sym q) ∙ same_true (text_of_entries (entries_in t)) t h.1, ap (all good_entry) (sym q) ∙ g.0, ap writable (sym q) ∙ h.0)
    go false p f = let z : ◌≡◌ {A = ℕ} 0 1 = cc in absurd (omega arith)

-- ---- and it is a machine's: a chain, a residue and a conformer for each atom

abbrev pub spread_atom : AtomLine → Branch 3
spread_atom l = (l.chain, (l.residue, (l.conformer, l.atom ∷ []) ∷ []) ∷ [])

abbrev pub spread_entry : Entry → Branch 4
spread_entry e = (e.model, map spread_atom e.atoms)

abbrev pub spread : List Entry → Machine
spread es = map spread_entry es

pub entry-spread : (e : Entry) → entry_of (spread_entry e) ≡ e
unfolding entry_of
entry-spread e = ap (λ (z : List AtomLine). record { model = e.model; atoms = z }) (atoms e.atoms)
  where
    atoms : (ls : List AtomLine)
        → concat_map (λ (c : Branch 3). concat_map (λ r. concat_map (λ f. map (λ a. record { chain = c.0; residue = r.0; conformer = f.0; atom = a }) f.1) r.1) c.1) (map spread_atom ls) ≡ ls
    atoms [] = refl
    atoms (l ∷ ls) = ap (λ (z : List AtomLine). l ∷ z) (atoms ls)

pub spread-entries : (es : List Entry) → map entry_of (spread es) ≡ es
spread-entries [] = refl
spread-entries (e ∷ es) = λ i. entry-spread e i ∷ spread-entries es i

pub spread-text : (es : List Entry) → machine_text (spread es) ≡ text_of_entries es
spread-text es = ap text_of_entries (spread-entries es)

atom-good : (l : AtomLine) → good_line l ≡ true → good_branch 3 (spread_atom l) ≡ true
unfolding good_line good_branch
atom-good l g =
    let p = and_both (good_fields 3 l.chain) _ g in
    let q = and_both (good_fields 2 l.residue) _ p.1 in
    let r = and_both (good_fields 1 l.conformer) (good_fields 0 l.atom) q.1 in
    rw (p.0, q.0, r.0, r.1)

atoms-good : (ls : List AtomLine) → all good_line ls ≡ true → all (good_branch 3) (map spread_atom ls) ≡ true
atoms-good [] g = refl
atoms-good (l ∷ ls) g = let p = and_both (good_line l) (all good_line ls) g in and-true (atom-good l p.0) (atoms-good ls p.1)

pub spread-good : (es : List Entry) → all good_entry es ≡ true → all (good_branch 4) (spread es) ≡ true
unfolding good_branch good_fields
spread-good [] g = refl
spread-good (e ∷ es) g = let p = and_both (good_entry e) (all good_entry es) g in and-true (atoms-good e.atoms p.0) (spread-good es p.1)
