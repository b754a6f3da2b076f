-- What each loop keeps, and what each return gives. Assumes nothing.
use Rattle.std.specs.Prelude.{None, Option, Some, option_map}
use Prim.Native.Nat.{ℕ, suc, ◌+◌, ◌*◌, ◌≤◌, ◌<◌}
use mathlib.Core.Path.{◌≡◌, refl, sym, ap, ◌∙◌}
use mathlib.Core.Bool.{Bool, true, false}
use mathlib.Core.List.{List, [], ◌∷◌}
use native.Mathlib.Nat.{add-zero}
use native.Mathlib.Numerals.{add-one}
use native.Mathlib.Omega.{arith}
use lib.ListN.{drop, get_or, length-drop}
use lib.Seq.{drop-drop}
use lib.Dec.{eqb}
use borrow.Author.Tests.{eq-eqb, ne_eqb}
use Rattle.machine.specs.Lists.{or_else, and_then}
use Rattle.machine.specs.Record.{Words}
use Rattle.machine.specs.Store.{chunks}
use Rattle.machine.specs.Edit.{Which, first, last, pick}
use Rattle.laws.specs.Grouped.{chunks-length}
use Rattle.seek.specs.Seek.{Within, record_at, records_in, descendants, to_end}
use Rattle.seek.proofs.Below.{record-word, record-kind, records_in-cons, records_in-nil}
use Rattle.insertion.specs.Pick.{which_by, marks, pick_start, pick_span, chain_key, spot_in, found_of}
use Rattle.insertion.specs.Cursor.{Lands}
use Rattle.insertion.specs.declared.Key.{Key}
use Rattle.insertion.specs.declared.Spot as Spot
use Rattle.insertion.proofs.Picks.{or-none, pick-pass, pick-within}
use Rattle.insertion.proofs.Spans.{SpanInside, picked-inside}

-- ---- is_marked

module _ (w : List ℕ) (at : ℕ) (key : Key) where
  pub unmarked-kind : (get_or w (at * 12) 0 ≡ key.kind → ⊥) → false ≡ marks key (record_at at w)
  unmarked-kind n = rw (record-kind w at, ne_eqb (get_or w (at * 12) 0) key.kind n)

  pub unmarked-first : get_or w (at * 12) 0 ≡ key.kind → (get_or w (at * 12 + 1) 0 ≡ key.first → ⊥) → false ≡ marks key (record_at at w)
  unmarked-first e n =
      rw (record-kind w at, record-word w at 1 (omega arith), eq-eqb (get_or w (at * 12) 0) key.kind e, ne_eqb (get_or w (at * 12 + 1) 0) key.first n)

  pub marked : get_or w (at * 12) 0 ≡ key.kind → get_or w (at * 12 + 1) 0 ≡ key.first → eqb (get_or w (at * 12 + 2) 0) key.second ≡ marks key (record_at at w)
  marked e f =
      rw (record-kind w at, record-word w at 1 (omega arith), record-word w at 2 (omega arith), eq-eqb (get_or w (at * 12) 0) key.kind e, eq-eqb (get_or w (at * 12 + 1) 0) key.first f)

-- ---- find

abbrev pub option_of : Option ℕ → Option ℕ
option_of (Some n) = Some n
option_of None = None

child-option : (c : Option ℕ) → (option_of c) ≡ c
child-option (Some n) = refl
child-option None = refl

-- what is found among the records left, or else the best so far
pub record Searched (w : List ℕ) (from end : ℕ) (key : Key) (at : ℕ) (best : Option ℕ) : Type 0 where
  pub low : at ≤ end
  pub same : pick_start key from (records_in from end w) ≡ or_else (pick_start key at (records_in at end w)) (option_of best)

pub search-begin : (w : List ℕ) (from end : ℕ) (key : Key) → Within from end w → Searched w from end key from None
search-begin w from end key b = record { low = b.order; same = sym (or-none _) }

start-pass : (key : Key) (n : ℕ) (r : Words) (rs : List Words) → marks key r ≡ false → pick_start key n (r ∷ rs) ≡ pick_start key (n + 1) rs
start-pass key n r rs e = rw (pick-pass (marks key) (which_by key.from_back) r rs e) (go (pick (which_by key.from_back) (marks key) rs))
  where
    go : (o : Option ℕ) → and_then (option_map suc o) (λ i. Some (n + i)) ≡ and_then o (λ i. Some (n + 1 + i))
    go None = refl
    go (Some i) = ap Some (omega arith)

start_first : (n : ℕ) (key : Key) (r : Words) (rs : List Words) → which_by key.from_back ≡ first → marks key r ≡ true → pick_start key n (r ∷ rs) ≡ Some n
start_first n key r rs d e = rw (d, e, add-zero)

start-last : (n : ℕ) (key : Key) (r : Words) (rs : List Words) (o : Option ℕ) → which_by key.from_back ≡ last → marks key r ≡ true
    → or_else (pick_start key n (r ∷ rs)) o ≡ or_else (pick_start key (n + 1) rs) (Some n)
start-last n key r rs o d e = rw (d, e) (go (pick last (marks key) rs))
  where
    go : (p : Option ℕ) → or_else (and_then (or_else (option_map suc p) (Some 0)) (λ i. Some (n + i))) o ≡ or_else (and_then p (λ i. Some (n + 1 + i))) (Some n)
    go None = ap Some (add-zero n)
    go (Some i) = ap Some (omega arith)

module _ (w : List ℕ) (from end : ℕ) (key : Key) (at : ℕ) (best : Option ℕ) (s : Searched w from end key at best) (l : at < end) where
  pub search-pass : (m : Bool) → m ≡ marks key (record_at at w) → m ≡ false → Searched w from end key (at + 1) best
  search-pass m d e =
      record {
        low = omega arith;
        same = s.same ∙ rw (records_in-cons w end at l, start-pass key at (record_at at w) (records_in (at + 1) end w) (sym d ∙ e));
      }

  pub search-on : (m : Bool) → m ≡ marks key (record_at at w) → m ≡ true → key.from_back ≡ true → Searched w from end key (at + 1) (Some at)
  search-on m d e f =
      record {
        low = omega arith;
        same = s.same ∙ rw (records_in-cons w end at l, start-last at key (record_at at w) (records_in (at + 1) end w) (option_of best) (ap which_by f) (sym d ∙ e));
      }

  pub search-hit : (m : Bool) → m ≡ marks key (record_at at w) → m ≡ true → key.from_back ≡ false → Some at ≡ pick_start key from (records_in from end w)
  search-hit m d e f =
      let q : pick_start key from (records_in from end w) ≡ Some at =
      s.same ∙ rw (records_in-cons w end at l, start_first at key (record_at at w) (records_in (at + 1) end w) (ap which_by f) (sym d ∙ e)) in
      rw q

pub search-end : (w : List ℕ) (from end : ℕ) (key : Key) (at : ℕ) (best : Option ℕ) → Searched w from end key at best → end ≤ at → best ≡ pick_start key from (records_in from end w)
search-end w from end key at best s l =
    let q : pick_start key from (records_in from end w) ≡ option_of best = s.same ∙ rw (records_in-nil w end at l) (go (which_by key.from_back)) in
    rw q (sym (child-option best))
  where
    go : (v : Which) → or_else (and_then (pick v (marks key) []) (λ i. Some (at + i))) (option_of best) ≡ option_of best
    go first = refl
    go last = refl

-- ---- pick

-- the record found, by its offset
pub record Met (key : Key) (from end : ℕ) (w : List ℕ) (at : ℕ) : Type 0 where
  pub offset : ℕ
  pub there : pick (which_by key.from_back) (marks key) (records_in from end w) ≡ Some offset
  pub number : from + offset ≡ at
  pub below : at < end

module _ (w : List ℕ) (key : Key) (from end : ℕ) (r : Option ℕ) (e : r ≡ pick_start key from (records_in from end w)) where
  pub pick-missing : r ≡ None → None ≡ pick_span key from (records_in from end w)
  pick-missing m = go (pick (which_by key.from_back) (marks key) (records_in from end w)) (sym e ∙ m)
    where
      go : (o : Option ℕ) → (and_then o (λ i. Some (from + i))) ≡ None → None ≡ and_then o (λ i. to_end key.kind (from + i) (drop (suc i) (records_in from end w)))
      go None q = refl
      go (Some i) q = let z : ◌≡◌ {A = ℕ} 0 1 = cc in absurd (omega arith)

  module _ (at : ℕ) (b : Within from end w) (m : r ≡ Some at) where
    met : Met key from end w at
    met = go (pick (which_by key.from_back) (marks key) (records_in from end w)) refl (sym e ∙ m)
      where
        go : (o : Option ℕ) → pick (which_by key.from_back) (marks key) (records_in from end w) ≡ o → (and_then o (λ i. Some (from + i))) ≡ Some at → Met key from end w at
        go None q p = let z : ◌≡◌ {A = ℕ} 0 1 = cc in absurd (omega arith)
        go (Some i) q p =
            let n : from + i ≡ at = cc in
            record {
              offset = i;
              there = q;
              number = n;
              below = omega (arith, b.order, pick-within (marks key) (which_by key.from_back) (records_in from end w) i q, length-drop from (chunks end w), chunks-length end w);
            }

    pub pick-after : Within (at + 1) end w
    pick-after = record { order = omega (arith, met.below); room = b.room }

    pub pick_is : (stop : ℕ) → stop ≡ at + 1 + descendants key.kind (records_in (at + 1) end w) → (Some (at, stop)) ≡ pick_span key from (records_in from end w)
    pick_is stop f =
        let q : from + suc met.offset ≡ at + 1 = omega (arith, met.number) in
        let g : stop ≡ suc at + descendants key.kind (records_in (at + 1) end w) = f ∙ ap (λ (x : ℕ). x + descendants key.kind (records_in (at + 1) end w)) (add-one at) in
        rw (met.there, drop-drop (suc met.offset) from (chunks end w), q, met.number, g)

-- ---- spot_of

no_span : (o : Option (ℕ × ℕ)) → o ≡ None → o ≡ None
no_span None e = refl
no_span (Some s) e = let z : ◌≡◌ {A = ℕ} 0 1 = cc in absurd (omega arith)

module _ (w : List ℕ) (key : Key) (from end : ℕ) (r : Option (ℕ × ℕ)) (e : r ≡ pick_span key from (records_in from end w)) where
  spot-missing : (keys : List Key) → r ≡ None → spot_in (key ∷ keys) from end w ≡ (end, 0)
  unfolding spot_in
  spot-missing keys m = rw (no_span (pick_span key from (records_in from end w)) (sym e ∙ m))

  module _ (start stop : ℕ) (m : r ≡ Some (start, stop)) where
    spot-span : pick_span key from (records_in from end w) ≡ Some (start, stop)
    spot-span = (sym e ∙ m)

    spot-inside : Within from end w → SpanInside from end start stop
    spot-inside b = picked-inside w from end b key start stop spot-span

    pub spot-within : Within from end w → Within (start + 1) stop w
    spot-within b = let i = spot-inside b in record { order = omega (arith, i.order); room = omega (arith, i.high, b.room) }

    spot_on : (keys : List Key) (at n : ℕ) → spot_in keys (start + 1) stop w ≡ (at, n) → spot_in (key ∷ keys) from end w ≡ (at, suc n)
    unfolding spot_in
    spot_on keys at n f = rw (spot-span, f)

spot-none : (from end : ℕ) (w : List ℕ) → spot_in [] from end w ≡ (end, 0)
unfolding spot_in
spot-none from end w = refl

-- the spot of a chain that is missing, and one below a chain that stands
module _ (w : List ℕ) (start end id : ℕ) (r : Option (ℕ × ℕ)) (e : r ≡ pick_span (chain_key id) (start + 1) (records_in (start + 1) end w)) where
  lands-missing : r ≡ None → Lands start end id w (record { at = end; depth = 0; chain = end; chain_end = end })
  lands-missing m =
      record {
        depth = omega arith;
        high = omega arith;
        within = omega arith;
        missing = λ d. no_span (pick_span (chain_key id) (start + 1) (records_in (start + 1) end w)) (sym e ∙ m);
        last = λ d. refl;
        chain = λ d. absurd (omega arith);
        low = λ d. absurd (omega arith);
        residue = λ d. absurd (omega arith);
      }

  lands-below : (chain stop : ℕ) → r ≡ Some (chain, stop) → Within (start + 1) end w → (at depth : ℕ) → (1 ≤ depth) × (depth ≤ 3) → chain < at → at ≤ stop → (depth ≡ 1 → at ≡ stop)
      → Lands start end id w (record { at = at; depth = depth; chain = chain; chain_end = stop })
  lands-below chain stop m b at depth d l u f =
      record {
        depth = d.1;
        high = u;
        within = (spot-inside w (chain_key id) (start + 1) end r e chain stop m b).high;
        missing = λ z. absurd (omega arith);
        last = λ z. absurd (omega arith);
        chain = λ z. spot-span w (chain_key id) (start + 1) end r e chain stop m;
        low = λ z. l;
        residue = f;
      }

-- what each return of `spot_of` gives, level by level
abbrev Spots : ℕ → ℕ → ℕ → List Key → List ℕ → Spot.Spot → Type 0
Spots start end id keys w s = (found_of s ≡ spot_in (chain_key id ∷ keys) (start + 1) end w) × Lands start end id w s

module _ (w : List ℕ) (start end id : ℕ) (residue_by conformer_by : Key) (b : Within (start + 1) end w)
    (chains : Option (ℕ × ℕ)) (e₁ : chains ≡ pick_span (chain_key id) (start + 1) (records_in (start + 1) end w)) where
  pub no-chain : chains ≡ None → Spots start end id (residue_by ∷ conformer_by ∷ []) w (record { at = end; depth = 0; chain = end; chain_end = end })
  no-chain m = (sym (spot-missing w _ _ _ chains e₁ _ m), lands-missing w start end id chains e₁ m)

  module _ (chain chain-end : ℕ) (m₁ : chains ≡ Some (chain, chain-end)) where
    residues-within : Within (chain + 1) chain-end w
    residues-within = spot-within w (chain_key id) _ _ chains e₁ chain chain-end m₁ b

    abbrev spotted : ℕ → ℕ → Spot.Spot
    spotted at depth = record { at = at; depth = depth; chain = chain; chain_end = chain-end }

    below_chain : (at n : ℕ) → spot_in (residue_by ∷ conformer_by ∷ []) (chain + 1) chain-end w ≡ (at, n) → n ≤ 2 → chain < at → at ≤ chain-end
        → (suc n ≡ 1 → at ≡ chain-end) → Spots start end id (residue_by ∷ conformer_by ∷ []) w (spotted at (suc n))
    below_chain at n f k l u g =
        (sym (spot_on w _ _ _ chains e₁ chain chain-end m₁ _ at n f), lands-below w start end id chains e₁ chain chain-end m₁ b at (suc n) (omega arith, omega arith) l u g)

    module _ (residues : Option (ℕ × ℕ)) (e₂ : residues ≡ pick_span residue_by (chain + 1) (records_in (chain + 1) chain-end w)) where
      pub no-residue : residues ≡ None → Spots start end id (residue_by ∷ conformer_by ∷ []) w (spotted chain-end 1)
      no-residue m = below_chain chain-end 0 (spot-missing w _ _ _ residues e₂ _ m) (omega arith) (omega (arith, residues-within.order)) (omega arith) (λ d. refl)

      module _ (residue residue-end : ℕ) (m₂ : residues ≡ Some (residue, residue-end)) where
        conformers-within : Within (residue + 1) residue-end w
        conformers-within = spot-within w residue_by _ _ residues e₂ residue residue-end m₂ residues-within

        inside : SpanInside (chain + 1) chain-end residue residue-end
        inside = spot-inside w residue_by _ _ residues e₂ residue residue-end m₂ residues-within

        module _ (conformers : Option (ℕ × ℕ)) (e₃ : conformers ≡ pick_span conformer_by (residue + 1) (records_in (residue + 1) residue-end w)) where
          pub no-conformer : conformers ≡ None → Spots start end id (residue_by ∷ conformer_by ∷ []) w (spotted residue-end 2)
          no-conformer m =
              below_chain residue-end 1 (spot_on w _ _ _ residues e₂ residue residue-end m₂ _ _ _ (spot-missing w _ _ _ conformers e₃ _ m)) (omega arith)
              (omega (arith, inside.low, inside.order)) inside.high (λ d. absurd (omega arith))

          pub all-stand : (conformer conformer-end : ℕ) → conformers ≡ Some (conformer, conformer-end) → Spots start end id (residue_by ∷ conformer_by ∷ []) w (spotted conformer-end 3)
          all-stand conformer conformer-end m =
              let i = spot-inside w conformer_by _ _ conformers e₃ conformer conformer-end m conformers-within in
              below_chain conformer-end 2
              (spot_on w _ _ _ residues e₂ residue residue-end m₂ _ _ _ (spot_on w _ _ _ conformers e₃ conformer conformer-end m _ _ _ (spot-none _ _ w)))
              (omega arith) (omega (arith, inside.low, i.low, i.order)) (omega (arith, inside.high, i.high)) (λ d. absurd (omega arith))
