-- What a place says of a store: put to use, and kept by an addition. Assumes nothing.
use Rattle.std.specs.Prelude.{None, Option, Some, Ok}
use Rattle.machine.specs.Answer.{position}
use Prim.Native.Nat.{ℕ, zero, suc, ◌+◌, ◌-◌, ◌*◌, ◌/◌, ◌≤◌, ◌<◌}
use mathlib.Core.Path.{◌≡◌, refl, sym, ap, ◌∙◌}
use mathlib.Core.Bool.{Bool, true, false, ◌&&◌}
use mathlib.Core.List.{List, [], ◌∷◌, ◌++◌, append-nil}
use native.Mathlib.Omega.{arith}
use lib.ListN.{length, take, drop, get_or, length-append, length-drop}
use lib.Seq.{take-append-add, drop-append-le, drop-append-add}
use lib.Dec.{ltb, eqb}
use borrow.Author.Tests.{lt-ltb, le-ltb, ltb-true, eqb-true, eq-eqb, ne_eqb}
use Rattle.machine.specs.Record.{Words, words, kind}
use Rattle.machine.specs.Store.{records_of, chunks}
use Rattle.machine.specs.Store as Store
use Rattle.machine.specs.Edit.{new_chain, first, last, pick}
use Rattle.laws.specs.Lists.{All, All-map, All-append, All-left, All-right, and_both}
use Rattle.laws.specs.Grouped.{chunks-length}
use Rattle.laws.specs.Layout.{read-parts}
use Rattle.seek.specs.Seek.{held, Good, Within, record_at, records_in, descendants, child, child_span, span}
use Rattle.seek.proofs.Below.{chunks-take}
use Rattle.insertion.specs.Pick.{marks, pick_span, chain_key, residue_key}
use Rattle.insertion.specs.Cursor.{rank, Ranked, PointsInto, Valid, Lands, column, Grown, Advances}
use Rattle.machine.specs.declared.PreparedAddition.{PreparedAddition}
use Rattle.insertion.specs.declared.Cursor as Cursor
use Rattle.insertion.specs.declared.Spot as Spot
use Rattle.insertion.proofs.Picks.{unmarked}
use Rattle.insertion.proofs.Spans.{to-span, not_found, child-front, pick-front, pick-fresh, pick-none, pick-last, span-put, SpanInside, picked-inside, model-inside, model-span, records_in-split, descendants-whole}

-- ---- a place put to use

pub rank-low : (serial : ℕ) → serial < 0x8000_0000_0000_0000 → serial + 0x8000_0000_0000_0000 ≡ rank serial
unfolding rank
rank-low serial l = rw (lt-ltb serial 0x8000_0000_0000_0000 l)

pub rank-high : (serial : ℕ) → 0x8000_0000_0000_0000 ≤ serial → serial - 0x8000_0000_0000_0000 ≡ rank serial
unfolding rank
rank-high serial l = rw (le-ltb serial 0x8000_0000_0000_0000 l)

pub nowhere-known : (p : Cursor.Cursor) (w : List ℕ) → p.known ≡ false → Valid p w
nowhere-known p w e k = let z : ◌≡◌ {A = Bool} true false = sym k ∙ e in let y : ◌≡◌ {A = ℕ} 0 1 = cc in absurd (omega arith)

all_three : (a b c : Bool) → (a && b) && c ≡ true → (a ≡ true) × (b ≡ true) × (c ≡ true)
all_three a b c h = let x = and_both (a && b) c h in let y = and_both a b x.0 in (y.0, y.1, x.1)

module _ (p : Cursor.Cursor) (w : List ℕ) (k : Valid p w) where
  pub model-known : (model : ℕ) → Good w → p.known && eqb p.model model ≡ true
      → Ok (p.start, p.model_end) ≡ position (span (model ∷ []) (held w))
  model-known model g h =
      let b = and_both p.known (eqb p.model model) h in
      let e : p.model ≡ model = eqb-true _ _ b.1 in
      let f : span (model ∷ []) (held w) ≡ Some (p.start, p.model_end) = sym (model-span w g model) ∙ rw (← e) (k b.0).model in
      rw f

  pub chain-known : (start end id : ℕ) → ((p.known && eqb p.start start) && eqb p.model_end end) && eqb p.id id ≡ true
      → (Some (p.chain, p.chain_end)) ≡ pick_span (chain_key id) (start + 1) (records_in (start + 1) end w)
  chain-known start end id h =
      let b = and_both ((p.known && eqb p.start start) && eqb p.model_end end) (eqb p.id id) h in
      let c = all_three p.known (eqb p.start start) (eqb p.model_end end) b.0 in
      let x : p.start ≡ start = eqb-true _ _ c.1 in
      let y : p.model_end ≡ end = eqb-true _ _ c.2 in
      let z : p.id ≡ id = eqb-true _ _ b.1 in
      let e : pick_span (chain_key id) (start + 1) (records_in (start + 1) end w) ≡ Some (p.chain, p.chain_end) = rw (← x, ← y, ← z) (k c.0).chain in
      rw e

unranked : (top serial code : ℕ) (r : Words) → top < rank serial → Ranked top r → marks (residue_key serial code) r ≡ false
unranked top serial code r l k = go (eqb (kind r) 3) refl
  where
    go : (b : Bool) → eqb (kind r) 3 ≡ b → b && (eqb (get_or r 1 0) serial && eqb (get_or r 2 0) code) ≡ false
    go false q = refl
    go true q = rw (ne_eqb (get_or r 1 0) serial (λ e. omega (arith, k (eqb-true (kind r) 3 q), ap rank e)))

module _ (p : Cursor.Cursor) (w : List ℕ) (k : Valid p w) (chain end serial code : ℕ) (b : Within (chain + 1) end w)
    (h : (p.known && eqb p.chain chain) && eqb p.chain_end end ≡ true) where
  abbrev residues : Option (ℕ × ℕ)
  residues = pick_span (residue_key serial code) (chain + 1) (records_in (chain + 1) end w)

  same-chain : PointsInto p w × (p.chain ≡ chain) × (p.chain_end ≡ end)
  same-chain = let c = all_three p.known (eqb p.chain chain) (eqb p.chain_end end) h in (k c.0, eqb-true _ _ c.1, eqb-true _ _ c.2)

  pub residue-room : p.residue * 12 + 12 ≤ length w
  residue-room = let c = same-chain in omega (arith, c.0.high, c.2, b.room)

  pub residue-known : (m : Bool) → m ≡ marks (residue_key serial code) (record_at p.residue w) → m ≡ true → (Some (p.residue, end)) ≡ residues
  residue-known m d t =
      let c = same-chain in
      let kept = c.0 in
      let low = kept.low in
      let high = kept.high in
      let u = c.1 in
      let v = c.2 in
      let mark = marks (residue_key serial code) in
      let r : Words = record_at p.residue w in
      let rest : List Words = records_in (p.residue + 1) end w in
      let above : All (λ x. 3 < kind x) rest = rw (← v) kept.last in
      let s = records_in-split w (chain + 1) end p.residue (omega arith) (omega arith) in
      let a = s.0 in
      let n = s.1 in
      let o : pick last mark (a ++ (r ∷ rest)) ≡ Some (length a) = pick-last mark a r rest (sym d ∙ t) (All-map (unmarked (residue_key serial code)) rest above) in
      let j : suc (length a) ≡ length a + 1 = omega arith in
      let after : drop (suc (length a)) (a ++ (r ∷ rest)) ≡ rest = ap (λ (i : ℕ). drop i (a ++ (r ∷ rest))) j ∙ drop-append-add a (r ∷ rest) 1 in
      let e : residues ≡ Some (p.residue, end) =
      rw s.2 (to-span 3 (chain + 1) (pick last mark (a ++ (r ∷ rest))) (a ++ (r ∷ rest)) p.residue end
      (record { offset = length a; there = o; number = omega arith; ends = rw (after, descendants-whole 3 rest above) (omega (arith, length-drop (p.residue + 1) (chunks end w), chunks-length end w)) })) in
      rw e

  pub residue-new : (x : ℕ) → x ≡ rank serial → p.topped && ltb p.top x ≡ true → None ≡ residues
  residue-new x d t =
      let c = same-chain in
      let both = and_both p.topped (ltb p.top x) t in
      let ranks : All (Ranked p.top) (records_in (chain + 1) end w) = rw (← c.1, ← c.2) (c.0.top both.0) in
      let l = ltb-true p.top x both.1 in
      rw (pick-none (marks (residue_key serial code)) (records_in (chain + 1) end w) (All-map (λ r q. unranked p.top serial code r (omega arith) q) (records_in (chain + 1) end w) ranks))

-- ---- a place kept

module _ {at : ℕ} {new : List Words} {w w' : List ℕ} (g : Grown at new w w') where
  -- the records after the new ones, up to record e of the old store
  abbrev pub later : ℕ → List Words
  later e = take (e - at) g.back

  module _ (e : ℕ) (low : at ≤ e) (high : e ≤ length (records_of w)) where
    pub records_in-was : (s : ℕ) → s ≤ at → records_in s e w ≡ drop s g.front ++ later e
    records_in-was s l =
        let n = g.number in
        let c : chunks e w ≡ take e (records_of w) = chunks-take e (Store.end w / 12) w (omega (arith, chunks-length (Store.end w / 12) w)) in
        let q : e ≡ length g.front + (e - at) = omega arith in
        let t : take e (g.front ++ g.back) ≡ g.front ++ later e = ap (λ (i : ℕ). take i (g.front ++ g.back)) q ∙ take-append-add g.front g.back (e - at) in
        rw (c, g.was, t) (drop-append-le s g.front (later e) (omega arith))

    pub records_in-is : (s : ℕ) → records_in s (e + length new) w' ≡ drop s (g.front ++ (new ++ later e))
    records_in-is s =
        let n = g.number in
        let f = g.front in
        let b = g.back in
        let m : length (records_of w) ≡ length f + length b = ap length g.was ∙ length-append f b in
        let m' : length (records_of w') ≡ length f + (length new + length b) = ap length g.is ∙ length-append f (new ++ b) ∙ ap (λ (i : ℕ). length f + i) (length-append new b) in
        let c : chunks (e + length new) w' ≡ take (e + length new) (records_of w') =
        chunks-take (e + length new) (Store.end w' / 12) w' (omega (arith, chunks-length (Store.end w' / 12) w')) in
        let q : e + length new ≡ length f + (length new + (e - at)) = omega arith in
        let t : take (e + length new) (f ++ (new ++ b)) ≡ f ++ (new ++ later e) =
        ap (λ (i : ℕ). take i (f ++ (new ++ b))) q ∙ take-append-add f (new ++ b) (length new + (e - at)) ∙ ap (λ (rs : List Words). f ++ rs) (take-append-add new b (e - at)) in
        rw (c, g.is, t)

    pub records_in-put : (s : ℕ) → s ≤ at → records_in s (e + length new) w' ≡ drop s g.front ++ (new ++ later e)
    records_in-put s l = let n = g.number in records_in-is s ∙ drop-append-le s g.front (new ++ later e) (omega arith)

    -- what holds of records around holds with the new ones
    pub all-put : (P : Words → Type 0) (s : ℕ) → s ≤ at → All P (records_in s e w) → All P new → All P (records_in s (e + length new) w')
    all-put P s l h k =
        let a = drop s g.front in
        let h' : All P (a ++ later e) = rw (records_in-was s l) at h in
        rw (records_in-put s l) (All-append P a (new ++ later e) (All-left P a (later e) h') (All-append P new (later e) k (All-right P a (later e) h')))

  -- none stand after them
  pub later-none : (e : ℕ) → at ≡ e → later e ≡ []
  later-none e q = let z : e - at ≡ 0 = omega arith in rw z

  -- the new ones from one on
  pub all_new : (P : Words → Type 0) (j x y : ℕ) → at ≤ length (records_of w) → x ≡ at + j → y ≡ at + length new → All P (drop j new) → All P (records_in x y w')
  all_new P j x y h q r k =
      let n = g.number in
      let i : at + j ≡ length g.front + j = omega arith in
      let z : drop (at + j) (g.front ++ (new ++ later at)) ≡ drop j new =
      ap (λ (m : ℕ). drop m (g.front ++ (new ++ later at))) i ∙ drop-append-add g.front (new ++ later at) j ∙ ap (λ (rs : List Words). drop j (new ++ rs)) (later-none at refl) ∙ ap (drop j) (append-nil new) in
      rw (q, r, records_in-is at (omega arith) h (at + j), z) k

ranked-up : (x y : ℕ) → x ≤ y → (r : Words) → Ranked x r → Ranked y r
ranked-up x y l r k q = omega (arith, k q)

unranked-kind : (top : ℕ) (r : Words) → 3 < kind r → Ranked top r
unranked-kind top r l q = absurd (omega arith)

kinds-new : (a : PreparedAddition) (d : ℕ) → d ≤ 3 → All (λ r. suc d < kind r) (drop d (column a))
unfolding words
kinds-new a zero l = (omega arith, (omega arith, (omega arith, (omega arith, tt))))
kinds-new a (suc zero) l = (omega arith, (omega arith, (omega arith, tt)))
kinds-new a (suc (suc zero)) l = (omega arith, (omega arith, tt))
kinds-new a (suc (suc (suc zero))) l = (omega arith, tt)
kinds-new a (suc (suc (suc (suc d)))) l = absurd (omega arith)

module _ (w w' : List ℕ) (a : PreparedAddition) (model start end : ℕ) (s : Spot.Spot) (good : Good w)
    (m : child_span 1 model 0 (records_of w) ≡ Some (start, end)) (l : Lands start end a.chain w s) (g : Grown s.at (drop s.depth (column a)) w w') where
  abbrev new : List Words
  new = drop s.depth (column a)

  new-length : length new ≡ 4 - s.depth
  new-length = length-drop s.depth (column a)

  new-kinds : (h : ℕ) → h ≤ suc s.depth → All (λ r. h < kind r) new
  new-kinds h b = All-map (λ r q. omega arith) new (kinds-new a s.depth l.depth)

  model-bounds : SpanInside 0 (length (records_of w)) start end
  model-bounds = model-inside w good model start end m

  model-within : Within (start + 1) end w
  model-within =
      let b = model-bounds in
      let p = (read-parts w (held w) good).low in
      let c = chunks-length (Store.end w / 12) w in
      record { order = omega (arith, b.order); room = omega (arith, b.high) }

  chain-bounds : 1 ≤ s.depth → SpanInside (start + 1) end s.chain s.chain_end
  chain-bounds h = picked-inside w (start + 1) end model-within (chain_key a.chain) s.chain s.chain_end (l.chain h)

  below-model : start < s.at
  below-model = go s.depth refl
    where
      go : (d : ℕ) → s.depth ≡ d → start < s.at
      go zero q = omega (arith, l.last q, model-bounds.order)
      go (suc d) q = let h : 1 ≤ s.depth = omega arith in omega (arith, l.low h, (chain-bounds h).low)

  high : s.at ≤ end
  high = omega (arith, l.high, l.within)

  all-records : end ≤ length (records_of w)
  all-records = model-bounds.high

  model-kept : (stop : ℕ) → stop ≡ end + length new → child_span 1 model 0 (records_of w') ≡ Some (start, stop)
  model-kept stop q =
      let b = below-model in
      let h = high in
      let i = g.number in
      rw (q, g.is) (span-put 1 0 (child 1 model) (child-front 1 model) g.front new g.back start end (new-kinds 1 (omega arith)) (rw g.was at m) (omega arith) (omega arith))

  chain-kept : 1 ≤ s.depth → (stop edge : ℕ) → stop ≡ end + length new → edge ≡ s.chain_end + length new
      → pick_span (chain_key a.chain) (start + 1) (records_in (start + 1) stop w') ≡ Some (s.chain, edge)
  chain-kept d stop edge q r =
      let b = below-model in
      let i = g.number in
      let before = drop (start + 1) g.front in
      let o = l.low d in
      let u = l.high in
      let was = records_in-was g end high all-records (start + 1) (omega arith) in
      let is = records_in-put g end high all-records (start + 1) (omega arith) in
      let n = length-drop (start + 1) g.front in
      rw (q, r, is)
      (span-put 2 (start + 1) (pick first (marks (chain_key a.chain))) (pick-front (marks (chain_key a.chain))) before new (later g end) s.chain s.chain_end (new-kinds 2 (omega arith)) (rw was at (l.chain d)) (omega arith) (omega arith))

  chain-fresh : s.depth ≡ 0 → (stop : ℕ) → stop ≡ end + 4 → pick_span (chain_key a.chain) (start + 1) (records_in (start + 1) stop w') ≡ Some (end, stop)
  unfolding words descendants
  chain-fresh d stop q =
      let b = below-model in
      let o = l.last d in
      let i = g.number in
      let before = drop (start + 1) g.front in
      let mark = marks (chain_key a.chain) in
      let col : new ≡ column a = ap (λ (k : ℕ). drop k (column a)) d in
      let gone = later-none g end o in
      let r : stop ≡ end + length new = omega (arith, new-length) in
      let was : records_in (start + 1) end w ≡ before = records_in-was g end high all-records (start + 1) (omega arith) ∙ rw gone (append-nil before) in
      let whole : new ++ later g end ≡ column a = rw (gone, col) in
      let put = records_in-put g end high all-records (start + 1) (omega arith) in
      let is : records_in (start + 1) stop w' ≡ before ++ column a = rw r (put ∙ ap (λ (rs : List Words). before ++ rs) whole) in
      let none_before : pick first mark before ≡ None = rw was at (not_found 2 (start + 1) (pick first mark (records_in (start + 1) end w)) (records_in (start + 1) end w) (l.missing d)) in
      let there = pick-fresh mark before (words 3 (new_chain a)) (drop 1 (column a)) none_before (rw (eq-eqb a.chain a.chain refl)) in
      let n₁ = length-drop (start + 1) g.front in
      let j : suc (length before) ≡ length before + 1 = omega arith in
      let after : drop (suc (length before)) (before ++ column a) ≡ drop 1 (column a) = ap (λ (k : ℕ). drop k (before ++ column a)) j ∙ drop-append-add before (column a) 1 in
      rw is
      (to-span 2 (start + 1) (pick first mark (before ++ column a)) (before ++ column a) end stop
      (record { offset = length before; there = there; number = omega arith; ends = rw after (omega arith) }))

-- a new chain at the model's end
pub moves-chain : (p : Cursor.Cursor) (model start end : ℕ) (a : PreparedAddition) (s : Spot.Spot) (x : ℕ) → x ≡ rank a.residue → s.depth ≡ 0
    → Advances p model start end a s
    (record { known = true; model = model; start = start; model_end = end + 4 - s.depth; id = a.chain; chain = end; chain_end = end + 4; residue = end + 1; topped = true; top = x })
unfolding words
moves-chain p model start end a s x t d w w' good k m l g known =
    let o = l.last d in
    let u = all-records w w' a model start end s good m l g in
    let len = new-length w w' a model start end s good m l g in
    let col : drop s.depth (column a) ≡ column a = ap (λ (i : ℕ). drop i (column a)) d in
    let four : end + 4 - s.depth ≡ end + 4 = omega arith in
    record {
      model = model-kept w w' a model start end s good m l g (end + 4 - s.depth) (omega arith);
      chain = rw four (chain-fresh w w' a model start end s good m l g d (end + 4) refl);
      low = omega arith;
      high = omega arith;
      last = all_new g (λ r. 3 < kind r) 2 (end + 1 + 1) (end + 4) (omega arith) (omega arith) (omega arith) (rw col (omega arith, (omega arith, tt)));
      top = λ topped. all_new g (Ranked x) 1 (end + 1) (end + 4) (omega arith) (omega arith) (omega arith) (rw col ((λ q. omega arith), ((λ q. absurd (omega arith)), ((λ q. absurd (omega arith)), tt))));
    }

-- a new residue at a chain's end
pub moves-residue : (p : Cursor.Cursor) (model start end : ℕ) (a : PreparedAddition) (s : Spot.Spot) (x y : ℕ) → x ≡ rank a.residue → (p.top ≤ y) × (x ≤ y) → s.depth ≡ 1
    → Advances p model start end a s
    (record {
      known = true;
      model = model;
      start = start;
      model_end = end + 4 - s.depth;
      id = a.chain;
      chain = s.chain;
      chain_end = s.chain_end + 4 - s.depth;
      residue = s.at;
      topped = ((p.known && eqb p.chain s.chain) && eqb p.chain_end s.chain_end) && p.topped;
      top = y;
    })
unfolding words
moves-residue p model start end a s x y t h d w w' good k m l g known =
    let o = l.residue d in
    let one : 1 ≤ s.depth = omega arith in
    let low = l.low one in
    let in-model = l.within in
    let u = all-records w w' a model start end s good m l g in
    let len = new-length w w' a model start end s good m l g in
    let col : drop s.depth (column a) ≡ drop 1 (column a) = ap (λ (i : ℕ). drop i (column a)) d in
    let three : s.chain_end + 4 - s.depth ≡ s.chain_end + length (drop s.depth (column a)) = omega arith in
    record {
      model = model-kept w w' a model start end s good m l g (end + 4 - s.depth) (omega arith);
      chain = chain-kept w w' a model start end s good m l g one (end + 4 - s.depth) (s.chain_end + 4 - s.depth) (omega arith) (omega arith);
      low = low;
      high = omega arith;
      last = all_new g (λ r. 3 < kind r) 1 (s.at + 1) (s.chain_end + 4 - s.depth) (omega arith) (omega arith) (omega arith) (rw col (omega arith, (omega arith, tt)));
      top = λ b.
          let c = and_both _ p.topped b in
          let q = all_three p.known (eqb p.chain s.chain) (eqb p.chain_end s.chain_end) c.0 in
          let f : p.chain ≡ s.chain = eqb-true _ _ q.1 in
          let z : p.chain_end ≡ s.chain_end = eqb-true _ _ q.2 in
          let old : All (Ranked p.top) (records_in (s.chain + 1) s.chain_end w) = rw (← f, ← z) ((k q.0).top c.1) in
          rw three
          (all-put g s.chain_end (omega arith) (omega arith) (Ranked y) (s.chain + 1) (omega arith) (All-map (ranked-up p.top y h.0) (records_in (s.chain + 1) s.chain_end w) old)
          (rw col ((λ j. omega arith), ((λ j. absurd (omega arith)), ((λ j. absurd (omega arith)), tt)))));
    }

-- a new conformer or atom in the chain's last residue
pub moves-below : (p : Cursor.Cursor) (model start end : ℕ) (a : PreparedAddition) (s : Spot.Spot) → (s.depth ≡ 0 → ⊥) → (s.depth ≡ 1 → ⊥)
    → Advances p model start end a s
    (record {
      known = ((p.known && eqb p.chain s.chain) && eqb p.chain_end s.chain_end) && ltb p.residue s.at;
      model = model;
      start = start;
      model_end = end + 4 - s.depth;
      id = a.chain;
      chain = s.chain;
      chain_end = s.chain_end + 4 - s.depth;
      residue = p.residue;
      topped = p.topped;
      top = p.top;
    })
moves-below p model start end a s d₀ d₁ w w' good k m l g known =
    let c = and_both _ (ltb p.residue s.at) known in
    let q = all_three p.known (eqb p.chain s.chain) (eqb p.chain_end s.chain_end) c.0 in
    let f : p.chain ≡ s.chain = eqb-true _ _ q.1 in
    let z : p.chain_end ≡ s.chain_end = eqb-true _ _ q.2 in
    let old = k q.0 in
    let before = ltb-true p.residue s.at c.1 in
    let one : 1 ≤ s.depth = omega arith in
    let deep = l.depth in
    let low = l.low one in
    let in-chain = l.high in
    let in-model = l.within in
    let above = old.low in
    let inside = old.high in
    let u = all-records w w' a model start end s good m l g in
    let len = new-length w w' a model start end s good m l g in
    let few : s.chain_end + 4 - s.depth ≡ s.chain_end + length (drop s.depth (column a)) = omega arith in
    let kinds = new-kinds w w' a model start end s good m l g 3 (omega arith) in
    let last : All (λ r. 3 < kind r) (records_in (p.residue + 1) s.chain_end w) = rw (← z) old.last in
    record {
      model = model-kept w w' a model start end s good m l g (end + 4 - s.depth) (omega arith);
      chain = chain-kept w w' a model start end s good m l g one (end + 4 - s.depth) (s.chain_end + 4 - s.depth) (omega arith) (omega arith);
      low = omega arith;
      high = omega arith;
      last = rw few (all-put g s.chain_end (omega arith) (omega arith) (λ r. 3 < kind r) (p.residue + 1) (omega arith) last kinds);
      top = λ b.
          let ranks : All (Ranked p.top) (records_in (s.chain + 1) s.chain_end w) = rw (← f, ← z) (old.top b) in
          rw few (all-put g s.chain_end (omega arith) (omega arith) (Ranked p.top) (s.chain + 1) (omega arith) ranks (All-map (unranked-kind p.top) (drop s.depth (column a)) kinds));
    }
