-- The way down from the first model to an atom. Assumes nothing.
use Rattle.std.specs.Prelude.{None, Ok, Option, Some, Err}
use Rattle.std.proofs.lemmas.Option.{same_Some}
use Prim.Native.Nat.{ℕ, suc, ◌+◌, ◌≤◌, ◌<◌}
use mathlib.Core.Path.{◌≡◌, refl, sym, ap, subst, ◌∙◌}
use mathlib.Core.Bool.{Bool, true, false, cond}
use mathlib.Core.List.{List, [], ◌∷◌, ◌++◌, append_assoc}
use native.Mathlib.Omega.{arith}
use lib.ListN.{length, length-append}
use borrow.Author.Tests.{le-leb, lt-leb}
use Rattle.machine.specs.Lists.{concat_map, and_then}
use Rattle.machine.specs.Answer.{bad_name, looked_up_numbers}
use Rattle.machine.specs.Text.{Optional, optional_of}
use Rattle.machine.specs.Record.{Words, words}
use Rattle.machine.specs.Store.{Branch, flat, records, group}
use Rattle.machine.specs.Find.{size, numbered}
use Rattle.machine.specs.Lookup.{first_child, lookup_in}
use Rattle.machine.specs.declared.Refusal.{Refusal}
use Rattle.machine.specs.declared.Name.TheVariants.{AlternativeLocation}
use Rattle.machine.specs.declared.RecordNumbers.{RecordNumbers}
use Rattle.laws.specs.Grouped.{group-flats}
use Rattle.seek.specs.Seek.{Good, Within, held, records_in, descendants}
use Rattle.seek.proofs.Below.{under, flat-root}
use Rattle.seek.proofs.Laws.{whole-within, whole-records}
use Rattle.lookup.specs.Level.{wanted, lookup_numbers, first_wanted, Level, span_wanted}
use Rattle.lookup.proofs.Scan.{next-branch, part_of, none_left}

-- ---- a branch that is found

-- its records among those of the level
record Sits (k n : ℕ) (ts : List (Branch k)) (u : ℕ × Branch k) : Type 0 where
  pre : List Words
  post : List Words
  was : concat_map (flat k) ts ≡ pre ++ (flat k u.1 ++ post)
  number : u.0 ≡ n + length pre

sits : (k serial : ℕ) (o : Optional) (n : ℕ) (ts : List (Branch k)) (u : ℕ × Branch k) → first_wanted k serial o n ts ≡ Some u → Sits k n ts u
unfolding numbered
sits k serial o n [] u e = let z : ◌≡◌ {A = ℕ} 0 1 = cc in absurd (omega arith)
sits k serial o n (t ∷ ts) u e = go (wanted k serial o t) (sits k serial o (n + size k t) ts u) e
  where
    go : (b : Bool) → (first_wanted k serial o (n + size k t) ts ≡ Some u → Sits k (n + size k t) ts u)
        → cond b (Some (n, t)) (first_wanted k serial o (n + size k t) ts) ≡ Some u → Sits k n (t ∷ ts) u
    go true f q =
        let p : ◌≡◌ {A = ℕ × Branch k} (n, t) u = cc in
        subst (λ (v : ℕ × Branch k). Sits k n (t ∷ ts) v) p (record { pre = []; post = concat_map (flat k) ts; was = refl; number = omega arith })
    go false f q =
        let s = f q in
        record {
          pre = flat k t ++ s.pre;
          post = s.post;
          was = ap (λ (rs : List Words). flat k t ++ rs) s.was ∙ sym (append_assoc (flat k t) s.pre (flat k u.1 ++ s.post));
          number = omega (arith, s.number, length-append (flat k t) s.pre);
        }

-- between its own record, number `start`, and `stop` stand its children's
record Inside (k : ℕ) (w : List ℕ) (u : ℕ × Branch (suc k)) (start stop : ℕ) : Type 0 where
  number : u.0 ≡ start
  within : Within (start + 1) stop w
  below : records_in (start + 1) stop w ≡ concat_map (flat k) u.1.1

-- what first_in finds among its children
record Down (k serial : ℕ) (o : Optional) (w : List ℕ) (u : ℕ × Branch (suc k)) (start stop : ℕ) : Type 0 where
  child : ℕ × Branch k
  there : first_child k (wanted k serial o) u ≡ Some child
  number : child.0 ≡ start
  last : stop ≡ start + size k child.1

module _ (k : ℕ) (l : k ≤ 3) (w : List ℕ) (u : ℕ × Branch (suc k)) (start stop : ℕ) (i : Inside k w u start stop) where
  children : group k (records_in (start + 1) stop w) ≡ u.1.1
  children = ap (group k) i.below ∙ group-flats k (omega arith) u.1.1

  inside-level : Level k (start + 1) stop w
  inside-level = record { level = l; within = i.within; whole = i.below ∙ ap (concat_map (flat k)) (sym children) }

  -- the span of a branch
  abbrev spanned : Option (ℕ × Branch k) → Option (ℕ × ℕ)
  spanned c = and_then c (λ t. Some (t.0, t.0 + size k t.1))

  module _ (serial : ℕ) (o : Optional) (r : Option (ℕ × ℕ)) (a : r ≡ span_wanted k serial o (start + 1) stop w) where
    asked : r ≡ spanned (first_child k (wanted k serial o) u)
    asked =
        let n : start + 1 ≡ suc u.0 = omega (arith, i.number) in
        a ∙ ap (λ (ts : List (Branch k)). spanned (first_wanted k serial o (start + 1) ts)) children
        ∙ ap (λ (x : ℕ). spanned (first_wanted k serial o x u.1.1)) n

    no-child : r ≡ None → first_child k (wanted k serial o) u ≡ None
    no-child m = go (first_child k (wanted k serial o) u) (sym asked ∙ m)
      where
        go : (c : Option (ℕ × Branch k)) → spanned c ≡ None → c ≡ None
        go None q = refl
        go (Some t) q = let z : ◌≡◌ {A = ℕ} 0 1 = cc in absurd (omega arith)

    down : (from end : ℕ) → r ≡ Some (from, end) → Down k serial o w u from end
    down from end m = go (first_child k (wanted k serial o) u) refl (sym asked ∙ m)
      where
        go : (c : Option (ℕ × Branch k)) → first_child k (wanted k serial o) u ≡ c → spanned c ≡ Some (from, end) → Down k serial o w u from end
        go None p q = let z : ◌≡◌ {A = ℕ} 0 1 = cc in absurd (omega arith)
        go (Some t) p q =
            let s = same_Some _ _ q in
            let x : t.0 ≡ from = ap (λ (z : ℕ × ℕ). z.0) s in
            let y : t.0 + size k t.1 ≡ end = ap (λ (z : ℕ × ℕ). z.1) s in
            record { child = t; there = p; number = x; last = omega arith }

-- the way goes on inside it
inside-down : (k serial : ℕ) (o : Optional) (w : List ℕ) (u : ℕ × Branch (suc (suc k))) (start stop : ℕ) → Inside (suc k) w u start stop
    → (from end : ℕ) (d : Down (suc k) serial o w u from end) → Inside k w d.child from end
inside-down k serial o w u start stop i from end d =
    let s = sits (suc k) serial o (suc u.0) u.1.1 d.child d.there in
    let t = d.child.1 in
    let r = words (suc k) t.0 in
    let b = under (suc k) t in
    let h : length (s.pre ++ (r ∷ [])) ≡ suc (length s.pre) = omega (arith, length-append s.pre (r ∷ [])) in
    let e : records_in (start + 1) stop w ≡ (s.pre ++ (r ∷ [])) ++ (b ++ s.post) = i.below ∙ s.was ∙ rw (flat-root (suc k) t) (sym (append_assoc s.pre (r ∷ []) (b ++ s.post))) in
    let p = part_of w (start + 1) stop (from + 1) (s.pre ++ (r ∷ [])) (b ++ s.post) i.within.order e (omega (arith, i.number, s.number, d.number)) in
    let n : end ≡ from + 1 + length b = omega (arith, d.last, ap length (flat-root (suc k) t)) in
    let q = part_of w (from + 1) stop end b s.post p.high p.after n in
    record { number = d.number; within = record { order = omega arith; room = omega (arith, i.within.room, q.high) }; below = q.is }

-- the first model
record First (w : List ℕ) (stop : ℕ) : Type 0 where
  model : Branch 4
  more : List (Branch 4)
  is : held w ≡ model ∷ more
  inside : Inside 3 w (0, model) 0 stop

first : (w : List ℕ) → Good w → (count : ℕ) → count ≡ length (records (held w)) → (count ≡ 0 → ⊥) → (stop : ℕ) → stop ≡ 1 + descendants 1 (records_in 1 count w) → First w stop
unfolding flat
first w g count c n stop e =
    let q : records_in 0 count w ≡ records (held w) = ap (λ (x : ℕ). records_in 0 x w) c ∙ whole-records w g in
    let t = next-branch 4 (omega arith) w count 0 stop (held w) (omega arith) q e in
    let b = (whole-within w g).room in
    record {
      model = t.branch;
      more = t.more;
      is = t.left_is;
      inside = record { number = refl; within = record { order = omega (arith, t.past); room = omega (arith, t.high) }; below = t.below };
    }

-- ---- the answers

module _ (w : List ℕ) (serial flag : ℕ) (text : List ℕ) where
  abbrev o : Optional
  o = optional_of flag text

  pub bad-flag : (r : Refusal) → 1 < flag → r ≡ bad_name AlternativeLocation → looked_up_numbers (Err r) ≡ lookup_numbers serial o (held w)
  bad-flag r l e = rw (lt-leb flag 1 l, e)

  module _ (small : flag ≤ 1) (g : Good w) (count : ℕ) (c : count ≡ length (records (held w))) where
    pub no-model : count ≡ 0 → looked_up_numbers (Ok None) ≡ lookup_numbers serial o (held w)
    no-model z =
        let e : held w ≡ [] = none_left 4 (held w) (ap (λ (x : ℕ). records_in 0 x w) (sym z ∙ c) ∙ whole-records w g) in
        rw (le-leb flag 1 small, e)

    pub after_first : (count ≡ 0 → ⊥) → Within 1 count w
    after_first n = record { order = omega arith; room = rw c (whole-within w g).room }

    module _ (n : count ≡ 0 → ⊥) (end₀ : ℕ) (e : end₀ ≡ 1 + descendants 1 (records_in 1 count w)) where
      top : First w end₀
      top = first w g count c n end₀ e

      answered : (x : Option RecordNumbers) → lookup_in serial o (0, top.model) ≡ x → lookup_numbers serial o (held w) ≡ looked_up_numbers (Ok x)
      answered x f = rw (le-leb flag 1 small, top.is, f)

      pub chains : Level 3 1 end₀ w
      chains = inside-level 3 (omega arith) w (0, top.model) 0 end₀ top.inside

      module _ (r₁ : Option (ℕ × ℕ)) (a₁ : r₁ ≡ span_wanted 3 serial o 1 end₀ w) where
        pub no-chain : r₁ ≡ None → looked_up_numbers (Ok None) ≡ lookup_numbers serial o (held w)
        unfolding lookup_in wanted
        no-chain m = sym (answered None (rw (no-child 3 (omega arith) w (0, top.model) 0 end₀ top.inside serial o r₁ a₁ m)))

        module _ (chain end₁ : ℕ) (b₁ : r₁ ≡ Some (chain, end₁)) where
          d₁ : Down 3 serial o w (0, top.model) chain end₁
          d₁ = down 3 (omega arith) w (0, top.model) 0 end₀ top.inside serial o r₁ a₁ chain end₁ b₁

          i₁ : Inside 2 w d₁.child chain end₁
          i₁ = inside-down 2 serial o w (0, top.model) 0 end₀ top.inside chain end₁ d₁

          pub residues : Level 2 (chain + 1) end₁ w
          residues = inside-level 2 (omega arith) w d₁.child chain end₁ i₁

          module _ (r₂ : Option (ℕ × ℕ)) (a₂ : r₂ ≡ span_wanted 2 serial o (chain + 1) end₁ w) where
            pub no-residue : r₂ ≡ None → looked_up_numbers (Ok None) ≡ lookup_numbers serial o (held w)
            unfolding lookup_in wanted
            no-residue m = sym (answered None (rw (d₁.there, no-child 2 (omega arith) w d₁.child chain end₁ i₁ serial o r₂ a₂ m)))

            module _ (residue end₂ : ℕ) (b₂ : r₂ ≡ Some (residue, end₂)) where
              d₂ : Down 2 serial o w d₁.child residue end₂
              d₂ = down 2 (omega arith) w d₁.child chain end₁ i₁ serial o r₂ a₂ residue end₂ b₂

              i₂ : Inside 1 w d₂.child residue end₂
              i₂ = inside-down 1 serial o w d₁.child chain end₁ i₁ residue end₂ d₂

              pub conformers : Level 1 (residue + 1) end₂ w
              conformers = inside-level 1 (omega arith) w d₂.child residue end₂ i₂

              module _ (r₃ : Option (ℕ × ℕ)) (a₃ : r₃ ≡ span_wanted 1 serial o (residue + 1) end₂ w) where
                pub no-conformer : r₃ ≡ None → looked_up_numbers (Ok None) ≡ lookup_numbers serial o (held w)
                unfolding lookup_in wanted
                no-conformer m = sym (answered None (rw (d₁.there, d₂.there, no-child 1 (omega arith) w d₂.child residue end₂ i₂ serial o r₃ a₃ m)))

                module _ (conformer end₃ : ℕ) (b₃ : r₃ ≡ Some (conformer, end₃)) where
                  d₃ : Down 1 serial o w d₂.child conformer end₃
                  d₃ = down 1 (omega arith) w d₂.child residue end₂ i₂ serial o r₃ a₃ conformer end₃ b₃

                  i₃ : Inside 0 w d₃.child conformer end₃
                  i₃ = inside-down 0 serial o w d₂.child residue end₂ i₂ conformer end₃ d₃

                  pub atoms : Level 0 (conformer + 1) end₃ w
                  atoms = inside-level 0 (omega arith) w d₃.child conformer end₃ i₃

                  module _ (r₄ : Option (ℕ × ℕ)) (a₄ : r₄ ≡ span_wanted 0 serial o (conformer + 1) end₃ w) where
                    pub no-atom : r₄ ≡ None → looked_up_numbers (Ok None) ≡ lookup_numbers serial o (held w)
                    unfolding lookup_in wanted
                    no-atom m = sym (answered None (rw (d₁.there, d₂.there, d₃.there, no-child 0 (omega arith) w d₃.child conformer end₃ i₃ serial o r₄ a₄ m)))

                    module _ (atom end₄ : ℕ) (b₄ : r₄ ≡ Some (atom, end₄)) where
                      d₄ : Down 0 serial o w d₃.child atom end₄
                      d₄ = down 0 (omega arith) w d₃.child conformer end₃ i₃ serial o r₄ a₄ atom end₄ b₄

                      pub found : looked_up_numbers (Ok (Some (record { model = 0; chain = chain; residue = residue; conformer = conformer; atom = atom }))) ≡ lookup_numbers serial o (held w)
                      unfolding lookup_in wanted
                      found = sym (answered (Some (record { model = 0; chain = chain; residue = residue; conformer = conformer; atom = atom })) (rw (d₁.there, d₂.there, d₃.there, d₄.there, d₁.number, d₂.number, d₃.number, d₄.number)))
