-- pdbtbx 0.12.0, src/structs/search.rs: `Search`, `simplify`, `complete`, and the five `add_.._info`, over any terms. Assumes nothing.
-- Rust's `match` takes the first arm that fits; arms that overlap are a `cond` in the same order.
use Rattle.std.specs.Prelude.{Bool, true, false, cond, not, ◌&&◌, ◌||◌, None, Option, Some}
use Rattle.std.specs.Bool.{xor, beq}
use Rattle.machine.specs.declared.Ops.{Ops}
use Rattle.machine.specs.declared.Ops.TheVariants.{And, Or, Xor}

-- pub enum Search { Ops(Ops, Box<Search>, Box<Search>), Not(Box<Search>), Single(Term), Known(bool) }
pub data Search (T : Type 0) : Type 0 where
  Operator : Ops → Search T → Search T → Search T
  Not : Search T → Search T
  Single : T → Search T
  Known : Bool → Search T

-- a pattern `Known(b)` for a given b, and one for two known sides
abbrev pub is_known : Bool → Option Bool → Bool
is_known b None = false
is_known b (Some c) = beq b c

abbrev pub both_known : {T : Type 0} → (Bool → Bool → Bool) → Option Bool → Option Bool → Search T → Search T
both_known f None b rest = rest
both_known f (Some a) None rest = rest
both_known f (Some a) (Some b) rest = Known (f a b)

module _ {T : Type 0} where
  -- match self { Known(a) => Some(*a), _ => None }
  unfoldable pub complete : Search T → Option Bool
  complete (Operator o a b) = None
  complete (Not a) = None
  complete (Single t) = None
  complete (Known b) = Some b

  -- match (ops, a.simplify(), b.simplify()) {
  --   (And, Known(false), _) | (And, _, Known(false)) => Known(false), (And, Known(a), Known(b)) => Known(a & b),
  --   (Or, Known(true), _) | (Or, _, Known(true)) => Known(true), (Or, Known(a), Known(b)) => Known(a | b),
  --   (Xor, Known(a), Known(b)) => Known(a ^ b), (ops, a, b) => Ops(ops, Box::new(a), Box::new(b)) }
  abbrev pub arms : Ops → Option Bool → Option Bool → Search T → Search T
  arms And a b rest = cond (is_known false a || is_known false b) (Known false) (both_known ◌&&◌ a b rest)
  arms Or a b rest = cond (is_known true a || is_known true b) (Known true) (both_known ◌||◌ a b rest)
  arms Xor a b rest = both_known xor a b rest

  -- match a.simplify() { Known(a) => Known(!a), a => Not(Box::new(a)) }
  abbrev pub negated : Option Bool → Search T → Search T
  negated None rest = rest
  negated (Some a) rest = Known (not a)

  -- match self { Ops(ops, a, b) => .., Not(a) => .., _ => self }
  unfoldable pub simplify : Search T → Search T
  simplify (Operator o a b) = arms o (complete (simplify a)) (complete (simplify b)) (Operator o (simplify a) (simplify b))
  simplify (Not a) = negated (complete (simplify a)) (Not (simplify a))
  simplify (Single t) = Single t
  simplify (Known b) = Known b

  -- match a.optional_matches_..(..) { Some(true) => Known(true), Some(false) => Known(false), None => self.clone() }
  abbrev pub answered : T → Option Bool → Search T
  answered t (Some true) = Known true
  answered t (Some false) = Known false
  answered t None = Single t

  -- the five add_.._info, which differ in the optional_matches_.. alone: match self {
  --   Ops(ops, a, b) => Ops(*ops, a.add_.._info(..), b.add_.._info(..)), Not(a) => Not(a.add_.._info(..)), Single(a) => .., Known(_) => self.clone() }.simplify()
  unfoldable pub add_info : (T → Option Bool) → Search T → Search T
  add_info matches (Operator o a b) = simplify (Operator o (add_info matches a) (add_info matches b))
  add_info matches (Not a) = simplify (Not (add_info matches a))
  add_info matches (Single t) = simplify (answered t (matches t))
  add_info matches (Known b) = simplify (Known b)
